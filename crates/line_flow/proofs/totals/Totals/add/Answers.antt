use Rattle.std.proofs.Common.{ap, ◌∙◌}
use Rattle.line_kit.specs.Totals.{totals}
use Rattle.line_flow.proofs.Results.{on_ok}
use Rattle.line_flow.proofs.SameTotals.{totals-more_at}
use Rattle.line_flow.proofs.totals.Totals.add.Goals as goal

pub returns-in-Some-clause-ok : goal.returns-in-Some-clause-ok
returns-in-Some-clause-ok c =
    on_ok c.add.result (λ a h.
    ap totals h ∙ totals-more_at c.args.self.now.entries c.in-Some.at c.args.line.now c.args.number c.in-Some.ensures) c.add.ensures.ok
