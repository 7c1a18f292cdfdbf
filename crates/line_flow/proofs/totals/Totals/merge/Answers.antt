use Rattle.std.proofs.Common.{ap, ◌∙◌}
use Rattle.line_kit.specs.Totals.{totals}
use Rattle.line_flow.specs.Entries.{lent}
use Rattle.line_flow.proofs.SameTotals.{totals-totals}
use Rattle.line_flow.proofs.totals.Totals.merge.Goals as goal

pub returns : goal.returns
returns c =
    ap totals (c.in_ok-entries.ensures ∙ ap lent c.as_slice.ensures.value ∙ c.in_ok-in_order.ensures) ∙ totals-totals c.args.self.now.entries
