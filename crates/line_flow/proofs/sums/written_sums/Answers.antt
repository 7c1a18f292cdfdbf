use Rattle.std.proofs.Common.{ℕ, List, Option, ap, ◌∙◌}
use Rattle.line_kit.specs.Lines.{joined}
use Rattle.line_kit.specs.Written.{extended}
use Rattle.line_kit.proofs.SumsLaw.{count_lines}
use Rattle.line_kit.proofs.WrittenLaw.{extended-start}
use Rattle.line_flow.specs.Entries.{lent}
use Rattle.line_flow.proofs.sums.written_sums.Goals as goal

pub returns : goal.returns
returns c =
    let ls = count_lines (lent c.args.sums.now) in
    c.alone.ensures ls (c.in_ok-put_all.ensures ∙ ap (λ (o : Option (List ℕ)). extended o (joined ls)) c.new-out.ensures
    ∙ extended-start (joined ls))
