use Rattle.std.proofs.Common.{◌+◌, ℕ, List, [], drop, Option, sym, ap, ◌∙◌}
use Rattle.std.proofs.lemmas.List.{drop_more}
use Rattle.line_kit.specs.Lines.{joined}
use Rattle.line_kit.specs.Written.{extended}
use Rattle.line_kit.proofs.SumsLaw.{count_lines}
use Rattle.line_kit.proofs.WrittenLaw.{extended-extended}
use Rattle.line_flow.specs.Entries.{lent}
use Rattle.line_flow.proofs.MergedLaw.{Sum}
use Rattle.line_flow.proofs.sums.put_all.Goals as goal

abbrev none : Sum
none = (record { ref_ptr = (0, 0); now = [] }, 0)

pub loop-line-preserved : goal.loop-line-preserved
loop-line-preserved c =
    let sums = c.args.sums.now in
    let i = c.loop-line.line-index in
    let out = c.loop-line.out in
    let rest = joined (count_lines (lent (drop (i + 1) sums))) in
    ap (λ (o : Option (List ℕ)). extended o rest) c.in_ok-put_count.ensures ∙ extended-extended out _ rest
    ∙ ap (λ (xs : List Sum). extended out (joined (count_lines (lent xs)))) (sym (drop_more sums i none c.loop-line-test.true))
    ∙ c.loop-line.invariant
