use Rattle.std.proofs.Common.{◌≡◌, ℕ, List, true, sym, ap, subst, ◌∙◌}
use Rattle.std.specs.Prelude.{◌==◌}
use Rattle.sky_base.specs.KitView.{RunsSo}
use Rattle.line_kit.specs.Lines.{all_lines}
use Rattle.line_kit.specs.Table.{may_have}
use Rattle.line_kit.specs.Gives.{row, one, tallied}
use Rattle.line_kit.proofs.SumsLaw.{count_lines, tallied-totals}
use Rattle.line_kit.specs.declared.executor.Executor.{Executor}
use Rattle.line_flow.specs.Drained.{Completes}
use Rattle.line_flow.specs.Kept.{KeptLined}
use Rattle.line_flow.specs.declared.lined.Lined.{Lined}
use Rattle.line_flow.proofs.Results.{on_ok}
use Rattle.line_flow.proofs.KeptLaw.{completes_whole, one_counts}
use Rattle.line_flow.proofs.lined.Lined.finish.Goals as goal

pub returns-in-Tally : goal.returns-in-Tally
returns-in-Tally c =
    on_ok c.written.result
    (λ r run e pairs n drained inputs many h.
    let k = subst (λ (b : Lined). KeptLined b e pairs n drained (all_lines inputs)) c.in-Tally.is h in
    let ls = all_lines inputs in
    let one_is : (n == 1) ≡ true = sym (ap (λ (x : Executor). may_have x n) k.0) ∙ many in
    subst (Completes drained r) (sym (ap (λ (x : Executor). row x pairs inputs n) k.0))
    (completes_whole n drained r (one (tallied ls)) k.2 (one_counts (tallied ls) n one_is)
    (subst (RunsSo r) (ap (λ (es : List (List ℕ × ℕ)). one (count_lines es)) k.1 ∙ ap one (tallied-totals ls)) run)))
    c.written.ensures
