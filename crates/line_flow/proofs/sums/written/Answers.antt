use Rattle.std.proofs.Common.{ℕ, List, Bor, ap, subst, ◌∙◌}
use Rattle.sky_base.specs.KitView.{RunsSo}
use Rattle.line_kit.specs.Gives.{one}
use Rattle.line_kit.proofs.SumsLaw.{count_lines}
use Rattle.line_flow.specs.Entries.{lent}
use Rattle.line_flow.proofs.Results.{on_ok}
use Rattle.line_flow.proofs.sums.written.Goals as goal

pub returns : goal.returns
returns c =
    on_ok c.written_sums.result (λ r run. subst (λ (es : List (List ℕ × ℕ)). RunsSo r (one (count_lines es))) (
    ap (λ (sums : List (Bor (List ℕ) × ℕ)). lent sums) c.as_slice.ensures.value ∙ c.in_ok-sums.ensures
    ) run) c.written_sums.ensures
