use Rattle.std.proofs.Common.{◌≡◌, [], ◌∷◌, length, IfOk, subst, ◌∙◌, append-nil}
use Rattle.sky_base.specs.KitView.{RunsSo}
use Rattle.sky_base.specs.View.{view}
use Rattle.line_kit.specs.Lines.{lines, all_lines}
use Rattle.line_kit.specs.Gives.{Answer, row}
use Rattle.line_kit.specs.Counts.{gives_counts}
use Rattle.line_flow.specs.Kept.{KeptBlocks, seen_of}
use Rattle.line_flow.specs.declared.blocks.Blocks.{Blocks}
use Rattle.line_flow.proofs.Results.{on_ok}
use Rattle.line_flow.proofs.KeptLaw.{completes_whole, row_kept}
use Rattle.line_flow.proofs.StandsLaw.{gives_right}
use Rattle.line_flow.proofs.blocks.Blocks.finish.Goals as goal

pub returns : goal.returns
returns c =
    let name = c.args.executor.now in
    let args = view c.args.args.now in
    let n = c.args.outputs in
    let kept = c.in-Kept.kept.items in
    on_ok c.run_whole.result
    (λ r run e pairs drained inputs right h.
    let k = subst (λ (b : Blocks). KeptBlocks b e pairs n drained (seen_of inputs)) c.in-Kept.is h in
    let same : all_lines (kept ∷ []) ≡ all_lines inputs = append-nil (lines kept) ∙ k.1 in
    completes_whole n drained r (row e pairs inputs n) k.3
    (subst (λ (a : Answer). IfOk a (λ outputs. length outputs ≡ n)) (gives_right name args n e pairs inputs right) (gives_counts name args inputs n))
    (subst (RunsSo r) (gives_right name args n e pairs (kept ∷ []) right ∙ row_kept e pairs (kept ∷ []) inputs n k.0 same) run))
    c.run_whole.ensures
