use Rattle.std.proofs.Common.{ℕ, List, ◌++◌, ap, ap₂, subst, ◌∙◌}
use Rattle.line_kit.specs.Lines.{lines, joined, is_open}
use Rattle.line_flow.specs.Kept.{KeptBlocks}
use Rattle.line_flow.specs.declared.blocks.Blocks.{Blocks}
use Rattle.line_flow.proofs.Results.{on_ok}
use Rattle.line_flow.proofs.LinesLaw.{lines-append, lines-joined, closed-append, joined-closed}
use Rattle.line_flow.proofs.blocks.Blocks.take.Goals as goal

pub returns-in-Kept-clause-ok : goal.returns-in-Kept-clause-ok
returns-in-Kept-clause-ok c =
    let block = c.args.block.now in
    on_ok c.put_lines-in-Kept.result
    (λ x put e args n drained seen none h.
    let k = subst (λ (b : Blocks). KeptBlocks b e args n drained seen) c.in-Kept.is h in (
      k.0,
      ap lines put ∙ lines-append c.in-Kept.kept.items (joined (lines block)) k.2
          ∙ ap₂ (λ (xs ys : List (List ℕ)). xs ++ ys) k.1 (lines-joined block),
      ap is_open put ∙ closed-append c.in-Kept.kept.items (joined (lines block)) k.2 (joined-closed block),
      k.3,
    ))
    c.put_lines-in-Kept.ensures.ok
