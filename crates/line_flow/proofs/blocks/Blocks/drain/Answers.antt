use Rattle.std.proofs.Common.{◌≡◌, ℕ, List, [], ◌∷◌, Some, sym, ap, subst}
use Rattle.std.specs.Prelude.{replicate}
use Rattle.line_kit.specs.Lines.{joined, with_text}
use Rattle.line_kit.specs.Table.{text_of}
use Rattle.line_kit.specs.declared.executor.Executor.{Executor}
use Rattle.line_flow.specs.Told.{early_by}
use Rattle.line_flow.specs.Drained.{Follows}
use Rattle.line_flow.specs.Kept.{KeptBlocks, HasOne}
use Rattle.line_flow.specs.declared.blocks.Blocks.{Blocks}
use Rattle.line_flow.proofs.Results.{on_ok}
use Rattle.line_flow.proofs.KeptLaw.{follows_none, early_kept}
use Rattle.line_flow.proofs.blocks.Blocks.drain.Goals as goal

pub returns-in-Cat-clause-ok : goal.returns-in-Cat-clause-ok
returns-in-Cat-clause-ok c =
    let n = c.args.outputs in
    on_ok c.drain_one.result
    (λ v made e args drained seen h.
    let k = subst (λ (b : Blocks). KeptBlocks b e args n drained seen) c.in-Cat.is h in
    let output = joined seen.all in
    let early : early_by (Some e) args n seen.all ≡ output ∷ [] = ap (λ (x : Executor). early_by (Some x) args n seen.all) k.0 in
    let w = made drained output k.1 in (
      subst (Follows drained v.items) (sym early) w.0,
      (k.0, subst (λ (ds : List (List ℕ)). HasOne c.drain_one.new.out ds output) (sym early) w.1),
    ))
    c.drain_one.ensures.ok

pub returns-in-Grep-clause-ok : goal.returns-in-Grep-clause-ok
returns-in-Grep-clause-ok c =
    let n = c.args.outputs in
    on_ok c.drain_one-in-Grep.result
    (λ v made e args drained seen h.
    let k = subst (λ (b : Blocks). KeptBlocks b e args n drained seen) c.in-Grep.is h in
    let output = joined (with_text (text_of args) seen.all) in
    let early : early_by (Some e) args n seen.all ≡ output ∷ [] = ap (λ (x : Executor). early_by (Some x) args n seen.all) k.0 in
    let w = made drained output k.2 in (
      subst (Follows drained v.items) (sym early) w.0,
      (k.0, k.1, subst (λ (ds : List (List ℕ)). HasOne c.drain_one-in-Grep.new.out ds output) (sym early) w.1),
    ))
    c.drain_one-in-Grep.ensures.ok

pub returns-in-Count-clause-ok : goal.returns-in-Count-clause-ok
returns-in-Count-clause-ok c =
    let n = c.args.outputs in
    on_ok c.empties.result
    (λ v made e args drained seen h.
    let k = subst (λ (b : Blocks). KeptBlocks b e args n drained seen) c.in-Count.is h in
    let early : early_by (Some e) args n seen.all ≡ replicate n [] = ap (λ (x : Executor). early_by (Some x) args n seen.all) k.0 in (
      follows_none n drained v.items (early_by (Some e) args n seen.all) k.2 made early,
      subst (λ (b : Blocks). KeptBlocks b e args n (early_by (Some e) args n seen.all) seen) (sym c.in-Count.is) (k.0, k.1, early),
    ))
    c.empties.ensures

pub returns-in-Same-clause-ok : goal.returns-in-Same-clause-ok
returns-in-Same-clause-ok c =
    let n = c.args.outputs in
    on_ok c.empties-in-Same.result
    (λ v made e args drained seen h.
    let k = subst (λ (b : Blocks). KeptBlocks b e args n drained seen) c.in-Same.is h in
    let early : early_by (Some e) args n seen.all ≡ replicate n [] = ap (λ (x : Executor). early_by (Some x) args n seen.all) k.0 in (
      follows_none n drained v.items (early_by (Some e) args n seen.all) k.2 made early,
      subst (λ (b : Blocks). KeptBlocks b e args n (early_by (Some e) args n seen.all) seen) (sym c.in-Same.is) (k.0, k.1, early),
    ))
    c.empties-in-Same.ensures

pub returns-in-Kept-clause-ok : goal.returns-in-Kept-clause-ok
returns-in-Kept-clause-ok c =
    let n = c.args.outputs in
    on_ok c.empties-in-Kept.result
    (λ v made e args drained seen h.
    let k = subst (λ (b : Blocks). KeptBlocks b e args n drained seen) c.in-Kept.is h in
    let early : early_by (Some e) args n seen.all ≡ replicate n [] = early_kept e args n seen.all k.0 in (
      follows_none n drained v.items (early_by (Some e) args n seen.all) k.3 made early,
      subst (λ (b : Blocks). KeptBlocks b e args n (early_by (Some e) args n seen.all) seen) (sym c.in-Kept.is) (k.0, k.1, k.2, early),
    ))
    c.empties-in-Kept.ensures
