use Rattle.std.proofs.Common.{◌≡◌, ℕ, List, [], ◌∷◌, Some, map, take, sym, ap, subst}
use Rattle.std.specs.Prelude.{replicate}
use Rattle.std.specs.List.{flat_map}
use Rattle.line_kit.specs.Lines.{joined}
use Rattle.line_kit.specs.Words.{words}
use Rattle.line_kit.specs.Parts.{dealt}
use Rattle.line_kit.specs.Table.{lines_of}
use Rattle.line_kit.specs.declared.executor.Executor.{Executor}
use Rattle.line_flow.specs.Told.{early_by}
use Rattle.line_flow.specs.Drained.{Follows}
use Rattle.line_flow.specs.Kept.{KeptLined, HasOne}
use Rattle.line_flow.specs.declared.lined.Lined.{Lined}
use Rattle.line_flow.proofs.Results.{on_ok, on_both}
use Rattle.line_flow.proofs.KeptLaw.{follows_none}
use Rattle.line_flow.proofs.TurnsLaw.{streams_follow, streams_drained}
use Rattle.line_flow.proofs.lined.Lined.drain.Goals as goal

pub returns-in-Words-clause-ok : goal.returns-in-Words-clause-ok
returns-in-Words-clause-ok c =
    let n = c.args.outputs in
    on_ok c.drain_one.result
    (λ v made e args drained ls h.
    let k = subst (λ (b : Lined). KeptLined b e args n drained ls) c.in-Words.is h in
    let output = joined (flat_map words ls) in
    let early : early_by (Some e) args n ls ≡ output ∷ [] = ap (λ (x : Executor). early_by (Some x) args n ls) k.0 in
    let w = made drained output k.1 in
    (subst (Follows drained v.items) (sym early) w.0, (k.0, subst (λ (ds : List (List ℕ)). HasOne c.drain_one.new.out ds output) (sym early) w.1)))
    c.drain_one.ensures.ok

pub returns-in-Head-clause-ok : goal.returns-in-Head-clause-ok
returns-in-Head-clause-ok c =
    let n = c.args.outputs in
    on_ok c.drain_one-in-Head.result
    (λ v made e args drained ls h.
    let k = subst (λ (b : Lined). KeptLined b e args n drained ls) c.in-Head.is h in
    let output = joined (take (lines_of args) ls) in
    let early : early_by (Some e) args n ls ≡ output ∷ [] = ap (λ (x : Executor). early_by (Some x) args n ls) k.0 in
    let w = made drained output k.1.out in (
      subst (Follows drained v.items) (sym early) w.0,
      (k.0, record { left = k.1.left; out = subst (λ (ds : List (List ℕ)). HasOne c.drain_one-in-Head.new.out ds output) (sym early) w.1 }),
    ))
    c.drain_one-in-Head.ensures.ok

pub returns-in-Deal-clause-ok : goal.returns-in-Deal-clause-ok
returns-in-Deal-clause-ok c =
    let n = c.args.outputs in
    on_both c.drain_all.result
    (λ v made handed e args drained ls h.
    let k = subst (λ (b : Lined). KeptLined b e args n drained ls) c.in-Deal.is h in
    let early : early_by (Some e) args n ls ≡ map joined (dealt n ls) = ap (λ (x : Executor). early_by (Some x) args n ls) k.0 in
    let follows : Follows drained v.items (map joined (dealt n ls)) =
    subst (λ (more : List (List ℕ)). Follows drained more (map joined (dealt n ls))) (sym made)
    (streams_follow c.in-Deal.turns.outs.items n drained ls k.1.outs) in
    let outs = streams_drained c.in-Deal.turns.outs.items c.drain_all.new.outs.items n drained ls k.1.outs handed in (
      subst (Follows drained v.items) (sym early) follows,
      subst (λ (ds : List (List ℕ)). KeptLined (Lined.Deal record { outs = c.drain_all.new.outs; turn = c.in-Deal.turns.turn }) e args n ds ls)
          (sym early)
          (k.0, record { outs = outs; below = k.1.below; turn = k.1.turn }),
    ))
    c.drain_all.ensures.ok c.drain_all.ensures.streams

pub returns-in-Half-clause-ok : goal.returns-in-Half-clause-ok
returns-in-Half-clause-ok c =
    let n = c.args.outputs in
    on_ok c.empties.result
    (λ v made e args drained ls h.
    let k = subst (λ (b : Lined). KeptLined b e args n drained ls) c.in-Half.is h in
    let early : early_by (Some e) args n ls ≡ replicate n [] = ap (λ (x : Executor). early_by (Some x) args n ls) k.0 in (
      follows_none n drained v.items (early_by (Some e) args n ls) k.2 made early,
      subst (λ (b : Lined). KeptLined b e args n (early_by (Some e) args n ls) ls) (sym c.in-Half.is) (k.0, k.1, early),
    ))
    c.empties.ensures

pub returns-in-Sum-clause-ok : goal.returns-in-Sum-clause-ok
returns-in-Sum-clause-ok c =
    let n = c.args.outputs in
    on_ok c.empties-in-Sum.result
    (λ v made e args drained ls h.
    let k = subst (λ (b : Lined). KeptLined b e args n drained ls) c.in-Sum.is h in
    let early : early_by (Some e) args n ls ≡ replicate n [] = ap (λ (x : Executor). early_by (Some x) args n ls) k.0 in (
      follows_none n drained v.items (early_by (Some e) args n ls) k.2 made early,
      subst (λ (b : Lined). KeptLined b e args n (early_by (Some e) args n ls) ls) (sym c.in-Sum.is) (k.0, k.1, early),
    ))
    c.empties-in-Sum.ensures

pub returns-in-Tally-clause-ok : goal.returns-in-Tally-clause-ok
returns-in-Tally-clause-ok c =
    let n = c.args.outputs in
    on_ok c.empties-in-Tally.result
    (λ v made e args drained ls h.
    let k = subst (λ (b : Lined). KeptLined b e args n drained ls) c.in-Tally.is h in
    let early : early_by (Some e) args n ls ≡ replicate n [] = ap (λ (x : Executor). early_by (Some x) args n ls) k.0 in (
      follows_none n drained v.items (early_by (Some e) args n ls) k.2 made early,
      subst (λ (b : Lined). KeptLined b e args n (early_by (Some e) args n ls) ls) (sym c.in-Tally.is) (k.0, k.1, early),
    ))
    c.empties-in-Tally.ensures
