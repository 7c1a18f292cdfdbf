use Rattle.std.proofs.Common.{◌≡◌, ◌<◌, ◌++◌, ◌∷◌, [], ◌+◌, ◌∙◌, ap, sym, subst, arith, length, length-append, length-set, drop, false, true, List, ℕ}
use Rattle.std.proofs.Common.{Some, Option, nat_eq, refl, replicate, set, slice_get}
use Rattle.std.specs.List.{list_any}
use Rattle.std.specs.Option.{option_map_or}
use Rattle.std.proofs.lemmas.List.{length-replicate}
use Rattle.sky_base.specs.declared.object.TaskId.{TaskId}
use Rattle.ciel_want.specs.Search.{Among, unmet}
use Rattle.ciel_want.proofs.UnmetWalks.{Walking, walk_circle, walk_met, walk_start, walk_step}
use Rattle.ciel_table.specs.declared.row.Row.{Row}
use Rattle.ciel_want.specs.Board.{first_unmet, live_at, row_leads}
use Rattle.ciel_want.specs.Marked.{AllBelow, Marked}
use Rattle.ciel_want.specs.Waited.{needs}
use Rattle.ciel_want.proofs.SeenFlags.{flag_is, marked_more, none_marked}
use Rattle.ciel_want.proofs.RowCircles.{below_push, next_below, ring_within}
use Rattle.ciel_want.proofs.follow.follow.Goals as goal

pub walk-init : goal.walk-init
walk-init g c =
    let t = c.args.table.now in
    let n = length t.rows in
    let r : c.in_ok-flags.flags.items ≡ replicate n false = c.in_ok-flags.ensures ∙ ap (λ k. replicate k false) c.len.ensures.number in
    record {
      walking = walk_start (row_leads c.args.main.now t) (live_at t) n c.new-trail.result.items c.in_ok-next.next c.new-trail.ensures.items
          c.in_ok-next.ensures;
      marked = subst (λ fs. Marked fs c.new-trail.result.items) (sym r)
          (subst (Marked (replicate n false)) (sym c.new-trail.ensures.items) (none_marked n));
      below = subst (AllBelow n) (sym c.new-trail.ensures.items) tt;
      long = ap length r ∙ length-replicate n false;
    }

pub index-requires : goal.index-requires
index-requires g c =
    let v = c.walk.invariant in
    let l = next_below c.args.main.now c.args.table.now v.walking.at c.in-Some.row (sym c.in-Some.is ∙ v.walking.is_next) in
    let n = v.long in
    omega (arith, l, n, c.walk.flags.ok.0)

pub names_from-requires-clause-below : goal.names_from-requires-clause-below
names_from-requires-clause-below g c =
    subst (AllBelow (length c.args.table.now.rows)) (sym c.deref.ensures.value) c.walk.invariant.below

pub names_from-requires-clause-there : goal.names_from-requires-clause-there
names_from-requires-clause-there g c =
    let v = c.walk.invariant in
    let row = c.in-Some.row in
    let l = next_below c.args.main.now c.args.table.now v.walking.at row (sym c.in-Some.is ∙ v.walking.is_next) in
    let n = v.long in
    let k : row < length c.walk.flags.items = omega (arith, l, n) in
    subst (Among row) (sym c.deref.ensures.value)
    (sym (flag_is c.walk.flags.items c.walk.trail.items row c.index.result.now v.marked k) ∙ (sym c.index.ensures ∙ c.if-index.true))

pub returns-then-index-clause-circle : goal.returns-then-index-clause-circle
returns-then-index-clause-circle g c =
    let t = c.args.table.now in
    let needs' = row_leads c.args.main.now t in
    let live = live_at t in
    let trail : List ℕ = c.deref.result.now in
    let e = c.in_ok-names.ensures in
    let v : Walking needs' live (length t.rows) c.walk.trail.items (Some c.in-Some.row) =
    subst (Walking needs' live (length t.rows) c.walk.trail.items) c.in-Some.is c.walk.invariant.walking in
    let u : Walking needs' live (length t.rows) trail (Some c.in-Some.row) =
    subst (λ xs. Walking needs' live (length t.rows) xs (Some c.in-Some.row)) (sym c.deref.ensures.value) v in
    (drop e.0 trail, walk_circle needs' live (length t.rows) trail c.in-Some.row e.0 u e.1, e.2)

pub index_mut-requires : goal.index_mut-requires
index_mut-requires g c =
    let v = c.walk.invariant in
    let l = next_below c.args.main.now c.args.table.now v.walking.at c.in-Some.row (sym c.in-Some.is ∙ v.walking.is_next) in
    let n = v.long in
    omega (arith, l, n, c.walk.flags.ok.0)

pub row-requires : goal.row-requires
row-requires g c =
    let v = c.walk.invariant in
    record { held = next_below c.args.main.now c.args.table.now v.walking.at c.in-Some.row (sym c.in-Some.is ∙ v.walking.is_next) }

pub walk-preserved : goal.walk-preserved
walk-preserved g c =
    let t = c.args.table.now in
    let needs' = row_leads c.args.main.now t in
    let live = live_at t in
    let v = c.walk.invariant in
    let row = c.in-Some.row in
    let l = next_below c.args.main.now t v.walking.at row (sym c.in-Some.is ∙ v.walking.is_next) in
    let n = v.long in
    let k : row < length c.walk.flags.items = omega (arith, l, n) in
    let new : list_any (nat_eq row) c.walk.trail.items ≡ false =
    sym (flag_is c.walk.flags.items c.walk.trail.items row c.index.result.now v.marked k) ∙ (sym c.index.ensures ∙ c.if-index.false) in
    let next : c.in_ok-next-2.next ≡ slice_get (unmet needs' live (Some row)) 0 = c.in_ok-next-2.ensures
    ∙ ap (λ (o : Option (Row g.row.P.Denot)). first_unmet t
    (needs c.args.main.now t (option_map_or (λ (r : Row g.row.P.Denot). r.task) o TaskId.Show))) (sym c.row.ensures.row) in
    let s = walk_step needs' live (length t.rows) c.walk.trail.items row c.in_ok-next-2.next (ring_within c.args.main.now t)
    (subst (Walking needs' live (length t.rows) c.walk.trail.items) c.in-Some.is v.walking) new next in
    record {
      walking = subst (λ xs. Walking needs' live (length t.rows) xs c.in_ok-next-2.next) (sym c.in_ok-push.ensures) s;
      marked = subst (Marked (set c.walk.flags.items row true)) (sym c.in_ok-push.ensures)
          (marked_more c.walk.flags.items (set c.walk.flags.items row true) c.walk.trail.items row v.marked k refl
          (length-set c.walk.flags.items row true));
      below = subst (AllBelow (length t.rows)) (sym c.in_ok-push.ensures) (below_push (length t.rows) c.walk.trail.items row v.below l);
      long = length-set c.walk.flags.items row true ∙ v.long;
    }

pub walk-smaller : goal.walk-smaller
walk-smaller g c =
    let t = c.args.table.now in
    let needs' = row_leads c.args.main.now t in
    let live = live_at t in
    let v = c.walk.invariant in
    let row = c.in-Some.row in
    let l = next_below c.args.main.now t v.walking.at row (sym c.in-Some.is ∙ v.walking.is_next) in
    let n = v.long in
    let k : row < length c.walk.flags.items = omega (arith, l, n) in
    let new : list_any (nat_eq row) c.walk.trail.items ≡ false =
    sym (flag_is c.walk.flags.items c.walk.trail.items row c.index.result.now v.marked k) ∙ (sym c.index.ensures ∙ c.if-index.false) in
    let next : c.in_ok-next-2.next ≡ slice_get (unmet needs' live (Some row)) 0 = c.in_ok-next-2.ensures
    ∙ ap (λ (o : Option (Row g.row.P.Denot)). first_unmet t
    (needs c.args.main.now t (option_map_or (λ (r : Row g.row.P.Denot). r.task) o TaskId.Show))) (sym c.row.ensures.row) in
    let s = walk_step needs' live (length t.rows) c.walk.trail.items row c.in_ok-next-2.next (ring_within c.args.main.now t)
    (subst (Walking needs' live (length t.rows) c.walk.trail.items) c.in-Some.is v.walking) new next in
    let few = s.few in
    let a : length (c.walk.trail.items ++ row ∷ []) ≡ length c.walk.trail.items + 1 = length-append c.walk.trail.items (row ∷ []) in
    let b : length c.push.new.rows.items ≡ length (c.walk.trail.items ++ row ∷ []) = ap length c.in_ok-push.ensures in
    omega (arith, few, a, b)

pub returns-clause-met : goal.returns-clause-met
returns-clause-met g c =
    let t = c.args.table.now in
    walk_met (row_leads c.args.main.now t) (live_at t) (length t.rows) c.walk.trail.items
    (subst (Walking (row_leads c.args.main.now t) (live_at t) (length t.rows) c.walk.trail.items) c.in_default.is c.walk.invariant.walking)
