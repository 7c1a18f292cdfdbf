-- The marks fit the table after each change.
use Rattle.std.proofs.Common.{◌≡◌, ◌≤◌, ◌+◌, ℕ, zero, suc, ◌<◌, List, [], ◌∷◌, ◌++◌, length, length-append, Bool, true, false, cond, not, ◌||◌, map}
use Rattle.std.proofs.Common.{filter, set, slice_get, refl, ap, sym, ◌∙◌, subst, arith, ◌⊎◌, inl, inr, Option, Some, None, IfSome}
use Rattle.std.specs.Option.{option_map, option_map_or}
use Rattle.sky_base.specs.Val.{same_text}
use Rattle.sky_base.specs.declared.object.TaskId.{TaskId}
use Rattle.sky_base.proofs.Exact.{exact_text}
use Rattle.ciel_journal.specs.Job.{In}
use Rattle.ciel_journal.proofs.Members.{bool_cases}
use Rattle.ciel_want_marks.specs.Lists.{entry, flag}
use Rattle.ciel_want_marks.specs.Marks.{Active, LacksIt, MarksSeen, Needs, Right, is_live}
use Rattle.ciel_want_marks.specs.Moves.{Added, IsNode, Placed, SameNeeds}
use Rattle.ciel_want_marks.proofs.KeptMarks.{all_counted, right_needs}
use Rattle.ciel_want_marks.proofs.Slots.{flag_within, get_before, get_within, not_both}
use Rattle.ciel_want_ready.specs.Fits.{Fits, FitsOut, lives, maker_of, makers, needs_by, node_for, node_of, row_of, rows_of}
use Rattle.ciel_want_ready.proofs.Alike.{lives_placed, makers_placed, map_alike, map_alike_at, map_last, needs_alike, needs_placed, outs_placed, outs_set}
use Rattle.ciel_want_ready.proofs.Alike.{set_kept}
use Rattle.ciel_want_ready.proofs.NumberedGraph.{live_name, long, maker_row}
use Rattle.ciel_table.specs.Changes.{placed, save_at, saved, saves_with}
use Rattle.ciel_table.specs.Named.{IsOnce, changed, found, place_of}
use Rattle.ciel_table.specs.Seen as s
use Rattle.ciel_table.specs.Seen.{TableSeen, find, is_live_row, last_wait, latest, row_name, row_named, saves_name, waits_in}
use Rattle.ciel_table.specs.declared.row.Row.{Row}
use Rattle.ciel_table.specs.declared.wait.Saves.{Saves}
use Rattle.ciel_table.specs.declared.wait.Wait.{Wait}
use Rattle.ciel_want.specs.Board.{task_at, task_row}
use Rattle.ciel_want.specs.Waited.{first_needs, first_refs, is_in, needs, same_id}
use Rattle.ciel_want.proofs.Listed.{same_exact}
use Rattle.ciel_want.proofs.FlaggedTasks.{held_at}
use Rattle.ciel_want.proofs.ReachedRows.{task_row_within}
use Rattle.ciel_want.proofs.Rows.{own_found, own_place}

module _ {P : Type 0} (main : List ℕ) (t : TableSeen P) (out : List TaskId) (m : MarksSeen) (ff : FitsOut main t out m) where
  -- ---- a place

  module _ (n : List ℕ) (p : P) (e : ℕ) (at : find n t ≡ Some e) where
    pub fits_placed : (k : MarksSeen) → s.is_live n t ≡ false → Placed e m k
        → ((needs : Needs) → flag m.live e ≡ false → Right m needs → Right k needs) → FitsOut main (placed n p t) out k
    fits_placed k d g r =
        record {
          fits = record {
            live = g.live ∙ (ap (λ fs. set fs e true) ff.fits.live ∙ sym (lives_placed main t n p e at));
            makers_are = g.makers ∙ (ff.fits.makers_are ∙ sym (makers_placed main t n p));
            right = right_needs k (needs_by main t) (needs_by main (placed n p t))
                (r (needs_by main t) (ap (is_live m.live) (sym at) ∙ (live_name main t m ff.fits n ∙ d)) ff.fits.right)
                (λ u a. needs_placed main t n p u);
          };
          outs_are = g.out ∙ (ff.outs_are ∙ sym (outs_placed main t n p out));
        }

    -- one that was live is so still
    pub fits_again : s.is_live n t ≡ true → FitsOut main (placed n p t) out m
    fits_again d =
        let f : flag (lives t) e ≡ true = ap (λ fs. flag fs e) (sym ff.fits.live)
        ∙ (ap (is_live m.live) (sym at) ∙ (live_name main t m ff.fits n ∙ d)) in
        record {
          fits = record {
            live = ff.fits.live ∙ (sym (set_kept (lives t) e f) ∙ sym (lives_placed main t n p e at));
            makers_are = ff.fits.makers_are ∙ sym (makers_placed main t n p);
            right = right_needs m (needs_by main t) (needs_by main (placed n p t)) ff.fits.right (λ u a. needs_placed main t n p u);
          };
          outs_are = ff.outs_are ∙ sym (outs_placed main t n p out);
        }

  -- ---- what is out

  any_last : (x task : TaskId) (ts : List TaskId) → is_in (ts ++ task ∷ []) x ≡ is_in ts x || same_id x task
  any_last x task [] = turn (same_id x task)
    where
      turn : (b : Bool) → b || false ≡ b
      turn true = refl
      turn false = refl
  any_last x task (y ∷ ys) = turn (same_id x y) (any_last x task ys)
    where
      turn : (b : Bool) → is_in (ys ++ task ∷ []) x ≡ is_in ys x || same_id x task → b || is_in (ys ++ task ∷ []) x ≡ (b || is_in ys x)
          || same_id x task
      turn true e = refl
      turn false e = e

  pub fits_started : (k : MarksSeen) (task : TaskId) (u : ℕ) → IsOnce row_name t.rows → node_for t task ≡ Some u → k.out ≡ set m.out u true
      → k.live ≡ m.live → k.makers ≡ m.makers → ((needs : Needs) → Right m needs → Right k needs) → FitsOut main t (out ++ task ∷ []) k
  fits_started k task u once h o l g r =
      record {
        fits = record {
          live = l ∙ ff.fits.live;
          makers_are = g ∙ ff.fits.makers_are;
          right = r (needs_by main t) ff.fits.right;
        };
        outs_are = o
            ∙ (ap (λ fs. set fs u true) ff.outs_are
            ∙ sym (outs_set t once task true (is_in (out ++ task ∷ [])) (is_in out)
            (λ x e. any_last x task out ∙ (ap (λ b. is_in out x || b) e ∙ yes (is_in out x)))
            (λ x e. any_last x task out ∙ (ap (λ b. is_in out x || b) e ∙ still (is_in out x))) u h));
      }
    where
      yes : (b : Bool) → b || true ≡ true
      yes true = refl
      yes false = refl

      still : (b : Bool) → b || false ≡ b
      still true = refl
      still false = refl

  -- those that are left when a task is taken off
  abbrev less : TaskId → List TaskId → List TaskId
  less task ts = filter (λ x. not (same_id task x)) ts

  less_here : (task x : TaskId) (ts : List TaskId) → same_id x task ≡ true → is_in (less task ts) x ≡ false
  less_here task x [] e = refl
  less_here task x (y ∷ ys) e = turn (bool_cases (same_id task y)) (less_here task x ys e)
    where
      turn : ((same_id task y ≡ true) ⊎ (same_id task y ≡ false)) → is_in (less task ys) x ≡ false
          → is_in (cond (not (same_id task y)) (y ∷ less task ys) (less task ys)) x ≡ false
      turn (inl t) r = ap (λ b. is_in (cond (not b) (y ∷ less task ys) (less task ys)) x) t ∙ r
      turn (inr f) r =
          ap (λ b. is_in (cond (not b) (y ∷ less task ys) (less task ys)) x) f
          ∙ (ap (λ b. b || is_in (less task ys) x) (subst (λ z. same_id z y ≡ false) (sym (same_exact x task e)) f) ∙ r)

  less_other : (task x : TaskId) (ts : List TaskId) → same_id x task ≡ false → is_in (less task ts) x ≡ is_in ts x
  less_other task x [] e = refl
  less_other task x (y ∷ ys) e = turn (bool_cases (same_id task y)) (less_other task x ys e)
    where
      turn : ((same_id task y ≡ true) ⊎ (same_id task y ≡ false)) → is_in (less task ys) x ≡ is_in ys x
          → is_in (cond (not (same_id task y)) (y ∷ less task ys) (less task ys)) x ≡ same_id x y || is_in ys x
      turn (inl t) r =
          ap (λ b. is_in (cond (not b) (y ∷ less task ys) (less task ys)) x) t
          ∙ (r ∙ sym (ap (λ b. b || is_in ys x) (subst (λ z. same_id x z ≡ false) (same_exact task y t) e)))
      turn (inr f) r =
          ap (λ b. is_in (cond (not b) (y ∷ less task ys) (less task ys)) x) f ∙ ap (λ b. same_id x y || b) r

  pub fits_closed : (k : MarksSeen) (task : TaskId) (u : ℕ) → IsOnce row_name t.rows → node_for t task ≡ Some u → k.out ≡ set m.out u false
      → Fits main t k → FitsOut main t (less task out) k
  fits_closed k task u once h o g =
      record {
        fits = g;
        outs_are = o
            ∙ (ap (λ fs. set fs u false) ff.outs_are
            ∙ sym (outs_set t once task false (is_in (less task out)) (is_in out) (λ x e. less_here task x out e)
            (λ x e. less_other task x out e) u h));
      }

  -- ---- a saved wait

  found_changed : (n k : List ℕ) (f : Saves P → Saves P) → ((x : Saves P) → (f x).name ≡ x.name) → (ss : List (Saves P)) → same_text n k ≡ false
      → found saves_name n (changed saves_name f k ss) ≡ found saves_name n ss
  found_changed n k f keeps [] d = refl
  found_changed n k f keeps (x ∷ xs) d = turn (bool_cases (same_text k x.name)) (found_changed n k f keeps xs d)
    where
      turn : ((same_text k x.name ≡ true) ⊎ (same_text k x.name ≡ false)) → found saves_name n (changed saves_name f k xs)
          ≡ found saves_name n xs → found saves_name n (cond (same_text k x.name) (f x ∷ xs) (x ∷ changed saves_name f k xs))
          ≡ cond (same_text n x.name) (Some x) (found saves_name n xs)
      turn (inl y) e =
          let z : same_text n x.name ≡ false = subst (λ q. same_text n q ≡ false) (exact_text k x.name y) d in
          ap (λ b. found saves_name n (cond b (f x ∷ xs) (x ∷ changed saves_name f k xs))) y
          ∙ (ap (λ b. cond b (Some (f x)) (found saves_name n xs)) (ap (same_text n) (keeps x) ∙ z)
          ∙ sym (ap (λ b. cond b (Some x) (found saves_name n xs)) z))
      turn (inr y) e =
          ap (λ b. found saves_name n (cond b (f x ∷ xs) (x ∷ changed saves_name f k xs))) y ∙ ap (λ o. cond (same_text n x.name) (Some x) o) e

  found_last : (n : List ℕ) (ss : List (Saves P)) (x : Saves P) → same_text n x.name ≡ false → found saves_name n (ss ++ x ∷ [])
      ≡ found saves_name n ss
  found_last n [] x d = ap (λ b. cond b (Some x) None) d
  found_last n (y ∷ ys) x d = ap (λ o. cond (same_text n y.name) (Some y) o) (found_last n ys x d)

  waits_other : (at : P → ℕ) (n k : List ℕ) (w : Wait P) → same_text n k ≡ false → waits_in n (saved at (TaskId.Of k) w t).saved
      ≡ waits_in n t.saved
  waits_other at n k w d = turn (found saves_name k t.saved)
    where
      turn : (o : Option (Saves P)) → waits_in n (save_at at o k w t.saved) ≡ waits_in n t.saved
      turn None =
          ap (λ (o : Option (Saves P)). option_map_or (λ (x : Saves P). x.waits) o []) (found_last n t.saved (record { name = k; waits = w ∷ [] }) d)
      turn (Some x) =
          ap (λ (o : Option (Saves P)). option_map_or (λ (x : Saves P). x.waits) o []) (found_changed n k (saves_with at w) (λ x. refl) t.saved d)

  last_other : (at : P → ℕ) (x task : TaskId) (w : Wait P) → same_id x task ≡ false → last_wait x (saved at task w t) ≡ last_wait x t
  last_other at TaskId.Show TaskId.Show w d = cc
  last_other at TaskId.Show (TaskId.Of k) w d = refl
  last_other at (TaskId.Of n) TaskId.Show w d = refl
  last_other at (TaskId.Of n) (TaskId.Of k) w d = ap latest (waits_other at n k w d)

  firsts_saved : (at : P → ℕ) (x task : TaskId) (w : Wait P) → first_needs main (saved at task w t) x ≡ first_needs main t x
  firsts_saved at TaskId.Show task w = refl
  firsts_saved at (TaskId.Of n) task w = refl

  -- the node of a row's task
  node_at : IsOnce row_name t.rows → (v : ℕ) → v ≤ length t.rows → node_for t (task_at t (row_of v)) ≡ Some v
  node_at once zero l = refl
  node_at once (suc e) l =
      let q = held_at t.rows e (omega (arith, l)) in
      let z : option_map_or row_name (slice_get t.rows e) [] ≡ q.0.name = ap (λ (o : Option (Row P)). option_map_or row_name o []) q.1 in
      ap (λ k. option_map suc (find k t)) z ∙ ap (option_map suc) (own_place row_name t.rows e q.0 once q.1)

  active_long : (v : ℕ) → Active m v → v ≤ length t.rows
  active_long v a =
      let l = flag_within m.wanted v a.0 in
      let x = ff.fits.right.0.shape.wanted in
      let y = long main t m ff.fits in
      omega (arith, l, x, y)

  pub fits_saved : (at : P → ℕ) (task : TaskId) (w : Wait P) (u : ℕ) → IsOnce row_name t.rows → node_for t task ≡ Some u → flag m.out u ≡ true
      → FitsOut main (saved at task w t) out m
  fits_saved at task w u once h o =
      record {
        fits = record {
          live = ff.fits.live;
          makers_are = ff.fits.makers_are ∙ sym (map_alike (maker_of (saved at task w t)) (maker_of t) (λ r. same_node r.task) t.rows);
          right = right_needs m (needs_by main t) (needs_by main (saved at task w t)) ff.fits.right same;
        };
        outs_are = ff.outs_are;
      }
    where
      same_node : (x : TaskId) → node_of (saved at task w t) x ≡ node_of t x
      same_node TaskId.Show = refl
      same_node (TaskId.Of n) = refl

      same_task : (o : Option ℕ) → task_at (saved at task w t) o ≡ task_at t o
      same_task None = refl
      same_task (Some e) = refl

      apart : (v : ℕ) → Active m v → same_id (task_at t (row_of v)) task ≡ false
      apart v a = turn (bool_cases (same_id (task_at t (row_of v)) task))
        where
          turn : ((same_id (task_at t (row_of v)) task ≡ true) ⊎ (same_id (task_at t (row_of v)) task ≡ false))
              → same_id (task_at t (row_of v)) task ≡ false
          turn (inr f) = f
          turn (inl e) =
              let z : Some v ≡ Some u = sym (node_at once v (active_long v a)) ∙ (ap (node_for t) (same_exact (task_at t (row_of v)) task e) ∙ h) in
              let i : v ≡ u = cc in
              not_both (flag m.out u) o (subst (λ x. flag m.out x ≡ false) i a.1)

      same : (v : ℕ) → Active m v → needs_by main (saved at task w t) v ≡ needs_by main t v
      same v a =
          ap (λ x. rows_of t (needs main (saved at task w t) x)) (same_task (row_of v))
          ∙ ap (rows_of t) (needs_alike main t (saved at task w t) (task_at t (row_of v)) (last_other at (task_at t (row_of v)) task w (apart v a))
          (firsts_saved at (task_at t (row_of v)) task w))

  -- ---- one row more

  module _ (once : IsOnce row_name t.rows) (r : Row P) where
    abbrev pub with_row : TableSeen P
    with_row = record t { rows = t.rows ++ r ∷ [] }

    place_still : (n : List ℕ) (xs : List (Row P)) (i : ℕ) → place_of row_name n xs ≡ Some i → place_of row_name n (xs ++ r ∷ []) ≡ Some i
    place_still n [] i e = cc
    place_still n (x ∷ xs) i e = turn (same_text n x.name) (place_of row_name n xs) refl e (place_still n xs)
      where
        turn : (b : Bool) (o : Option ℕ) → place_of row_name n xs ≡ o → cond b (Some 0) (option_map suc o) ≡ Some i
            → ((j : ℕ) → place_of row_name n xs ≡ Some j → place_of row_name n (xs ++ r ∷ []) ≡ Some j)
            → cond b (Some 0) (option_map suc (place_of row_name n (xs ++ r ∷ []))) ≡ Some i
        turn true o q h k = h
        turn false None q h k = cc
        turn false (Some j) q h k = ap (option_map suc) (k j q) ∙ h

    found_still : (n : List ℕ) (xs : List (Row P)) (x : Row P) → found row_name n xs ≡ Some x → found row_name n (xs ++ r ∷ []) ≡ Some x
    found_still n [] x e = cc
    found_still n (y ∷ ys) x e = turn (same_text n y.name) e (found_still n ys x)
      where
        turn : (b : Bool) → cond b (Some y) (found row_name n ys) ≡ Some x
            → (found row_name n ys ≡ Some x → found row_name n (ys ++ r ∷ []) ≡ Some x) → cond b (Some y) (found row_name n (ys ++ r ∷ []))
            ≡ Some x
        turn true h k = h
        turn false h k = k h

    last_same : (x : TaskId) → last_wait x with_row ≡ last_wait x t
    last_same TaskId.Show = refl
    last_same (TaskId.Of n) = refl

    rows_still : (ns : List (List ℕ)) → ((d : Option ℕ) → In d (rows_of t ns) → (i : ℕ) × (d ≡ Some i)) → rows_of with_row ns ≡ rows_of t ns
    rows_still [] h = refl
    rows_still (n ∷ ns) h =
        let q = h (find n t) (inl refl) in
        ap (λ y. y ∷ rows_of with_row ns) (place_still n t.rows q.0 q.1 ∙ sym q.1)
        ∙ ap (λ ys. find n t ∷ ys) (rows_still ns (λ d i. h d (inr i)))

    task_still : (v : ℕ) → v ≤ length t.rows → task_at with_row (row_of v) ≡ task_at t (row_of v)
    task_still zero l = refl
    task_still (suc e) l =
        ap (λ (o : Option (Row P)). TaskId.Of (option_map_or row_name o [])) (get_before t.rows r e (omega (arith, l)))

    firsts_still : (v : ℕ) → v ≤ length t.rows → first_needs main with_row (task_at t (row_of v)) ≡ first_needs main t (task_at t (row_of v))
    firsts_still zero l = refl
    firsts_still (suc e) l =
        let q = held_at t.rows e (omega (arith, l)) in
        let z : option_map_or row_name (slice_get t.rows e) [] ≡ q.0.name = ap (λ (o : Option (Row P)). option_map_or row_name o []) q.1 in
        let f : row_named q.0.name t ≡ Some q.0 = own_found row_name t.rows e q.0 once q.1 in
        let g : row_named q.0.name with_row ≡ Some q.0 = found_still q.0.name t.rows q.0 f in
        ap (λ k. first_needs main with_row (TaskId.Of k)) z
        ∙ (ap (λ (o : Option (Row P)). option_map_or (λ (x : Row P). first_refs x.desc) o []) (g ∙ sym f)
        ∙ ap (λ k. first_needs main t (TaskId.Of k)) (sym z))

    -- what a node that is wanted and not out waits for has rows
    has_rows : (v : ℕ) → Active m v → (d : Option ℕ) → In d (needs_by main t v) → (i : ℕ) × (d ≡ Some i)
    has_rows v a d h = turn ((all_counted m (needs_by main t) ff.fits.right v a).known d h)
      where
        live : (o : Option ℕ) → d ≡ o → is_live m.live o ≡ true → (i : ℕ) × (d ≡ Some i)
        live None e y = cc
        live (Some i) e y = (i, e)

        turn : ((is_live m.live d ≡ true) ⊎ LacksIt m v d) → (i : ℕ) × (d ≡ Some i)
        turn (inl y) = live d refl y
        turn (inr q) = (q.0, q.2)

    needs_still : SameNeeds m (needs_by main t) (needs_by main with_row)
    needs_still v a =
        let l = active_long v a in
        ap (λ x. rows_of with_row (needs main with_row x)) (task_still v l)
        ∙ (ap (rows_of with_row) (needs_alike main t with_row (task_at t (row_of v)) (last_same (task_at t (row_of v))) (firsts_still v l))
        ∙ rows_still (needs main t (task_at t (row_of v))) (has_rows v a))

    is_node : IsNode (suc (length m.live)) (maker_of with_row r)
    is_node = turn (task_row with_row r.task) (task_row_within with_row r.task)
      where
        turn : (o : Option ℕ) → IfSome o (λ e. e < length with_row.rows) → IsNode (suc (length m.live)) (option_map suc o)
        turn None h = tt
        turn (Some e) h =
            let a : length (t.rows ++ r ∷ []) ≡ length t.rows + 1 = length-append t.rows (r ∷ []) in
            let b = long main t m ff.fits in
            (omega arith, omega (arith, h, a, b))

    makers_still : m.orphans ≡ false → map (maker_of with_row) t.rows ≡ makers t
    makers_still known =
        map_alike_at (maker_of with_row) (maker_of t) t.rows (λ i x e. same i x e (entry m.makers i) refl)
      where
        same : (i : ℕ) (x : Row P) → slice_get t.rows i ≡ Some x → (o : Option ℕ) → entry m.makers i ≡ o → maker_of with_row x ≡ maker_of t x
        same i x e None q =
            let l = get_within t.rows i x e in
            let b = long main t m ff.fits in
            not_both m.orphans (ff.fits.right.0.filed.orphan i (omega (arith, l, b)) q).1 known
        same i x e (Some u) q = at x.task (sym (maker_row main t m ff.fits i x e) ∙ q)
          where
            at : (y : TaskId) → node_of t y ≡ Some u → node_of with_row y ≡ node_of t y
            at TaskId.Show h = refl
            at (TaskId.Of n) h = place (find n t) refl h
              where
                place : (o : Option ℕ) → find n t ≡ o → option_map suc o ≡ Some u → option_map suc (find n with_row) ≡ option_map suc (find n t)
                place None g h = cc
                place (Some j) g h = ap (option_map suc) (place_still n t.rows j g ∙ sym g)

    pub fits_learned : (k : MarksSeen) → is_in out (TaskId.Of r.name) ≡ false
        → ((before after : Needs) → IsNode (suc (length m.live)) (maker_of with_row r) → SameNeeds m before after → Right m before
        → Added (is_live_row r) (maker_of with_row r) m k × Right k after) → FitsOut main with_row out k
    fits_learned k o g =
        let q = g (needs_by main t) (needs_by main with_row) is_node needs_still ff.fits.right in
        record {
          fits = record {
            live = q.0.live ∙ (ap (λ fs. fs ++ is_live_row r ∷ []) ff.fits.live ∙ sym (map_last is_live_row t.rows r));
            makers_are = q.0.makers
                ∙ (ap (λ ns. ns ++ maker_of with_row r ∷ []) (ff.fits.makers_are ∙ sym (makers_still q.0.known))
                ∙ sym (map_last (maker_of with_row) t.rows r));
            right = q.1;
          };
          outs_are = q.0.out
              ∙ (ap (λ fs. fs ++ false ∷ []) ff.outs_are
              ∙ ap (λ fs. is_in out TaskId.Show ∷ fs) (ap (λ b. map (λ (x : Row P). is_in out (TaskId.Of x.name)) t.rows ++ b ∷ []) (sym o)
              ∙ sym (map_last (λ (x : Row P). is_in out (TaskId.Of x.name)) t.rows r)));
        }
