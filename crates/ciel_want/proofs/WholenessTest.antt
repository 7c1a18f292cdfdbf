-- The test of a table, and what it says.
use Rattle.std.proofs.Common.{◌≡◌, ◌↔◌, ℕ, suc, List, [], ◌∷◌, Bool, true, false, ◌&&◌, ◌||◌, drop, slice_get, refl, ap, sym, ◌∙◌, subst, Option}
use Rattle.std.proofs.Common.{Some, None, IsSome}
use Rattle.std.specs.List.{AllByRecursion}
use Rattle.std.specs.Option.{option_map_or}
use Rattle.sky_base.specs.declared.object.TaskId.{TaskId}
use Rattle.ciel_table.specs.Seen.{TableSeen, find, is_input}
use Rattle.ciel_table.specs.declared.row.Row.{Row}
use Rattle.ciel_want.proofs.FlaggedTasks.{drop_at}
use Rattle.ciel_want.specs.Board.{all_known, row_whole, rows_whole, task_known, whole}
use Rattle.ciel_want.specs.Waited.{AllKnown, RowWhole, TaskKnown, Whole, needs}

both : (b c : Bool) → b ≡ true → c ≡ true → b && c ≡ true
both true c e f = f
both false c e f = cc

parts : (b c : Bool) → b && c ≡ true → (b ≡ true) × (c ≡ true)
parts true c e = (refl, e)
parts false c e = cc

module _ {P : Type 0} (main : List ℕ) (t : TableSeen P) where
  known_says : (ns : List (List ℕ)) → all_known t ns ≡ true → AllKnown t ns
  known_says [] e = tt
  known_says (n ∷ ns) e = turn (find n t) refl e (known_says ns)
    where
      turn : (o : Option ℕ) → find n t ≡ o → option_map_or (λ (k : ℕ). all_known t ns) o false ≡ true → (all_known t ns ≡ true → AllKnown t ns)
          → AllKnown t (n ∷ ns)
      turn None h k r = cc
      turn (Some i) h k r = (subst IsSome (sym h) refl, r k)

  says_known : (ns : List (List ℕ)) → AllKnown t ns → all_known t ns ≡ true
  says_known [] a = refl
  says_known (n ∷ ns) a = turn (find n t) refl a.0 (says_known ns a.1)
    where
      turn : (o : Option ℕ) → find n t ≡ o → IsSome o → all_known t ns ≡ true → option_map_or (λ (k : ℕ). all_known t ns) (find n t) false ≡ true
      turn None h k r = cc
      turn (Some i) h k r = ap (λ o. option_map_or (λ (x : ℕ). all_known t ns) o false) h ∙ r

  task_says : (task : TaskId) → task_known t task ≡ true → TaskKnown t task
  task_says TaskId.Show e = cc
  task_says (TaskId.Of n) e = turn (find n t) refl e
    where
      turn : (o : Option ℕ) → find n t ≡ o → option_map_or (λ (k : ℕ). true) o false ≡ true → IsSome (find n t)
      turn None h k = cc
      turn (Some i) h k = subst IsSome (sym h) refl

  says_task : (task : TaskId) → TaskKnown t task → task_known t task ≡ true
  says_task TaskId.Show h = absurd h
  says_task (TaskId.Of n) h = turn (find n t) refl h
    where
      turn : (o : Option ℕ) → find n t ≡ o → IsSome o → option_map_or (λ (k : ℕ). true) (find n t) false ≡ true
      turn None e k = cc
      turn (Some i) e k = ap (λ o. option_map_or (λ (x : ℕ). true) o false) e

  row_says : (r : Row P) → row_whole main t r ≡ true → RowWhole main t (is_input r.desc) r
  row_says r e = turn (is_input r.desc) e
    where
      turn : (b : Bool) → b || (task_known t r.task && all_known t (needs main t r.task)) ≡ true → RowWhole main t b r
      turn true h = tt
      turn false h =
          let p = parts (task_known t r.task) (all_known t (needs main t r.task)) h in
          (task_says r.task p.0, known_says (needs main t r.task) p.1)

  says_row : (r : Row P) → RowWhole main t (is_input r.desc) r → row_whole main t r ≡ true
  says_row r h = turn (is_input r.desc) h
    where
      turn : (b : Bool) → RowWhole main t b r → b || (task_known t r.task && all_known t (needs main t r.task)) ≡ true
      turn true k = refl
      turn false k =
          both (task_known t r.task) (all_known t (needs main t r.task)) (says_task r.task k.0) (says_known (needs main t r.task) k.1)

  rows_say : (rs : List (Row P)) → rows_whole main t rs ≡ true → AllByRecursion (λ (r : Row P). RowWhole main t (is_input r.desc) r) rs
  rows_say [] e = tt
  rows_say (r ∷ rs) e =
      let p = parts (row_whole main t r) (rows_whole main t rs) e in (row_says r p.0, rows_say rs p.1)

  say_rows : (rs : List (Row P)) → AllByRecursion (λ (r : Row P). RowWhole main t (is_input r.desc) r) rs → rows_whole main t rs ≡ true
  say_rows [] a = refl
  say_rows (r ∷ rs) a = both (row_whole main t r) (rows_whole main t rs) (says_row r a.0) (say_rows rs a.1)

  pub whole_says : whole main t ≡ true → Whole main t
  whole_says e =
      let p = parts (all_known t (needs main t TaskId.Show)) (rows_whole main t t.rows) e in
      record { root = known_says (needs main t TaskId.Show) p.0; rows = rows_say t.rows p.1 }

  pub says_whole : Whole main t → whole main t ≡ true
  says_whole w =
      both (all_known t (needs main t TaskId.Show)) (rows_whole main t t.rows) (says_known (needs main t TaskId.Show) w.root) (say_rows t.rows w.rows)

  -- the answer of the test is what is asked
  pub test_is : (b : Bool) → b ≡ whole main t → (b ≡ true) ↔ Whole main t
  test_is b e = (λ h. whole_says (sym e ∙ h), λ w. e ∙ says_whole w)

  -- ---- the steps of the test

  first_row : (i : ℕ) (r : Row P) → slice_get t.rows i ≡ Some r → rows_whole main t (drop i t.rows) ≡ row_whole main t r
      && rows_whole main t (drop (suc i) t.rows)
  first_row i r g = ap (rows_whole main t) (drop_at t.rows i r g)

  pub row_stops : (i : ℕ) (r : Row P) (b : Bool) → rows_whole main t (drop i t.rows) ≡ rows_whole main t t.rows → slice_get t.rows i ≡ Some r → b
      ≡ row_whole main t r → b ≡ false → false ≡ rows_whole main t t.rows
  row_stops i r b k g e h =
      ap (λ c. c && rows_whole main t (drop (suc i) t.rows)) (sym h ∙ e) ∙ (sym (first_row i r g) ∙ k)

  pub row_goes : (i : ℕ) (r : Row P) (b : Bool) → rows_whole main t (drop i t.rows) ≡ rows_whole main t t.rows → slice_get t.rows i ≡ Some r → b
      ≡ row_whole main t r → b ≡ true → rows_whole main t (drop (suc i) t.rows) ≡ rows_whole main t t.rows
  row_goes i r b k g e h =
      ap (λ c. c && rows_whole main t (drop (suc i) t.rows)) (sym h ∙ e) ∙ (sym (first_row i r g) ∙ k)

  pub root_stops : (b : Bool) → b ≡ all_known t (needs main t TaskId.Show) → b ≡ false → (false ≡ true) ↔ Whole main t
  root_stops b e h = test_is false (ap (λ c. c && rows_whole main t t.rows) (sym h ∙ e))

  pub root_goes : (b c : Bool) → b ≡ all_known t (needs main t TaskId.Show) → b ≡ true → c ≡ rows_whole main t t.rows → (c ≡ true) ↔ Whole main t
  root_goes b c e h s = test_is c (s ∙ ap (λ x. x && rows_whole main t t.rows) (sym h ∙ e))
