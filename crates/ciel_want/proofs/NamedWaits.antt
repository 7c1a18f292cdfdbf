-- Where all names have rows, what tasks wait for has.
use Rattle.std.proofs.Common.{◌≡◌, ℕ, List, [], ◌∷◌, Bool, true, false, refl, subst, Option, Some, None}
use Rattle.std.specs.List.{AllByRecursion}
use Rattle.std.specs.Option.{option_map_or}
use Rattle.sky_base.specs.declared.object.Desc1.{Desc1}
use Rattle.sky_base.specs.declared.object.TaskId.{TaskId}
use Rattle.ciel_table.specs.Seen.{TableSeen, Known, is_input, last_wait, row_name, row_named, saves_name, waits_of}
use Rattle.ciel_table.specs.Named.{found}
use Rattle.ciel_table.specs.declared.row.Row.{Row}
use Rattle.ciel_table.specs.declared.wait.Saves.{Saves}
use Rattle.ciel_table.specs.declared.wait.Wait.{Wait}
use Rattle.ciel_want.specs.Waited.{AllNamed, RowNamed, RowWhole, TaskKnown, WaitsNamed, Whole, first_needs, first_refs, needs, needs_at}
use Rattle.ciel_want.proofs.Rows.{all_found}
use Rattle.ciel_want.proofs.WaitedRows.{latest_all}

module _ {P : Type 0} (main : List ℕ) (t : TableSeen P) (named : AllNamed main t) where
  refs_known : (d : Desc1) → (is_input d ≡ false → AllByRecursion (Known t) (first_refs d)) → AllByRecursion (Known t) (first_refs d)
  refs_known (Desc1.Call f c vs) h = tt
  refs_known (Desc1.Exec x v n i) h = h refl
  refs_known (Desc1.Input k) h = tt

  row_is : (r : Row P) → RowNamed main t (is_input r.desc) r → is_input r.desc ≡ false → TaskKnown t r.task
      × AllByRecursion (Known t) (first_refs r.desc)
  row_is r h e = subst (λ b. RowNamed main t b r) e h

  waits_named : (task : TaskId) → WaitsNamed main t (waits_of task t)
  waits_named TaskId.Show = named.shown
  waits_named (TaskId.Of n) = turn (found saves_name n t.saved) refl
    where
      turn : (o : Option (Saves P)) → found saves_name n t.saved ≡ o → WaitsNamed main t (option_map_or (λ (s : Saves P). s.waits) o [])
      turn None e = tt
      turn (Some s) e = all_found saves_name (λ (x : Saves P). WaitsNamed main t x.waits) n t.saved s named.saved e

  first_known : (task : TaskId) → AllByRecursion (Known t) (first_needs main t task)
  first_known TaskId.Show = (named.entry, tt)
  first_known (TaskId.Of n) = turn (row_named n t) refl
    where
      turn : (o : Option (Row P)) → row_named n t ≡ o → AllByRecursion (Known t) (option_map_or (λ (r : Row P). first_refs r.desc) o [])
      turn None e = tt
      turn (Some r) e =
          refs_known r.desc (λ i. (row_is r (all_found row_name (λ (x : Row P). RowNamed main t (is_input x.desc) x) n t.rows r named.rows e) i).1)

  all_needs : (task : TaskId) → AllByRecursion (Known t) (needs main t task)
  all_needs task = turn (last_wait task t) refl
    where
      turn : (o : Option (Wait P)) → last_wait task t ≡ o → AllByRecursion (Known t) (needs_at main t o task)
      turn None e = first_known task
      turn (Some w) e =
          latest_all (λ (x : Wait P). AllByRecursion (Known t) x.refs) (waits_of task t) w (waits_named task) e

  rows_whole : (rs : List (Row P)) → AllByRecursion (λ (r : Row P). RowNamed main t (is_input r.desc) r) rs
      → AllByRecursion (λ (r : Row P). RowWhole main t (is_input r.desc) r) rs
  rows_whole [] a = tt
  rows_whole (r ∷ rs) a = (turn (is_input r.desc) a.0, rows_whole rs a.1)
    where
      turn : (b : Bool) → RowNamed main t b r → RowWhole main t b r
      turn true h = tt
      turn false h = (h.0, all_needs r.task)

  pub named_whole : Whole main t
  named_whole = record { root = all_needs TaskId.Show; rows = rows_whole t.rows named.rows }
