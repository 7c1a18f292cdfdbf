-- What places, saved waits and dropped workers change.
use Rattle.std.specs.Prelude.{ℕ, List, [], ◌∷◌, ◌++◌, not, filter, map, nat_eq, Option, Some, None}
use Rattle.sky_base.specs.declared.object.TaskId.{TaskId}
use Rattle.ciel_table.specs.Named.{found, changed}
use Rattle.ciel_table.specs.Seen.{TableSeen, row_name, saves_name}
use Rattle.ciel_table.specs.declared.row.Row.{Row}
use Rattle.ciel_table.specs.declared.wait.Wait.{Wait}
use Rattle.ciel_table.specs.declared.wait.Saves.{Saves}

module _ {P : Type 0} where
  -- ---- one more place

  abbrev pub row_with : P → Row P → Row P
  row_with p r = record r { places = r.places ++ p ∷ [] }

  -- the row of the name has one more place, at the end
  abbrev pub placed : List ℕ → P → TableSeen P → TableSeen P
  placed n p t = record t { rows = changed row_name (row_with p) n t.rows }

  module _ (at : P → ℕ) where
    -- the saved waits whose stack isn't at this worker
    abbrev pub waits_without : ℕ → List (Wait P) → List (Wait P)
    waits_without worker ws = filter (λ (w : Wait P). not (nat_eq worker (at w.place))) ws

    -- ---- one more saved wait

    -- it stands at the end, and one at its worker goes
    abbrev pub waits_with : Wait P → List (Wait P) → List (Wait P)
    waits_with w ws = waits_without (at w.place) ws ++ w ∷ []

    abbrev pub saves_with : Wait P → Saves P → Saves P
    saves_with w s = record s { waits = waits_with w s.waits }

    abbrev pub save_at : Option (Saves P) → List ℕ → Wait P → List (Saves P) → List (Saves P)
    save_at None n w ss = ss ++ record { name = n; waits = w ∷ [] } ∷ []
    save_at (Some s) n w ss = changed saves_name (saves_with w) n ss

    abbrev pub saved_with : TaskId → Wait P → List (Saves P) → List (Saves P)
    saved_with TaskId.Show w ss = ss
    saved_with (TaskId.Of n) w ss = save_at (found saves_name n ss) n w ss

    abbrev pub shown_with : TaskId → Wait P → List (Wait P) → List (Wait P)
    shown_with TaskId.Show w ws = waits_with w ws
    shown_with (TaskId.Of n) w ws = ws

    -- the task has one more saved wait, in place of one at its worker
    abbrev pub saved : TaskId → Wait P → TableSeen P → TableSeen P
    saved task w t = record t { shown = shown_with task w t.shown; saved = saved_with task w t.saved }

    -- ---- a worker less

    module _ (worker : ℕ) where
      abbrev pub places_without : List P → List P
      places_without ps = filter (λ p. not (nat_eq worker (at p))) ps

      abbrev pub row_without : Row P → Row P
      row_without r = record r { places = places_without r.places }

      abbrev pub saves_without : Saves P → Saves P
      saves_without s = record s { waits = waits_without worker s.waits }

      -- no place and no saved wait at the worker is left
      abbrev pub dropped : TableSeen P → TableSeen P
      dropped t =
          record t {
            rows = map row_without t.rows;
            shown = waits_without worker t.shown;
            saved = map saves_without t.saved;
            gone = t.gone ++ worker ∷ [];
          }
