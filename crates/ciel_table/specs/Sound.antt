-- What holds of every table.
use Rattle.std.specs.Prelude.{◌≡◌, ℕ, ◌≤◌, ◌<◌, List, [], ◌∷◌, length, Bool, false, nat_eq}
use Rattle.std.specs.List.{list_any, AllByRecursion, IsDistinct}
use Rattle.ciel_table.specs.Named.{IsOnce}
use Rattle.ciel_table.specs.Seen.{TableSeen, row_name}
use Rattle.ciel_table.specs.declared.row.Row.{Row}
use Rattle.ciel_table.specs.declared.wait.Wait.{Wait}
use Rattle.ciel_table.specs.declared.wait.Saves.{Saves}

-- the worker wasn't dropped
abbrev pub Here : List ℕ → ℕ → Type 0
Here gone worker = list_any (nat_eq worker) gone ≡ false

module _ {P : Type 0} where
  -- each number is above those before it
  abbrev pub Rising : List (Wait P) → Type 0
  Rising [] = Unit {0}
  Rising (w ∷ ws) = AllByRecursion (λ (v : Wait P). w.j < v.j) ws × Rising ws

  -- their stacks are at one worker
  abbrev pub same_worker : (P → ℕ) → Wait P → Wait P → Bool
  same_worker at v w = nat_eq (at v.place) (at w.place)

  -- a number above those of all these waits
  abbrev pub IsAbove : ℕ → List (Wait P) → Type 0
  IsAbove j ws = AllByRecursion (λ (w : Wait P). w.j < j) ws

  -- saved waits of one task: their numbers rise, no two are at one worker, and none is at a dropped worker
  pub record WaitsSound (at : P → ℕ) (gone : List ℕ) (ws : List (Wait P)) : Type 0 where
    pub rising : Rising ws
    pub apart : IsDistinct (same_worker at) ws
    pub here : AllByRecursion (λ (w : Wait P). Here gone (at w.place)) ws

  pub record TableSound (at : P → ℕ) (t : TableSeen P) : Type 0 where
    -- no more rows than the limit, and one for each name
    pub room : length t.rows ≤ t.limit
    pub once : IsOnce row_name t.rows
    -- no place at a dropped worker
    pub here : AllByRecursion (λ (r : Row P). AllByRecursion (λ p. Here t.gone (at p)) r.places) t.rows
    pub shown : WaitsSound at t.gone t.shown
    pub saved : AllByRecursion (λ (s : Saves P). WaitsSound at t.gone s.waits) t.saved
