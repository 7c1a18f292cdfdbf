-- What a table keeps beside its rows, and beside its saved waits: a map from each name to its place there.
use Rattle.std.specs.Prelude.{◌≡◌, ℕ, List}
use Rattle.std.specs.BTreeMap.{BTreeMap, get}
use Rattle.sky_base.specs.NameOrder.{name_cmp}
use Rattle.ciel_table.specs.Named.{place_of}
use Rattle.ciel_table.specs.Seen.{TableSeen, row_name, saves_name}
use Rattle.ciel_table.specs.Sound.{TableSound}
use Rattle.ciel_table.specs.declared.row.Row.{Row}
use Rattle.ciel_table.specs.declared.wait.Wait.{Wait}
use Rattle.ciel_table.specs.declared.wait.Saves.{Saves}

-- the map has the place of each name
abbrev pub IsIndex : {X : Type 0} → (X → List ℕ) → BTreeMap (List ℕ) ℕ → List X → Type 0
IsIndex name index xs = (n : List ℕ) → get name_cmp index n ≡ place_of name n xs

module _ {P : Type 0} where
  -- the table of these parts
  abbrev pub seen_of : ℕ → List (Row P) → List (Wait P) → List (Saves P) → List ℕ → TableSeen P
  seen_of limit rows shown saved gone =
      record { limit = limit; rows = rows; shown = shown; saved = saved; gone = gone }

  pub record Stands (at : P → ℕ) (t : TableSeen P) (row_of saves_of : BTreeMap (List ℕ) ℕ) : Type 0 where
    pub sound : TableSound at t
    pub rows : IsIndex row_name row_of t.rows
    pub saves : IsIndex saves_name saves_of t.saved
