-- Entries beside their keys in order.
use Rattle.std.specs.Prelude.{◌≡◌, ◌<◌, ℕ, List, [], IfSome, Option, length, slice_index_or}
use Rattle.sky_base.specs.Val.{null}
use Rattle.ciel_memo_key.specs.Sorted.{Rises, at}
use Rattle.ciel_memo_file.specs.Entries.{Entry}
use Rattle.ciel_memo_file.specs.File.{IsMemo, file_bytes, key_bytes}

abbrev pub no_entry : Entry
no_entry = record { executor = []; args = null; inputs = []; made = [] }

abbrev pub entry_at : List Entry → ℕ → Entry
entry_at es j = slice_index_or es j no_entry

abbrev pub place_at : List ℕ → ℕ → ℕ
place_at order i = slice_index_or order i 0

-- each key is that of the entry at its place, and each entry has its key among them
pub record Ordered (es : List Entry) (keys : List (List ℕ)) (order : List ℕ) : Type 0 where
  pub rises : Rises keys
  pub many : length order ≡ length keys
  pub within : (i : ℕ) → i < length keys → place_at order i < length es
  pub here : (i : ℕ) → i < length keys → at keys i ≡ key_bytes (entry_at es (place_at order i))
  pub each : (j : ℕ) → j < length es → (i : ℕ) × (i < length keys) × (place_at order i ≡ j)

-- and they are those of a file, the one that was read where one was
pub record Stands (es : List Entry) (keys : List (List ℕ)) (order : List ℕ) (read : Option (List ℕ)) : Type 0 where
  pub memo : IsMemo (file_bytes es) es
  pub ordered : Ordered es keys order
  pub file : IfSome read (λ bytes. bytes ≡ file_bytes es)
