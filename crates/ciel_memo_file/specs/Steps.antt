-- What the steps of reading a file say.
use Rattle.std.specs.Prelude.{◌≡◌, ◌<◌, ◌≤◌, ◌⊎◌, ℕ, List, [], ◌∷◌, ◌++◌, ◌&&◌, ◌==◌, Bool, true, false, length, map, take}
use Rattle.sky_base_law.specs.Tasks.{Each, In}
use Rattle.ciel_memo_file.specs.declared.gathered.Gathered.{Gathered}
use Rattle.ciel_memo_file.specs.Entries.{Entry, entry_view}
use Rattle.ciel_memo_file.specs.File.{IsMemo, IsWhole, entry_bytes, file_bytes, key_bytes}
use Rattle.ciel_memo_file.specs.Ordered.{entry_at}

-- ---- where it stands

-- the first so many bytes of a file end with these
pub record EndsWith (file : List ℕ) (end : ℕ) (left : List ℕ) : Type 0 where
  pub before : List ℕ
  pub bytes : take end file ≡ before ++ left
  pub within : end ≤ length file

-- ---- the next entry

-- a whole entry of at most so many bytes stands in front, and then the rest
pub record NextRead (room : ℕ) (front : List ℕ) (e : Entry) (k rest : List ℕ) : Type 0 where
  pub bytes : front ≡ entry_bytes e ++ rest
  pub whole : IsWhole e
  pub fits : length (entry_bytes e) ≤ room
  pub key : k ≡ key_bytes e

-- no such one does
abbrev pub NoneWithin : ℕ → List ℕ → Type 0
NoneWithin room front = (e : Entry) (more : List ℕ) → IsWhole e → length (entry_bytes e) ≤ room → front ≡ entry_bytes e ++ more → ⊥

-- ---- inputs beside those of a question

-- each is as long as the one at its place
abbrev pub same_lengths : List (List ℕ) → List (List ℕ) → Bool
same_lengths [] [] = true
same_lengths (a ∷ xs) (b ∷ ys) = length a == length b && same_lengths xs ys
same_lengths [] (b ∷ ys) = false
same_lengths (a ∷ xs) [] = false

-- ---- the entries so far

abbrev pub seen : Gathered → List Entry
seen g = map entry_view g.entries.items

-- a key with the place of the entry that has it
abbrev pub PlacedAt : List Entry → List ℕ × ℕ → Type 0
PlacedAt es p = (p.1 < length es) × (p.0 ≡ key_bytes (entry_at es p.1))

-- some key has this place
abbrev pub HasPlace : ℕ → List (List ℕ × ℕ) → Type 0
HasPlace j [] = ⊥
HasPlace j (p ∷ ps) = (p.1 ≡ j) ⊎ HasPlace j ps

-- each key has the place of an entry with this key, and each place has a key
pub record Placed (es : List Entry) (ps : List (List ℕ × ℕ)) : Type 0 where
  pub here : Each (PlacedAt es) ps
  pub each : (j : ℕ) → j < length es → HasPlace j ps

-- an entry was put at the end, where no entry had its key
abbrev pub AddedSo : Bool → List Entry → List Entry → Entry → Type 0
AddedSo true old new e = (new ≡ old ++ e ∷ []) × (In (key_bytes e) (map key_bytes old) → ⊥)
AddedSo false old new e = In (key_bytes e) (map key_bytes old)

-- the entry that stands in front was put at the end, and the list is still that of a file
pub record Goes (old : List Entry) (front : List ℕ) (new : List Entry) (rest : List ℕ) : Type 0 where
  pub entry : Entry
  pub added : new ≡ old ++ entry ∷ []
  pub bytes : front ≡ entry_bytes entry ++ rest
  pub memo : IsMemo (file_bytes new) new
