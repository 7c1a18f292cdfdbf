-- A memo's file: `4D 01`, and then the entries.
use Rattle.std.specs.Prelude.{◌≡◌, ◌≢◌, ◌≤◌, ◌⊎◌, ℕ, List, [], ◌∷◌, ◌++◌, flat_map, length, map}
use Rattle.sky_base_law.specs.Tasks.{Apart, Each}
use Rattle.sky_frozen_bytes.specs.Codes.{Counted, Fits32}
use Rattle.ciel_name.specs.Spelled.{IsData, IsText}
use Rattle.ciel_memo_key.specs.Keys.{block, key_of}
use Rattle.ciel_memo_file.specs.Entries.{Entry}

-- executor, arguments, number of outputs, and the inputs behind their number
abbrev pub key_bytes : Entry → List ℕ
key_bytes e = key_of e.executor e.args e.inputs (length e.made)

-- the key, and then the outputs
abbrev pub entry_bytes : Entry → List ℕ
entry_bytes e = key_bytes e ++ flat_map block e.made

abbrev pub file_bytes : List Entry → List ℕ
file_bytes es = 77 ∷ 1 ∷ flat_map entry_bytes es

-- the greatest number of bytes of an entry, and of a file
abbrev pub most_of_an_entry : ℕ
most_of_an_entry = 1048576

abbrev pub most_of_a_file : ℕ
most_of_a_file = 67108864

-- the length of a block has 32 bits
abbrev pub IsBlock : List ℕ → Type 0
IsBlock b = Fits32 (length b)

-- an entry whose bytes can be read: its executor is a text, its arguments keep the limits of values, and numbers fit four bytes
pub record IsSpelled (e : Entry) : Type 0 where
  pub executor : IsText e.executor
  pub args : IsData e.args
  pub inputs : Counted IsBlock e.inputs
  pub made : Counted IsBlock e.made

-- and which isn't too long
pub record IsWhole (e : Entry) : Type 0 where
  pub spelled : IsSpelled e
  pub short : length (entry_bytes e) ≤ most_of_an_entry

-- the bytes are the file of these entries: each is whole, the file isn't too long, and no two have the same key
pub record IsMemo (bs : List ℕ) (es : List Entry) : Type 0 where
  pub bytes : bs ≡ file_bytes es
  pub whole : Each IsWhole es
  pub fits : length bs ≤ most_of_a_file
  pub keys : Apart (map key_bytes es)

-- ---- bytes that are no such file

-- no entry stands in front that may follow these: one that is whole, ends within the file's limit and repeats no key
abbrev pub NoNext : List Entry → List ℕ → Type 0
NoNext es rest = (e : Entry) (more : List ℕ) → rest ≡ entry_bytes e ++ more → IsMemo (file_bytes (es ++ e ∷ [])) (es ++ e ∷ []) → ⊥

-- at this place, behind those that are such a file, something stands and no next entry does
pub record BadEntry (bs : List ℕ) (at : ℕ) : Type 0 where
  pub before : List Entry
  pub rest : List ℕ
  pub memo : IsMemo (file_bytes before) before
  pub bytes : bs ≡ file_bytes before ++ rest
  pub place : at ≡ length (file_bytes before)
  pub more : rest ≢ []
  pub none : NoNext before rest

-- the two first bytes are others
abbrev pub NoStart : List ℕ → Type 0
NoStart bs = (rest : List ℕ) → bs ≢ 77 ∷ 1 ∷ rest

-- the place of the first entry that isn't whole, is too long, ends past the file's limit or repeats a key, or 0 where the two first bytes are
-- wrong
abbrev pub BadAt : List ℕ → ℕ → Type 0
BadAt bs at = (NoStart bs × (at ≡ 0)) ⊎ BadEntry bs at
