-- New entries, and what of them is put behind those of a memo.
use Rattle.std.specs.Prelude.{◌≡◌, ◌≤◌, ◌<◌, ◌+◌, ◌⊎◌, ℕ, List, ◌++◌, Option, length, map}
use Rattle.std.specs.Borrow.{Bor}
use Rattle.sky_base_law.specs.Tasks.{Each, In}
use Rattle.ciel_memo_file.specs.declared.entry.Entry.{Entry as Held}
use Rattle.ciel_memo_file.specs.Entries.{Entry, entry_view, made_for}
use Rattle.ciel_memo_file.specs.File.{IsMemo, IsWhole, entry_bytes, key_bytes, most_of_a_file}

abbrev pub Keyed : Type 0
Keyed = List ℕ × Bor Held

-- the key is that of the entry
abbrev pub IsKeyed : Keyed → Type 0
IsKeyed p = p.0 ≡ key_bytes (entry_view p.1.now)

abbrev pub entries_of : List Keyed → List Entry
entries_of ps = map (λ p. entry_view p.1.now) ps

-- what was made for the key of this entry
abbrev pub made_by : Entry → List Entry → Option (List (List ℕ))
made_by e es = made_for es e.executor e.args e.inputs (length e.made)

-- its key is that of none of these
abbrev pub IsNew : List Entry → Entry → Type 0
IsNew es e = In (key_bytes e) (map key_bytes es) → ⊥

-- with it behind so many bytes a file would be too long
abbrev pub HasNoRoom : ℕ → Entry → Type 0
HasNoRoom long e = most_of_a_file < long + length (entry_bytes e)

-- a whole entry with a new key was put behind the text, within the limit of a file; or nothing was, since it isn't such a one or has no room
pub data Puts (memo : List Entry) (old new : List ℕ) (e : Entry) : Type 0 where
  put : new ≡ old ++ entry_bytes e → IsWhole e → length new ≤ most_of_a_file → IsNew memo e → Puts memo old new e
  left : new ≡ old → (IsWhole e → IsNew memo e → HasNoRoom (length old) e) → Puts memo old new e

-- the bytes are the file of a memo's entries and these new ones: each of them is at hand, and of those at hand each that is whole and whose
-- key is none of the memo's is there, or has no room
pub record Behind (memo fresh : List Entry) (bs : List ℕ) (new : List Entry) : Type 0 where
  pub file : IsMemo bs (memo ++ new)
  pub among : Each (λ e. In e fresh) new
  pub all : (e : Entry) → In e fresh → IsWhole e → IsNew memo e → (In e new) ⊎ HasNoRoom (length bs) e
