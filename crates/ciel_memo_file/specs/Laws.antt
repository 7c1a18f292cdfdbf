-- What the bytes of a memo's file tell.
use Rattle.std.specs.Prelude.{◌≡◌, ℕ, List, length}
use Rattle.ciel_memo_file.specs.Entries.{Entry}
use Rattle.ciel_memo_file.specs.File.{BadAt, IsMemo, IsWhole, key_bytes}

-- a file is that of one list of entries
abbrev pub OneList : Type 0
OneList = (bs : List ℕ) (xs ys : List Entry) → IsMemo bs xs → IsMemo bs ys → xs ≡ ys

-- a file has no bad entry
abbrev pub NeverBoth : Type 0
NeverBoth = (bs : List ℕ) (es : List Entry) (at : ℕ) → IsMemo bs es → BadAt bs at → ⊥

-- and other bytes have one at one place
abbrev pub OnePlace : Type 0
OnePlace = (bs : List ℕ) (a b : ℕ) → BadAt bs a → BadAt bs b → a ≡ b

-- the same key
pub record SameKey (d e : Entry) : Type 0 where
  pub executor : d.executor ≡ e.executor
  pub args : d.args ≡ e.args
  pub inputs : d.inputs ≡ e.inputs
  pub outputs : length d.made ≡ length e.made

-- entries with the same bytes of their keys have the same key
abbrev pub OneKey : Type 0
OneKey = (d e : Entry) → IsWhole d → IsWhole e → key_bytes d ≡ key_bytes e → SameKey d e
