-- Entries of a memo, as contracts see them.
use Rattle.std.specs.Prelude.{ℕ, List, [], ◌∷◌, Bool, true, false, ◌&&◌, ◌==◌, Option, Some, None, length, if◌then◌else◌}
use Rattle.sky_base.specs.Val.{Val, same_text, same_val}
use Rattle.sky_base.specs.View.{view}
use Rattle.ciel_memo_file.specs.declared.entry.Entry.{Entry as Held}

-- the executor, its arguments with slots for references, the bytes of its inputs, and what it made: as many outputs as it was asked for
pub record Entry : Type 0 where
  pub executor : List ℕ
  pub args : Val (List ℕ)
  pub inputs : List (List ℕ)
  pub made : List (List ℕ)

abbrev pub entry_view : Held → Entry
entry_view e = record { executor = e.executor; args = view e.args; inputs = e.inputs.items; made = e.made.items }

abbrev pub same_lists : List (List ℕ) → List (List ℕ) → Bool
same_lists [] [] = true
same_lists (a ∷ xs) (b ∷ ys) = same_text a b && same_lists xs ys
same_lists [] (b ∷ ys) = false
same_lists (a ∷ xs) [] = false

-- whether this is the key of the entry
abbrev pub has_key : List ℕ → Val (List ℕ) → List (List ℕ) → ℕ → Entry → Bool
has_key executor args inputs outputs e =
    same_text e.executor executor && (same_val same_text e.args args && (same_lists e.inputs inputs && length e.made == outputs))

-- what was made for this key, of the first entry that has it
abbrev pub made_for : List Entry → List ℕ → Val (List ℕ) → List (List ℕ) → ℕ → Option (List (List ℕ))
made_for [] executor args inputs outputs = None
made_for (e ∷ es) executor args inputs outputs =
    if has_key executor args inputs outputs e then Some e.made else made_for es executor args inputs outputs
