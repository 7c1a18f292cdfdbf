-- What the refusal of a memo's file says.
use Rattle.std.specs.Prelude.{ℕ}
use Rattle.ciel_memo_file.specs.declared.refusal.MemoRefusal.{MemoRefusal}

-- of the place of a bad entry, where it isn't want of memory
abbrev pub IfBad : MemoRefusal → (ℕ → Type 0) → Type 0
IfBad (MemoRefusal.BadMemo at) P = P at
IfBad MemoRefusal.Memory P = Unit {0}
