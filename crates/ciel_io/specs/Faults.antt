-- Counts of faults, by which a caller sees that a call has failed, and calls that are to fail.
use Rattle.std.specs.Prelude.{◌≡◌, ◌<◌, ◌⊎◌, ◌+◌, ◌-◌, ◌^◌, ◌==◌, ℕ, List, Bool, min}
use Rattle.std.specs.List.{list_any}

-- the count rose, or stands at its type's end, where it can't rise
abbrev pub HasRisen : ℕ → ℕ → Type 0
HasRisen before now = (before < now) ⊎ (now ≡ 2 ^ 64 - 1)

-- a count with one more, at most its type's end
abbrev pub next : ℕ → ℕ
next count = min (count + 1) (2 ^ 64 - 1)

-- whether the call of this number, from 1, is one that is to fail
abbrev pub is_listed : List ℕ → ℕ → Bool
is_listed fails number = list_any (λ n. n == number) fails
