-- Lines with sums, as they stand in one buffer.
use Rattle.std.specs.Prelude.{◌≡◌, ℕ, zero, suc, ◌+◌, ◌<◌, ◌≤◌, List, [], ◌∷◌, map, length, slice_index_or}
use Rattle.std.specs.Borrow.{Bor}
use Rattle.std.specs.List.{slice_range}
use Rattle.std.specs.List.Sorted.{IsSortedBy}
use Rattle.line_kit.specs.Orders.{below}
use Rattle.line_flow.specs.declared.entries.Entry.{Entry}

-- the line of an entry
abbrev pub line_of : List ℕ → Entry → List ℕ
line_of bytes e = slice_range bytes e.start e.end

-- the lines with their sums
abbrev pub seen : List ℕ → List Entry → List (List ℕ × ℕ)
seen bytes entries = map (λ e. (line_of bytes e, e.sum)) entries

-- the lines of the entries stand among so many bytes
abbrev pub AllWithin : ℕ → List Entry → Type 0
AllWithin n [] = Unit {0}
AllWithin n (e ∷ es) = ((e.start ≤ e.end) × (e.end ≤ n)) × AllWithin n es

-- a number more at one of them
abbrev pub more_at : List (List ℕ × ℕ) → ℕ → ℕ → List (List ℕ × ℕ)
more_at [] at number = []
more_at (e ∷ es) zero number = (e.0, e.1 + number) ∷ es
more_at (e ∷ es) (suc at) number = e ∷ more_at es at number

-- there is such an entry, and it has this line
abbrev pub IsAt : List (List ℕ × ℕ) → ℕ → List ℕ → Type 0
IsAt es at line = (at < length es) × ((slice_index_or es at ([], 0)).0 ≡ line)

-- a list of lines that are borrowed
abbrev pub lent : List (Bor (List ℕ) × ℕ) → List (List ℕ × ℕ)
lent sums = map (λ s. (s.0.now, s.1)) sums

-- no line is less than the one before it
abbrev pub IsInOrder : List (Bor (List ℕ) × ℕ) → Type 0
IsInOrder sums = IsSortedBy (λ x y. below x.0.now y.0.now) sums
