-- The generated lines.
use Rattle.std.specs.Prelude.{ℕ, zero, suc, ◌+◌, ◌*◌, ◌/◌, ◌%◌, ◌^◌, List, [], ◌++◌, codes, decimal}

-- the number that comes after another one
abbrev pub next : ℕ → ℕ
next x = (x * 1103515245 + 12345) % 2 ^ 31

-- the line of a number
abbrev pub line_of : ℕ → List ℕ
line_of x = codes "w" ++ decimal (x / 65536 % 100) ++ codes "\n"

-- so many lines, of the numbers that come after this one
abbrev pub lines_after : (count : ℕ) → ℕ → List ℕ
lines_after zero x = []
lines_after (suc n) x = line_of (next x) ++ lines_after n (next x)

-- the generated lines begin after 1
abbrev pub generated : ℕ → List ℕ
generated count = lines_after count 1
