-- Places of a script: the line and the column of a byte. Lines end after a line feed, columns count
-- bytes, and both begin at 1. The end of a script has the place after its last byte.
use Rattle.std.specs.Prelude.{ℕ, ◌+◌, ◌==◌, Bool, not, List, take, count_by}
use Rattle.std.specs.List.{suffix_len}

abbrev pub is_line_feed : ℕ → Bool
is_line_feed b = b == 10

-- one more than the line feeds before it
abbrev pub line_of : List ℕ → ℕ → ℕ
line_of bytes at = count_by is_line_feed (take at bytes) + 1

-- one more than the bytes before it, back to the last line feed
abbrev pub column_of : List ℕ → ℕ → ℕ
column_of bytes at = suffix_len (λ b. not (is_line_feed b)) (take at bytes) + 1

-- the line and the column of a byte, or of the end
abbrev pub place_of : List ℕ → ℕ → ℕ × ℕ
place_of bytes at = (line_of bytes at, column_of bytes at)
