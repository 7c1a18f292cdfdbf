-- The lines of some bytes.
use Rattle.std.specs.Prelude.{ℕ, ◌==◌, ◌||◌, ◌&&◌, Bool, true, false, not, List, [], ◌∷◌, ◌++◌, take, filter, length, if◌then◌else◌}
use Rattle.std.specs.List.{flat_map}
use Rattle.std.specs.Str.{bytes_eq}

-- the byte before the first of these, or a first one of its own
abbrev pub with_byte : ℕ → List (List ℕ) → List (List ℕ)
with_byte x [] = (x ∷ []) ∷ []
with_byte x (line ∷ more) = (x ∷ line) ∷ more

-- a line ends before a line feed (10), or at the end if it isn't empty
abbrev pub lines : List ℕ → List (List ℕ)
lines [] = []
lines (x ∷ xs) = if x == 10 then [] ∷ lines xs else with_byte x (lines xs)

-- the lines of some inputs, one after the other
abbrev pub all_lines : List (List ℕ) → List (List ℕ)
all_lines = flat_map lines

-- a line with a line feed after it
abbrev pub ended : List ℕ → List ℕ
ended line = line ++ 10 ∷ []

-- each line with a line feed after it
abbrev pub joined : List (List ℕ) → List ℕ
joined = flat_map ended

abbrev pub is_feed : ℕ → Bool
is_feed b = b == 10

-- the last line has no line feed
abbrev pub is_open : List ℕ → Bool
is_open [] = false
is_open (x ∷ []) = not (x == 10)
is_open (x ∷ y ∷ ys) = is_open (y ∷ ys)

-- the bytes begin with the text
abbrev pub begins : List ℕ → List ℕ → Bool
begins bytes text = bytes_eq (take (length text) bytes) text

-- the text stands somewhere in the bytes
abbrev pub contains : List ℕ → List ℕ → Bool
contains [] text = begins [] text
contains (x ∷ xs) text = begins (x ∷ xs) text || contains xs text

-- the lines that contain the text
abbrev pub with_text : List ℕ → List (List ℕ) → List (List ℕ)
with_text text ls = filter (λ line. contains line text) ls

-- two lists have the same lines
abbrev pub same_lines : List (List ℕ) → List (List ℕ) → Bool
same_lines [] [] = true
same_lines [] (m ∷ ms) = false
same_lines (l ∷ ls) [] = false
same_lines (l ∷ ls) (m ∷ ms) = bytes_eq l m && same_lines ls ms
