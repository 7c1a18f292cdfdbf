-- The words of a line.
use Rattle.std.specs.Prelude.{ℕ, ◌==◌, ◌||◌, not, Bool, false, List, [], ◌∷◌, if◌then◌else◌}
use Rattle.line_kit.specs.Lines.{with_byte}

-- space, tab and carriage return
abbrev pub is_gap : ℕ → Bool
is_gap b = b == 32 || b == 9 || b == 13

-- a word stands first
abbrev pub begins_word : List ℕ → Bool
begins_word [] = false
begins_word (x ∷ xs) = not (is_gap x)

-- the maximal runs of bytes that are no gap: such a byte stands before the word that begins right behind
-- it, or is a word of its own
abbrev pub words : List ℕ → List (List ℕ)
words [] = []
words (x ∷ xs) = if is_gap x then words xs else (if begins_word xs then with_byte x (words xs) else (x ∷ []) ∷ words xs)
