-- Words that name inputs, each NAME=PATH.
use Rattle.std.specs.Prelude.{ℕ, List, [], ◌∷◌, Bool, true, false, not, ◌&&◌, ◌||◌, ◌==◌, nat_le, nat_lt, length, map}
use Rattle.std.specs.List.{list_all, before_first, after_first}
use Rattle.std.specs.Char.{is_ascii_alphanumeric}
use Rattle.sky_base.specs.Eval.{is_one_of}

-- the greatest number of inputs, and of bytes of the name of one
abbrev pub most_inputs : ℕ
most_inputs = 256

abbrev pub most_name : ℕ
most_name = 64

-- `=`
abbrev pub is_equals : ℕ → Bool
is_equals b = b == 61

-- a letter, a digit or `_`
abbrev pub begins_key : ℕ → Bool
begins_key b = is_ascii_alphanumeric b || (b == 95)

-- or `.` or `-`
abbrev pub goes_on_key : ℕ → Bool
goes_on_key b = begins_key b || (b == 46) || (b == 45)

-- the name of an input
abbrev pub is_key : List ℕ → Bool
is_key [] = false
is_key (b ∷ bs) = begins_key b && (list_all goes_on_key bs && nat_lt (length bs) most_name)

-- a word's name and path, round its first `=`
abbrev pub key_in : List ℕ → List ℕ
key_in word = before_first is_equals word

abbrev pub path_in : List ℕ → List ℕ
path_in word = after_first is_equals word

abbrev pub input_in : List ℕ → List ℕ × List ℕ
input_in word = (key_in word, path_in word)

-- a word that names an input: a name, `=`, and a path that isn't empty
abbrev pub is_input : List ℕ → Bool
is_input word = is_key (key_in word) && nat_lt 0 (length (path_in word))

-- no text stands twice
abbrev pub all_apart : List (List ℕ) → Bool
all_apart [] = true
all_apart (x ∷ xs) = not (is_one_of x xs) && all_apart xs

-- words that name inputs, which aren't too many, and no name twice
abbrev pub are_inputs : List (List ℕ) → Bool
are_inputs words = nat_le (length words) most_inputs && (list_all is_input words && all_apart (map key_in words))
