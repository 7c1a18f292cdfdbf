-- What the words of the command line say.
use Rattle.std.specs.Prelude.{ℕ, List, [], ◌∷◌, Bool, true, false, not, ◌&&◌, codes, nat_eq, Option, Some, None}
use Rattle.std.specs.Str.{bytes_eq}

-- what is asked of the log: its text, why a task was started, or the picture
pub data Asked : Type 0 where
  text : Asked
  why : (digits : List ℕ) → Asked
  picture : Asked

-- a path isn't empty, and begins with no `-`
abbrev pub is_path : List ℕ → Bool
is_path [] = false
is_path (b ∷ bs) = not (nat_eq b 45)

abbrev pub said_if : Bool → List ℕ → Asked → Option (List ℕ × Asked)
said_if true log asked = Some (log, asked)
said_if false log asked = None

-- the path of the log and what is asked, where the words are a line of the command
abbrev pub line_of : List (List ℕ) → Option (List ℕ × Asked)
line_of [] = None
line_of (log ∷ []) = said_if (is_path log) log text
line_of (log ∷ option ∷ []) = said_if (is_path log && bytes_eq option (codes "--svg")) log picture
line_of (log ∷ option ∷ digits ∷ []) = said_if (is_path log && bytes_eq option (codes "--why")) log (why digits)
line_of (log ∷ option ∷ digits ∷ word ∷ words) = None
