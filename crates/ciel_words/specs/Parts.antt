-- The words of a line taken apart: options with their values, options without, and positional words.
use Rattle.std.specs.Prelude.{ℕ, List, [], ◌∷◌, ◌||◌, Bool, false, not, Option, Some, None, if◌then◌else◌, codes, drop, take, map, option_map}
use Rattle.std.specs.List.{list_any, before_first, after_first}
use Rattle.std.specs.Str.{bytes_eq}
use Rattle.ciel_words.specs.Inputs.{is_equals}

abbrev pub Text : Type 0
Text = List ℕ

pub data Part : Type 0 where
  option : (name value : Text) → Part
  flag : (name : Text) → Part
  word : (text : Text) → Part

-- the options that have a value, and those that have none
abbrev pub valued : List Text
valued =
    codes "workers" ∷ codes "seed" ∷ codes "lose" ∷ codes "names" ∷ codes "log" ∷ codes "resume" ∷ codes "steal" ∷ codes "memo-new"
    ∷ codes "memo" ∷ codes "generate" ∷ []

abbrev pub unvalued : List Text
unvalued = codes "trace" ∷ codes "plain" ∷ codes "stream" ∷ []

abbrev pub is_valued : Text → Bool
is_valued name = list_any (λ n. bytes_eq n name) valued

abbrev pub is_unvalued : Text → Bool
is_unvalued name = list_any (λ n. bytes_eq n name) unvalued

-- `--`, behind which every word is positional
abbrev pub dashes : Text
dashes = codes "--"

abbrev pub begins_with_dash : Text → Bool
begins_with_dash w = bytes_eq (take 1 w) (codes "-")

abbrev pub begins_with_two : Text → Bool
begins_with_two w = bytes_eq (take 2 w) dashes

-- a positional word before `--`: it doesn't begin with `-`, or is `-` alone
abbrev pub is_positional : Text → Bool
is_positional w = not (begins_with_dash w) || bytes_eq w (codes "-")

-- of `--NAME` and `--NAME=VALUE`: the name, and the value behind the first `=`
abbrev pub name_in : Text → Text
name_in w = before_first is_equals (drop 2 w)

abbrev pub value_in : Text → Option Text
value_in w = if list_any is_equals (drop 2 w) then Some (after_first is_equals (drop 2 w)) else None

abbrev pub before : Part → Option (List Part) → Option (List Part)
before part parts = option_map (λ ps. part ∷ ps) parts

-- the parts of `--NAME=VALUE` or `--NAME` with the words behind it: an option, whose value stands behind `=` or is the next word, or one without a
-- value. `rest` are the parts of the words behind, `next` those where the first of these is the value
abbrev pub option_parts : (name : Text) → (value : Option Text) → (rest next : Option (List Part)) → Option (List Part)
option_parts n (Some v) rest next = if is_valued n then before (option n v) rest else None
option_parts n None rest next =
    if is_valued n then next
    else if is_unvalued n then before (flag n) rest
    else None

unfoldable mutual
  -- the parts of a line, where its words are options and positional words
  pub parts_of : List Text → Option (List Part)
  parts_of [] = Some []
  parts_of (w ∷ ws) =
      if bytes_eq w dashes then Some (map word ws)
      else if is_positional w then before (word w) (parts_of ws)
      else if begins_with_two w then option_parts (name_in w) (value_in w) (parts_of ws) (with_value (name_in w) ws)
      else None

  -- an option whose value is the next word, which doesn't begin with `-`
  pub with_value : (name : Text) → List Text → Option (List Part)
  with_value n [] = None
  with_value n (v ∷ ws) = if begins_with_dash v then None else before (option n v) (parts_of ws)

-- the names of the options, each as often as it stands
abbrev pub names_of : List Part → List Text
names_of [] = []
names_of (option n v ∷ ps) = n ∷ names_of ps
names_of (flag n ∷ ps) = n ∷ names_of ps
names_of (word w ∷ ps) = names_of ps

-- the value of the option of this name
abbrev pub value_of : Text → List Part → Option Text
value_of name [] = None
value_of name (option n v ∷ ps) = if bytes_eq n name then Some v else value_of name ps
value_of name (flag n ∷ ps) = value_of name ps
value_of name (word w ∷ ps) = value_of name ps

-- whether the option of this name, which has no value, stands there
abbrev pub has_flag : Text → List Part → Bool
has_flag name [] = false
has_flag name (option n v ∷ ps) = has_flag name ps
has_flag name (flag n ∷ ps) = bytes_eq n name || has_flag name ps
has_flag name (word w ∷ ps) = has_flag name ps

-- the positional words
abbrev pub texts_of : List Part → List Text
texts_of [] = []
texts_of (option n v ∷ ps) = texts_of ps
texts_of (flag n ∷ ps) = texts_of ps
texts_of (word w ∷ ps) = w ∷ texts_of ps
