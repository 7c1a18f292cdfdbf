-- What clap makes of words: options with one value, flags, and words of their own, as rows. `R` has the rows so far.
use Rattle.std.specs.Prelude.{List, [], ◌∷◌, Option, Some, None, fold, if◌then◌else◌}
use Rattle.std.specs.Str.{bytes_eq}
use Rattle.clap.specs.Lexer.{long_of, short_of}
use Rattle.clap.specs.Walk.{Row, Rule, Text, arg_by_long, has_row, takes_values, used}

abbrev pub dashes : Text
dashes = 45 ∷ 45 ∷ []

-- a second use is refused
abbrev pub fresh : List Row → Rule → Option (List Row) → Option (List Row)
fresh R a next = if has_row a.id R then None else next

abbrev pub option_case : List Row → Rule → Option Text → (List Row → Option (List Row)) → Option (List Row) → Option (List Row)
option_case R a (Some v) next later = fresh R a (next (used a (v ∷ []) R))
option_case R a None next later = later

abbrev pub flag_case : List Row → Rule → Option Text → (List Row → Option (List Row)) → Option (List Row)
flag_case R a (Some v) next = None
flag_case R a None next = fresh R a (next (used a [] R))

abbrev pub named : List Row → Option Rule → Option Text → (List Row → Option (List Row)) → (Rule → Option (List Row)) → Option (List Row)
named R None v next later = None
named R (Some a) v next later = if takes_values a then option_case R a v next (later a) else flag_case R a v next

abbrev pub word_case : List Rule → Rule → List Row → Text → Option (Text × Option Text) → Option Text → (List Row → Option (List Row))
    → (Rule → Option (List Row)) → Option (List Row)
word_case c p R w (Some l) short next later = named R (arg_by_long c l.0) l.1 next later
word_case c p R w None (Some flags) next later = None
word_case c p R w None None next later = next (used p (w ∷ []) R)

abbrev pub value_case : Option (Text × Option Text) → Option Text → Option (List Row) → Option (List Row)
value_case (Some l) short next = None
value_case None (Some flags) next = None
value_case None None next = next

abbrev pub rest_of : Rule → List Row → List Text → List Row
rest_of p R words = fold (λ r w. used p (w ∷ []) r) R words

unfoldable mutual
  -- what the words add to R, where nothing waits for a value
  pub closed : List Rule → Rule → List Row → List Text → Option (List Row)
  closed c p R [] = Some R
  closed c p R (w ∷ ws) =
      if bytes_eq w dashes then Some (rest_of p R ws)
      else word_case c p R w (long_of w) (short_of w) (λ r. closed c p r ws) (λ a. opened c p a R ws)

  -- the same, where the option `a` waits for its value
  pub opened : List Rule → Rule → Rule → List Row → List Text → Option (List Row)
  opened c p a R [] = None
  opened c p a R (w ∷ ws) =
      if bytes_eq w dashes then None
      else value_case (long_of w) (short_of w) (fresh R a (closed c p (used a (w ∷ []) R) ws))
