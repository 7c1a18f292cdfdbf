-- The parts of words where the value of an option may be `-` too, as clap takes it; and the rows that parts make.
use Rattle.std.proofs.Common.{◌≡◌, ℕ, Bool, true, false, cond, List, [], ◌∷◌, Option, Some, None, map, refl, sym, ap, subst, ◌∙◌}
use Rattle.std.specs.Prelude.{if◌then◌else◌, ◌==◌, option_and_then}
use Rattle.std.proofs.lemmas.Slice.Eq.{bytes_eq-Decides}
use Rattle.std.specs.Str.{bytes_eq}
use Rattle.std.proofs.lemmas.Bool.{eqb-true}
use Rattle.clap.specs.Lexer.{long_of, short_of}
use Rattle.clap.specs.Walk.{Row, Rule, Text, arg_by_long, has_row, used}
use Rattle.ciel_words.specs.Parts.{Part, option, flag, word, dashes, is_positional, is_valued, is_unvalued, begins_with_two, name_in, value_in}
use Rattle.ciel_words.specs.Parts.{before, option_parts}
use Rattle.ciel_words.proofs.Grammar.{closed, opened, fresh, named, rest_of}
use Rattle.ciel_words.proofs.Instance.{top, words, RuleOf, an_option, a_flag, none, rule_of_name}
use Rattle.ciel_words.proofs.Instance as own

unfoldable mutual
  pub loose : List Text → Option (List Part)
  loose [] = Some []
  loose (w ∷ ws) =
      if bytes_eq w dashes then Some (map word ws)
      else if is_positional w then before (word w) (loose ws)
      else if begins_with_two w then option_parts (name_in w) (value_in w) (loose ws) (loose_value (name_in w) ws)
      else None

  pub loose_value : (name : Text) → List Text → Option (List Part)
  loose_value n [] = None
  loose_value n (v ∷ ws) = if is_positional v then before (option n v) (loose ws) else None

-- the rows of parts behind others; an option that stands there again is refused
abbrev pub added : List Row → List Part → Option (List Row)
added R [] = Some R
added R (option n v ∷ ps) = fresh R (own.option n) (added (used (own.option n) (v ∷ []) R) ps)
added R (flag n ∷ ps) = fresh R (own.flag n) (added (used (own.flag n) [] R) ps)
added R (word w ∷ ps) = added (used words (w ∷ []) R) ps

-- ---- what kind of word it is

pub data Kind (w : Text) : Type 0 where
  plain : is_positional w ≡ true → long_of w ≡ None → short_of w ≡ None → Kind w
  long : is_positional w ≡ false → begins_with_two w ≡ true → long_of w ≡ Some (name_in w, value_in w) → Kind w
  short : is_positional w ≡ false → begins_with_two w ≡ false → long_of w ≡ None → (flags : Text) → short_of w ≡ Some flags → Kind w

twice : (rest : List ℕ) → bytes_eq (45 ∷ 45 ∷ rest) dashes ≡ false → Kind (45 ∷ 45 ∷ rest)
twice [] d = absurd (let bad : true ≡ false = d in cc)
twice (x ∷ xs) d = long refl refl refl

once : (b : ℕ) (rest : List ℕ) → bytes_eq (45 ∷ b ∷ rest) dashes ≡ false → (k : Bool) → (b == 45) ≡ k → Kind (45 ∷ b ∷ rest)
once b rest d true e =
    subst (λ (x : ℕ). bytes_eq (45 ∷ x ∷ rest) dashes ≡ false → Kind (45 ∷ x ∷ rest)) (sym (eqb-true b 45 e)) (twice rest) d
once b rest d false e = short refl (rw e refl) (rw e refl) (b ∷ rest) (rw e refl)

dashed : (rest : List ℕ) → bytes_eq (45 ∷ rest) dashes ≡ false → Kind (45 ∷ rest)
dashed [] d = plain refl refl refl
dashed (b ∷ rest) d = once b rest d (b == 45) refl

begun : (a : ℕ) (rest : List ℕ) → bytes_eq (a ∷ rest) dashes ≡ false → (h : Bool) → (a == 45) ≡ h → Kind (a ∷ rest)
begun a rest d true e = subst (λ (x : ℕ). bytes_eq (x ∷ rest) dashes ≡ false → Kind (x ∷ rest)) (sym (eqb-true a 45 e)) (dashed rest) d
begun a rest d false e = plain (rw e refl) (rw e refl) (rw e refl)

pub kind_of : (w : Text) → bytes_eq w dashes ≡ false → Kind w
kind_of [] d = plain refl refl refl
kind_of (a ∷ rest) d = begun a rest d (a == 45) refl

-- ---- clap's rows are those of the parts

after_before : (R : List Row) (p : Part) (o : Option (List Part)) → option_and_then (added R) (before p o)
    ≡ option_and_then (λ ps. added R (p ∷ ps)) o
after_before R p None = refl
after_before R p (Some ps) = refl

none_either : {A : Type 0} (h : Bool) → cond {A = Option A} h None None ≡ None
none_either true = refl
none_either false = refl

fresh_over : (R : List Row) (a : Rule) (f : List Part → Option (List Row)) (o : Option (List Part)) → fresh R a (option_and_then f o)
    ≡ option_and_then (λ ps. fresh R a (f ps)) o
fresh_over R a f None = none_either (has_row a.id R)
fresh_over R a f (Some ps) = refl

rest_added : (ws : List Text) (R : List Row) → Some (rest_of words R ws) ≡ added R (map word ws)
rest_added [] R = refl
rest_added (w ∷ ws) R = rest_added ws (used words (w ∷ []) R)

abbrev pub Closed : List Text → Type 0
Closed ws = (R : List Row) → closed top.rules words R ws ≡ option_and_then (added R) (loose ws)

abbrev pub Opened : List Text → Type 0
Opened ws = (n : Text) (R : List Row) → opened top.rules words (own.option n) R ws ≡ option_and_then (added R) (loose_value n ws)

long_step : (n : Text) (v : Option Text) (ws : List Text) → Closed ws → Opened ws → (R : List Row)
    → RuleOf n (arg_by_long top.rules n) (is_valued n) (is_unvalued n)
    → named R (arg_by_long top.rules n) v (λ r. closed top.rules words r ws) (λ a. opened top.rules words a R ws)
    ≡ option_and_then (added R) (option_parts n v (loose ws) (loose_value n ws))
long_step n (Some x) ws rec later R (an_option e is t) =
    let with_it = used (own.option n) (x ∷ []) R in
    rw (e, t) (ap (fresh R (own.option n)) (rec with_it) ∙ fresh_over R (own.option n) (added with_it) (loose ws)
    ∙ sym (after_before R (option n x) (loose ws)))
long_step n None ws rec later R (an_option e is t) = rw (e, t) (later n R)
long_step n (Some x) ws rec later R (a_flag e is t u) = rw (e, t) refl
long_step n None ws rec later R (a_flag e is t u) =
    let with_it = used (own.flag n) [] R in
    rw (e, t, u) (ap (fresh R (own.flag n)) (rec with_it) ∙ fresh_over R (own.flag n) (added with_it) (loose ws)
    ∙ sym (after_before R (flag n) (loose ws)))
long_step n (Some x) ws rec later R (none e t u) = rw (e, t) refl
long_step n None ws rec later R (none e t u) = rw (e, t, u) refl

closed_kind : (w : Text) (ws : List Text) → Closed ws → Opened ws → (R : List Row) → bytes_eq w dashes ≡ false → Kind w
    → closed top.rules words R (w ∷ ws) ≡ option_and_then (added R) (loose (w ∷ ws))
unfolding closed loose
closed_kind w ws rec later R d (plain p l s) = rw (d, p, l, s) (rec (used words (w ∷ []) R) ∙ sym (after_before R (word w) (loose ws)))
closed_kind w ws rec later R d (long p t l) = rw (d, p, t, l) (long_step (name_in w) (value_in w) ws rec later R (rule_of_name (name_in w)))
closed_kind w ws rec later R d (short p t l flags s) = rw (d, p, t, l, s) refl

closed_step : (w : Text) (ws : List Text) → Closed ws → Opened ws → (R : List Row) → (d : Bool) → bytes_eq w dashes ≡ d
    → closed top.rules words R (w ∷ ws) ≡ option_and_then (added R) (loose (w ∷ ws))
unfolding closed loose
closed_step w ws rec later R true d = rw d (rest_added ws R)
closed_step w ws rec later R false d = closed_kind w ws rec later R d (kind_of w d)

opened_kind : (n w : Text) (ws : List Text) → Closed ws → (R : List Row) → bytes_eq w dashes ≡ false → Kind w
    → opened top.rules words (own.option n) R (w ∷ ws) ≡ option_and_then (added R) (loose_value n (w ∷ ws))
unfolding closed loose
opened_kind n w ws rec R d (plain p l s) =
    let with_it = used (own.option n) (w ∷ []) R in
    rw (d, p, l, s) (ap (fresh R (own.option n)) (rec with_it) ∙ fresh_over R (own.option n) (added with_it) (loose ws)
    ∙ sym (after_before R (option n w) (loose ws)))
opened_kind n w ws rec R d (long p t l) = rw (d, p, l) refl
opened_kind n w ws rec R d (short p t l flags s) = rw (d, p, l, s) refl

dashes_are : (w : Text) → bytes_eq w dashes ≡ true → is_positional w ≡ false
dashes_are w d = rw ((bytes_eq-Decides w dashes).0 d) refl

opened_step : (n w : Text) (ws : List Text) → Closed ws → (R : List Row) → (d : Bool) → bytes_eq w dashes ≡ d
    → opened top.rules words (own.option n) R (w ∷ ws) ≡ option_and_then (added R) (loose_value n (w ∷ ws))
unfolding closed loose
opened_step n w ws rec R true d = rw (d, dashes_are w d) refl
opened_step n w ws rec R false d = opened_kind n w ws rec R d (kind_of w d)

nothing_closed : Closed []
unfolding closed loose
nothing_closed R = refl

nothing_opened : Opened []
unfolding closed loose
nothing_opened n R = refl

both : (ws : List Text) → Closed ws × Opened ws
both [] = (nothing_closed, nothing_opened)
both (w ∷ ws) =
    let rec : Closed ws × Opened ws = both ws in
    (λ R. closed_step w ws rec.0 rec.1 R (bytes_eq w dashes) refl, λ n R. opened_step n w ws rec.0 R (bytes_eq w dashes) refl)

-- what clap makes of words is what their parts make
pub closed_is : (ws : List Text) → closed top.rules words [] ws ≡ option_and_then (added []) (loose ws)
closed_is ws = (both ws).0 []
