-- clap's walk over the words, against the grammar.
use Rattle.std.proofs.Common.{◌≡◌, ◌≢◌, ℕ, Bool, true, false, ◌&&◌, List, [], ◌∷◌, Option, Some, None, fold, refl, sym, ap, subst, ◌∙◌, ◌⊎◌, ⊎_elim}
use Rattle.std.proofs.Common.{slice_get}
use Rattle.std.proofs.lemmas.Bool.{cases_Bool}
use Rattle.std.proofs.lemmas.Str.{chars-nil}
use Rattle.std.specs.Str.{bytes_eq, chars}
use Rattle.clap.specs.Lexer.{long_of, short_of}
use Rattle.clap.specs.Kinds.{Kinds, or_else}
use Rattle.clap.specs.Walk.{Row, Rule, Text, Held, Waiting, idle, option, positional, Walk, arg_by_id, arg_by_index, arg_by_long, arg_by_short}
use Rattle.clap.specs.Walk.{action_of, is_append, has_row, most_values, settled, settled_rows, takes_several, takes_values, used, walked}
use Rattle.clap.specs.Simple.{Shape}
use Rattle.clap.specs.Faults.{flags_fault, settle_fault, turn_fault, use_fault, walk_fault}
use Rattle.clap.specs.declared.error.kind.ErrorKind.TheVariants as kind
use Rattle.ciel_words.proofs.Grammar.{closed, dashes, opened, rest_of}

abbrev pub H : List Row → Option (Text × List Text) → Held
H rows p = record { rows = rows; pending = p; skip = 0 }

abbrev pub W : List Row → Option (Text × List Text) → Waiting → Bool → Walk
W rows p wt tr = record { held = H rows p; waiting = wt; position = 1; is_trailing = tr; stopped = None }

-- no option waits for a value: nothing does, or a positional may go on
abbrev pub calm : Bool → Waiting
calm true = positional
calm false = idle

abbrev pub end : Shape → Walk → List Text → Walk
end s w words = fold (walked s.rules []) w words

abbrev pub Fine : Shape → Walk → List Text → Type 0
Fine s w words = (walk_fault s [] w words ≡ []) × (settle_fault s.rules s.args_override_self (end s w words).held ≡ [])

abbrev pub Verdict : Shape → Walk → List Text → Option (List Row) → Type 0
Verdict s w words None = Fine s w words → ⊥
Verdict s w words (Some R) = Fine s w words × ((settled s.rules (end s w words).held).rows ≡ R)

pub first_empty : (a b : Kinds) → or_else a b ≡ [] → a ≡ []
first_empty [] b e = refl
first_empty (k ∷ ks) b e = e

pub second_empty : (a b : Kinds) → a ≡ [] → or_else a b ≡ [] → b ≡ []
second_empty a b e f = sym (ap (λ x. or_else x b) e) ∙ f

pub both_empty : (a b : Kinds) → a ≡ [] → b ≡ [] → or_else a b ≡ []
both_empty a b e f = ap (λ x. or_else x b) e ∙ f

-- a word that is refused
stops : (s : Shape) (w : Walk) (word : Text) (words : List Text) → turn_fault s [] w word ≢ [] → Verdict s w (word ∷ words) None
unfolding walk_fault
stops s w word words h f = h (first_empty _ _ f.0)

-- a word that is taken
goes : (s : Shape) (w next : Walk) (word : Text) (words : List Text) (o : Option (List Row)) → turn_fault s [] w word ≡ []
    → walked s.rules [] w word ≡ next
    → Verdict s next words o → Verdict s w (word ∷ words) o
unfolding walk_fault
goes s w next word words None e f v = λ fine. v (
  sym (ap (λ x. walk_fault s [] x words) f) ∙ second_empty _ _ e fine.0,
  sym (ap (λ x. settle_fault s.rules s.args_override_self (end s x words).held) f) ∙ fine.1,
)
goes s w next word words (Some R) e f v = (
  (
    both_empty _ _ e (ap (λ x. walk_fault s [] x words) f ∙ v.0.0),
    ap (λ x. settle_fault s.rules s.args_override_self (end s x words).held) f
        ∙ v.0.1,
  ),
  ap (λ x. (settled s.rules (end s x words).held).rows) f ∙ v.1,
)

-- ---- one word, where nothing waits

at_dashes : (s : Shape) (r : List Row) (p : Option (Text × List Text)) (b : Bool) (w : Text) → bytes_eq w dashes ≡ true
    → (turn_fault s [] (W r p (calm b) false) w ≡ []) × (walked s.rules [] (W r p (calm b) false) w ≡ W r p (calm b) true)
unfolding walked
at_dashes s r p true w d = (rw d, rw d)
at_dashes s r p false w d = (rw d, rw d)

at_unknown : (s : Shape) (r : List Row) (p : Option (Text × List Text)) (b : Bool) (w n : Text) (v : Option Text) → bytes_eq w dashes ≡ false
    → long_of w ≡ Some (n, v)
    → arg_by_long s.rules n ≡ None → turn_fault s [] (W r p (calm b) false) w ≡ kind.UnknownArgument ∷ []
at_unknown s r p true w n v d l f = rw (d, l, f)
at_unknown s r p false w n v d l f = rw (d, l, f)

-- `--option=value`
at_option_value : (s : Shape) (r : List Row) (p : Option (Text × List Text)) (b : Bool) (w n v : Text) (a : Rule) → bytes_eq w dashes ≡ false
    → long_of w ≡ Some (n, Some v)
    → arg_by_long s.rules n ≡ Some a → takes_values a ≡ true
    → (turn_fault s [] (W r p (calm b) false) w
    ≡ or_else (or_else (settle_fault s.rules s.args_override_self (H r p))
    (use_fault s.args_override_self a (v ∷ []) (settled_rows s.rules p r))) [])
    × (walked s.rules [] (W r p (calm b) false) w ≡ W (used a (v ∷ []) (settled_rows s.rules p r)) None idle false)
unfolding walked
at_option_value s r p true w n v a d l f t = (rw (d, l, f, t), rw (d, l, f, t))
at_option_value s r p false w n v a d l f t = (rw (d, l, f, t), rw (d, l, f, t))

-- `--option`
at_option : (s : Shape) (r : List Row) (p : Option (Text × List Text)) (b : Bool) (w n : Text) (a : Rule) → bytes_eq w dashes ≡ false → long_of w
    ≡ Some (n, None)
    → arg_by_long s.rules n ≡ Some a → takes_values a ≡ true
    → (turn_fault s [] (W r p (calm b) false) w ≡ or_else (settle_fault s.rules s.args_override_self (H r p)) [])
    × (walked s.rules [] (W r p (calm b) false) w ≡ W (settled_rows s.rules p r) (Some (a.id, [])) (option a.id) false)
unfolding walked
at_option s r p true w n a d l f t = (rw (d, l, f, t), rw (d, l, f, t))
at_option s r p false w n a d l f t = (rw (d, l, f, t), rw (d, l, f, t))

-- `--flag`
at_flag : (s : Shape) (r : List Row) (p : Option (Text × List Text)) (b : Bool) (w n : Text) (a : Rule) → bytes_eq w dashes ≡ false → long_of w
    ≡ Some (n, None)
    → arg_by_long s.rules n ≡ Some a → takes_values a ≡ false
    → (turn_fault s [] (W r p (calm b) false) w
    ≡ or_else (or_else (settle_fault s.rules s.args_override_self (H r p)) (use_fault s.args_override_self a [] (settled_rows s.rules p r)))
    [])
    × (walked s.rules [] (W r p (calm b) false) w ≡ W (used a [] (settled_rows s.rules p r)) None idle false)
unfolding walked
at_flag s r p true w n a d l f t = (rw (d, l, f, t), rw (d, l, f, t))
at_flag s r p false w n a d l f t = (rw (d, l, f, t), rw (d, l, f, t))

-- `--flag=value`
at_flag_value : (s : Shape) (r : List Row) (p : Option (Text × List Text)) (b : Bool) (w n v : Text) (a : Rule) → bytes_eq w dashes ≡ false
    → long_of w ≡ Some (n, Some v)
    → arg_by_long s.rules n ≡ Some a → takes_values a ≡ false → turn_fault s [] (W r p (calm b) false) w ≡ kind.TooManyValues ∷ []
at_flag_value s r p true w n v a d l f t = rw (d, l, f, t)
at_flag_value s r p false w n v a d l f t = rw (d, l, f, t)

-- ---- what the theorem needs of a command

pub record IsOption (s : Shape) (a : Rule) : Type 0 where
  pub takes : takes_values a ≡ true
  pub most : most_values a ≡ 1
  pub by_id : arg_by_id s.rules a.id ≡ Some a
  pub same : bytes_eq a.id a.id ≡ true
  pub none : (R : List Row) → use_fault s.args_override_self a [] R ≢ []
  pub one : (v : Text) (R : List Row) → has_row a.id R ≡ false → use_fault s.args_override_self a (v ∷ []) R ≡ []
  pub twice : (v : Text) (R : List Row) → has_row a.id R ≡ true → use_fault s.args_override_self a (v ∷ []) R ≢ []

pub record IsFlag (s : Shape) (a : Rule) : Type 0 where
  pub takes : takes_values a ≡ false
  pub one : (R : List Row) → has_row a.id R ≡ false → use_fault s.args_override_self a [] R ≡ []
  pub twice : (R : List Row) → has_row a.id R ≡ true → use_fault s.args_override_self a [] R ≢ []

pub record IsLine (s : Shape) (q : Rule) : Type 0 where
  pub named : (n : Text) (a : Rule) → arg_by_long s.rules n ≡ Some a → IsOption s a ⊎ IsFlag s a
  pub at : arg_by_index s.rules 1 ≡ Some q
  pub several : takes_several q ≡ false
  pub appends : is_append (action_of q) ≡ true
  pub trailing : q.trailing_var_arg ≡ false
  pub by_id : arg_by_id s.rules q.id ≡ Some q
  pub one : (v : Text) (R : List Row) → use_fault s.args_override_self q (v ∷ []) R ≡ []
  pub no_short : (x : ℕ) → arg_by_short s.rules x ≡ None

-- what follows a single hyphen has a first character, as in every text
abbrev pub IsSpelled : Text → Type 0
IsSpelled w = (flags : Text) → short_of w ≡ Some flags → (x : ℕ) × (slice_get (chars flags) 0 ≡ Some x)

abbrev pub AreSpelled : List Text → Type 0
AreSpelled [] = Unit {0}
AreSpelled (w ∷ ws) = IsSpelled w × AreSpelled ws

and_no : (b : Bool) → (b && false) ≡ false
and_no true = refl
and_no false = refl

-- ---- more words

at_short : (s : Shape) (q : Rule) → IsLine s q → (r : List Row) (p : Option (Text × List Text)) (b : Bool) (w flags : Text) → bytes_eq w dashes
    ≡ false → long_of w ≡ None → short_of w ≡ Some flags
    → (x : ℕ) → slice_get (chars flags) 0 ≡ Some x → turn_fault s [] (W r p (calm b) false) w ≢ []
unfolding flags_fault
at_short s q line r p b w [] d l f x g = λ e. (let bad : slice_get (chars []) 0 ≡ None = rw chars-nil in (cc))
at_short s q line r p true w (y ∷ ys) d l f x g =
    λ e. (let same : turn_fault s [] (W r p positional false) w ≡ kind.UnknownArgument ∷ [] = rw (d, l, f, g, line.no_short x) in (cc))
at_short s q line r p false w (y ∷ ys) d l f x g =
    λ e. (let same : turn_fault s [] (W r p idle false) w ≡ kind.UnknownArgument ∷ [] = rw (d, l, f, g, line.no_short x) in (cc))

at_plain : (s : Shape) (q : Rule) → IsLine s q → (r : List Row) (p : Option (Text × List Text)) (b : Bool) (w : Text) → bytes_eq w dashes ≡ false
    → long_of w ≡ None → short_of w ≡ None
    → (turn_fault s [] (W r p (calm b) false) w ≡ settle_fault s.rules s.args_override_self (H r p))
    × (walked s.rules [] (W r p (calm b) false) w ≡ W (settled_rows s.rules p r) (Some (q.id, w ∷ [])) positional false)
unfolding walked
at_plain s q line r p true w d l f = (
  rw (d, l, f, line.at, line.several, and_no),
  rw (d, l, f, line.at, line.several, and_no, line.appends, line.trailing),
)
at_plain s q line r p false w d l f = (
  rw (d, l, f, line.at, line.several, and_no),
  rw (d, l, f, line.at, line.several, and_no, line.appends, line.trailing),
)

after_dashes : (s : Shape) (q : Rule) → IsLine s q → (r : List Row) (p : Option (Text × List Text)) (wt : Waiting) (w : Text)
    → (turn_fault s [] (W r p wt true) w ≡ settle_fault s.rules s.args_override_self (H r p))
    × (walked s.rules [] (W r p wt true) w ≡ W (settled_rows s.rules p r) (Some (q.id, w ∷ [])) positional true)
unfolding walked
after_dashes s q line r p wt w = (rw (line.at, line.several, and_no), rw (line.at, line.several, and_no, line.appends))

-- ---- where an option waits for its value

abbrev pub waits : List Row → Rule → Walk
waits r a = W r (Some (a.id, [])) (option a.id) false

no_value : (s : Shape) (a : Rule) → IsOption s a → (r : List Row) → settle_fault s.rules s.args_override_self (H r (Some (a.id, []))) ≢ []
no_value s a is r = rw is.by_id (is.none r)

opened_dashes : (s : Shape) (a : Rule) (r : List Row) (w : Text) → bytes_eq w dashes ≡ true
    → (turn_fault s [] (waits r a) w ≡ []) × (walked s.rules [] (waits r a) w ≡ W r (Some (a.id, [])) (option a.id) true)
unfolding walked
opened_dashes s a r w d = (rw d, rw d)

left_over : (a b : Kinds) → a ≢ [] → or_else a b ≢ []
left_over a b h e = h (first_empty a b e)

opened_option : (s : Shape) (a : Rule) (r : List Row) (w n : Text) (x : Rule) → bytes_eq w dashes ≡ false → (v : Option Text) → long_of w
    ≡ Some (n, v) → arg_by_long s.rules n ≡ Some x
    → takes_values x ≡ true → settle_fault s.rules s.args_override_self (H r (Some (a.id, []))) ≢ [] → turn_fault s [] (waits r a) w ≢ []
opened_option s a r w n x d None l f t nope = rw (d, l, f, t) (left_over _ _ nope)
opened_option s a r w n x d (Some v) l f t nope = rw (d, l, f, t) (left_over _ _ (left_over _ _ nope))

opened_flag : (s : Shape) (a : Rule) (r : List Row) (w n : Text) (x : Rule) → bytes_eq w dashes ≡ false → (v : Option Text) → long_of w
    ≡ Some (n, v) → arg_by_long s.rules n ≡ Some x
    → takes_values x ≡ false → settle_fault s.rules s.args_override_self (H r (Some (a.id, []))) ≢ [] → turn_fault s [] (waits r a) w ≢ []
opened_flag s a r w n x d None l f t nope = rw (d, l, f, t) (left_over _ _ (left_over _ _ nope))
opened_flag s a r w n x d (Some v) l f t nope = λ e. (let same : turn_fault s [] (waits r a) w ≡ kind.TooManyValues ∷ [] = rw (d, l, f, t) in (cc))

opened_long : (s : Shape) (q : Rule) → IsLine s q → (a : Rule) → IsOption s a → (r : List Row) (w n : Text) (v : Option Text) → bytes_eq w dashes
    ≡ false → long_of w ≡ Some (n, v)
    → (o : Option Rule) → arg_by_long s.rules n ≡ o → turn_fault s [] (waits r a) w ≢ []
opened_long s q line a is r w n v d l None f = λ e. (let same : turn_fault s [] (waits r a) w ≡ kind.UnknownArgument ∷ [] = rw (d, l, f) in (cc))
opened_long s q line a is r w n v d l (Some x) f =
    let nope = no_value s a is r in
    ⊎_elim
    (λ option_is. opened_option s a r w n x d v l f option_is.takes nope)
    (λ flag_is. opened_flag s a r w n x d v l f flag_is.takes nope)
    (line.named n x f)

opened_plain : (s : Shape) (a : Rule) → IsOption s a → (r : List Row) (w : Text) → bytes_eq w dashes ≡ false → long_of w ≡ None → short_of w ≡ None
    → (turn_fault s [] (waits r a) w ≡ []) × (walked s.rules [] (waits r a) w ≡ W r (Some (a.id, w ∷ [])) idle false)
unfolding walked
opened_plain s a is r w d l f = (rw (d, l, f), rw (d, l, f, is.by_id, is.same, is.most))

opened_short : (s : Shape) (q : Rule) → IsLine s q → (a : Rule) (r : List Row) (w flags : Text) → bytes_eq w dashes ≡ false → long_of w ≡ None
    → short_of w ≡ Some flags
    → (x : ℕ) → slice_get (chars flags) 0 ≡ Some x → turn_fault s [] (waits r a) w ≢ []
unfolding flags_fault
opened_short s q line a r w [] d l f x g = λ e. (let bad : slice_get (chars []) 0 ≡ None = rw chars-nil in (cc))
opened_short s q line a r w (y ∷ ys) d l f x g =
    λ e. (let same : turn_fault s [] (waits r a) w ≡ kind.UnknownArgument ∷ [] = rw (d, l, f, g, line.no_short x) in (cc))

-- ---- after `--`

one_more : (s : Shape) (q : Rule) → IsLine s q → (w : Text) (R : List Row) → settled_rows s.rules (Some (q.id, w ∷ [])) R ≡ used q (w ∷ []) R
one_more s q line w R = rw line.by_id

one_passes : (s : Shape) (q : Rule) → IsLine s q → (w : Text) (R : List Row)
    → settle_fault s.rules s.args_override_self (H R (Some (q.id, w ∷ []))) ≡ []
one_passes s q line w R = rw line.by_id (line.one w R)

trail : (s : Shape) (q : Rule) → IsLine s q → (r : List Row) (p : Option (Text × List Text)) (wt : Waiting)
    → settle_fault s.rules s.args_override_self (H r p) ≡ [] → (ws : List Text)
    → Verdict s (W r p wt true) ws (Some (rest_of q (settled_rows s.rules p r) ws))
unfolding walk_fault
trail s q line r p wt z [] = ((refl, z), refl)
trail s q line r p wt z (w ∷ ws) =
    let R = settled_rows s.rules p r in
    let step = after_dashes s q line r p wt w in
    let rest = trail s q line R (Some (q.id, w ∷ [])) positional (one_passes s q line w R) ws in
    subst (λ (x : List Row). Verdict s (W r p wt true) (w ∷ ws) (Some (rest_of q x ws))) (one_more s q line w R)
    (goes s (W r p wt true) _ w ws (Some (rest_of q (settled_rows s.rules (Some (q.id, w ∷ [])) R) ws)) (step.0 ∙ z) step.1 rest)

doom_trail : (s : Shape) (q : Rule) → IsLine s q → (r : List Row) (p : Option (Text × List Text)) (wt : Waiting)
    → settle_fault s.rules s.args_override_self (H r p) ≢ [] → (ws : List Text)
    → Verdict s (W r p wt true) ws None
doom_trail s q line r p wt h [] = λ f. h f.1
doom_trail s q line r p wt h (w ∷ ws) = stops s _ w ws (λ e. h (sym (after_dashes s q line r p wt w).0 ∙ e))

-- ---- a use that is refused, not seen yet

doom_long : (s : Shape) (q : Rule) → IsLine s q → (r : List Row) (p : Option (Text × List Text)) (b : Bool)
    → settle_fault s.rules s.args_override_self (H r p) ≢ [] → (w n : Text) (v : Option Text) → bytes_eq w dashes ≡ false
    → long_of w ≡ Some (n, v) → (o : Option Rule) → arg_by_long s.rules n ≡ o → turn_fault s [] (W r p (calm b) false) w ≢ []
doom_long s q line r p b h w n v d l None f = λ e. (let same = at_unknown s r p b w n v d l f in (cc))
doom_long s q line r p b h w n None d l (Some a) f =
    ⊎_elim
    (λ is. λ e. left_over _ _ h (sym (at_option s r p b w n a d l f is.takes).0 ∙ e))
    (λ is. λ e. left_over _ _ (left_over _ _ h) (sym (at_flag s r p b w n a d l f is.takes).0 ∙ e))
    (line.named n a f)
doom_long s q line r p b h w n (Some v) d l (Some a) f =
    ⊎_elim
    (λ is. λ e. left_over _ _ (left_over _ _ h) (sym (at_option_value s r p b w n v a d l f is.takes).0 ∙ e))
    (λ is. λ e. (let same = at_flag_value s r p b w n v a d l f is.takes in (cc)))
    (line.named n a f)

doom_word : (s : Shape) (q : Rule) → IsLine s q → (r : List Row) (p : Option (Text × List Text)) (b : Bool)
    → settle_fault s.rules s.args_override_self (H r p) ≢ [] → (w : Text) → IsSpelled w → bytes_eq w dashes ≡ false
    → (o : Option (Text × Option Text)) → long_of w ≡ o → (f : Option Text) → short_of w ≡ f → turn_fault s [] (W r p (calm b) false) w ≢ []
doom_word s q line r p b h w sp d (Some (n, v)) l f e = doom_long s q line r p b h w n v d l (arg_by_long s.rules n) refl
doom_word s q line r p b h w sp d None l (Some flags) e = let first = sp flags e in at_short s q line r p b w flags d l e first.0 first.1
doom_word s q line r p b h w sp d None l None e = λ k. h (sym (at_plain s q line r p b w d l e).0 ∙ k)

doom : (s : Shape) (q : Rule) → IsLine s q → (r : List Row) (p : Option (Text × List Text)) (b : Bool)
    → settle_fault s.rules s.args_override_self (H r p) ≢ [] → (ws : List Text) → AreSpelled ws
    → Verdict s (W r p (calm b) false) ws None
doom s q line r p b h [] sp = λ f. h f.1
doom s q line r p b h (w ∷ ws) sp =
    ⊎_elim
    (λ d. let step = at_dashes s r p b w d in goes s _ _ w ws None step.0 step.1 (doom_trail s q line r p (calm b) h ws))
    (λ d. stops s _ w ws (doom_word s q line r p b h w sp.0 d (long_of w) refl (short_of w) refl))
    (cases_Bool (bytes_eq w dashes))

-- ---- the theorem, for what follows one word

abbrev pub Closes : Shape → Rule → List Text → Type 0
Closes s q ws = (r : List Row) (p : Option (Text × List Text)) (b : Bool) → settle_fault s.rules s.args_override_self (H r p) ≡ []
    → Verdict s (W r p (calm b) false) ws (closed s.rules q (settled_rows s.rules p r) ws)

abbrev pub Opens : Shape → Rule → List Text → Type 0
Opens s q ws = (a : Rule) → IsOption s a → (r : List Row) → Verdict s (waits r a) ws (opened s.rules q a r ws)

-- an answer by another name
as_answer : (s : Shape) (w : Walk) (ws : List Text) (x y : Option (List Row)) → x ≡ y → Verdict s w ws y → Verdict s w ws x
as_answer s w ws x y e v = subst (λ (o : Option (List Row)). Verdict s w ws o) (sym e) v

close_value : (s : Shape) (q : Rule) → (a : Rule) → IsOption s a → (r : List Row) (p : Option (Text × List Text)) (b : Bool)
    → settle_fault s.rules s.args_override_self (H r p) ≡ [] → (w n v : Text) (ws : List Text)
    → bytes_eq w dashes ≡ false → long_of w ≡ Some (n, Some v) → arg_by_long s.rules n ≡ Some a → Closes s q ws → (h : Bool)
    → has_row a.id (settled_rows s.rules p r) ≡ h
    → Verdict s (W r p (calm b) false) (w ∷ ws) (closed s.rules q (settled_rows s.rules p r) (w ∷ ws))
unfolding closed
close_value s q a is r p b z w n v ws d l f rec true h =
    let R = settled_rows s.rules p r in
    let step = at_option_value s r p b w n v a d l f is.takes in
    as_answer s _ _ _ None (rw (d, l, f, is.takes, h)) (stops s _ w ws (λ e. is.twice v R h (second_empty _ _ z (first_empty _ _ (sym step.0 ∙ e)))))
close_value s q a is r p b z w n v ws d l f rec false h =
    let R = settled_rows s.rules p r in
    let step = at_option_value s r p b w n v a d l f is.takes in
    as_answer s _ _ _ (closed s.rules q (used a (v ∷ []) R) ws) (rw (d, l, f, is.takes, h))
    (goes s _ _ w ws _ (step.0 ∙ both_empty _ _ (both_empty _ _ z (is.one v R h)) refl) step.1 (rec (used a (v ∷ []) R) None false refl))

close_flag : (s : Shape) (q : Rule) → (a : Rule) → IsFlag s a → (r : List Row) (p : Option (Text × List Text)) (b : Bool)
    → settle_fault s.rules s.args_override_self (H r p) ≡ [] → (w n : Text) (ws : List Text)
    → bytes_eq w dashes ≡ false → long_of w ≡ Some (n, None) → arg_by_long s.rules n ≡ Some a → Closes s q ws → (h : Bool)
    → has_row a.id (settled_rows s.rules p r) ≡ h
    → Verdict s (W r p (calm b) false) (w ∷ ws) (closed s.rules q (settled_rows s.rules p r) (w ∷ ws))
unfolding closed
close_flag s q a is r p b z w n ws d l f rec true h =
    let R = settled_rows s.rules p r in
    let step = at_flag s r p b w n a d l f is.takes in
    as_answer s _ _ _ None (rw (d, l, f, is.takes, h)) (stops s _ w ws (λ e. is.twice R h (second_empty _ _ z (first_empty _ _ (sym step.0 ∙ e)))))
close_flag s q a is r p b z w n ws d l f rec false h =
    let R = settled_rows s.rules p r in
    let step = at_flag s r p b w n a d l f is.takes in
    as_answer s _ _ _ (closed s.rules q (used a [] R) ws) (rw (d, l, f, is.takes, h))
    (goes s _ _ w ws _ (step.0 ∙ both_empty _ _ (both_empty _ _ z (is.one R h)) refl) step.1 (rec (used a [] R) None false refl))

close_long : (s : Shape) (q : Rule) → IsLine s q → (r : List Row) (p : Option (Text × List Text)) (b : Bool)
    → settle_fault s.rules s.args_override_self (H r p) ≡ [] → (w n : Text) (v : Option Text) (ws : List Text)
    → bytes_eq w dashes ≡ false → long_of w ≡ Some (n, v) → (o : Option Rule) → arg_by_long s.rules n ≡ o → Closes s q ws → Opens s q ws
    → Verdict s (W r p (calm b) false) (w ∷ ws) (closed s.rules q (settled_rows s.rules p r) (w ∷ ws))
unfolding closed
close_long s q line r p b z w n v ws d l None f rec later =
    as_answer s _ _ _ None (rw (d, l, f)) (stops s _ w ws (λ e. (let same = at_unknown s r p b w n v d l f in (cc))))
close_long s q line r p b z w n None ws d l (Some a) f rec later =
    let R = settled_rows s.rules p r in
    ⊎_elim
    (λ is. let step = at_option s r p b w n a d l f is.takes in
    as_answer s _ _ _ (opened s.rules q a R ws) (rw (d, l, f, is.takes)) (goes s _ _ w ws _ (step.0 ∙ both_empty _ _ z refl) step.1 (later a is R)))
    (λ is. close_flag s q a is r p b z w n ws d l f rec (has_row a.id R) refl)
    (line.named n a f)
close_long s q line r p b z w n (Some v) ws d l (Some a) f rec later =
    let R = settled_rows s.rules p r in
    ⊎_elim
    (λ is. close_value s q a is r p b z w n v ws d l f rec (has_row a.id R) refl)
    (λ is. as_answer s _ _ _ None (rw (d, l, f, is.takes)) (stops s _ w ws (λ e. (let same = at_flag_value s r p b w n v a d l f is.takes in (cc)))))
    (line.named n a f)

close_word : (s : Shape) (q : Rule) → IsLine s q → (r : List Row) (p : Option (Text × List Text)) (b : Bool)
    → settle_fault s.rules s.args_override_self (H r p) ≡ [] → (w : Text) (ws : List Text) → IsSpelled w
    → bytes_eq w dashes ≡ false → (o : Option (Text × Option Text)) → long_of w ≡ o → (f : Option Text) → short_of w ≡ f → Closes s q ws
    → Opens s q ws
    → Verdict s (W r p (calm b) false) (w ∷ ws) (closed s.rules q (settled_rows s.rules p r) (w ∷ ws))
unfolding closed
close_word s q line r p b z w ws sp d (Some (n, v)) l f e rec later = close_long s q line r p b z w n v ws d l (arg_by_long s.rules n) refl rec later
close_word s q line r p b z w ws sp d None l (Some flags) e rec later =
    let first = sp flags e in
    as_answer s _ _ _ None (rw (d, l, e)) (stops s _ w ws (at_short s q line r p b w flags d l e first.0 first.1))
close_word s q line r p b z w ws sp d None l None e rec later =
    let R = settled_rows s.rules p r in
    let step = at_plain s q line r p b w d l e in
    as_answer s _ _ _ (closed s.rules q (used q (w ∷ []) R) ws) (rw (d, l, e))
    (goes s _ _ w ws _ (step.0 ∙ z) step.1
    (subst (λ (x : List Row). Verdict s (W R (Some (q.id, w ∷ [])) positional false) ws (closed s.rules q x ws)) (one_more s q line w R)
    (rec R (Some (q.id, w ∷ [])) true (one_passes s q line w R))))

open_value : (s : Shape) (q : Rule) → IsLine s q → (a : Rule) → IsOption s a → (r : List Row) (w : Text) (ws : List Text) → AreSpelled ws
    → bytes_eq w dashes ≡ false → long_of w ≡ None → short_of w ≡ None → Closes s q ws
    → (h : Bool) → has_row a.id r ≡ h → Verdict s (waits r a) (w ∷ ws) (opened s.rules q a r (w ∷ ws))
unfolding closed
open_value s q line a is r w ws sp d l f rec true h =
    let step = opened_plain s a is r w d l f in
    let again : settle_fault s.rules s.args_override_self (H r (Some (a.id, w ∷ []))) ≢ [] = rw is.by_id (is.twice w r h) in
    as_answer s _ _ _ None (rw (d, l, f, h)) (goes s _ _ w ws None step.0 step.1 (doom s q line r (Some (a.id, w ∷ [])) false again ws sp))
open_value s q line a is r w ws sp d l f rec false h =
    let step = opened_plain s a is r w d l f in
    let once : settle_fault s.rules s.args_override_self (H r (Some (a.id, w ∷ []))) ≡ [] = rw is.by_id (is.one w r h) in
    let rows : settled_rows s.rules (Some (a.id, w ∷ [])) r ≡ used a (w ∷ []) r = rw is.by_id in
    as_answer s _ _ _ (closed s.rules q (used a (w ∷ []) r) ws) (rw (d, l, f, h))
    (goes s _ _ w ws _ step.0 step.1
    (subst (λ (x : List Row). Verdict s (W r (Some (a.id, w ∷ [])) idle false) ws (closed s.rules q x ws)) rows
    (rec r (Some (a.id, w ∷ [])) false once)))

open_word : (s : Shape) (q : Rule) → IsLine s q → (a : Rule) → IsOption s a → (r : List Row) (w : Text) (ws : List Text) → IsSpelled w
    → AreSpelled ws → bytes_eq w dashes ≡ false
    → (o : Option (Text × Option Text)) → long_of w ≡ o → (f : Option Text) → short_of w ≡ f → Closes s q ws
    → Verdict s (waits r a) (w ∷ ws) (opened s.rules q a r (w ∷ ws))
unfolding closed
open_word s q line a is r w ws sp more d (Some (n, v)) l f e rec =
    as_answer s _ _ _ None (rw (d, l)) (stops s _ w ws (opened_long s q line a is r w n v d l (arg_by_long s.rules n) refl))
open_word s q line a is r w ws sp more d None l (Some flags) e rec =
    let first = sp flags e in
    as_answer s _ _ _ None (rw (d, l, e)) (stops s _ w ws (opened_short s q line a r w flags d l e first.0 first.1))
open_word s q line a is r w ws sp more d None l None e rec = open_value s q line a is r w ws more d l e rec (has_row a.id r) refl

close_dashes : (s : Shape) (q : Rule) → IsLine s q → (w : Text) (ws : List Text) → bytes_eq w dashes ≡ true
    → (r : List Row) (p : Option (Text × List Text)) (b : Bool)
    → settle_fault s.rules s.args_override_self (H r p) ≡ []
    → Verdict s (W r p (calm b) false) (w ∷ ws) (closed s.rules q (settled_rows s.rules p r) (w ∷ ws))
unfolding closed
close_dashes s q line w ws d r p b z =
    let step = at_dashes s r p b w d in
    let R : List Row = rest_of q (settled_rows s.rules p r) ws in
    as_answer s (W r p (calm b) false) (w ∷ ws) (closed s.rules q (settled_rows s.rules p r) (w ∷ ws)) (Some R) (rw d)
    (goes s (W r p (calm b) false) (W r p (calm b) true) w ws (Some R) step.0 step.1 (trail s q line r p (calm b) z ws))

open_dashes : (s : Shape) (q : Rule) → IsLine s q → (w : Text) (ws : List Text) → bytes_eq w dashes ≡ true → (a : Rule) → IsOption s a
    → (r : List Row)
    → Verdict s (waits r a) (w ∷ ws) (opened s.rules q a r (w ∷ ws))
unfolding closed
open_dashes s q line w ws d a is r =
    let step = opened_dashes s a r w d in
    as_answer s (waits r a) (w ∷ ws) (opened s.rules q a r (w ∷ ws)) None (rw d)
    (goes s (waits r a) (W r (Some (a.id, [])) (option a.id) true) w ws None step.0 step.1
    (doom_trail s q line r (Some (a.id, [])) (option a.id) (no_value s a is r) ws))

close_nil : (s : Shape) (q : Rule) → Closes s q []
unfolding closed walk_fault
close_nil s q r p b z = ((refl, z), refl)

open_nil : (s : Shape) (q : Rule) → Opens s q []
unfolding closed
open_nil s q a is r = λ f. no_value s a is r f.1

both : (s : Shape) (q : Rule) → IsLine s q → (ws : List Text) → AreSpelled ws → Closes s q ws × Opens s q ws
both s q line [] sp = (close_nil s q, open_nil s q)
both s q line (w ∷ ws) sp =
    let rec : Closes s q ws × Opens s q ws = both s q line ws sp.1 in (
      λ r p b z. ⊎_elim (λ d. close_dashes s q line w ws d r p b z)
          (λ d. close_word s q line r p b z w ws sp.0 d (long_of w) refl (short_of w) refl rec.0 rec.1) (cases_Bool (bytes_eq w dashes)),
      λ a is r. ⊎_elim (λ d. open_dashes s q line w ws d a is r)
          (λ d. open_word s q line a is r w ws sp.0 sp.1 d (long_of w) refl (short_of w) refl rec.0) (cases_Bool (bytes_eq w dashes)),
    )

-- clap's walk from nothing
pub walk_is_line : (s : Shape) (q : Rule) → IsLine s q → (ws : List Text) → AreSpelled ws
    → Verdict s (W [] None idle false) ws (closed s.rules q [] ws)
walk_is_line s q line ws sp = (both s q line ws sp).0 [] None false refl
