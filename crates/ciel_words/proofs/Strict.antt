-- The parts of a line, beside those where the value of an option may be `-` too: they are the same but where `-` stands as such a value behind its
-- option, and then the words are no line.
use Rattle.std.proofs.Common.{◌≡◌, ℕ, Bool, true, false, ◌||◌, ◌&&◌, cond, List, [], ◌∷◌, ◌++◌, Option, Some, None, codes, drop, map, take, refl, sym, ap, ap₂}
use Rattle.std.proofs.Common.{◌∙◌, ◌+◌, suc, ⊎_elim, subst, arith}
use Rattle.std.specs.List.{before_first, list_any, position_or_len}
use Rattle.std.specs.Str.{bytes_eq}
use Rattle.std.proofs.lemmas.Bool.{cases_Bool}
use Rattle.std.proofs.lemmas.List.{take-append-drop}
use Rattle.ciel_words.specs.Inputs.{all_apart, is_equals}
use Rattle.ciel_words.specs.Line.{line_with, line_of}
use Rattle.ciel_words.specs.Parts.{Text, Part, option, flag, word, dashes, before, begins_with_dash, begins_with_two, is_positional, is_valued}
use Rattle.ciel_words.specs.Parts.{is_unvalued, name_in, names_of, option_parts, parts_of, value_in, with_value}
use Rattle.ciel_words.specs.Raw.{dash_behind, takes_next}
use Rattle.ciel_words.proofs.Loose.{loose, loose_value}
use Rattle.ciel_words.proofs.Rows.{AllOk, differ, is, same}

-- ---- each part is one of the command's

abbrev pub Ok : Option (List Part) → Type 0
Ok None = Unit {0}
Ok (Some ps) = AllOk ps

abbrev pub PartOk : Part → Type 0
PartOk (option n v) = is_valued n ≡ true
PartOk (flag n) = (is_valued n ≡ false) × (is_unvalued n ≡ true)
PartOk (word w) = Unit {0}

ok_more : (p : Part) (ps : List Part) → PartOk p → AllOk ps → AllOk (p ∷ ps)
ok_more (option n v) ps e ok = (e, ok)
ok_more (flag n) ps e ok = (e.0, e.1, ok)
ok_more (word w) ps e ok = ok

ok_before : (p : Part) → PartOk p → (o : Option (List Part)) → Ok o → Ok (before p o)
ok_before p e None ok = tt
ok_before p e (Some ps) ok = ok_more p ps e ok

parts_are_ok : (n : Text) (v : Option Text) (l next : Option (List Part)) → Ok l → (is_valued n ≡ true → Ok next) → Ok (option_parts n v l next)
parts_are_ok n (Some x) l next ok later = ⊎_elim
    (λ (t : is_valued n ≡ true). rw t (ok_before (option n x) t l ok))
    (λ (t : is_valued n ≡ false). rw t tt)
    (cases_Bool (is_valued n))
parts_are_ok n None l next ok later = ⊎_elim
    (λ (t : is_valued n ≡ true). rw t (later t))
    (λ (t : is_valued n ≡ false). ⊎_elim
    (λ (u : is_unvalued n ≡ true). rw (t, u) (ok_before (flag n) (t, u) l ok))
    (λ (u : is_unvalued n ≡ false). rw (t, u) tt)
    (cases_Bool (is_unvalued n)))
    (cases_Bool (is_valued n))

words_ok : (ws : List Text) → AllOk (map word ws)
words_ok [] = tt
words_ok (w ∷ ws) = words_ok ws

abbrev pub OkBehind : List Text → Type 0
OkBehind ws = (n : Text) → is_valued n ≡ true → Ok (loose_value n ws)

ok_word : (w : Text) (ws : List Text) → Ok (loose ws) → OkBehind ws → Ok (loose (w ∷ ws))
unfolding loose
ok_word w ws here behind = ⊎_elim
    (λ (d : bytes_eq w dashes ≡ true). rw d (words_ok ws))
    (λ (d : bytes_eq w dashes ≡ false). ⊎_elim
    (λ (p : is_positional w ≡ true). rw (d, p) (ok_before (word w) tt (loose ws) here))
    (λ (p : is_positional w ≡ false). ⊎_elim
    (λ (t : begins_with_two w ≡ true). rw (d, p, t)
    (parts_are_ok (name_in w) (value_in w) (loose ws) (loose_value (name_in w) ws) here (behind (name_in w))))
    (λ (t : begins_with_two w ≡ false). rw (d, p, t) tt)
    (cases_Bool (begins_with_two w)))
    (cases_Bool (is_positional w)))
    (cases_Bool (bytes_eq w dashes))

ok_value : (v : Text) (ws : List Text) → Ok (loose ws) → OkBehind (v ∷ ws)
unfolding loose
ok_value v ws here n e = ⊎_elim
    (λ (p : is_positional v ≡ true). rw p (ok_before (option n v) e (loose ws) here))
    (λ (p : is_positional v ≡ false). rw p tt)
    (cases_Bool (is_positional v))

ok_here : Ok (loose [])
unfolding loose
ok_here = tt

ok_behind : OkBehind []
unfolding loose
ok_behind n e = tt

both_ok : (ws : List Text) → Ok (loose ws) × OkBehind ws
both_ok [] = (ok_here, ok_behind)
both_ok (w ∷ ws) = let rec : Ok (loose ws) × OkBehind ws = both_ok ws in (ok_word w ws rec.0 rec.1, ok_value w ws rec.0)

pub parts_ok : (ws : List Text) (ps : List Part) → loose ws ≡ Some ps → AllOk ps
parts_ok ws ps e = subst Ok e (both_ok ws).0

-- ---- an option whose value is the next word

abbrev pub has_equals : Text → Bool
has_equals t = list_any is_equals t

whole : (t : Text) → has_equals t ≡ false → before_first is_equals t ≡ t
whole [] e = refl
whole (b ∷ bs) e = ⊎_elim
    (λ (h : is_equals b ≡ true). absurd (let bad : true ≡ false = rw h at e in cc))
    (λ (h : is_equals b ≡ false).
    let one : 1 + position_or_len is_equals bs ≡ suc (position_or_len is_equals bs) = omega arith in
    rw (h, one) (ap (λ xs. b ∷ xs) (whole bs (rw h at e))))
    (cases_Bool (is_equals b))

turned : (m n : Text) → bytes_eq m n ≡ bytes_eq n m
turned m n = ⊎_elim
    (λ (h : bytes_eq m n ≡ true). h ∙ sym (ap (λ t. bytes_eq n t) (is m n h) ∙ same n))
    (λ (h : bytes_eq m n ≡ false). ⊎_elim
    (λ (k : bytes_eq n m ≡ true). absurd (let bad : true ≡ false = sym (same m) ∙ ap (λ t. bytes_eq m t) (sym (is n m k)) ∙ h in cc))
    (λ (k : bytes_eq n m ≡ false). h ∙ sym k)
    (cases_Bool (bytes_eq n m)))
    (cases_Bool (bytes_eq m n))

-- `--NAME` where NAME has a value
waits_for : (rest : Text) → has_equals rest ≡ false → takes_next (45 ∷ 45 ∷ rest) ≡ is_valued rest
waits_for rest e =
    ap₂ (λ a b. a || b) (turned rest (codes "workers"))
    (ap₂ (λ a b. a || b) (turned rest (codes "seed"))
    (ap₂ (λ a b. a || b) (turned rest (codes "lose"))
    (ap₂ (λ a b. a || b) (turned rest (codes "names"))
    (ap₂ (λ a b. a || b) (turned rest (codes "log"))
    (ap₂ (λ a b. a || b) (turned rest (codes "resume"))
    (ap₂ (λ a b. a || b) (turned rest (codes "steal"))
    (ap₂ (λ a b. a || b) (turned rest (codes "memo-new"))
    (ap₂ (λ a b. a || b) (turned rest (codes "memo"))
    (ap (λ a. a || false) (turned rest (codes "generate")))))))))))

no_wait : (rest : Text) → has_equals rest ≡ true → takes_next (45 ∷ 45 ∷ rest) ≡ false
no_wait rest e =
    let other = λ (name : Text) (none : has_equals name ≡ false). differ has_equals rest name true e none in
    rw (
      other (codes "workers") refl,
      other (codes "seed") refl,
      other (codes "lose") refl,
      other (codes "names") refl,
      other (codes "log") refl,
      other (codes "resume") refl,
      other (codes "steal") refl,
      other (codes "memo-new") refl,
      other (codes "memo") refl,
      other (codes "generate") refl,
    ) refl

-- what a word that begins with `--` says of the next: a value stands behind `=`, or may be the next word
abbrev pub WaitsAs : Text → Option Text → Bool → Type 0
WaitsAs n (Some x) b = b ≡ false
WaitsAs n None b = b ≡ is_valued n

behind_two : (rest : Text) → WaitsAs (name_in (45 ∷ 45 ∷ rest)) (value_in (45 ∷ 45 ∷ rest)) (takes_next (45 ∷ 45 ∷ rest))
behind_two rest = ⊎_elim
    (λ (h : has_equals rest ≡ true). rw h (no_wait rest h))
    (λ (h : has_equals rest ≡ false). rw h (waits_for rest h ∙ ap is_valued (sym (whole rest h))))
    (cases_Bool (has_equals rest))

two_first : (w : Text) → begins_with_two w ≡ true → 45 ∷ 45 ∷ drop 2 w ≡ w
two_first w e = ap (λ t. t ++ drop 2 w) (sym (is (take 2 w) dashes e)) ∙ take-append-drop 2 w

waits_as : (w : Text) → begins_with_two w ≡ true → WaitsAs (name_in w) (value_in w) (takes_next w)
waits_as w e = subst (λ (t : Text). WaitsAs (name_in t) (value_in t) (takes_next t)) (two_first w e) (behind_two (drop 2 w))

no_wait_positional : (w : Text) → is_positional w ≡ true → takes_next w ≡ false
no_wait_positional w e =
    let other = λ (name : Text) (none : is_positional name ≡ false). differ is_positional w name true e none in
    rw (
      other (codes "--workers") refl,
      other (codes "--seed") refl,
      other (codes "--lose") refl,
      other (codes "--names") refl,
      other (codes "--log") refl,
      other (codes "--resume") refl,
      other (codes "--steal") refl,
      other (codes "--memo-new") refl,
      other (codes "--memo") refl,
      other (codes "--generate") refl,
    ) refl

-- ---- the parts of a line are those, but where a value behind its option is `-`

abbrev pub Here : List Text → Type 0
Here ws = parts_of ws ≡ cond (dash_behind false ws) None (loose ws)

abbrev pub Behind : List Text → Type 0
Behind ws = (n : Text) → with_value n ws ≡ cond (dash_behind true ws) None (loose_value n ws)

none_either : (b : Bool) → cond {A = Option (List Part)} b None None ≡ None
none_either true = refl
none_either false = refl

before_either : (p : Part) (b : Bool) (o : Option (List Part)) → before p (cond b None o) ≡ cond b None (before p o)
before_either p true o = refl
before_either p false o = refl

step : (n : Text) (v : Option Text) (b : Bool) (ws : List Text) → Here ws → Behind ws → WaitsAs n v b
    → option_parts n v (parts_of ws) (with_value n ws) ≡ cond (dash_behind b ws) None (option_parts n v (loose ws) (loose_value n ws))
step n (Some x) b ws here behind e = ⊎_elim
    (λ (t : is_valued n ≡ true). rw (t, e) (ap (before (option n x)) here ∙ before_either (option n x) (dash_behind false ws) (loose ws)))
    (λ (t : is_valued n ≡ false). rw (t, e) (sym (none_either (dash_behind false ws))))
    (cases_Bool (is_valued n))
step n None b ws here behind e = ⊎_elim
    (λ (t : is_valued n ≡ true). rw (e, t) (behind n))
    (λ (t : is_valued n ≡ false). ⊎_elim
    (λ (u : is_unvalued n ≡ true). rw (e, t, u) (ap (before (flag n)) here ∙ before_either (flag n) (dash_behind false ws) (loose ws)))
    (λ (u : is_unvalued n ≡ false). rw (e, t, u) (sym (none_either (dash_behind false ws))))
    (cases_Bool (is_unvalued n)))
    (cases_Bool (is_valued n))

word_here : (w : Text) (ws : List Text) → Here ws → Behind ws → Here (w ∷ ws)
unfolding loose parts_of
word_here w ws here behind = ⊎_elim
    (λ (d : bytes_eq w dashes ≡ true). rw d refl)
    (λ (d : bytes_eq w dashes ≡ false). ⊎_elim
    (λ (p : is_positional w ≡ true). rw (d, p, no_wait_positional w p)
    (ap (before (word w)) here ∙ before_either (word w) (dash_behind false ws) (loose ws)))
    (λ (p : is_positional w ≡ false). ⊎_elim
    (λ (t : begins_with_two w ≡ true). rw (d, p, t) (step (name_in w) (value_in w) (takes_next w) ws here behind (waits_as w t)))
    (λ (t : begins_with_two w ≡ false). rw (d, p, t) (sym (none_either (dash_behind (takes_next w) ws))))
    (cases_Bool (begins_with_two w)))
    (cases_Bool (is_positional w)))
    (cases_Bool (bytes_eq w dashes))

no_dash : (v : Text) → begins_with_dash v ≡ false → (bytes_eq v dashes ≡ false) × (bytes_eq v (codes "-") ≡ false)
no_dash v e = (differ begins_with_dash v dashes false e refl, differ begins_with_dash v (codes "-") false e refl)

positional : (v : Text) → begins_with_dash v ≡ false → is_positional v ≡ true
positional v e = rw e refl

not_one : (v : Text) → bytes_eq v dashes ≡ true → bytes_eq v (codes "-") ≡ false
not_one v e = ap (λ t. bytes_eq t (codes "-")) (is v dashes e)

word_behind : (v : Text) (ws : List Text) → Here ws → Behind (v ∷ ws)
unfolding loose parts_of
word_behind v ws here n = ⊎_elim
    (λ (b : begins_with_dash v ≡ true). ⊎_elim
    (λ (d : bytes_eq v dashes ≡ true). rw (b, d, not_one v d) refl)
    (λ (d : bytes_eq v dashes ≡ false). ⊎_elim
    (λ (o : bytes_eq v (codes "-") ≡ true). rw (b, d, o) refl)
    (λ (o : bytes_eq v (codes "-") ≡ false). rw (b, d, o) (sym (none_either (dash_behind (takes_next v) ws))))
    (cases_Bool (bytes_eq v (codes "-"))))
    (cases_Bool (bytes_eq v dashes)))
    (λ (b : begins_with_dash v ≡ false). rw (b, (no_dash v b).0, (no_dash v b).1, no_wait_positional v (positional v b))
    (ap (before (option n v)) here ∙ before_either (option n v) (dash_behind false ws) (loose ws)))
    (cases_Bool (begins_with_dash v))

nothing_here : Here []
unfolding loose parts_of
nothing_here = refl

nothing_behind : Behind []
unfolding loose parts_of
nothing_behind n = refl

both : (ws : List Text) → Here ws × Behind ws
both [] = (nothing_here, nothing_behind)
both (w ∷ ws) = let rec : Here ws × Behind ws = both ws in (word_here w ws rec.0 rec.1, word_behind w ws rec.0)

-- ---- the line

-- where the parts have no name twice, the line says what they say
pub line_is : (ws : List Text) (ps : List Part) → dash_behind false ws ≡ false → loose ws ≡ Some ps → all_apart (names_of ps) ≡ true
    → line_of ws ≡ line_with ps
line_is ws ps d e a = let parts : parts_of ws ≡ Some ps = (both ws).0 ∙ ap (λ b. cond b None (loose ws)) d ∙ e in rw (parts, a) refl

-- where a value behind its option is `-` there is no line
pub no_line_dash : (ws : List Text) → dash_behind false ws ≡ true → line_of ws ≡ None
no_line_dash ws d = let none : parts_of ws ≡ None = (both ws).0 ∙ ap (λ b. cond b None (loose ws)) d in rw none refl

-- nor where a name stands twice
pub no_line_twice : (ws : List Text) (ps : List Part) → loose ws ≡ Some ps → all_apart (names_of ps) ≡ false → line_of ws ≡ None
no_line_twice ws ps e a = ⊎_elim
    (λ (d : dash_behind false ws ≡ true). no_line_dash ws d)
    (λ (d : dash_behind false ws ≡ false).
    let parts : parts_of ws ≡ Some ps = (both ws).0 ∙ ap (λ b. cond b None (loose ws)) d ∙ e in rw (parts, a) refl)
    (cases_Bool (dash_behind false ws))

-- nor where there are no parts
pub no_line_apart : (ws : List Text) → loose ws ≡ None → line_of ws ≡ None
no_line_apart ws e =
    let none : parts_of ws ≡ None = (both ws).0 ∙ ap (cond (dash_behind false ws) None) e ∙ none_either (dash_behind false ws) in
    rw none refl
