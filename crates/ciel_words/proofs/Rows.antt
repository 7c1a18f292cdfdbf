-- What stands in the rows that parts make: for each option the first of the parts that has its name, and all positional words.
use Rattle.std.proofs.Common.{◌≡◌, ◌++◌, Bool, true, false, ◌||◌, ◌&&◌, cond, List, [], ◌∷◌, Option, Some, None, codes, find, is_some, refl, sym, ap}
use Rattle.std.proofs.Common.{ap₂, ◌∙◌, ⊎_elim, append_assoc}
use Rattle.std.specs.Prelude.{not, option_map, unwrap_or}
use Rattle.std.specs.List.{list_all}
use Rattle.std.specs.Str.{bytes_eq}
use Rattle.std.proofs.lemmas.Bool.{cases_Bool}
use Rattle.std.proofs.lemmas.List.{append-nil}
use Rattle.std.proofs.lemmas.List.Folds.{list_any-append}
use Rattle.std.proofs.lemmas.Map.Text.{is_eq-slice_cmp}
use Rattle.sky_base.specs.Eval.{is_one_of}
use Rattle.sky_base.specs.Val.{same_text}
use Rattle.ciel_words.specs.Inputs.{all_apart}
use Rattle.std.proofs.lemmas.Slice.Eq.{bytes_eq-Decides}
use Rattle.clap.specs.Walk.{Row, Rule, Text, all_of, at_row, has_row, more_values, reading_by, used, without}
use Rattle.clap.specs.declared.parser.matches.ValueSource.TheVariants.{DefaultValue, CommandLine}
use Rattle.ciel_words.specs.Parts.{Part, option, flag, word, is_valued, is_unvalued, names_of, texts_of}
use Rattle.ciel_words.proofs.Grammar.{fresh}
use Rattle.ciel_words.proofs.Instance.{top, words}
use Rattle.ciel_words.proofs.Instance as own
use Rattle.ciel_words.proofs.Loose.{added}

abbrev pub look : Text → List Row → Option Row
look id R = find (λ r. bytes_eq r.id id) R

abbrev pub or_first : {A : Type 0} → Option A → Option A → Option A
or_first None x = x
or_first (Some r) x = Some r

pub is : (m n : Text) → bytes_eq m n ≡ true → m ≡ n
is m n e = (bytes_eq-Decides m n).0 e

pub same : (n : Text) → bytes_eq n n ≡ true
same n = (bytes_eq-Decides n n).1 refl

-- the row that an option's value makes, and a flag's
abbrev pub option_row : Text → Text → Row
option_row n v = record { id = n; values = v ∷ []; count = None; source = Some CommandLine; reading = reading_by (own.option n) }

abbrev pub flag_row : Text → Row
flag_row n = record { id = n; values = codes "true" ∷ []; count = None; source = Some CommandLine; reading = reading_by (own.flag n) }

abbrev pub default_row : Text → Row
default_row n = record { id = n; values = codes "false" ∷ []; count = None; source = Some DefaultValue; reading = reading_by (own.flag n) }

-- ---- a row at the end

pub at_none : (id : Text) (f : Row → List Row) (m R : List Row) → has_row id R ≡ false → at_row id f m R ≡ R ++ m
at_none id f m [] e = refl
at_none id f m (r ∷ rs) e = ⊎_elim
    (λ t. absurd (let bad : true ≡ false = rw t at e in cc))
    (λ h. rw h (ap (λ xs. r ∷ xs) (at_none id f m rs (rw h at e))))
    (cases_Bool (bytes_eq r.id id))

pub option_used : (n v : Text) (R : List Row) → has_row n R ≡ false → used (own.option n) (v ∷ []) R ≡ R ++ option_row n v ∷ []
option_used n v R e =
    let gone : without n R ≡ R = at_none n (λ _. []) [] R e ∙ append-nil R in
    rw gone (at_none n (more_values CommandLine (v ∷ [])) (option_row n v ∷ []) R e)

pub flag_used : (n : Text) (R : List Row) → has_row n R ≡ false → used (own.flag n) [] R ≡ R ++ flag_row n ∷ []
flag_used n R e =
    let gone : without n R ≡ R = at_none n (λ _. []) [] R e ∙ append-nil R in
    rw gone (at_none n (more_values CommandLine (codes "true" ∷ [])) (flag_row n ∷ []) R e)

last_step : {A : Type 0} (h : Bool) (y : A) (o left more : Option A) → o ≡ or_first left more → cond h (Some y) o
    ≡ or_first (cond h (Some y) left) more
last_step true y o left more e = refl
last_step false y o left more e = e

pub find_last : {A : Type 0} (p : A → Bool) (xs : List A) (x : A) → find p (xs ++ x ∷ []) ≡ or_first (find p xs) (cond (p x) (Some x) None)
find_last p [] x = refl
find_last p (y ∷ ys) x = last_step (p y) y (find p (ys ++ x ∷ [])) (find p ys) (cond (p x) (Some x) None) (find_last p ys x)

has_step : (h : Bool) (r : Row) (b : Bool) (o : Option Row) → b ≡ is_some o → (h || b) ≡ is_some (cond h (Some r) o)
has_step true r b o e = refl
has_step false r b o e = e

pub has_is : (n : Text) (R : List Row) → has_row n R ≡ is_some (look n R)
has_is n [] = refl
has_is n (r ∷ rs) = has_step (bytes_eq r.id n) r (has_row n rs) (look n rs) (has_is n rs)

-- ---- a positional word

pub word_apart : (n : Text) → bytes_eq (codes "words") n ≡ false → (w : Text) (R : List Row) → look n (used words (w ∷ []) R) ≡ look n R
word_apart n e w [] = rw e refl
word_apart n e w (r ∷ rs) = ⊎_elim
    (λ h. (let other : bytes_eq r.id n ≡ false = ap (λ i. bytes_eq i n) (is r.id (codes "words") h) ∙ e in rw (h, other) refl))
    (λ h. rw h (ap (λ o. cond (bytes_eq r.id n) (Some r) o) (word_apart n e w rs)))
    (cases_Bool (bytes_eq r.id (codes "words")))

abbrev pub all_words : List Row → List Text
all_words R = unwrap_or (all_of (codes "words") R) []

word_here : (w : Text) (R : List Row) → all_of (codes "words") (used words (w ∷ []) R) ≡ Some (all_words R ++ w ∷ [])
word_here w [] = refl
word_here w (r ∷ rs) = ⊎_elim
    (λ (h : bytes_eq r.id (codes "words") ≡ true). rw h (rw h refl))
    (λ (h : bytes_eq r.id (codes "words") ≡ false). rw h (rw h (word_here w rs)))
    (cases_Bool (bytes_eq r.id (codes "words")))

-- ---- the parts

-- each option is one of the command's
abbrev pub AllOk : List Part → Type 0
AllOk [] = Unit {0}
AllOk (option n v ∷ ps) = (is_valued n ≡ true) × AllOk ps
AllOk (flag n ∷ ps) = (is_valued n ≡ false) × (is_unvalued n ≡ true) × AllOk ps
AllOk (word w ∷ ps) = AllOk ps

abbrev pub first_given : Text → List Part → Option Row
first_given name [] = None
first_given name (option n v ∷ ps) = or_first (cond (bytes_eq n name) (Some (option_row n v)) None) (first_given name ps)
first_given name (flag n ∷ ps) = or_first (cond (bytes_eq n name) (Some (flag_row n)) None) (first_given name ps)
first_given name (word w ∷ ps) = first_given name ps

pub or_none : {A : Type 0} (x : Option A) → or_first x None ≡ x
or_none None = refl
or_none (Some a) = refl

or_both : {A : Type 0} (x y z : Option A) → or_first (or_first x y) z ≡ or_first x (or_first y z)
or_both None y z = refl
or_both (Some a) y z = refl

some_is : (R S : List Row) → Some R ≡ Some S → R ≡ S
some_is R S e = cc

-- an option that was taken stood there for the first time
taken : (R S : List Row) (a : Rule) (next : Option (List Row)) → fresh R a next ≡ Some S → (h : Bool) → has_row a.id R ≡ h
    → (has_row a.id R ≡ false) × (next ≡ Some S)
taken R S a next e true h = absurd (let bad : None ≡ Some S = rw h at e in cc)
taken R S a next e false h = (h, rw h at e)

behind : (name : Text) (R S : List Row) (row : Row) (later : Option Row) → look name S ≡ or_first (look name (R ++ row ∷ [])) later
    → look name S ≡ or_first (look name R) (or_first (cond (bytes_eq row.id name) (Some row) None) later)
behind name R S row later e =
    e ∙ ap (λ o. or_first o later) (find_last (λ r. bytes_eq r.id name) R row)
    ∙ or_both (look name R) (cond (bytes_eq row.id name) (Some row) None) later

-- the row of a name is that of the first part that has it
pub looked : (name : Text) → bytes_eq (codes "words") name ≡ false → (R : List Row) (ps : List Part) (S : List Row) → added R ps ≡ Some S
    → look name S ≡ or_first (look name R) (first_given name ps)
looked name e R [] S a = ap (look name) (sym (some_is R S a)) ∙ sym (or_none (look name R))
looked name e R (option n v ∷ ps) S a =
    let with_it = used (own.option n) (v ∷ []) R in
    let t = taken R S (own.option n) (added with_it ps) a (has_row n R) refl in
    behind name R S (option_row n v) (first_given name ps)
    (looked name e with_it ps S t.1 ∙ ap (λ r. or_first (look name r) (first_given name ps)) (option_used n v R t.0))
looked name e R (flag n ∷ ps) S a =
    let with_it = used (own.flag n) [] R in
    let t = taken R S (own.flag n) (added with_it ps) a (has_row n R) refl in
    behind name R S (flag_row n) (first_given name ps)
    (looked name e with_it ps S t.1 ∙ ap (λ r. or_first (look name r) (first_given name ps)) (flag_used n R t.0))
looked name e R (word w ∷ ps) S a =
    looked name e (used words (w ∷ []) R) ps S a ∙ ap (λ o. or_first o (first_given name ps)) (word_apart name e w R)

pub differ : (f : Text → Bool) (n m : Text) (b : Bool) → f n ≡ b → f m ≡ not b → bytes_eq n m ≡ false
differ f n m b e g = ⊎_elim
    (λ h. absurd (clash b (sym e ∙ ap f (is n m h) ∙ g)))
    (λ h. h)
    (cases_Bool (bytes_eq n m))
  where
    clash : (c : Bool) → c ≡ not c → ⊥
    clash true x = cc
    clash false x = cc

no_words : (n : Text) → is_valued n ≡ true → bytes_eq n (codes "words") ≡ false
no_words n e = differ is_valued n (codes "words") true e refl

no_words_flag : (n : Text) → is_unvalued n ≡ true → bytes_eq n (codes "words") ≡ false
no_words_flag n e = differ is_unvalued n (codes "words") true e refl

words_kept : (R : List Row) (row : Row) → bytes_eq row.id (codes "words") ≡ false → all_words (R ++ row ∷ []) ≡ all_words R
words_kept R row e =
    let found : look (codes "words") (R ++ row ∷ []) ≡ look (codes "words") R =
    find_last (λ r. bytes_eq r.id (codes "words")) R row ∙ ap (λ b. or_first (look (codes "words") R) (cond b (Some row) None)) e
    ∙ or_none (look (codes "words") R) in
    ap (λ (o : Option Row). unwrap_or (option_map (λ r. r.values) o) []) found

-- the positional words, in order
pub words_said : (R : List Row) (ps : List Part) (S : List Row) → AllOk ps → added R ps ≡ Some S → all_words S ≡ all_words R ++ texts_of ps
words_said R [] S ok a = ap all_words (sym (some_is R S a)) ∙ sym (append-nil (all_words R))
words_said R (option n v ∷ ps) S ok a =
    let with_it = used (own.option n) (v ∷ []) R in
    let t = taken R S (own.option n) (added with_it ps) a (has_row n R) refl in
    words_said with_it ps S ok.1 t.1
    ∙ ap (λ ws. ws ++ texts_of ps) (ap all_words (option_used n v R t.0) ∙ words_kept R (option_row n v) (no_words n ok.0))
words_said R (flag n ∷ ps) S ok a =
    let with_it = used (own.flag n) [] R in
    let t = taken R S (own.flag n) (added with_it ps) a (has_row n R) refl in
    words_said with_it ps S ok.2 t.1
    ∙ ap (λ ws. ws ++ texts_of ps) (ap all_words (flag_used n R t.0) ∙ words_kept R (flag_row n) (no_words_flag n ok.1))
words_said R (word w ∷ ps) S ok a =
    words_said (used words (w ∷ []) R) ps S ok a
    ∙ ap (λ ws. ws ++ texts_of ps) (ap (λ o. unwrap_or o []) (word_here w R)) ∙ append_assoc (all_words R) (w ∷ []) (texts_of ps)

-- ---- each option once

has_last : (n : Text) (R : List Row) (row : Row) → has_row n (R ++ row ∷ []) ≡ (has_row n R || bytes_eq row.id n)
has_last n R row = list_any-append (λ r. bytes_eq r.id n) R (row ∷ []) ∙ ap (λ b. has_row n R || b) (or_false (bytes_eq row.id n))
  where
    or_false : (b : Bool) → (b || false) ≡ b
    or_false true = refl
    or_false false = refl

one_more : (a b l o : Bool) → (not (a || b) && (l && not o)) ≡ ((not a && l) && not (b || o))
one_more true b l o = refl
one_more false true true o = refl
one_more false true false o = refl
one_more false false l o = refl

pub either_is : (n m : Text) (ms : List Text) → is_one_of n (m ∷ ms) ≡ (bytes_eq n m || is_one_of n ms)
either_is n m ms = split (same_text n m) refl
  where
    split : (b : Bool) → same_text n m ≡ b → is_one_of n (m ∷ ms) ≡ (bytes_eq n m || is_one_of n ms)
    split true e = rw (e, sym (is_eq-slice_cmp n m) ∙ e) refl
    split false e = rw (e, sym (is_eq-slice_cmp n m) ∙ e) refl

-- none of these names has a row
abbrev pub no_rows : List Row → List Text → Bool
no_rows R ns = list_all (λ n. not (has_row n R)) ns

apart_more : (n : Text) (R : List Row) (row : Row) → row.id ≡ n → (ms : List Text) → no_rows (R ++ row ∷ []) ms
    ≡ (no_rows R ms && not (is_one_of n ms))
apart_more n R row e [] = refl
apart_more n R row e (m ∷ ms) =
    ap₂ (λ a b. not a && b) (has_last m R row ∙ ap (λ i. has_row m R || bytes_eq i m) e) (apart_more n R row e ms)
    ∙ one_more (has_row m R) (bytes_eq n m) (no_rows R ms) (is_one_of n ms)
    ∙ ap (λ b. (not (has_row m R) && no_rows R ms) && not b) (sym (either_is n m ms))

flip : (n : Text) → bytes_eq n (codes "words") ≡ false → bytes_eq (codes "words") n ≡ false
flip n e = ⊎_elim
    (λ (h : bytes_eq (codes "words") n ≡ true). absurd
    (let bad : false ≡ true = sym e ∙ ap (λ m. bytes_eq m (codes "words")) (sym (is (codes "words") n h)) in cc))
    (λ h. h)
    (cases_Bool (bytes_eq (codes "words") n))

kept_row : (n : Text) (R : List Row) (w : Text) → bytes_eq (codes "words") n ≡ false → has_row n (used words (w ∷ []) R) ≡ has_row n R
kept_row n R w e = has_is n (used words (w ∷ []) R) ∙ ap is_some (word_apart n e w R) ∙ sym (has_is n R)

word_rows : (w : Text) (R : List Row) (ps : List Part) → AllOk ps → no_rows (used words (w ∷ []) R) (names_of ps) ≡ no_rows R (names_of ps)
word_rows w R [] ok = refl
word_rows w R (option n v ∷ ps) ok =
    ap₂ (λ a b. not a && b) (kept_row n R w (flip n (no_words n ok.0))) (word_rows w R ps ok.1)
word_rows w R (flag n ∷ ps) ok =
    ap₂ (λ a b. not a && b) (kept_row n R w (flip n (no_words_flag n ok.1))) (word_rows w R ps ok.2)
word_rows w R (word x ∷ ps) ok = word_rows w R ps ok

assoc : (l o a : Bool) → ((l && o) && a) ≡ (l && (o && a))
assoc true o a = refl
assoc false o a = refl

-- the parts have rows exactly where no name stands twice, and none had a row
once_more : (R : List Row) (ps : List Part) → AllOk ps → is_some (added R ps) ≡ (no_rows R (names_of ps) && all_apart (names_of ps))
once_more R [] ok = refl
once_more R (option n v ∷ ps) ok = step (has_row n R) refl (once_more (R ++ option_row n v ∷ []) ps ok.1)
  where
    step : (h : Bool) → has_row n R ≡ h → is_some (added (R ++ option_row n v ∷ []) ps)
        ≡ (no_rows (R ++ option_row n v ∷ []) (names_of ps) && all_apart (names_of ps))
        → is_some (added R (option n v ∷ ps)) ≡ (no_rows R (n ∷ names_of ps) && all_apart (n ∷ names_of ps))
    step true h rec = rw h refl
    step false h rec =
        rw h (ap (λ r. is_some (added r ps)) (option_used n v R h) ∙ rec
        ∙ ap (λ b. b && all_apart (names_of ps)) (apart_more n R (option_row n v) refl (names_of ps))
        ∙ assoc (no_rows R (names_of ps)) (not (is_one_of n (names_of ps))) (all_apart (names_of ps)))
once_more R (flag n ∷ ps) ok = step (has_row n R) refl (once_more (R ++ flag_row n ∷ []) ps ok.2)
  where
    step : (h : Bool) → has_row n R ≡ h → is_some (added (R ++ flag_row n ∷ []) ps)
        ≡ (no_rows (R ++ flag_row n ∷ []) (names_of ps) && all_apart (names_of ps))
        → is_some (added R (flag n ∷ ps)) ≡ (no_rows R (n ∷ names_of ps) && all_apart (n ∷ names_of ps))
    step true h rec = rw h refl
    step false h rec =
        rw h (ap (λ r. is_some (added r ps)) (flag_used n R h) ∙ rec
        ∙ ap (λ b. b && all_apart (names_of ps)) (apart_more n R (flag_row n) refl (names_of ps))
        ∙ assoc (no_rows R (names_of ps)) (not (is_one_of n (names_of ps))) (all_apart (names_of ps)))
once_more R (word w ∷ ps) ok =
    once_more (used words (w ∷ []) R) ps ok ∙ ap (λ b. b && all_apart (names_of ps)) (word_rows w R ps ok)

no_row_yet : (ns : List Text) → no_rows [] ns ≡ true
no_row_yet [] = refl
no_row_yet (n ∷ ns) = no_row_yet ns

pub once : (ps : List Part) → AllOk ps → is_some (added [] ps) ≡ all_apart (names_of ps)
once ps ok = once_more [] ps ok ∙ ap (λ b. b && all_apart (names_of ps)) (no_row_yet (names_of ps))
