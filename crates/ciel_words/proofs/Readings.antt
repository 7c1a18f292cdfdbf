-- What is read of the rows that parts make, with their defaults: the value of each option, the flags and the positional words.
use Rattle.std.proofs.Common.{◌≡◌, Bool, true, false, ◌||◌, cond, List, [], ◌∷◌, Option, Some, None, codes, fold, is_some, refl, sym, ap, ◌∙◌, ⊎_elim}
use Rattle.std.specs.Prelude.{option_and_then, option_map, unwrap_or, slice_get}
use Rattle.std.specs.Str.{bytes_eq}
use Rattle.std.proofs.lemmas.Bool.{cases_Bool}
use Rattle.clap.specs.Walk.{Row, Text, first_of, has_row, more_values, one_of, row_text, with_default}
use Rattle.clap.specs.declared.parser.matches.ValueSource.TheVariants.{DefaultValue}
use Rattle.ciel_words.specs.Command.{FlagSays}
use Rattle.ciel_words.specs.Parts.{Part, option, flag, word, is_valued, value_of, has_flag, texts_of}
use Rattle.ciel_words.proofs.Instance.{top, words}
use Rattle.ciel_words.proofs.Instance as own
use Rattle.ciel_words.proofs.Loose.{added}
use Rattle.ciel_words.proofs.Rows.{AllOk, all_words, at_none, default_row, differ, find_last, first_given, flag_row, has_is, is, look, looked}
use Rattle.ciel_words.proofs.Rows.{option_row, or_first, or_none, words_said}

either_way : {A : Type 0} (h : Bool) (x : A) → cond h x x ≡ x
either_way true x = refl
either_way false x = refl

abbrev pub with_flag : Text → List Row → List Row
with_flag n R = with_default R (own.flag n)

-- options have no defaults, and flags have one
finished : (R : List Row) → fold with_default R top.rules ≡ with_flag (codes "stream") (with_flag (codes "plain") (with_flag (codes "trace") R))
finished R =
    let none = λ (n : Text) (S : List Row). either_way {A = List Row} (has_row n S) S in
    ap (λ S. fold with_default S (own.option (codes "seed") ∷ own.option (codes "lose") ∷ own.option (codes "names")
    ∷ own.option (codes "log") ∷ own.option (codes "resume") ∷ own.option (codes "steal") ∷ own.option (codes "memo-new") ∷
    own.option (codes "memo") ∷ own.option (codes "generate") ∷ own.flag (codes "trace") ∷ own.flag (codes "plain") ∷
    own.flag (codes "stream") ∷ words ∷ [])) (none (codes "workers") R)
    ∙ ap (λ S. fold with_default S (own.option (codes "lose") ∷ own.option (codes "names") ∷ own.option (codes "log") ∷
    own.option (codes "resume") ∷ own.option (codes "steal") ∷ own.option (codes "memo-new") ∷ own.option (codes "memo") ∷
    own.option (codes "generate") ∷ own.flag (codes "trace") ∷ own.flag (codes "plain") ∷ own.flag (codes "stream") ∷ words ∷ []))
    (none (codes "seed") R)
    ∙ ap (λ S. fold with_default S (own.option (codes "names") ∷ own.option (codes "log") ∷ own.option (codes "resume") ∷
    own.option (codes "steal") ∷ own.option (codes "memo-new") ∷ own.option (codes "memo") ∷ own.option (codes "generate") ∷
    own.flag (codes "trace") ∷ own.flag (codes "plain") ∷ own.flag (codes "stream") ∷ words ∷ [])) (none (codes "lose") R)
    ∙ ap (λ S. fold with_default S (own.option (codes "log") ∷ own.option (codes "resume") ∷ own.option (codes "steal") ∷
    own.option (codes "memo-new") ∷ own.option (codes "memo") ∷ own.option (codes "generate") ∷ own.flag (codes "trace") ∷
    own.flag (codes "plain") ∷ own.flag (codes "stream") ∷ words ∷ [])) (none (codes "names") R)
    ∙ ap (λ S. fold with_default S (own.option (codes "resume") ∷ own.option (codes "steal") ∷ own.option (codes "memo-new") ∷
    own.option (codes "memo") ∷ own.option (codes "generate") ∷ own.flag (codes "trace") ∷ own.flag (codes "plain") ∷
    own.flag (codes "stream") ∷ words ∷ [])) (none (codes "log") R)
    ∙ ap (λ S. fold with_default S (own.option (codes "steal") ∷ own.option (codes "memo-new") ∷ own.option (codes "memo") ∷
    own.option (codes "generate") ∷ own.flag (codes "trace") ∷ own.flag (codes "plain") ∷ own.flag (codes "stream") ∷ words ∷ []))
    (none (codes "resume") R)
    ∙ ap (λ S. fold with_default S (own.option (codes "memo-new") ∷ own.option (codes "memo") ∷ own.option (codes "generate") ∷
    own.flag (codes "trace") ∷ own.flag (codes "plain") ∷ own.flag (codes "stream") ∷ words ∷ [])) (none (codes "steal") R)
    ∙ ap (λ S. fold with_default S (own.option (codes "memo") ∷ own.option (codes "generate") ∷ own.flag (codes "trace") ∷
    own.flag (codes "plain") ∷ own.flag (codes "stream") ∷ words ∷ [])) (none (codes "memo-new") R)
    ∙ ap (λ S. fold with_default S (own.option (codes "generate") ∷ own.flag (codes "trace") ∷ own.flag (codes "plain") ∷
    own.flag (codes "stream") ∷ words ∷ [])) (none (codes "memo") R)
    ∙ ap (λ S. fold with_default S (own.flag (codes "trace") ∷ own.flag (codes "plain") ∷ own.flag (codes "stream") ∷ words ∷ []))
    (none (codes "generate") R)
    ∙ none (codes "words") (with_flag (codes "stream") (with_flag (codes "plain") (with_flag (codes "trace") R)))

held : {A : Type 0} (x y : Option A) → is_some x ≡ true → or_first x y ≡ x
held None y e = absurd (let bad : false ≡ true = e in cc)
held (Some a) y e = refl

look_default : (n name : Text) (R : List Row) → look name (with_flag n R)
    ≡ or_first (look name R) (cond (bytes_eq n name) (Some (default_row n)) None)
look_default n name R = ⊎_elim
    (λ (h : has_row n R ≡ true). rw h (sym (⊎_elim
    (λ (b : bytes_eq n name ≡ true). (let there : is_some (look name R) ≡ true = ap (λ m. is_some (look m R)) (sym (is n name b))
    ∙ sym (has_is n R) ∙ h in held (look name R) _ there))
    (λ (b : bytes_eq n name ≡ false). rw b (or_none (look name R)))
    (cases_Bool (bytes_eq n name)))))
    (λ (h : has_row n R ≡ false). rw h (ap (look name) (at_none n (more_values DefaultValue (codes "false" ∷ [])) (default_row n ∷ []) R h)
    ∙ find_last (λ r. bytes_eq r.id name) R (default_row n)))
    (cases_Bool (has_row n R))

-- the row of a name, behind all parts and the defaults
row_of_name : (name : Text) → bytes_eq (codes "words") name ≡ false → (ps : List Part) (S : List Row) → added [] ps ≡ Some S
    → look name (fold with_default S top.rules)
    ≡ or_first (or_first (or_first (first_given name ps) (cond (bytes_eq (codes "trace") name) (Some (default_row (codes "trace"))) None))
    (cond (bytes_eq (codes "plain") name) (Some (default_row (codes "plain"))) None))
    (cond (bytes_eq (codes "stream") name) (Some (default_row (codes "stream"))) None)
row_of_name name e ps S a =
    let t = cond (bytes_eq (codes "trace") name) (Some (default_row (codes "trace"))) None in
    let p = cond (bytes_eq (codes "plain") name) (Some (default_row (codes "plain"))) None in
    let m = cond (bytes_eq (codes "stream") name) (Some (default_row (codes "stream"))) None in
    ap (look name) (finished S) ∙ look_default (codes "stream") name (with_flag (codes "plain") (with_flag (codes "trace") S))
    ∙ ap (λ o. or_first o m) (look_default (codes "plain") name (with_flag (codes "trace") S)
    ∙ ap (λ o. or_first o p) (look_default (codes "trace") name S ∙ ap (λ o. or_first o t) (looked name e [] ps S a)))

abbrev pub first_text : Option Row → Option Text
first_text o = option_and_then (λ r. slice_get r.values 0) o

value_step : (b : Bool) (r : Row) (o : Option Row) (v : Text) (later : Option Text) → first_text (Some r) ≡ Some v → first_text o ≡ later
    → first_text (or_first (cond b (Some r) None) o) ≡ cond b (Some v) later
value_step true r o v later e f = e
value_step false r o v later e f = f

-- the value of an option is that of the first part with its name
value_given : (name : Text) → is_valued name ≡ true → (ps : List Part) → AllOk ps → first_text (first_given name ps) ≡ value_of name ps
value_given name t [] ok = refl
value_given name t (option n v ∷ ps) ok =
    value_step (bytes_eq n name) (option_row n v) (first_given name ps) v (value_of name ps) refl (value_given name t ps ok.1)
value_given name t (flag n ∷ ps) ok =
    let other : bytes_eq n name ≡ false = differ is_valued n name false ok.0 t in
    rw other (value_given name t ps ok.2)
value_given name t (word w ∷ ps) ok = value_given name t ps ok

flag_step : (n name : Text) (rest : Bool) (o : Option Row) → o ≡ cond rest (Some (flag_row name)) None → (b : Bool) → bytes_eq n name ≡ b
    → or_first (cond b (Some (flag_row n)) None) o ≡ cond (b || rest) (Some (flag_row name)) None
flag_step n name rest o e true h = ap (λ m. Some (flag_row m)) (is n name h)
flag_step n name rest o e false h = e

flag_given : (name : Text) → is_valued name ≡ false → (ps : List Part) → AllOk ps → first_given name ps
    ≡ cond (has_flag name ps) (Some (flag_row name)) None
flag_given name t [] ok = refl
flag_given name t (option n v ∷ ps) ok =
    let other : bytes_eq n name ≡ false = differ is_valued n name true ok.0 t in
    rw other (flag_given name t ps ok.1)
flag_given name t (flag n ∷ ps) ok = flag_step n name (has_flag name ps) (first_given name ps) (flag_given name t ps ok.2) (bytes_eq n name) refl
flag_given name t (word w ∷ ps) ok = flag_given name t ps ok

-- ---- the three kinds of reading

pub value_read : (name : Text) → bytes_eq (codes "words") name ≡ false → bytes_eq (codes "trace") name ≡ false → bytes_eq (codes "plain") name
    ≡ false → bytes_eq (codes "stream") name ≡ false → is_valued name ≡ true
    → (ps : List Part) (S : List Row) → AllOk ps → added [] ps ≡ Some S → first_of name (fold with_default S top.rules) ≡ value_of name ps
value_read name w t p m v ps S ok a =
    let row : look name (fold with_default S top.rules) ≡ first_given name ps =
    row_of_name name w ps S a
    ∙ ap (λ b. or_first (or_first (or_first (first_given name ps) (cond b (Some (default_row (codes "trace"))) None))
    (cond (bytes_eq (codes "plain") name) (Some (default_row (codes "plain"))) None))
    (cond (bytes_eq (codes "stream") name) (Some (default_row (codes "stream"))) None)) t
    ∙ ap (λ b. or_first (or_first (or_first (first_given name ps) None) (cond b (Some (default_row (codes "plain"))) None))
    (cond (bytes_eq (codes "stream") name) (Some (default_row (codes "stream"))) None)) p
    ∙ ap (λ b. or_first (or_first (or_first (first_given name ps) None) None) (cond b (Some (default_row (codes "stream"))) None)) m
    ∙ or_none (or_first (or_first (first_given name ps) None) None) ∙ or_none (or_first (first_given name ps) None)
    ∙ or_none (first_given name ps) in
    ap first_text row ∙ value_given name v ps ok

says : (o : Option Text) (h b : Bool) → o ≡ Some (cond h (codes "true") (codes "false")) → FlagSays o b → b ≡ h
says o true b e f = f.0 e
says o false b e f = f.1 e

trace_text : (h : Bool) (o : Option Row) → o ≡ cond h (Some (flag_row (codes "trace"))) None
    → option_and_then row_text (or_first (or_first (or_first o (Some (default_row (codes "trace")))) None) None) ≡ Some (cond h (codes "true") (codes "false"))
trace_text true o e = rw e refl
trace_text false o e = rw e refl

plain_text : (h : Bool) (o : Option Row) → o ≡ cond h (Some (flag_row (codes "plain"))) None
    → option_and_then row_text (or_first (or_first (or_first o None) (Some (default_row (codes "plain")))) None) ≡ Some (cond h (codes "true") (codes "false"))
plain_text true o e = rw e refl
plain_text false o e = rw e refl

stream_text : (h : Bool) (o : Option Row) → o ≡ cond h (Some (flag_row (codes "stream"))) None
    → option_and_then row_text (or_first (or_first (or_first o None) None) (Some (default_row (codes "stream"))))
    ≡ Some (cond h (codes "true") (codes "false"))
stream_text true o e = rw e refl
stream_text false o e = rw e refl

pub trace_read : (ps : List Part) (S : List Row) → AllOk ps → added [] ps ≡ Some S → (b : Bool)
    → FlagSays (one_of (codes "trace") (fold with_default S top.rules)) b
    → b ≡ has_flag (codes "trace") ps
trace_read ps S ok a b f =
    says _ (has_flag (codes "trace") ps) b
    (ap (λ o. option_and_then row_text o) (row_of_name (codes "trace") refl ps S a)
    ∙ trace_text (has_flag (codes "trace") ps) (first_given (codes "trace") ps) (flag_given (codes "trace") refl ps ok)) f

pub plain_read : (ps : List Part) (S : List Row) → AllOk ps → added [] ps ≡ Some S → (b : Bool)
    → FlagSays (one_of (codes "plain") (fold with_default S top.rules)) b
    → b ≡ has_flag (codes "plain") ps
plain_read ps S ok a b f =
    says _ (has_flag (codes "plain") ps) b
    (ap (λ o. option_and_then row_text o) (row_of_name (codes "plain") refl ps S a)
    ∙ plain_text (has_flag (codes "plain") ps) (first_given (codes "plain") ps) (flag_given (codes "plain") refl ps ok)) f

pub stream_read : (ps : List Part) (S : List Row) → AllOk ps → added [] ps ≡ Some S → (b : Bool)
    → FlagSays (one_of (codes "stream") (fold with_default S top.rules)) b
    → b ≡ has_flag (codes "stream") ps
stream_read ps S ok a b f =
    says _ (has_flag (codes "stream") ps) b
    (ap (λ o. option_and_then row_text o) (row_of_name (codes "stream") refl ps S a)
    ∙ stream_text (has_flag (codes "stream") ps) (first_given (codes "stream") ps) (flag_given (codes "stream") refl ps ok)) f

words_default : (n : Text) (R : List Row) → bytes_eq n (codes "words") ≡ false → all_words (with_flag n R) ≡ all_words R
words_default n R e =
    ap (λ (o : Option Row). unwrap_or (option_map (λ r. r.values) o) [])
    (look_default n (codes "words") R ∙ ap (λ b. or_first (look (codes "words") R) (cond b (Some (default_row n)) None)) e
    ∙ or_none (look (codes "words") R))

pub words_read : (ps : List Part) (S : List Row) → AllOk ps → added [] ps ≡ Some S → all_words (fold with_default S top.rules) ≡ texts_of ps
words_read ps S ok a =
    ap all_words (finished S) ∙ words_default (codes "stream") (with_flag (codes "plain") (with_flag (codes "trace") S)) refl
    ∙ words_default (codes "plain") (with_flag (codes "trace") S) refl ∙ words_default (codes "trace") S refl
    ∙ words_said [] ps S ok a
