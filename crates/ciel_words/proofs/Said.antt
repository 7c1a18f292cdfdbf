-- What clap's matches say of words is what their line says, and where clap refuses them they are no line.
use Rattle.std.proofs.Common.{◌≡◌, ◌≢◌, Bool, true, false, List, [], ◌∷◌, Option, Some, None, MatchOption, codes, fold, is_some, map, refl, sym, ap}
use Rattle.std.proofs.Common.{subst, ◌∙◌, ⊎_elim}
use Rattle.std.specs.Prelude.{option_and_then, unwrap_or}
use Rattle.std.specs.List.{AllByRecursion}
use Rattle.std.specs.Str.{IsUtf8}
use Rattle.clap.specs.Faults.{fault_of, is_simple_and_free}
use Rattle.clap.specs.Kinds.{HasKind, Kinds}
use Rattle.clap.specs.Simple.{App, HasMatchesOf, is_simple, matches_of}
use Rattle.clap.specs.Words.{found_of, kind_of, rows_of}
use Rattle.clap.specs.declared.error.Error.{Error}
use Rattle.clap.specs.declared.error.kind.ErrorKind.TheVariants.{OutOfMemory}
use Rattle.clap.specs.declared.parser.matches.ArgMatches.{ArgMatches}
use Rattle.clap.specs.Walk.{Row, Text, all_of, first_of, one_of, with_default}
use Rattle.ciel_words.specs.Command.{FlagSays, command, rows}
use Rattle.ciel_words.specs.Line.{line_of, line_said, line_with}
use Rattle.ciel_words.specs.Parts.{Part, names_of, value_of, has_flag, texts_of}
use Rattle.ciel_words.specs.Inputs.{all_apart}
use Rattle.ciel_words.specs.Raw.{dash_behind}
use Rattle.ciel_words.proofs.Grammar.{closed}
use Rattle.ciel_words.proofs.Instance.{reads_lines, top, words}
use Rattle.ciel_words.proofs.Loose.{added, closed_is, loose}
use Rattle.ciel_words.proofs.Readings.{plain_read, stream_read, trace_read, value_read, words_read}
use Rattle.ciel_words.proofs.Rows.{AllOk, once}
use Rattle.ciel_words.proofs.Spelled.{IsSpelled-from_utf8}
use Rattle.ciel_words.proofs.Strict.{line_is, no_line_apart, no_line_twice, parts_ok}
use Rattle.ciel_words.proofs.Walks.{AreSpelled}

are_spelled : (ws : List Text) → AllByRecursion IsUtf8 ws → AreSpelled ws
are_spelled [] u = tt
are_spelled (w ∷ ws) u = (IsSpelled-from_utf8 w u.0, are_spelled ws u.1)

-- what is read of the matches
pub record Matched (R : List Row) (workers seed lose names log resume steal memo_new memo generate : Option Text) (trace plain stream : Bool)
    (texts : List Text) : Type 0 where
  pub workers_is : workers ≡ first_of (codes "workers") R
  pub seed_is : seed ≡ first_of (codes "seed") R
  pub lose_is : lose ≡ first_of (codes "lose") R
  pub names_is : names ≡ first_of (codes "names") R
  pub log_is : log ≡ first_of (codes "log") R
  pub resume_is : resume ≡ first_of (codes "resume") R
  pub steal_is : steal ≡ first_of (codes "steal") R
  pub memo_new_is : memo_new ≡ first_of (codes "memo-new") R
  pub memo_is : memo ≡ first_of (codes "memo") R
  pub generate_is : generate ≡ first_of (codes "generate") R
  pub trace_is : FlagSays (one_of (codes "trace") R) trace
  pub plain_is : FlagSays (one_of (codes "plain") R) plain
  pub stream_is : FlagSays (one_of (codes "stream") R) stream
  pub texts_are : texts ≡ unwrap_or (all_of (codes "words") R) []

said_of : (ps : List Part) (S : List Row) → AllOk ps → added [] ps ≡ Some S → (w s l n d c k m o g : Option Text) (t p b : Bool)
    → (texts : List Text)
    → Matched (fold with_default S top.rules) w s l n d c k m o g t p b texts → line_with ps ≡ line_said w s l n d c k m o g t p b texts
said_of ps S ok a w s l n d c k m o g t p b texts h =
    let workers : value_of (codes "workers") ps ≡ w = sym (h.workers_is ∙ value_read (codes "workers") refl refl refl refl refl ps S ok a) in
    let seed : value_of (codes "seed") ps ≡ s = sym (h.seed_is ∙ value_read (codes "seed") refl refl refl refl refl ps S ok a) in
    let lose : value_of (codes "lose") ps ≡ l = sym (h.lose_is ∙ value_read (codes "lose") refl refl refl refl refl ps S ok a) in
    let names : value_of (codes "names") ps ≡ n = sym (h.names_is ∙ value_read (codes "names") refl refl refl refl refl ps S ok a) in
    let log : value_of (codes "log") ps ≡ d = sym (h.log_is ∙ value_read (codes "log") refl refl refl refl refl ps S ok a) in
    let resume : value_of (codes "resume") ps ≡ c = sym (h.resume_is ∙ value_read (codes "resume") refl refl refl refl refl ps S ok a) in
    let steal : value_of (codes "steal") ps ≡ k = sym (h.steal_is ∙ value_read (codes "steal") refl refl refl refl refl ps S ok a) in
    let memo_new : value_of (codes "memo-new") ps ≡ m = sym (h.memo_new_is ∙ value_read (codes "memo-new") refl refl refl refl refl ps S ok a) in
    let memo : value_of (codes "memo") ps ≡ o = sym (h.memo_is ∙ value_read (codes "memo") refl refl refl refl refl ps S ok a) in
    let generate : value_of (codes "generate") ps ≡ g = sym (h.generate_is ∙ value_read (codes "generate") refl refl refl refl refl ps S ok a) in
    let trace : has_flag (codes "trace") ps ≡ t = sym (trace_read ps S ok a t h.trace_is) in
    let plain : has_flag (codes "plain") ps ≡ p = sym (plain_read ps S ok a p h.plain_is) in
    let stream : has_flag (codes "stream") ps ≡ b = sym (stream_read ps S ok a b h.stream_is) in
    let said : texts_of ps ≡ texts = sym (h.texts_are ∙ words_read ps S ok a) in
    ap (λ x. line_said x (value_of (codes "seed") ps) (value_of (codes "lose") ps) (value_of (codes "names") ps)
    (value_of (codes "log") ps) (value_of (codes "resume") ps) (value_of (codes "steal") ps) (value_of (codes "memo-new") ps)
    (value_of (codes "memo") ps) (value_of (codes "generate") ps) (has_flag (codes "trace") ps) (has_flag (codes "plain") ps)
    (has_flag (codes "stream") ps) (texts_of ps)) workers
    ∙ ap (λ x. line_said w x (value_of (codes "lose") ps) (value_of (codes "names") ps) (value_of (codes "log") ps)
    (value_of (codes "resume") ps) (value_of (codes "steal") ps) (value_of (codes "memo-new") ps) (value_of (codes "memo") ps)
    (value_of (codes "generate") ps) (has_flag (codes "trace") ps) (has_flag (codes "plain") ps) (has_flag (codes "stream") ps)
    (texts_of ps)) seed
    ∙ ap (λ x. line_said w s x (value_of (codes "names") ps) (value_of (codes "log") ps) (value_of (codes "resume") ps)
    (value_of (codes "steal") ps) (value_of (codes "memo-new") ps) (value_of (codes "memo") ps) (value_of (codes "generate") ps)
    (has_flag (codes "trace") ps) (has_flag (codes "plain") ps) (has_flag (codes "stream") ps) (texts_of ps)) lose
    ∙ ap (λ x. line_said w s l x (value_of (codes "log") ps) (value_of (codes "resume") ps) (value_of (codes "steal") ps)
    (value_of (codes "memo-new") ps) (value_of (codes "memo") ps) (value_of (codes "generate") ps) (has_flag (codes "trace") ps)
    (has_flag (codes "plain") ps) (has_flag (codes "stream") ps) (texts_of ps)) names
    ∙ ap (λ x. line_said w s l n x (value_of (codes "resume") ps) (value_of (codes "steal") ps) (value_of (codes "memo-new") ps)
    (value_of (codes "memo") ps) (value_of (codes "generate") ps) (has_flag (codes "trace") ps) (has_flag (codes "plain") ps)
    (has_flag (codes "stream") ps) (texts_of ps)) log
    ∙ ap (λ x. line_said w s l n d x (value_of (codes "steal") ps) (value_of (codes "memo-new") ps) (value_of (codes "memo") ps)
    (value_of (codes "generate") ps) (has_flag (codes "trace") ps) (has_flag (codes "plain") ps) (has_flag (codes "stream") ps)
    (texts_of ps)) resume
    ∙ ap (λ x. line_said w s l n d c x (value_of (codes "memo-new") ps) (value_of (codes "memo") ps) (value_of (codes "generate") ps)
    (has_flag (codes "trace") ps) (has_flag (codes "plain") ps) (has_flag (codes "stream") ps) (texts_of ps)) steal
    ∙ ap (λ x. line_said w s l n d c k x (value_of (codes "memo") ps) (value_of (codes "generate") ps) (has_flag (codes "trace") ps)
    (has_flag (codes "plain") ps) (has_flag (codes "stream") ps) (texts_of ps)) memo_new
    ∙ ap (λ x. line_said w s l n d c k m x (value_of (codes "generate") ps) (has_flag (codes "trace") ps) (has_flag (codes "plain") ps)
    (has_flag (codes "stream") ps) (texts_of ps)) memo
    ∙ ap (λ x. line_said w s l n d c k m o x (has_flag (codes "trace") ps) (has_flag (codes "plain") ps) (has_flag (codes "stream") ps)
    (texts_of ps)) generate
    ∙ ap (λ x. line_said w s l n d c k m o g x (has_flag (codes "plain") ps) (has_flag (codes "stream") ps) (texts_of ps)) trace
    ∙ ap (λ x. line_said w s l n d c k m o g t x (has_flag (codes "stream") ps) (texts_of ps)) plain
    ∙ ap (λ x. line_said w s l n d c k m o g t p x (texts_of ps)) stream
    ∙ ap (λ x. line_said w s l n d c k m o g t p b x) said

-- the parts whose rows clap has
abbrev pub Apart : List Text → List Row → Type 0
Apart ws S = (ps : List Part) × (loose ws ≡ Some ps) × (added [] ps ≡ Some S)

parts_there : (ws : List Text) (S : List Row) → closed top.rules words [] ws ≡ Some S → Apart ws S
parts_there ws S e = split (loose ws) refl (sym (closed_is ws) ∙ e)
  where
    split : (o : Option (List Part)) → loose ws ≡ o → option_and_then (added []) o ≡ Some S → Apart ws S
    split None h f = absurd (let bad : None ≡ Some S = f in cc)
    split (Some ps) h f = (ps, h, f)

twice : (ps : List Part) → AllOk ps → added [] ps ≡ None → all_apart (names_of ps) ≡ false
twice ps ok e = sym (once ps ok) ∙ ap is_some e

once_each : (ps : List Part) (S : List Row) → AllOk ps → added [] ps ≡ Some S → all_apart (names_of ps) ≡ true
once_each ps S ok e = sym (once ps ok) ∙ ap is_some e

none_there : (ws : List Text) → closed top.rules words [] ws ≡ None → line_of ws ≡ None
none_there ws e = split (loose ws) refl (sym (closed_is ws) ∙ e)
  where
    split : (o : Option (List Part)) → loose ws ≡ o → option_and_then (added []) o ≡ None → line_of ws ≡ None
    split None h f = no_line_apart ws h
    split (Some ps) h f = no_line_twice ws ps h (twice ps (parts_ok ws ps h) f)

abbrev pub Reads : List Text → Option (List Row) → Type 0
Reads ws o = MatchOption o (fault_of command ws ≢ []) (λ R. (fault_of command ws ≡ []) × (rows ws ≡ fold with_default R top.rules))

pub refused : (ws : List Text) → AllByRecursion IsUtf8 ws → fault_of command ws ≢ [] → line_of ws ≡ None
refused ws u f = split (closed top.rules words [] ws) refl (reads_lines ws (are_spelled ws u))
  where
    split : (o : Option (List Row)) → closed top.rules words [] ws ≡ o → Reads ws o → line_of ws ≡ None
    split None e r = none_there ws e
    split (Some S) e r = absurd (f r.0)

pub said : (ws : List Text) → AllByRecursion IsUtf8 ws → dash_behind false ws ≡ false → fault_of command ws ≡ []
    → (w s l n d c k m o g : Option Text) (t p b : Bool) (texts : List Text) → Matched (rows ws) w s l n d c k m o g t p b texts
    → line_of ws ≡ line_said w s l n d c k m o g t p b texts
said ws u h f w s l n d c k m o g t p b texts q = split (closed top.rules words [] ws) refl (reads_lines ws (are_spelled ws u))
  where
    split : (x : Option (List Row)) → closed top.rules words [] ws ≡ x → Reads ws x
        → line_of ws ≡ line_said w s l n d c k m o g t p b texts
    split None e r = absurd (r f)
    split (Some S) e r =
        let there = parts_there ws S e in
        let ok = parts_ok ws there.0 there.1 in
        line_is ws there.0 h there.1 (once_each there.0 S ok there.2)
        ∙ said_of there.0 S ok there.2 w s l n d c k m o g t p b texts
        (subst (λ (R : List Row). Matched R w s l n d c k m o g t p b texts) r.1 q)

-- ---- as the command tells it

same_words : (ws : List Text) → map (λ (t : Text). t) ws ≡ ws
same_words [] = refl
same_words (w ∷ ws) = ap (λ xs. w ∷ xs) (same_words ws)

command_is_simple : is_simple command ≡ true
command_is_simple = refl

command_is_free : is_simple_and_free command ≡ true
command_is_free = refl

pub rows_are : (app : App) (m : ArgMatches) (ws : List Text) → app ≡ command → HasMatchesOf app (map (λ t. t) ws) m → rows_of (found_of m) ≡ rows ws
rows_are app m ws e h =
    (h (ap is_simple e ∙ command_is_simple)).0 ∙ ap (λ a. matches_of a (map (λ t. t) ws)) e ∙ ap rows (same_words ws)

pub no_fault : (app : App) (ws : List Text) → app ≡ command → (is_simple_and_free app ≡ true → fault_of app (map (λ t. t) ws) ≡ [])
    → fault_of command ws ≡ []
no_fault app ws e h =
    ap (fault_of command) (sym (same_words ws)) ∙ ap (λ a. fault_of a (map (λ t. t) ws)) (sym e) ∙ h (ap is_simple_and_free e ∙ command_is_free)

pub some_fault : (app : App) (ws : List Text) (x : Error) → app ≡ command
    → (is_simple_and_free app ≡ true → HasKind (fault_of app (map (λ t. t) ws)) x) → kind_of x ≢ OutOfMemory
    → fault_of command ws ≢ []
some_fault app ws x e h k f =
    let none : fault_of app (map (λ t. t) ws) ≡ [] = ap (λ a. fault_of a (map (λ t. t) ws)) e ∙ ap (fault_of command) (same_words ws) ∙ f in
    ⊎_elim k (λ bad. bad) (subst (λ (ks : Kinds). HasKind ks x) none (h (ap is_simple_and_free e ∙ command_is_free)))
