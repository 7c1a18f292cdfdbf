-- The numbers of a line are within their limits.
use Rattle.std.proofs.Common.{◌≡◌, ◌≢◌, ◌<◌, ◌≤◌, ◌-◌, ◌^◌, ℕ, suc, Bool, true, false, cond, List, [], ◌∷◌, Option, Some, None, codes, length, map}
use Rattle.std.proofs.Common.{nat_le, nat_lt, refl, ap, subst, arith, ◌∙◌}
use Rattle.std.specs.Prelude.{◌&&◌, ◌||◌, is_some, option_and_then, option_map}
use Rattle.std.specs.List.{AllByRecursion, list_all}
use Rattle.std.specs.Str.Parse.{digits_value}
use Rattle.std.proofs.lemmas.Bool.Decides.{nat_tests}
use Rattle.ciel_words.specs.Inputs.{all_apart, are_inputs, begins_key, goes_on_key, input_in, is_input, is_key, key_in, most_inputs, most_name, path_in}
use Rattle.ciel_words.specs.Line.{files_in, kept_in, line_said, line_with, lines_in, most_threads, most_workers, steal_in, stream_in, with}
use Rattle.ciel_words.specs.Parts.{Part, Text, has_flag, names_of, parts_of, texts_of, value_of}
use Rattle.ciel_words.specs.Sound.{LineIsSound, LinesAreSound}
use Rattle.ciel_words.specs.Values.{count_in, each_loss, is_number, loss_in, losses_in, most_losses, names_in, number_within, or_absent, pieces}
use Rattle.ciel_words.specs.Values.{worker_in}
use Rattle.ciel_words.specs.declared.words.NameKind.{NameKind}
use Rattle.ciel_words.specs.declared.words.Words.{Words}

no_some : {A : Type 0} (a : A) → None ≡ Some a → ⊥
no_some a e = cc

some_is : {A : Type 0} (a b : A) → Some a ≡ Some b → a ≡ b
some_is a b e = cc

-- what was read first, and what came of it
given : {A B : Type 0} (o : Option A) (next : A → Option B) (b : B) → with o next ≡ Some b → (a : A) × (o ≡ Some a) × (next a ≡ Some b)
given None next b e = absurd (no_some b e)
given (Some a) next b e = (a, refl, e)

cut : (c : Bool) (v n : ℕ) → cond c (Some v) None ≡ Some n → (c ≡ true) × (v ≡ n)
cut true v n e = (refl, some_is v n e)
cut false v n e = absurd (no_some n e)

last_two : (a b c : Bool) → (a && b && c) ≡ true → (b ≡ true) × (c ≡ true)
last_two true true c e = (refl, e)
last_two true false c e = absurd (let bad : false ≡ true = e in cc)
last_two false b c e = absurd (let bad : false ≡ true = e in cc)

within : (low high : ℕ) (t : List ℕ) (n : ℕ) → number_within low high t ≡ Some n → (low ≤ n) × (n ≤ high)
within low high t n e =
    let v = digits_value 10 t in
    let is = cut (is_number t && nat_le low v && nat_le v high) v n e in
    let tests = last_two (is_number t) (nat_le low v) (nat_le v high) is.0 in
    let below : low ≤ v = grind (arith, nat_tests) in
    let above : v ≤ high = grind (arith, nat_tests) in
    (omega (arith, below, is.1), omega (arith, above, is.1))

workers_within : (o : Option (List ℕ)) (n : ℕ) → or_absent 1 (number_within 1 most_workers) o ≡ Some n → (0 < n) × (n ≤ most_workers)
workers_within None n e = let is = some_is 1 n e in (omega (arith, is), omega (arith, is))
workers_within (Some t) n e = let is = within 1 most_workers t n e in (omega (arith, is.0), is.1)

loss_step : (k w : Option ℕ) (l : ℕ × ℕ) → option_and_then (λ a. option_map (λ b. (a, b)) w) k ≡ Some l → w ≡ Some l.1
loss_step None w l e = absurd (no_some l e)
loss_step (Some a) None l e = absurd (no_some l e)
loss_step (Some a) (Some b) l e = ap (λ (p : ℕ × ℕ). Some p.1) (some_is (a, b) l e)

loss_below : (workers : ℕ) → 0 < workers → (pair : List ℕ) (l : ℕ × ℕ) → loss_in workers pair ≡ Some l → l.1 < workers
loss_below workers h pair l e =
    let worker = loss_step (number_within 0 (2 ^ 32 - 1) (count_in pair)) (number_within 0 (workers - 1) (worker_in pair)) l e in
    omega (arith, h, (within 0 (workers - 1) (worker_in pair) l.1 worker).1)

abbrev pub LossesFit : (workers count : ℕ) → List (ℕ × ℕ) → Type 0
LossesFit workers count ls = AllByRecursion (λ (l : ℕ × ℕ). l.1 < workers) ls × (length ls ≡ count)

losses_step : (workers count : ℕ) (o : Option (ℕ × ℕ)) (more : Option (List (ℕ × ℕ))) (ls : List (ℕ × ℕ))
    → option_and_then (λ l. option_map (λ m. l ∷ m) more) o ≡ Some ls
    → ((l : ℕ × ℕ) → o ≡ Some l → l.1 < workers) → ((m : List (ℕ × ℕ)) → more ≡ Some m → LossesFit workers count m) → LossesFit workers (suc count) ls
losses_step workers count None more ls e one rest = absurd (no_some ls e)
losses_step workers count (Some l) None ls e one rest = absurd (no_some ls e)
losses_step workers count (Some l) (Some m) ls e one rest =
    let fit = rest m refl in
    subst (LossesFit workers (suc count)) (some_is (l ∷ m) ls e) ((one l refl, fit.0), ap suc fit.1)

losses_fit : (workers : ℕ) → 0 < workers → (ps : List (List ℕ)) (ls : List (ℕ × ℕ)) → each_loss workers ps ≡ Some ls
    → LossesFit workers (length ps) ls
losses_fit workers h [] ls e = subst (LossesFit workers 0) (some_is [] ls e) (tt, refl)
losses_fit workers h (p ∷ ps) ls e = losses_step workers (length ps) (loss_in workers p) (each_loss workers ps) ls e (loss_below workers h p)
    (losses_fit workers h ps)

abbrev pub LossesSound : ℕ → List (ℕ × ℕ) → Type 0
LossesSound workers ls = AllByRecursion (λ (l : ℕ × ℕ). l.1 < workers) ls × (length ls ≤ most_losses)

losses_within : (workers : ℕ) → 0 < workers → (t : List ℕ) (ls : List (ℕ × ℕ)) → losses_in workers t ≡ Some ls → LossesSound workers ls
losses_within workers h t ls e = split (nat_le (length (pieces t)) most_losses) refl e
  where
    split : (b : Bool) → nat_le (length (pieces t)) most_losses ≡ b → cond b (each_loss workers (pieces t)) None ≡ Some ls → LossesSound workers ls
    split true b f =
        let fit = losses_fit workers h (pieces t) ls f in
        let few : length (pieces t) ≤ most_losses = grind (arith, nat_tests) in
        (fit.0, omega (arith, fit.1, few))
    split false b f = absurd (no_some ls f)

losses_sound : (workers : ℕ) → 0 < workers → (o : Option (List ℕ)) (ls : List (ℕ × ℕ)) → or_absent [] (losses_in workers) o ≡ Some ls
    → LossesSound workers ls
losses_sound workers h None ls e = subst (LossesSound workers) (some_is [] ls e) (tt, omega arith)
losses_sound workers h (Some t) ls e = losses_within workers h t ls e

abbrev pub ShortKeys : List (Text × Text) → Type 0
ShortKeys is = AllByRecursion (λ (i : Text × Text). length i.0 ≤ most_name) is

abbrev pub FilesSound : Option ℕ → Option Text × List (Text × Text) → Type 0
FilesSound g f = (length f.1 ≤ most_inputs) × ShortKeys f.1 × (f.0 ≡ None → g ≢ None)

length_map : {A B : Type 0} (f : A → B) (xs : List A) → length (map f xs) ≡ length xs
length_map f [] = refl
length_map f (x ∷ xs) = ap suc (length_map f xs)

first_two : (a b : Bool) → (a && b) ≡ true → b ≡ true
first_two true b e = e
first_two false b e = absurd (let bad : false ≡ true = e in cc)

front : (a b : Bool) → (a && b) ≡ true → a ≡ true
front true b e = refl
front false b e = absurd (let bad : false ≡ true = e in cc)

key_short : (t : Text) → is_key t ≡ true → length t ≤ most_name
key_short [] e = absurd (let bad : false ≡ true = e in cc)
key_short (b ∷ bs) e =
    let test : nat_lt (length bs) most_name ≡ true =
    first_two (list_all goes_on_key bs) (nat_lt (length bs) most_name)
    (first_two (begins_key b) (list_all goes_on_key bs && nat_lt (length bs) most_name) e) in
    let few : length bs < most_name = grind (arith, nat_tests) in
    omega (arith, few)

keys_short : (ws : List Text) → list_all is_input ws ≡ true → ShortKeys (map input_in ws)
keys_short [] e = tt
keys_short (w ∷ ws) e = (
  key_short (key_in w) (front (is_key (key_in w)) (nat_lt 0 (length (path_in w))) (front (is_input w) (list_all is_input ws) e)),
  keys_short ws (first_two (is_input w) (list_all is_input ws) e),
)

files_sound : (g : Option ℕ) (ws : List Text) (f : Option Text × List (Text × Text)) → files_in g ws ≡ Some f → FilesSound g f
files_sound None [] f e = absurd (no_some f e)
files_sound None (w ∷ ws) f e = split (nat_lt 0 (length w) && are_inputs ws) refl e
  where
    split : (b : Bool) → (nat_lt 0 (length w) && are_inputs ws) ≡ b → cond b (Some (Some w, map input_in ws)) None ≡ Some f → FilesSound None f
    split true b h =
        let test : nat_le (length ws) most_inputs ≡ true =
        front (nat_le (length ws) most_inputs) (list_all is_input ws && all_apart (map key_in ws))
        (first_two (nat_lt 0 (length w)) (are_inputs ws) b) in
        let few : length ws ≤ most_inputs = grind (arith, nat_tests) in
        let keys : list_all is_input ws ≡ true =
        front (list_all is_input ws) (all_apart (map key_in ws))
        (first_two (nat_le (length ws) most_inputs) (list_all is_input ws && all_apart (map key_in ws))
        (first_two (nat_lt 0 (length w)) (are_inputs ws) b)) in
        subst (FilesSound None) (some_is (Some w, map input_in ws) f h)
        (omega (arith, few, length_map input_in ws), keys_short ws keys, λ none. absurd (let bad : Some w ≡ None = none in cc))
    split false b h = absurd (no_some f h)
files_sound (Some n) [] f e =
    subst (FilesSound (Some n)) (some_is (None, []) f e) (omega arith, tt, λ z none. (let bad : Some n ≡ None = none in cc))
files_sound (Some n) (w ∷ ws) f e = absurd (no_some f e)

kept_sound : (without : Bool) (o d : Option Text) → or_absent None (kept_in without) o ≡ Some d → (path : Text) → d ≡ Some path
    → (without ≡ false) × (0 < length path)
kept_sound without None d e path h = absurd (no_some path (some_is None d e ∙ h))
kept_sound true (Some t) d e path h = absurd (no_some d e)
kept_sound false (Some t) d e path h = split (nat_lt 0 (length t)) refl e
  where
    split : (b : Bool) → nat_lt 0 (length t) ≡ b → cond b (Some (Some t)) None ≡ Some d → (false ≡ false) × (0 < length path)
    split true b f =
        let same : t ≡ path = some_is t path (some_is (Some t) d f ∙ h) in
        let some : 0 < length t = grind (arith, nat_tests) in
        (refl, subst (λ (p : Text). 0 < length p) same some)
    split false b f = absurd (no_some d f)

neither : (plain : Bool) (log : Option Text) → (plain || is_some log) ≡ false → (plain ≡ false) × (log ≡ None)
neither true log e = absurd (let bad : true ≡ false = e in cc)
neither false None e = (refl, refl)
neither false (Some t) e = absurd (let bad : true ≡ false = e in cc)

second_sound : (plain : Bool) (log o r : Option Text) → or_absent None (kept_in (plain || is_some log)) o ≡ Some r → (path : Text) → r ≡ Some path
    → (plain ≡ false) × (log ≡ None) × (0 < length path)
second_sound plain log o r e path h =
    let sound = kept_sound (plain || is_some log) o r e path h in
    let none = neither plain log sound.0 in
    (none.0, none.1, sound.1)

steal_sound : (plain : Bool) (o : Option Text) (s : Option ℕ) → or_absent None (steal_in plain) o ≡ Some s → (threads : ℕ) → s ≡ Some threads
    → (plain ≡ false) × (0 < threads) × (threads ≤ most_threads)
steal_sound plain None s e n h = absurd (no_some n (some_is None s e ∙ h))
steal_sound true (Some t) s e n h = absurd (no_some s e)
steal_sound false (Some t) s e n h = split (number_within 1 most_threads t) refl e
  where
    split : (o : Option ℕ) → number_within 1 most_threads t ≡ o → option_map (λ m. Some m) o ≡ Some s → (false ≡ false) × (0 < n) × (n ≤ most_threads)
    split None b f = absurd (no_some s f)
    split (Some m) b f =
        let same : m ≡ n = some_is m n (some_is (Some m) s f ∙ h) in
        let is = within 1 most_threads t m b in
        (refl, omega (arith, is.0, same), omega (arith, is.1, same))

neither_flag : (plain stream : Bool) → (plain || stream) ≡ false → (plain ≡ false) × (stream ≡ false)
neither_flag true stream e = absurd (let bad : true ≡ false = e in cc)
neither_flag false stream e = (refl, e)

stream_sound : (plain stream m : Bool) → stream_in plain stream ≡ Some m → m ≡ true → plain ≡ false
stream_sound false stream m e h = refl
stream_sound true false m e h = absurd (let same : false ≡ m = some_is false m e in cc)
stream_sound true true m e h = absurd (no_some m e)

said_sound : (workers seed lose names log resume steal memo_new memo generate : Option Text) (trace plain stream : Bool) (texts : List Text)
    → (w : Words) → line_said workers seed lose names log resume steal memo_new memo generate trace plain stream texts ≡ Some w
    → LineIsSound w
said_sound workers seed lose names log resume steal memo_new memo generate trace plain stream texts w e =
    let one = given (or_absent 1 (number_within 1 most_workers) workers) _ w e in
    let two = given (or_absent 0 (number_within 0 (2 ^ 64 - 1)) seed) _ w one.2 in
    let three = given (or_absent [] (losses_in one.0) lose) _ w two.2 in
    let four = given (or_absent NameKind.Sha1 names_in names) _ w three.2 in
    let logs = given (or_absent None (kept_in plain) log) _ w four.2 in
    let resumes = given (or_absent None (kept_in (plain || is_some logs.0)) resume) _ w logs.2 in
    let streams = given (stream_in plain stream) _ w resumes.2 in
    let steals = given (or_absent None (steal_in (plain || streams.0)) steal) _ w streams.2 in
    let news = given (or_absent None (kept_in (plain || streams.0)) memo_new) _ w steals.2 in
    let memos = given (or_absent None (kept_in ((plain || streams.0) || is_some news.0)) memo) _ w news.2 in
    let five = given (or_absent None lines_in generate) _ w memos.2 in
    let six = given (files_in five.0 texts) _ w five.2 in
    let count = workers_within workers one.0 one.1 in
    let losses = losses_sound one.0 count.0 lose three.0 three.1 in
    let files = files_sound five.0 texts six.0 six.1 in
    subst LineIsSound (some_is _ w six.2) (record {
      some = count.0;
      most = count.1;
      losses = losses.0;
      few = losses.1;
      inputs = files.0;
      keys = files.1;
      named = files.2;
      logged = kept_sound plain log logs.0 logs.1;
      resumed = second_sound plain logs.0 resume resumes.0 resumes.1;
      streamed = stream_sound plain stream streams.0 streams.1;
      shared = λ threads h.
          let sound = steal_sound (plain || streams.0) steal steals.0 steals.1 threads h in
          let none = neither_flag plain streams.0 sound.0 in
          (none.0, none.1, sound.1, sound.2);
      remembered = λ path h.
          let sound = kept_sound (plain || streams.0) memo_new news.0 news.1 path h in
          let none = neither_flag plain streams.0 sound.0 in
          (none.0, none.1, sound.1);
      recalled = λ path h.
          let sound = second_sound (plain || streams.0) news.0 memo memos.0 memos.1 path h in
          let none = neither_flag plain streams.0 sound.0 in
          (none.0, none.1, sound.1, sound.2);
    })

pub lines_are_sound : LinesAreSound
lines_are_sound words w e =
    let parts = given (parts_of words) _ w e in
    let ps = parts.0 in
    split ps (all_apart (names_of ps)) parts.2
  where
    split : (ps : List Part) (b : Bool) → cond b (line_with ps) None ≡ Some w → LineIsSound w
    split ps true h =
        said_sound (value_of (codes "workers") ps) (value_of (codes "seed") ps) (value_of (codes "lose") ps) (value_of (codes "names") ps)
        (value_of (codes "log") ps) (value_of (codes "resume") ps) (value_of (codes "steal") ps) (value_of (codes "memo-new") ps)
        (value_of (codes "memo") ps) (value_of (codes "generate") ps)
        (has_flag (codes "trace") ps) (has_flag (codes "plain") ps) (has_flag (codes "stream") ps) (texts_of ps) w h
    split ps false h = absurd (no_some w h)
