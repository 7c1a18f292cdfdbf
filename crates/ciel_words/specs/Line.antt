-- The line of the command:
-- SCRIPT [--workers N] [--seed N] [--lose K:W,K:W] [--trace] [--plain] [--names sha1|sha256] [--stream] [--steal T] [--log PATH]
-- [--resume PATH] [--memo-new PATH] [--memo PATH] [NAME=PATH]..., or --generate N with these options.
use Rattle.std.specs.Prelude.{ℕ, ◌-◌, ◌^◌, ◌&&◌, ◌||◌, Bool, not, is_some, nat_lt, List, [], ◌∷◌, Option, Some, None, if◌then◌else◌, codes, length, map, option_map}
use Rattle.ciel_words.specs.Inputs.{all_apart, are_inputs, input_in}
use Rattle.ciel_words.specs.Parts.{Text, Part, parts_of, names_of, value_of, has_flag, texts_of}
use Rattle.ciel_words.specs.Values.{or_absent, number_within, losses_in, names_in}
use Rattle.ciel_words.specs.declared.words.NameKind.{NameKind}
use Rattle.ciel_words.specs.declared.words.Words.{Words}

abbrev pub with : {A B : Type 0} → Option A → (A → Option B) → Option B
with None next = None
with (Some a) next = next a

-- the greatest number of workers, and of lines of a generated job
abbrev pub most_workers : ℕ
most_workers = 64

abbrev pub most_lines : ℕ
most_lines = 1000000

-- the path of a file that a run keeps, which isn't empty, where it may have one
abbrev pub kept_in : (without : Bool) → Text → Option (Option Text)
kept_in without t = if not without && nat_lt 0 (length t) then Some (Some t) else None

-- the greatest number of threads that are shared
abbrev pub most_threads : ℕ
most_threads = 64

-- the number of threads that all workers share; with `without` none may be asked for
abbrev pub steal_in : (without : Bool) → Text → Option (Option ℕ)
steal_in without t = if without then None else option_map (λ n. Some n) (number_within 1 most_threads t)

-- whether tasks begin on what is still made, which those of a sequential run don't
abbrev pub stream_in : (plain stream : Bool) → Option Bool
stream_in plain stream = if plain && stream then None else Some stream

-- the number of lines of a generated job, where the option stands there
abbrev pub lines_in : Text → Option (Option ℕ)
lines_in t = option_map (λ n. Some n) (number_within 1 most_lines t)

-- the script, which isn't empty, and the inputs behind it: there is none where a job is generated
abbrev pub files_in : (generate : Option ℕ) → List Text → Option (Option Text × List (Text × Text))
files_in None [] = None
files_in None (w ∷ ws) = if nat_lt 0 (length w) && are_inputs ws then Some (Some w, map input_in ws) else None
files_in (Some lines) [] = Some (None, [])
files_in (Some lines) (w ∷ ws) = None

-- what a line says that has these values, flags and positional words: a sequential run has no log, no streams, no memo and no threads
-- to share, a run with streams shares none and has no memo, a run that goes on from a log begins none, and one that reads a memo begins none
abbrev pub line_said : (workers seed lose names log resume steal memo_new memo generate : Option Text) → (trace plain stream : Bool)
    → List Text → Option Words
line_said workers seed lose names log resume steal memo_new memo generate trace plain stream texts =
    with (or_absent 1 (number_within 1 most_workers) workers) (λ w.
    with (or_absent 0 (number_within 0 (2 ^ 64 - 1)) seed) (λ s.
    with (or_absent [] (losses_in w) lose) (λ l.
    with (or_absent NameKind.Sha1 names_in names) (λ k.
    with (or_absent None (kept_in plain) log) (λ d.
    with (or_absent None (kept_in (plain || is_some d)) resume) (λ r.
    with (stream_in plain stream) (λ m.
    with (or_absent None (steal_in (plain || m)) steal) (λ t.
    with (or_absent None (kept_in (plain || m)) memo_new) (λ n.
    with (or_absent None (kept_in ((plain || m) || is_some n)) memo) (λ o.
    with (or_absent None lines_in generate) (λ g.
    with (files_in g texts) (λ f. Some (record {
      script = f.0;
      inputs = f.1;
      workers = w;
      seed = s;
      losses = l;
      trace = trace;
      plain = plain;
      names = k;
      log = d;
      resume = r;
      stream = m;
      steal = t;
      memo_new = n;
      memo = o;
      generate = g;
    })))))))))))))

abbrev pub line_with : List Part → Option Words
line_with ps =
    let value = λ (name : Text). value_of name ps in
    line_said (value (codes "workers")) (value (codes "seed")) (value (codes "lose")) (value (codes "names")) (value (codes "log"))
    (value (codes "resume")) (value (codes "steal")) (value (codes "memo-new")) (value (codes "memo")) (value (codes "generate"))
    (has_flag (codes "trace") ps) (has_flag (codes "plain") ps) (has_flag (codes "stream") ps) (texts_of ps)

-- what the words say, where they are a line: each option stands at most once
abbrev pub line_of : List Text → Option Words
line_of words = with (parts_of words) (λ ps. if all_apart (names_of ps) then line_with ps else None)
