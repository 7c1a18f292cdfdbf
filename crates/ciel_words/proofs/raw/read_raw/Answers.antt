use Rattle.std.proofs.Common.{◌≡◌, List, false, true, subst, map}
use Rattle.ciel_words.specs.declared.words.WordsRefusal.{WordsRefusal}
use Rattle.clap.specs.Simple.{app_of}
use Rattle.clap.specs.Walk.{Row}
use Rattle.ciel_words.specs.Raw.{dash_behind, text_of}
use Rattle.ciel_words.proofs.Said.{Matched, no_fault, refused, rows_are, said, some_fault}
use Rattle.ciel_words.proofs.Strict.{no_line_dash}
use Rattle.ciel_words.proofs.raw.read_raw.Goals as goal

pub returns-in-Ok-gather-clause-raw : goal.returns-in-Ok-gather-clause-raw
returns-in-Ok-gather-clause-raw c =
    let ws = c.args.words.now in
    let raw = c.in-Ok-gather.raw in
    let told = c.in-Ok-gather.ensures in
    let same = rows_are (app_of c.in-Ok.command) c.in-Ok-try_get_matches_from.matches ws c.in-Ok.ensures
    c.in-Ok-try_get_matches_from.ensures.matches in
    let fine = no_fault (app_of c.in-Ok.command) ws c.in-Ok.ensures c.in-Ok-try_get_matches_from.ensures.kinds in
    let behind : dash_behind false ws ≡ false = cc in
    said ws c.are_texts.ensures behind fine (text_of raw.workers) (text_of raw.seed) (text_of raw.lose) (text_of raw.names) (text_of raw.log)
    (text_of raw.resume) (text_of raw.steal) (text_of raw.memo_new) (text_of raw.memo) (text_of raw.generate) raw.trace raw.plain raw.stream
    (map (λ w. w.now) raw.words.items)
    (subst (λ (R : List Row). Matched R (text_of raw.workers) (text_of raw.seed) (text_of raw.lose) (text_of raw.names) (text_of raw.log)
    (text_of raw.resume) (text_of raw.steal) (text_of raw.memo_new) (text_of raw.memo) (text_of raw.generate) raw.trace raw.plain raw.stream
    (map (λ w. w.now) raw.words.items)) same
    (record {
      workers_is = told.workers;
      seed_is = told.seed;
      lose_is = told.lose;
      names_is = told.names;
      log_is = told.log;
      resume_is = told.resume;
      steal_is = told.steal;
      memo_new_is = told.memo_new;
      memo_is = told.memo;
      generate_is = told.generate;
      trace_is = told.trace;
      plain_is = told.plain;
      stream_is = told.stream;
      texts_are = told.words;
    }))

pub returns-clause-usage : goal.returns-clause-usage
returns-clause-usage c e =
    let ws = c.args.words.now in
    let usage : c.refusal_of.result ≡ WordsRefusal.Usage = cc in
    refused ws c.are_texts.ensures (some_fault (app_of c.in-Ok.command) ws c.in-Err.error c.in-Ok.ensures c.in-Err.ensures.kinds
    (c.refusal_of.ensures usage))

pub returns-then-has_dash_behind-clause-usage : goal.returns-then-has_dash_behind-clause-usage
returns-then-has_dash_behind-clause-usage c e = let behind : dash_behind false c.args.words.now ≡ true = cc in no_line_dash c.args.words.now behind
