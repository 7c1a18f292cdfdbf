-- Each record of a log that isn't too long can be read.
use Rattle.std.proofs.Common.{◌≡◌, ◌≤◌, ◌<◌, ◌^◌, ◌+◌, ℕ, List, [], ◌∷◌, ◌++◌, length, sym, ap, subst, arith}
use Rattle.std.proofs.lemmas.List.{length-append}
use Rattle.sky_base.specs.KitView.{Gives}
use Rattle.sky_base.specs.Name.{big_endian}
use Rattle.sky_base.specs.See as s
use Rattle.ciel_journal.specs.Entries.{Entry}
use Rattle.ciel_journal.specs.History.{Event, Plan, Standing, after, before_all, lost, standing}
use Rattle.ciel_journal.specs.Job.{Job}
use Rattle.ciel_journal.specs.Lawful.{Lawful, LawfulFrom, Step}
use Rattle.ciel_journal.specs.Turns.{DrivenFrom}
use Rattle.ciel_journal.proofs.Append.{after_append, lawful_append}
use Rattle.ciel_log.specs.Logs as logs
use Rattle.ciel_log.specs.Logs.{AllFit, Idle, Logs, Records}
use Rattle.ciel_log_follows.specs.Begins.{AllReadable, BeginsLog, ReadsIdle}
use Rattle.ciel_log_read.specs.Recorded.{FitsBlock}
use Rattle.ciel_log_records.specs.Records.{in_file}
use Rattle.ciel_task_order.specs.Named.{shop_job}
use Rattle.ciel_log_readable.specs.Readable.{BeginsWritten, IsWritable}
use Rattle.ciel_log_readable.proofs.Events.{SavedFits, SavesFit, event_read, saves_on, starts_on}

-- what is driven is lawful
driven_from : {D : Type 0} (job : Job D) (p : Plan) (v : Standing D) (es : List (Event D)) → DrivenFrom job p v es → LawfulFrom job p v es
driven_from job p v [] d = tt
driven_from job p v (e ∷ es) d = (d.0, driven_from job p (after job v e) es d.2)

file_length : (bytes : List ℕ) → length (in_file bytes) ≡ length bytes + 4
file_length bytes =
    let four : length (big_endian 4 (length bytes)) ≡ 4 = omega arith in
    let e = length-append (big_endian 4 (length bytes)) bytes in
    omega (arith, four, e)

module _ (digest : List ℕ → List ℕ) (job : s.Job) (gives : Gives) (p : Plan) (w : IsWritable digest job p) where
  abbrev the : Job s.Desc
  the = shop_job digest job gives

  -- what is known of a history of which at most so many bytes tell
  record At (past : List (Event s.Desc)) (n : ℕ) : Type 0 where
    lawful : Lawful the p past
    saves : SavesFit (standing the past)
    starts : (standing the past).starts ≤ n

  one_more : (past : List (Event s.Desc)) (e : Event s.Desc) → standing the (past ++ e ∷ []) ≡ after the (standing the past) e
  one_more past e = after_append the (before_all the) past e

  at_first : At [] 0
  at_first = record { lawful = tt; saves = tt; starts = omega arith }

  onward : (past : List (Event s.Desc)) (e : Event s.Desc) (n m : ℕ) → At past n → Step the p (standing the past) e → SavedFits e
      → (after the (standing the past) e).starts ≤ m → At (past ++ e ∷ []) m
  onward past e n m a step saved le =
      record {
        lawful = lawful_append the p (before_all the) past e a.lawful step;
        saves = subst SavesFit (sym (one_more past e)) (saves_on the (standing the past) e a.saves saved);
        starts = subst (λ (v : Standing s.Desc). v.starts ≤ m) (sym (one_more past e)) le;
      }

  -- a record of no open Start can be read where it is short
  idle_read : (past : List (Event s.Desc)) (bytes : List ℕ) (d : Idle digest job gives past bytes) → FitsBlock bytes
      → ReadsIdle digest job gives past bytes d
  idle_read past bytes (logs.reported k free spawned copied how can) l = can l
  idle_read past bytes (logs.dropped k free) l = tt

  each : {past es : List (Event s.Desc)} {rest : List ℕ} → (r : Records digest job gives past es rest) → AllFit digest job gives r → (n : ℕ)
      → At past n → LawfulFrom the p (standing the past) es → n + length rest < 2 ^ 64 → AllReadable digest job gives r
  each logs.over f n a l few = tt
  each (logs.idle {past} {es} {rest} bytes d more) f n a l few =
      let long = length-append (in_file bytes) rest in
      let all : n + length (in_file bytes ++ rest) < 18446744073709551616 = few in
      let less : n + length rest < 18446744073709551616 = omega (arith, long, all) in
      (f.0, idle_read past bytes d f.0, each more f.1 n a l less)
  each (logs.loses {past} {es} {rest} u closes more) f n a l few =
      let starts = a.starts in
      each more f n (onward past (lost u closes) n n a l.0 tt starts)
      (subst (λ (v : Standing s.Desc). LawfulFrom the p v es) (sym (one_more past (lost u closes))) l.1) few
  each (logs.tells {past} {es} {rest} e bytes r more) f n a l few =
      let long = length-append (in_file bytes) rest in
      let file = file_length bytes in
      let all : n + length (in_file bytes ++ rest) < 18446744073709551616 = few in
      let starts = a.starts in
      let small : (standing the past).starts < 18446744073709551616 = omega (arith, starts, all) in
      let told = event_read digest job gives w.script w.names p w.workers w.losses past a.lawful small a.saves e l.0 bytes r f.0 in
      let one = starts_on the (standing the past) e in
      let grown : (after the (standing the past) e).starts ≤ n + length (in_file bytes) = omega (arith, starts, one, file) in
      let less : n + length (in_file bytes) + length rest < 18446744073709551616 = omega (arith, long, all) in (
        f.0,
        told.0,
        each more f.1 (n + length (in_file bytes)) (onward past e n (n + length (in_file bytes)) a l.0 told.1 grown)
            (subst (λ (v : Standing s.Desc). LawfulFrom the p v es) (sym (one_more past e)) l.1) less,
      )

  module _ (header : List ℕ) (journal : List Entry) (all : List ℕ) (l : Logs digest job gives p header journal all)
      (fit : AllFit digest job gives l.records) (few : length all < 2 ^ 64) where
    less : 0 + length l.rest < 2 ^ 64
    less =
        let e = ap length l.all in
        let both = length-append (in_file header) l.rest in
        let all_few : length all < 18446744073709551616 = few in
        let lt : 0 + length l.rest < 18446744073709551616 = omega (arith, e, both, all_few) in
        lt

    pub all_readable : AllReadable digest job gives l.records
    all_readable = each l.records fit 0 at_first (driven_from the p (before_all the) l.history l.driven) less

  pub begins : (header bytes : List ℕ) → BeginsWritten digest job gives p header bytes → BeginsLog digest job gives p header bytes
  begins header bytes b =
      record {
        journal = b.journal;
        all = b.all;
        log = b.log;
        short = b.short;
        read = all_readable header b.journal b.all b.log b.fit b.long;
        prefix = b.prefix;
      }
