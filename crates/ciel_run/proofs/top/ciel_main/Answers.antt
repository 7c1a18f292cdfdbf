-- What the run of the line that the words are says, the words say.
use Rattle.std.proofs.Common.{◌≡◌, ◌⊎◌, ◌≤◌, ◌++◌, ◌∙◌, ap, ℕ, List, [], None, Option, Some, map, subst, sym, true}
use Rattle.ciel_io.specs.Faults.{HasRisen}
use Rattle.ciel_io.specs.Tells.{Tells}
use Rattle.ciel_run_line.specs.Views.{entry_view}
use Rattle.ciel_run_line.specs.Asked.{AsksFor, StopsFor}
use Rattle.ciel_run_line.specs.Causes.{IfNoMemo, IfOther}
use Rattle.ciel_run_line.specs.Gates.{GatesTell}
use Rattle.ciel_run_line.specs.Keeping.{HasBytes}
use Rattle.ciel_run_line.specs.Line.{OfLine, OverFiles, files_of, is_traced, job_paths, last_paths, log_of, workers_of}
use Rattle.ciel_run_line.specs.Logging.{most}
use Rattle.ciel_run_line.specs.Runs.{EndsShown, IsDriven}
use Rattle.ciel_run.specs.Ending.{Answers, AsksKept, EndCause, IsExpected, LogSays, MemoSays, TellsParts, Writes, WritesAnswer, WritesPart, memo_of, trace_of}
use Rattle.ciel_run_line.specs.Told.{told_of}
use Rattle.ciel_run_log.specs.Message.{message_of}
use Rattle.ciel_run_log.specs.declared.why.Why.{Why}
use Rattle.ciel_words.specs.Line.{line_of}
use Rattle.ciel_run.proofs.Headline.{few, missing, needed, one_value, one_wait}
use Rattle.ciel_run.proofs.Kept.{if_keep_fault, if_log_full}
use Rattle.ciel_run.proofs.Modest.{answers}
use Rattle.ciel_run.proofs.Over.{at_line, begun_of, distinct, endless, expected, first_of, limits, name_clash, no_write, not_usage, over_line}
use Rattle.ciel_run.proofs.Over.{all_lost, bad_log, bad_memo, done_at, fault, other_job, read_fault, too_deep, too_many, way, writes, writes_part}
use Rattle.ciel_run.proofs.Troubles.{keep_fault_map, on_right}
use Rattle.ciel_run.proofs.top.ciel_main.Goals as goal

-- words that are a line are not none
none_some : {A : Type 0} {o : Option A} {a : A} → o ≡ None → o ≡ Some a → ⊥
none_some none some = let e : None ≡ Some _ = sym none ∙ some in absurd cc

pub run_line-requires-clause-line : goal.run_line-requires-clause-line
run_line-requires-clause-line g c κs within = c.lines_are_sound.ensures c.args.words.now c.in-Ok.line c.in-Ok.ensures.line

pub returns-clause-bytes : goal.returns-clause-bytes
returns-clause-bytes g c = λ zero.
    let content = g.F.Files.content c.args.files.now in
    let b = g.O.Sink.written c.args.out.now in
    let n = g.O.Sink.written c.run_line.new.out in
    over_line c.args.words.now c.in-Ok.line (λ w. OfLine content w (λ h source inputs. WritesAnswer h w source inputs b n)) c.in-Ok.ensures.line
    (writes content c.in-Ok.line b n (c.run_line.ensures.done (done_at c.run_line.result.why (sym c.run_line.ensures.status ∙ zero))))

pub returns-clause-all_lost : goal.returns-clause-all_lost
returns-clause-all_lost g c = all_lost (g.F.Files.content c.args.files.now) c.args.words.now c.in-Ok.line c.in-Ok.ensures.line
    (HasRisen (g.F.Files.faults c.args.files.now) (g.F.Files.faults c.run_line.new.files)) (map entry_view c.run_line.result.journal.items)
    c.run_line.result.why c.run_line.ensures.cause

pub returns-clause-write_fault : goal.returns-clause-write_fault
returns-clause-write_fault g c = λ failed.
    at_line c.args.words.now c.in-Ok.line (λ o. HasRisen (g.O.Sink.faults c.args.out.now) (g.O.Sink.faults c.run_line.new.out)
    ⊎ ((is_traced o ≡ true) × HasRisen (g.J.Sink.faults c.args.log.now) (g.J.Sink.faults c.run_line.new.log))) c.in-Ok.ensures.line
    (c.run_line.ensures.write_fault failed)

pub returns-clause-driven : goal.returns-clause-driven
returns-clause-driven g c =
    over_line c.args.words.now c.in-Ok.line (λ w. OfLine (g.F.Files.content c.args.files.now) w
    (λ h source inputs. IsDriven h w source inputs (map entry_view c.run_line.result.journal.items))) c.in-Ok.ensures.line c.run_line.ensures.driven

pub returns-clause-needed : goal.returns-clause-needed
returns-clause-needed g c = λ w f h given source inputs st. needed h w source inputs (map entry_view c.run_line.result.journal.items)

pub returns-clause-missing : goal.returns-clause-missing
returns-clause-missing g c = λ w f h given source inputs st. missing h w source inputs (map entry_view c.run_line.result.journal.items)

pub returns-clause-few : goal.returns-clause-few
returns-clause-few g c = λ w f h given source inputs st. few h w source inputs (map entry_view c.run_line.result.journal.items)

pub returns-clause-one_value : goal.returns-clause-one_value
returns-clause-one_value g c = λ w f h given source inputs st. one_value h w source inputs (map entry_view c.run_line.result.journal.items)

pub returns-clause-one_wait : goal.returns-clause-one_wait
returns-clause-one_wait g c = λ w f h given source inputs st. one_wait h w source inputs (map entry_view c.run_line.result.journal.items)

pub returns-in-Err-Usage-clause-needed : goal.returns-in-Err-Usage-clause-needed
returns-in-Err-Usage-clause-needed g c = λ w f h given source inputs st. needed h w source inputs (map entry_view c.refused.result.journal.items)

pub returns-in-Err-Usage-clause-missing : goal.returns-in-Err-Usage-clause-missing
returns-in-Err-Usage-clause-missing g c = λ w f h given source inputs st. missing h w source inputs (map entry_view c.refused.result.journal.items)

pub returns-in-Err-Usage-clause-few : goal.returns-in-Err-Usage-clause-few
returns-in-Err-Usage-clause-few g c = λ w f h given source inputs st. few h w source inputs (map entry_view c.refused.result.journal.items)

pub returns-in-Err-Usage-clause-one_value : goal.returns-in-Err-Usage-clause-one_value
returns-in-Err-Usage-clause-one_value g c = λ w f h given source inputs st. one_value h w source inputs (map entry_view c.refused.result.journal.items)

pub returns-in-Err-Usage-clause-one_wait : goal.returns-in-Err-Usage-clause-one_wait
returns-in-Err-Usage-clause-one_wait g c = λ w f h given source inputs st. one_wait h w source inputs (map entry_view c.refused.result.journal.items)

pub returns-in-Err-Memory-clause-needed : goal.returns-in-Err-Memory-clause-needed
returns-in-Err-Memory-clause-needed g c = λ w f h given source inputs st. needed h w source inputs (map entry_view c.refused-in-Err-Memory.result.journal.items)

pub returns-in-Err-Memory-clause-missing : goal.returns-in-Err-Memory-clause-missing
returns-in-Err-Memory-clause-missing g c = λ w f h given source inputs st. missing h w source inputs
    (map entry_view c.refused-in-Err-Memory.result.journal.items)

pub returns-in-Err-Memory-clause-few : goal.returns-in-Err-Memory-clause-few
returns-in-Err-Memory-clause-few g c = λ w f h given source inputs st. few h w source inputs (map entry_view c.refused-in-Err-Memory.result.journal.items)

pub returns-in-Err-Memory-clause-one_value : goal.returns-in-Err-Memory-clause-one_value
returns-in-Err-Memory-clause-one_value g c =
    λ w f h given source inputs st. one_value h w source inputs (map entry_view c.refused-in-Err-Memory.result.journal.items)

pub returns-in-Err-Memory-clause-one_wait : goal.returns-in-Err-Memory-clause-one_wait
returns-in-Err-Memory-clause-one_wait g c = λ w f h given source inputs st. one_wait h w source inputs (map entry_view c.refused-in-Err-Memory.result.journal.items)

pub returns-clause-too_deep : goal.returns-clause-too_deep
returns-clause-too_deep g c = too_deep (g.F.Files.content c.args.files.now) c.args.words.now c.in-Ok.line c.in-Ok.ensures.line
    (HasRisen (g.F.Files.faults c.args.files.now) (g.F.Files.faults c.run_line.new.files)) (map entry_view c.run_line.result.journal.items)
    c.run_line.result.why c.run_line.ensures.cause

pub returns-clause-read_fault : goal.returns-clause-read_fault
returns-clause-read_fault g c = read_fault (g.F.Files.content c.args.files.now) c.args.words.now c.in-Ok.line c.in-Ok.ensures.line
    (HasRisen (g.F.Files.faults c.args.files.now) (g.F.Files.faults c.run_line.new.files)) (map entry_view c.run_line.result.journal.items)
    c.run_line.result.why c.run_line.ensures.cause

pub returns-clause-complete : goal.returns-clause-complete
returns-clause-complete g c = λ quiet still silent kept.
    over_line c.args.words.now c.in-Ok.line (λ w. OfLine (g.F.Files.content c.args.files.now) w
    (λ h source inputs. IsExpected h w source inputs c.run_line.result.why)) c.in-Ok.ensures.line
    (expected (g.F.Files.content c.args.files.now) c.in-Ok.line c.files_are_told_in_one_way.ensures.both (HasRisen (g.F.Files.faults c.args.files.now) (g.F.Files.faults c.run_line.new.files))
    (map entry_view c.run_line.result.journal.items) c.run_line.result.why (g.O.Sink.written c.args.out.now) (g.O.Sink.written c.run_line.new.out)
    c.run_line.ensures.cause c.run_line.ensures.done quiet
    (λ failed. no_write _ _ _ (c.run_line.ensures.write_fault failed) still silent)
    (begun_of _ _ _ _ _ c.run_line.result.why _ c.in-Ok.ensures.line c.run_line.ensures.cause c.run_line.ensures.keep_fault kept))

pub returns-clause-answers : goal.returns-clause-answers
returns-clause-answers g c = λ quiet still silent kept.
    over_line c.args.words.now c.in-Ok.line (λ w. OfLine (g.F.Files.content c.args.files.now) w
    (λ h source inputs. Answers h w source inputs c.run_line.result.why)) c.in-Ok.ensures.line
    (answers (g.F.Files.content c.args.files.now) c.in-Ok.line (HasRisen (g.F.Files.faults c.args.files.now) (g.F.Files.faults c.run_line.new.files))
    (map entry_view c.run_line.result.journal.items) c.modest_runs_answer.ensures c.functions_are_orderly.ensures.orderly c.files_are_told_in_one_way.ensures.both c.run_line.result.why
    c.run_line.ensures.cause quiet
    (λ failed. no_write _ _ _ (c.run_line.ensures.write_fault failed) still silent)
    (begun_of _ _ _ _ _ c.run_line.result.why _ c.in-Ok.ensures.line c.run_line.ensures.cause c.run_line.ensures.keep_fault kept) c.run_line.ensures.driven)

pub returns-clause-message : goal.returns-clause-message
returns-clause-message g c = λ nl.
    at_line c.args.words.now c.in-Ok.line (λ o. Tells (g.J.Sink.written c.args.log.now) (g.J.Sink.written c.run_line.new.log)
    (trace_of (is_traced o) c.run_line.result.journal.items ++ message_of c.run_line.result.why)) c.in-Ok.ensures.line
    (c.run_line.ensures.message nl)

pub returns-clause-message_part : goal.returns-clause-message_part
returns-clause-message_part g c =
    at_line c.args.words.now c.in-Ok.line (λ o. TellsParts (g.J.Sink.written c.args.log.now) (g.J.Sink.written c.run_line.new.log)
    (trace_of (is_traced o) c.run_line.result.journal.items) (message_of c.run_line.result.why)) c.in-Ok.ensures.line
    c.run_line.ensures.message_part

pub returns-clause-logged : goal.returns-clause-logged
returns-clause-logged g c = λ done.
    at_line c.args.words.now c.in-Ok.line (λ o. Tells (g.J.Sink.written c.args.log.now) (g.J.Sink.written c.run_line.new.log)
    (trace_of (is_traced o) c.run_line.result.journal.items)) c.in-Ok.ensures.line (c.run_line.ensures.logged done)

pub returns-clause-usage : goal.returns-clause-usage
returns-clause-usage g c = λ u. absurd (not_usage (g.F.Files.content c.args.files.now) c.args.words.now c.in-Ok.line c.in-Ok.ensures.line
    (HasRisen (g.F.Files.faults c.args.files.now) (g.F.Files.faults c.run_line.new.files)) (map entry_view c.run_line.result.journal.items)
    c.run_line.result.why c.run_line.ensures.cause u)

pub returns-clause-fault : goal.returns-clause-fault
returns-clause-fault g c = fault (g.F.Files.content c.args.files.now) c.args.words.now c.in-Ok.line c.in-Ok.ensures.line
    (HasRisen (g.F.Files.faults c.args.files.now) (g.F.Files.faults c.run_line.new.files)) (map entry_view c.run_line.result.journal.items)
    c.run_line.result.why c.run_line.ensures.cause

pub returns-clause-part : goal.returns-clause-part
returns-clause-part g c = λ failed.
    let content = g.F.Files.content c.args.files.now in
    let b = g.O.Sink.written c.args.out.now in
    let n = g.O.Sink.written c.run_line.new.out in
    over_line c.args.words.now c.in-Ok.line (λ w. OfLine content w (λ h source inputs. WritesPart h w source inputs b n)) c.in-Ok.ensures.line
    (writes_part content c.in-Ok.line b n (c.run_line.ensures.part failed))

pub returns-clause-endless : goal.returns-clause-endless
returns-clause-endless g c = endless (g.F.Files.content c.args.files.now) c.args.words.now c.in-Ok.line c.in-Ok.ensures.line
    (HasRisen (g.F.Files.faults c.args.files.now) (g.F.Files.faults c.run_line.new.files)) (map entry_view c.run_line.result.journal.items)
    c.run_line.result.why c.run_line.ensures.cause

pub returns-clause-too_many : goal.returns-clause-too_many
returns-clause-too_many g c = too_many (g.F.Files.content c.args.files.now) c.args.words.now c.in-Ok.line c.in-Ok.ensures.line
    (HasRisen (g.F.Files.faults c.args.files.now) (g.F.Files.faults c.run_line.new.files)) (map entry_view c.run_line.result.journal.items)
    c.run_line.result.why c.run_line.ensures.cause

pub returns-clause-name_clash : goal.returns-clause-name_clash
returns-clause-name_clash g c = name_clash (g.F.Files.content c.args.files.now) c.args.words.now c.in-Ok.line c.in-Ok.ensures.line
    (HasRisen (g.F.Files.faults c.args.files.now) (g.F.Files.faults c.run_line.new.files)) (map entry_view c.run_line.result.journal.items)
    c.run_line.result.why c.run_line.ensures.cause

pub returns-clause-distinct : goal.returns-clause-distinct
returns-clause-distinct g c = distinct (g.F.Files.content c.args.files.now) c.args.words.now c.in-Ok.line c.in-Ok.ensures.line
    (HasRisen (g.F.Files.faults c.args.files.now) (g.F.Files.faults c.run_line.new.files)) (map entry_view c.run_line.result.journal.items)
    c.run_line.result.why c.run_line.ensures.cause

pub returns-clause-bad_log : goal.returns-clause-bad_log
returns-clause-bad_log g c = bad_log (g.F.Files.content c.args.files.now) c.args.words.now c.in-Ok.line c.in-Ok.ensures.line
    (HasRisen (g.F.Files.faults c.args.files.now) (g.F.Files.faults c.run_line.new.files)) (map entry_view c.run_line.result.journal.items)
    c.run_line.result.why c.run_line.ensures.cause

pub returns-clause-bad_memo : goal.returns-clause-bad_memo
returns-clause-bad_memo g c = bad_memo (g.F.Files.content c.args.files.now) c.args.words.now c.in-Ok.line c.in-Ok.ensures.line
    (HasRisen (g.F.Files.faults c.args.files.now) (g.F.Files.faults c.run_line.new.files)) (map entry_view c.run_line.result.journal.items)
    c.run_line.result.why c.run_line.ensures.cause

pub returns-clause-other_job : goal.returns-clause-other_job
returns-clause-other_job g c = other_job (g.F.Files.content c.args.files.now) c.args.words.now c.in-Ok.line c.in-Ok.ensures.line
    (HasRisen (g.F.Files.faults c.args.files.now) (g.F.Files.faults c.run_line.new.files)) (map entry_view c.run_line.result.journal.items)
    c.run_line.result.why c.run_line.ensures.cause

pub returns-clause-way : goal.returns-clause-way
returns-clause-way g c = way (g.F.Files.content c.args.files.now) c.args.words.now c.in-Ok.line c.in-Ok.ensures.line
    (HasRisen (g.F.Files.faults c.args.files.now) (g.F.Files.faults c.run_line.new.files)) (map entry_view c.run_line.result.journal.items)
    (c.lines_are_sound.ensures c.args.words.now c.in-Ok.line c.in-Ok.ensures.line) c.run_line.result.why c.run_line.ensures.cause

pub returns-clause-limits : goal.returns-clause-limits
returns-clause-limits g c = limits (g.F.Files.content c.args.files.now) c.args.words.now c.in-Ok.line c.in-Ok.ensures.line
    (HasRisen (g.F.Files.faults c.args.files.now) (g.F.Files.faults c.run_line.new.files)) (map entry_view c.run_line.result.journal.items)
    (g.O.Sink.written c.args.out.now) (g.O.Sink.written c.run_line.new.out) c.run_line.result.why c.run_line.ensures.cause c.run_line.ensures.done
    c.run_line.ensures.part

pub returns-clause-answer_first : goal.returns-clause-answer_first
returns-clause-answer_first g c = λ failed.
    first_of (g.F.Files.content c.args.files.now) c.args.words.now c.in-Ok.line c.in-Ok.ensures.line
    (HasRisen (g.O.Sink.faults c.args.out.now) (g.O.Sink.faults c.run_line.new.out)) (g.O.Sink.written c.args.out.now)
    (g.O.Sink.written c.run_line.new.out) (c.run_line.ensures.answer_first failed)

pub returns-clause-order : goal.returns-clause-order
returns-clause-order g c =
    over_line c.args.words.now c.in-Ok.line (λ w. StopsFor (g.F.Files.content c.args.files.now) (files_of w) w.memo w.resume
    (g.F.Files.asked c.args.files.now) (g.F.Files.asked c.run_line.new.files) c.run_line.result.why) c.in-Ok.ensures.line c.run_line.ensures.order

pub returns-clause-none_begins : goal.returns-clause-none_begins
returns-clause-none_begins g c = λ none. absurd (none_some none c.in-Ok.ensures.line)

pub returns-clause-none_enters : goal.returns-clause-none_enters
returns-clause-none_enters g c = λ none. absurd (none_some none c.in-Ok.ensures.line)

pub returns-clause-all_or_nothing : goal.returns-clause-all_or_nothing
returns-clause-all_or_nothing g c = λ memory.
    first_of (g.F.Files.content c.args.files.now) c.args.words.now c.in-Ok.line c.in-Ok.ensures.line (c.run_line.new.out ≡ c.args.out.now)
    (g.O.Sink.written c.args.out.now) (g.O.Sink.written c.run_line.new.out) (c.run_line.ensures.all_or_nothing memory)

pub returns-clause-begun : goal.returns-clause-begun
returns-clause-begun g c =
    let content = g.F.Files.content c.args.files.now in
    let b = g.O.Sink.written c.args.out.now in
    let n = g.O.Sink.written c.run_line.new.out in
    let J = map entry_view c.run_line.result.journal.items in
    let none : Type 0 = (J ≡ []) × (c.run_line.new.gates ≡ c.args.gates.now) × (c.run_line.new.out ≡ c.args.out.now) in
    let shown : Type 0 =
    OverFiles content c.args.words.now (λ h w source inputs. EndsShown h w source inputs J × WritesAnswer h w source inputs b n) in
    let ended : Writes content c.in-Ok.line (Tells b n) × OfLine content c.in-Ok.line (λ h source inputs. EndsShown h c.in-Ok.line source inputs J) → shown =
    (λ x. over_line c.args.words.now c.in-Ok.line
    (λ w. OfLine content w (λ h source inputs. EndsShown h w source inputs J × WritesAnswer h w source inputs b n)) c.in-Ok.ensures.line
    (λ h given source inputs st. (x.1 h given source inputs st, writes content c.in-Ok.line b n x.0 h given source inputs st))) in
    keep_fault_map c.run_line.result.why
    (λ path. none ⊎ (Writes content c.in-Ok.line (Tells b n) × OfLine content c.in-Ok.line (λ h source inputs. EndsShown h c.in-Ok.line source inputs J)))
    (λ path. none ⊎ shown) (λ path x. on_right ended x) c.run_line.ensures.begun

pub returns-clause-told : goal.returns-clause-told
returns-clause-told g c = λ some.
    at_line c.args.words.now c.in-Ok.line (λ o. GatesTell (g.F.Files.content c.args.files.now) o (map entry_view c.run_line.result.journal.items)
    (told_of g.G.Gate.entered (workers_of o) c.args.gates.now.items) (told_of g.G.Gate.entered (workers_of o) c.run_line.new.gates.items))
    c.in-Ok.ensures.line (c.run_line.ensures.told some)

pub returns-clause-asked : goal.returns-clause-asked
returns-clause-asked g c =
    at_line c.args.words.now c.in-Ok.line (λ o. AsksFor c.run_line.result.why (job_paths o) (last_paths o) (g.F.Files.asked c.args.files.now)
    (g.F.Files.asked c.run_line.new.files)) c.in-Ok.ensures.line c.run_line.ensures.asked

pub returns-clause-of_other : goal.returns-clause-of_other
returns-clause-of_other g c = λ quiet.
    over_line c.args.words.now c.in-Ok.line (λ w. IfOther (g.F.Files.content c.args.files.now) w
    (λ path. (c.run_line.result.why ≡ Why.OtherJob path) ⊎ (c.run_line.result.why ≡ Why.Memory))) c.in-Ok.ensures.line (c.run_line.ensures.of_other quiet)

pub returns-clause-of_bad_memo : goal.returns-clause-of_bad_memo
returns-clause-of_bad_memo g c = λ quiet.
    over_line c.args.words.now c.in-Ok.line (λ w. IfNoMemo (g.F.Files.content c.args.files.now) w
    (λ path at. (c.run_line.result.why ≡ Why.BadMemo path at) ⊎ (c.run_line.result.why ≡ Why.Memory))) c.in-Ok.ensures.line
    (c.run_line.ensures.of_bad_memo quiet)

pub returns-clause-memo : goal.returns-clause-memo
returns-clause-memo g c = λ done.
    over_line c.args.words.now c.in-Ok.line (λ w. MemoSays (g.F.Files.content c.args.files.now) w (g.D.Keep.files c.run_line.new.keep))
    c.in-Ok.ensures.line (c.run_line.ensures.memo done)

-- ---- of the keeper

pub returns-clause-keep_fault : goal.returns-clause-keep_fault
returns-clause-keep_fault g c =
    let words = c.args.words.now in
    let line = c.in-Ok.line in
    let content = g.F.Files.content c.args.files.now in
    let risen = HasRisen (g.F.Files.faults c.args.files.now) (g.F.Files.faults c.run_line.new.files) in
    let failed = HasRisen (g.D.Keep.faults c.args.keep.now) (g.D.Keep.faults c.run_line.new.keep) in
    if_keep_fault (λ path. failed) (λ path. ((log_of (line_of words) ≡ Some path) ⊎ (memo_of (line_of words) ≡ Some path)) × failed)
    c.run_line.result.why
    (λ path is f. (
      at_line words line (λ o. (log_of o ≡ Some path) ⊎ (memo_of o ≡ Some path)) c.in-Ok.ensures.line
          (subst (EndCause content line risen (map entry_view c.run_line.result.journal.items)) is c.run_line.ensures.cause).1,
      f,
    ))
    c.run_line.ensures.keep_fault

pub returns-clause-log_full : goal.returns-clause-log_full
returns-clause-log_full g c =
    let words = c.args.words.now in
    let line = c.in-Ok.line in
    let content = g.F.Files.content c.args.files.now in
    let risen = HasRisen (g.F.Files.faults c.args.files.now) (g.F.Files.faults c.run_line.new.files) in
    let files = g.D.Keep.files c.run_line.new.keep in
    if_log_full (λ path held. (held ≤ most) × HasBytes path files held)
    (λ path held. (log_of (line_of words) ≡ Some path) × (held ≤ most) × HasBytes path files held) c.run_line.result.why
    (λ path held is f. (
      at_line words line (λ o. log_of o ≡ Some path) c.in-Ok.ensures.line
          (subst (EndCause content line risen (map entry_view c.run_line.result.journal.items)) is c.run_line.ensures.cause).1,
      f.0,
      f.1,
    ))
    c.run_line.ensures.log_full

pub returns-clause-full : goal.returns-clause-full
returns-clause-full g c =
    let words = c.args.words.now in
    let line = c.in-Ok.line in
    let content = g.F.Files.content c.args.files.now in
    let b = g.O.Sink.written c.args.out.now in
    let n = g.O.Sink.written c.run_line.new.out in
    if_log_full (λ path held. Writes content line (Tells b n))
    (λ path held. OverFiles content words (λ h w source inputs. WritesAnswer h w source inputs b n)) c.run_line.result.why
    (λ path held is f. over_line words line (λ w. OfLine content w (λ h source inputs. WritesAnswer h w source inputs b n)) c.in-Ok.ensures.line
    (writes content line b n f))
    c.run_line.ensures.full

pub returns-clause-unasked : goal.returns-clause-unasked
returns-clause-unasked g c = λ log memo.
    c.run_line.ensures.unasked (ap log_of (sym c.in-Ok.ensures.line) ∙ log) (ap memo_of (sym c.in-Ok.ensures.line) ∙ memo)

pub returns-clause-keep_asked : goal.returns-clause-keep_asked
returns-clause-keep_asked g c =
    at_line c.args.words.now c.in-Ok.line (λ o. AsksKept (log_of o) (memo_of o) c.run_line.result.why (g.D.Keep.asked c.args.keep.now)
    (g.D.Keep.asked c.run_line.new.keep)) c.in-Ok.ensures.line c.run_line.ensures.keep_asked

pub returns-clause-log_told : goal.returns-clause-log_told
returns-clause-log_told g c =
    over_line c.args.words.now c.in-Ok.line (λ w. OfLine (g.F.Files.content c.args.files.now) w
    (λ h source inputs. LogSays h w source inputs (map entry_view c.run_line.result.journal.items)
    (HasRisen (g.D.Keep.faults c.args.keep.now) (g.D.Keep.faults c.run_line.new.keep)) (g.D.Keep.files c.run_line.new.keep) c.run_line.result.why))
    c.in-Ok.ensures.line c.run_line.ensures.log_told
