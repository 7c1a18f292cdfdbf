-- What was written has no other cause, and what wasn't has that of its job.
use Rattle.std.proofs.Common.{rules, ◌≡◌, ◌≢◌, ◌≤◌, ◌⊎◌, ◌∙◌, inl, inr, ℕ, List, [], Err, Ok, Some, length, map, subst, sym}
use Rattle.std.specs.Prelude.{IfErr, IfOk, Result}
use Rattle.sky_base.specs.See as s
use Rattle.sky_base.specs.See.{Answered}
use Rattle.ciel_io.specs.Faults.{HasRisen}
use Rattle.ciel_io.specs.Tells.{Tells}
use Rattle.ciel_run_line.specs.Answering.{HasEnd}
use Rattle.ciel_run_line.specs.Asked.{AsksFor, AsksOf, NoRun, NoRunOf, ShowsResult, StopsFor}
use Rattle.ciel_run_line.specs.Logging.{most}
use Rattle.ciel_run_line.specs.Causes.{CauseOf, OfRun}
use Rattle.ciel_run_line.specs.Keeping.{HasBytes, KeeperSeen, KeepsLog, LogTold}
use Rattle.ciel_run_line.specs.Source.{around}
use Rattle.ciel_run_line.specs.Line.{OfLine, behind_job, files_of, paths_in}
use Rattle.ciel_run_line.specs.Runs.{EndsShown, IsDriven, log_path}
use Rattle.ciel_run_line.specs.Gates.{GatesTell}
use Rattle.ciel_run_line.specs.Told.{told_of}
use Rattle.ciel_run_line.specs.Views.{entry_view}
use Rattle.ciel_run.specs.Ending.{AsksLog, EndCause, EndsJob, IfKeepFault, IfLogFull, LogSays, Writes, WritesNothing}
use Rattle.ciel_run_log.specs.declared.why.Ended.{Ended}
use Rattle.ciel_run_log.specs.declared.why.Why.{Why}
use Rattle.ciel_run.proofs.Others.{bad_no_answer, bad_why, other_no_answer, other_why}
use Rattle.ciel_run.proofs.Over.{end_cause}
use Rattle.ciel_run.proofs.Troubles.{answer_falls, asked_so, asked_then, begun_then, end_falls, err_is, files_asked, full_then, has_end, keep_fault, keep_fault_so, keep_named, log_full, log_plain, no_run_is_plain, says, says_so, something, trouble_cause}
use Rattle.ciel_run.proofs.top.run.Goals as goal

pub returns-in-Err-clause-cause : goal.returns-in-Err-clause-cause
returns-in-Err-clause-cause g c =
    let content = g.F.Files.content c.args.files.now in
    let line = c.args.line.now in
    let risen = HasRisen (g.F.Files.faults c.args.files.now) (g.F.Files.faults c.answer_line-answered.new.files) in
    let J = map entry_view c.answer_line-answered.result.answered.journal.items in
    subst (λ (r : Ended). EndCause content line risen (map entry_view r.journal.items) r.why) (sym c.ended-in-Err.ensures)
    (end_cause content line risen J c.in-Err.why
    (subst (λ (r : Result (List ℕ) Why). IfErr r (CauseOf content line risen J)) c.in-Err.is c.answer_line-answered.ensures.none))

pub returns-in-Err-clause-order : goal.returns-in-Err-clause-order
returns-in-Err-clause-order g c =
    let content = g.F.Files.content c.args.files.now in
    let f = files_of c.args.line.now in
    let b = g.F.Files.asked c.args.files.now in
    let n = g.F.Files.asked c.answer_line-answered.new.files in
    subst (λ (r : Ended). StopsFor content f c.args.line.now.memo c.args.line.now.resume b n r.why) (sym c.ended-in-Err.ensures)
    (subst (λ (r : Result (List ℕ) Why). IfErr r (StopsFor content f c.args.line.now.memo c.args.line.now.resume b n)) c.in-Err.is c.answer_line-answered.ensures.order)

pub returns-in-Ok-clause-cause : goal.returns-in-Ok-clause-cause
returns-in-Ok-clause-cause g c =
    let content = g.F.Files.content c.args.files.now in
    let line = c.args.line.now in
    let risen = HasRisen (g.F.Files.faults c.args.files.now) (g.F.Files.faults c.answer_line-answered.new.files) in
    let J = map entry_view c.answer_line-answered.result.answered.journal.items in
    let state = c.answer_line-answered.result.answered.state in
    let before : KeeperSeen =
    record {
      files = g.D.Keep.files c.args.keep.now;
      asked = g.D.Keep.asked c.args.keep.now;
      faults = g.D.Keep.faults c.args.keep.now;
    } in
    let now : KeeperSeen =
    record {
      files = g.D.Keep.files c.answer_line-answered.new.keep;
      asked = g.D.Keep.asked c.answer_line-answered.new.keep;
      faults = g.D.Keep.faults c.answer_line-answered.new.keep;
    } in
    let keeps = subst (λ (r : Result (List ℕ) Why). KeepsLog (log_path line) before now r state) c.in-Ok.is c.answer_line-answered.ensures.keeps in
    let answer = subst (λ (r : Result (List ℕ) Why). IfOk r (λ b. OfRun content line risen J (λ h job. s.Means job (around h) (Answered.bytes b))))
    c.in-Ok.is c.answer_line-answered.ensures.bytes in
    subst (λ (r : Ended). EndCause content line risen (map entry_view r.journal.items) r.why) (sym c.ended.ensures)
    (trouble_cause content line risen J (λ path n. log_plain line c.requires.line path n) c.in-Ok.answer answer state c.finish-why.result
    c.finish-why.ensures.ends)

pub returns-in-Ok-clause-nothing : goal.returns-in-Ok-clause-nothing
returns-in-Ok-clause-nothing g c =
    let content = g.F.Files.content c.args.files.now in
    let line = c.args.line.now in
    let risen = HasRisen (g.F.Files.faults c.args.files.now) (g.F.Files.faults c.answer_line-answered.new.files) in
    let J = map entry_view c.answer_line-answered.result.answered.journal.items in
    let state = c.answer_line-answered.result.answered.state in
    let before : KeeperSeen =
    record {
      files = g.D.Keep.files c.args.keep.now;
      asked = g.D.Keep.asked c.args.keep.now;
      faults = g.D.Keep.faults c.args.keep.now;
    } in
    let now : KeeperSeen =
    record {
      files = g.D.Keep.files c.answer_line-answered.new.keep;
      asked = g.D.Keep.asked c.answer_line-answered.new.keep;
      faults = g.D.Keep.faults c.answer_line-answered.new.keep;
    } in
    let keeps = subst (λ (r : Result (List ℕ) Why). KeepsLog (log_path line) before now r state) c.in-Ok.is c.answer_line-answered.ensures.keeps in
    λ none. absurd (something (log_path line) state c.finish-why.result c.finish-why.ensures.ends
    (subst (λ (r : Ended). WritesNothing r.why) c.ended.ensures none))

pub returns-in-Ok-clause-keep_fault : goal.returns-in-Ok-clause-keep_fault
returns-in-Ok-clause-keep_fault g c =
    let content = g.F.Files.content c.args.files.now in
    let line = c.args.line.now in
    let risen = HasRisen (g.F.Files.faults c.args.files.now) (g.F.Files.faults c.answer_line-answered.new.files) in
    let J = map entry_view c.answer_line-answered.result.answered.journal.items in
    let state = c.answer_line-answered.result.answered.state in
    let before : KeeperSeen =
    record {
      files = g.D.Keep.files c.args.keep.now;
      asked = g.D.Keep.asked c.args.keep.now;
      faults = g.D.Keep.faults c.args.keep.now;
    } in
    let now : KeeperSeen =
    record {
      files = g.D.Keep.files c.answer_line-answered.new.keep;
      asked = g.D.Keep.asked c.answer_line-answered.new.keep;
      faults = g.D.Keep.faults c.answer_line-answered.new.keep;
    } in
    let keeps = subst (λ (r : Result (List ℕ) Why). KeepsLog (log_path line) before now r state) c.in-Ok.is c.answer_line-answered.ensures.keeps in
    subst (λ (r : Ended). IfKeepFault r.why (λ path. HasRisen before.faults now.faults)) (sym c.ended.ensures)
    (keep_fault (log_path line) before now c.in-Ok.answer state keeps c.finish-why.result c.finish-why.ensures.ends)

pub returns-in-Ok-clause-log_full : goal.returns-in-Ok-clause-log_full
returns-in-Ok-clause-log_full g c =
    let content = g.F.Files.content c.args.files.now in
    let line = c.args.line.now in
    let risen = HasRisen (g.F.Files.faults c.args.files.now) (g.F.Files.faults c.answer_line-answered.new.files) in
    let J = map entry_view c.answer_line-answered.result.answered.journal.items in
    let state = c.answer_line-answered.result.answered.state in
    let before : KeeperSeen =
    record {
      files = g.D.Keep.files c.args.keep.now;
      asked = g.D.Keep.asked c.args.keep.now;
      faults = g.D.Keep.faults c.args.keep.now;
    } in
    let now : KeeperSeen =
    record {
      files = g.D.Keep.files c.answer_line-answered.new.keep;
      asked = g.D.Keep.asked c.answer_line-answered.new.keep;
      faults = g.D.Keep.faults c.answer_line-answered.new.keep;
    } in
    let keeps = subst (λ (r : Result (List ℕ) Why). KeepsLog (log_path line) before now r state) c.in-Ok.is c.answer_line-answered.ensures.keeps in
    subst (λ (r : Ended). IfLogFull r.why (λ path held. (held ≤ most) × HasBytes path now.files held)) (sym c.ended.ensures)
    (log_full (log_path line) before now c.in-Ok.answer state keeps c.finish-why.result c.finish-why.ensures.ends)

pub returns-in-Ok-clause-keep_asked : goal.returns-in-Ok-clause-keep_asked
returns-in-Ok-clause-keep_asked g c =
    let content = g.F.Files.content c.args.files.now in
    let line = c.args.line.now in
    let risen = HasRisen (g.F.Files.faults c.args.files.now) (g.F.Files.faults c.answer_line-answered.new.files) in
    let J = map entry_view c.answer_line-answered.result.answered.journal.items in
    let state = c.answer_line-answered.result.answered.state in
    let before : KeeperSeen =
    record {
      files = g.D.Keep.files c.args.keep.now;
      asked = g.D.Keep.asked c.args.keep.now;
      faults = g.D.Keep.faults c.args.keep.now;
    } in
    let now : KeeperSeen =
    record {
      files = g.D.Keep.files c.answer_line-answered.new.keep;
      asked = g.D.Keep.asked c.answer_line-answered.new.keep;
      faults = g.D.Keep.faults c.answer_line-answered.new.keep;
    } in
    let keeps = subst (λ (r : Result (List ℕ) Why). KeepsLog (log_path line) before now r state) c.in-Ok.is c.answer_line-answered.ensures.keeps in
    subst (λ (r : Ended). AsksLog (log_path line) r.why before.asked now.asked) (sym c.ended.ensures)
    (asked_then (log_path line) before now c.in-Ok.answer state keeps c.finish-why.result)

pub returns-in-Ok-clause-log_told : goal.returns-in-Ok-clause-log_told
returns-in-Ok-clause-log_told g c =
    let content = g.F.Files.content c.args.files.now in
    let line = c.args.line.now in
    let risen = HasRisen (g.F.Files.faults c.args.files.now) (g.F.Files.faults c.answer_line-answered.new.files) in
    let J = map entry_view c.answer_line-answered.result.answered.journal.items in
    let state = c.answer_line-answered.result.answered.state in
    let before : KeeperSeen =
    record {
      files = g.D.Keep.files c.args.keep.now;
      asked = g.D.Keep.asked c.args.keep.now;
      faults = g.D.Keep.faults c.args.keep.now;
    } in
    let now : KeeperSeen =
    record {
      files = g.D.Keep.files c.answer_line-answered.new.keep;
      asked = g.D.Keep.asked c.answer_line-answered.new.keep;
      faults = g.D.Keep.faults c.answer_line-answered.new.keep;
    } in
    let keeps = subst (λ (r : Result (List ℕ) Why). KeepsLog (log_path line) before now r state) c.in-Ok.is c.answer_line-answered.ensures.keeps in
    λ h given source inputs st.
    let told = subst (λ (r : Result (List ℕ) Why). LogTold h line source inputs J now.files state r) c.in-Ok.is
    (c.answer_line-answered.ensures.logged h given source inputs st) in
    subst (λ (r : Ended). LogSays h line source inputs (map entry_view r.journal.items) (HasRisen before.faults now.faults) now.files r.why) (sym c.ended.ensures)
    (says h line source inputs J (HasRisen before.faults now.faults) now.files state c.finish-why.result c.finish-why.ensures.ends told)

pub returns-in-Err-clause-keep_fault : goal.returns-in-Err-clause-keep_fault
returns-in-Err-clause-keep_fault g c =
    let content = g.F.Files.content c.args.files.now in
    let line = c.args.line.now in
    let risen = HasRisen (g.F.Files.faults c.args.files.now) (g.F.Files.faults c.answer_line-answered.new.files) in
    let J = map entry_view c.answer_line-answered.result.answered.journal.items in
    let state = c.answer_line-answered.result.answered.state in
    let before : KeeperSeen =
    record {
      files = g.D.Keep.files c.args.keep.now;
      asked = g.D.Keep.asked c.args.keep.now;
      faults = g.D.Keep.faults c.args.keep.now;
    } in
    let now : KeeperSeen =
    record {
      files = g.D.Keep.files c.answer_line-answered.new.keep;
      asked = g.D.Keep.asked c.answer_line-answered.new.keep;
      faults = g.D.Keep.faults c.answer_line-answered.new.keep;
    } in
    let keeps = subst (λ (r : Result (List ℕ) Why). KeepsLog (log_path line) before now r state) c.in-Err.is c.answer_line-answered.ensures.keeps in
    let cause = subst (λ (r : Result (List ℕ) Why). IfErr r (CauseOf content line risen J)) c.in-Err.is c.answer_line-answered.ensures.none in
    subst (λ (r : Ended). IfKeepFault r.why (λ path. HasRisen before.faults now.faults)) (sym c.ended-in-Err.ensures)
    (keep_fault_so (log_path line) before now c.in-Err.why state keeps (keep_named content line risen J c.in-Err.why cause))

pub returns-in-Err-clause-keep_asked : goal.returns-in-Err-clause-keep_asked
returns-in-Err-clause-keep_asked g c =
    let content = g.F.Files.content c.args.files.now in
    let line = c.args.line.now in
    let risen = HasRisen (g.F.Files.faults c.args.files.now) (g.F.Files.faults c.answer_line-answered.new.files) in
    let J = map entry_view c.answer_line-answered.result.answered.journal.items in
    let state = c.answer_line-answered.result.answered.state in
    let before : KeeperSeen =
    record {
      files = g.D.Keep.files c.args.keep.now;
      asked = g.D.Keep.asked c.args.keep.now;
      faults = g.D.Keep.faults c.args.keep.now;
    } in
    let now : KeeperSeen =
    record {
      files = g.D.Keep.files c.answer_line-answered.new.keep;
      asked = g.D.Keep.asked c.answer_line-answered.new.keep;
      faults = g.D.Keep.faults c.answer_line-answered.new.keep;
    } in
    let keeps = subst (λ (r : Result (List ℕ) Why). KeepsLog (log_path line) before now r state) c.in-Err.is c.answer_line-answered.ensures.keeps in
    let cause = subst (λ (r : Result (List ℕ) Why). IfErr r (CauseOf content line risen J)) c.in-Err.is c.answer_line-answered.ensures.none in
    subst (λ (r : Ended). AsksLog (log_path line) r.why before.asked now.asked) (sym c.ended-in-Err.ensures)
    (asked_so (log_path line) before now c.in-Err.why state keeps)

pub returns-in-Err-clause-log_told : goal.returns-in-Err-clause-log_told
returns-in-Err-clause-log_told g c =
    let content = g.F.Files.content c.args.files.now in
    let line = c.args.line.now in
    let risen = HasRisen (g.F.Files.faults c.args.files.now) (g.F.Files.faults c.answer_line-answered.new.files) in
    let J = map entry_view c.answer_line-answered.result.answered.journal.items in
    let state = c.answer_line-answered.result.answered.state in
    let before : KeeperSeen =
    record {
      files = g.D.Keep.files c.args.keep.now;
      asked = g.D.Keep.asked c.args.keep.now;
      faults = g.D.Keep.faults c.args.keep.now;
    } in
    let now : KeeperSeen =
    record {
      files = g.D.Keep.files c.answer_line-answered.new.keep;
      asked = g.D.Keep.asked c.answer_line-answered.new.keep;
      faults = g.D.Keep.faults c.answer_line-answered.new.keep;
    } in
    let keeps = subst (λ (r : Result (List ℕ) Why). KeepsLog (log_path line) before now r state) c.in-Err.is c.answer_line-answered.ensures.keeps in
    let cause = subst (λ (r : Result (List ℕ) Why). IfErr r (CauseOf content line risen J)) c.in-Err.is c.answer_line-answered.ensures.none in
    λ h given source inputs st.
    let told = subst (λ (r : Result (List ℕ) Why). LogTold h line source inputs J now.files state r) c.in-Err.is
    (c.answer_line-answered.ensures.logged h given source inputs st) in
    subst (λ (r : Ended). LogSays h line source inputs (map entry_view r.journal.items) (HasRisen before.faults now.faults) now.files r.why)
    (sym c.ended-in-Err.ensures)
    (says_so h line source inputs J (HasRisen before.faults now.faults) now.files state content risen before now c.in-Err.why cause keeps (λ r. r) told)

pub returns-in-Ok-clause-asked : goal.returns-in-Ok-clause-asked
returns-in-Ok-clause-asked g c =
    let ps = paths_in (files_of c.args.line.now) in
    let others = behind_job c.args.line.now in
    let b = g.F.Files.asked c.args.files.now in
    let n = g.F.Files.asked c.answer_line-answered.new.files in
    subst (λ (r : Ended). AsksFor r.why ps others b n) (sym c.ended.ensures)
    (files_asked (log_path c.args.line.now) c.answer_line-answered.result.answered.state c.finish-why.result ps others b n c.finish-why.ensures.ends
    (subst (λ (r : Result (List ℕ) Why). AsksOf r ps others b n) c.in-Ok.is c.answer_line-answered.ensures.asks))

pub returns-in-Ok-clause-begun : goal.returns-in-Ok-clause-begun
returns-in-Ok-clause-begun g c =
    let content = g.F.Files.content c.args.files.now in
    let line = c.args.line.now in
    let risen = HasRisen (g.F.Files.faults c.args.files.now) (g.F.Files.faults c.answer_line-answered.new.files) in
    let J = map entry_view c.answer_line-answered.result.answered.journal.items in
    let state = c.answer_line-answered.result.answered.state in
    let answer = subst (λ (r : Result (List ℕ) Why). IfOk r (λ b. OfRun content line risen J (λ h job. s.Means job (around h) (Answered.bytes b))))
    c.in-Ok.is c.answer_line-answered.ensures.bytes in
    let shows : ShowsResult c.answer_line-answered.result.answered.result = subst ShowsResult (sym c.in-Ok.is) tt in
    subst (λ (r : Ended). IfKeepFault r.why (λ path. ((map entry_view r.journal.items ≡ [])
    × (c.answer_line-answered.new.gates ≡ c.args.gates.now) × (c.finish-why.new.out ≡ c.args.out.now))
    ⊎ (Writes content line (Tells (g.O.Sink.written c.args.out.now) (g.O.Sink.written c.finish-why.new.out))
    × OfLine content line (λ h source inputs. EndsShown h line source inputs (map entry_view r.journal.items))))) (sym c.ended.ensures)
    (begun_then (log_path line) state c.finish-why.result _ c.finish-why.ensures.ends
    (λ path n k. inr (
      (c.in-Ok.answer, answer, c.finish-why.ensures.written (λ w. let bad : Why.KeepFault path ≡ Why.WriteFault = sym k ∙ w in cc)),
      c.answer_line-answered.ensures.root (log_plain line c.requires.line path n) shows,
    )))

pub returns-in-Ok-clause-full : goal.returns-in-Ok-clause-full
returns-in-Ok-clause-full g c =
    let content = g.F.Files.content c.args.files.now in
    let line = c.args.line.now in
    let risen = HasRisen (g.F.Files.faults c.args.files.now) (g.F.Files.faults c.answer_line-answered.new.files) in
    let J = map entry_view c.answer_line-answered.result.answered.journal.items in
    let answer = subst (λ (r : Result (List ℕ) Why). IfOk r (λ b. OfRun content line risen J (λ h job. s.Means job (around h) (Answered.bytes b))))
    c.in-Ok.is c.answer_line-answered.ensures.bytes in
    subst (λ (r : Ended). IfLogFull r.why (λ path held. Writes content line (Tells (g.O.Sink.written c.args.out.now) (g.O.Sink.written c.finish-why.new.out))))
    (sym c.ended.ensures)
    (full_then (log_path line) c.answer_line-answered.result.answered.state c.finish-why.result _ c.finish-why.ensures.ends
    (λ path held k.
    (c.in-Ok.answer, answer, c.finish-why.ensures.written (λ w. let bad : Why.LogFull path held ≡ Why.WriteFault = sym k ∙ w in cc))))

pub returns-in-Ok-clause-empty : goal.returns-in-Ok-clause-empty
returns-in-Ok-clause-empty g c =
    let line = c.args.line.now in
    let state = c.answer_line-answered.result.answered.state in
    subst (λ (r : Ended). NoRun line.plain r.why → map entry_view r.journal.items ≡ []) (sym c.ended.ensures)
    (λ n. c.answer_line-answered.ensures.empty (subst (NoRunOf line.plain) (sym c.in-Ok.is)
    (no_run_is_plain (log_path line) state c.finish-why.result line.plain c.finish-why.ensures.ends n)))

pub returns-in-Ok-clause-kept : goal.returns-in-Ok-clause-kept
returns-in-Ok-clause-kept g c =
    let line = c.args.line.now in
    let state = c.answer_line-answered.result.answered.state in
    subst (λ (r : Ended). NoRun line.plain r.why → c.answer_line-answered.new.gates ≡ c.args.gates.now) (sym c.ended.ensures)
    (λ n. c.answer_line-answered.ensures.kept (subst (NoRunOf line.plain) (sym c.in-Ok.is)
    (no_run_is_plain (log_path line) state c.finish-why.result line.plain c.finish-why.ensures.ends n)))

pub returns-in-Ok-clause-told : goal.returns-in-Ok-clause-told
returns-in-Ok-clause-told g c =
    let workers = c.args.line.now.workers in
    subst (λ (r : Ended). r.why ≢ Why.Memory → GatesTell (g.F.Files.content c.args.files.now) (Some c.args.line.now) (map entry_view r.journal.items) (told_of g.G.Gate.entered workers c.args.gates.now.items)
    (told_of g.G.Gate.entered workers c.answer_line-answered.new.gates.items)) (sym c.ended.ensures)
    (λ n. c.answer_line-answered.ensures.told (λ e. let bad : Ok c.in-Ok.answer ≡ Err Why.Memory = sym c.in-Ok.is ∙ e in cc))

pub returns-in-Err-clause-driven : goal.returns-in-Err-clause-driven
returns-in-Err-clause-driven g c =
    subst (λ (r : Ended). OfLine (g.F.Files.content c.args.files.now) c.args.line.now
    (λ h source inputs. IsDriven h c.args.line.now source inputs (map entry_view r.journal.items))) (sym c.ended-in-Err.ensures)
    c.answer_line-answered.ensures.driven

pub returns-in-Err-clause-told : goal.returns-in-Err-clause-told
returns-in-Err-clause-told g c =
    let workers = c.args.line.now.workers in
    subst (λ (r : Ended). r.why ≢ Why.Memory → GatesTell (g.F.Files.content c.args.files.now) (Some c.args.line.now) (map entry_view r.journal.items) (told_of g.G.Gate.entered workers c.args.gates.now.items)
    (told_of g.G.Gate.entered workers c.answer_line-answered.new.gates.items)) (sym c.ended-in-Err.ensures)
    (λ n. c.answer_line-answered.ensures.told (λ e. n (err_is c.in-Err.why Why.Memory c.answer_line-answered.result.answered.result c.in-Err.is e)))

pub returns-in-Err-clause-all : goal.returns-in-Err-clause-all
returns-in-Err-clause-all g c =
    subst (λ (r : Ended). r.why ≢ Why.Memory → length c.answer_line-answered.new.gates.items ≡ 64) (sym c.ended-in-Err.ensures)
    (λ n. c.answer_line-answered.ensures.all (λ e. n (err_is c.in-Err.why Why.Memory c.answer_line-answered.result.answered.result c.in-Err.is e)))

-- where it is known that the log is another job's

pub returns-in-Ok-clause-of_other : goal.returns-in-Ok-clause-of_other
returns-in-Ok-clause-of_other g c = λ quiet path bytes named log short memo source inputs there fits is other.
    let content = g.F.Files.content c.args.files.now in
    let risen = HasRisen (g.F.Files.faults c.args.files.now) (g.F.Files.faults c.answer_line-answered.new.files) in
    absurd (other_no_answer content c.args.line.now risen quiet path bytes named log short source inputs memo c.files_are_told_in_one_way.ensures.both there fits is
    c.answer_line-answered.result.answered.result (c.answer_line-answered.ensures.of_other path bytes named log short memo source inputs there fits is other)
    c.in-Ok.answer c.in-Ok.is)

pub returns-in-Err-clause-of_other : goal.returns-in-Err-clause-of_other
returns-in-Err-clause-of_other g c = λ quiet path bytes named log short memo source inputs there fits is other.
    let content = g.F.Files.content c.args.files.now in
    let risen = HasRisen (g.F.Files.faults c.args.files.now) (g.F.Files.faults c.answer_line-answered.new.files) in
    subst (λ (r : Ended). (r.why ≡ Why.OtherJob path) ⊎ (r.why ≡ Why.Memory)) (sym c.ended-in-Err.ensures)
    (other_why content c.args.line.now risen quiet path bytes named log short source inputs memo c.files_are_told_in_one_way.ensures.both there fits is c.answer_line-answered.result.answered.result
    (c.answer_line-answered.ensures.of_other path bytes named log short memo source inputs there fits is other) c.in-Err.why c.in-Err.is)

-- or that its memo is none

pub returns-in-Ok-clause-of_bad_memo : goal.returns-in-Ok-clause-of_bad_memo
returns-in-Ok-clause-of_bad_memo g c = λ quiet path bytes at named told short bad source inputs there fits is.
    let content = g.F.Files.content c.args.files.now in
    let risen = HasRisen (g.F.Files.faults c.args.files.now) (g.F.Files.faults c.answer_line-answered.new.files) in
    absurd (bad_no_answer content c.args.line.now risen quiet path bytes at named told short bad c.files_are_told_in_one_way.ensures.place source inputs
    there fits is c.answer_line-answered.result.answered.result
    (c.answer_line-answered.ensures.of_bad_memo path bytes at named told short bad source inputs there fits is) c.in-Ok.answer c.in-Ok.is)

pub returns-in-Err-clause-of_bad_memo : goal.returns-in-Err-clause-of_bad_memo
returns-in-Err-clause-of_bad_memo g c = λ quiet path bytes at named told short bad source inputs there fits is.
    let content = g.F.Files.content c.args.files.now in
    let risen = HasRisen (g.F.Files.faults c.args.files.now) (g.F.Files.faults c.answer_line-answered.new.files) in
    subst (λ (r : Ended). (r.why ≡ Why.BadMemo path at) ⊎ (r.why ≡ Why.Memory)) (sym c.ended-in-Err.ensures)
    (bad_why content c.args.line.now risen quiet path bytes at named told short bad c.files_are_told_in_one_way.ensures.place source inputs there fits is
    c.answer_line-answered.result.answered.result
    (c.answer_line-answered.ensures.of_bad_memo path bytes at named told short bad source inputs there fits is) c.in-Err.why c.in-Err.is)

-- ---- there is a kit where there is a memo, and its keeper's faults don't fall

pub returns-in-Ok-clause-memo : goal.returns-in-Ok-clause-memo
returns-in-Ok-clause-memo g c = λ ends. c.answer_line-answered.ensures.memo (subst HasEnd (sym c.in-Ok.is) tt)

pub returns-in-Err-clause-memo : goal.returns-in-Err-clause-memo
returns-in-Err-clause-memo g c = λ ends.
    let content = g.F.Files.content c.args.files.now in
    let line = c.args.line.now in
    let risen = HasRisen (g.F.Files.faults c.args.files.now) (g.F.Files.faults c.answer_line-answered.new.files) in
    let J = map entry_view c.answer_line-answered.result.answered.journal.items in
    let cause = subst (λ (r : Result (List ℕ) Why). IfErr r (CauseOf content line risen J)) c.in-Err.is c.answer_line-answered.ensures.none in
    c.answer_line-answered.ensures.memo (subst HasEnd (sym c.in-Err.is)
    (has_end content line risen J c.in-Err.why cause (subst (λ (r : Ended). EndsJob r.why) c.ended-in-Err.ensures ends)))

pub returns-in-Ok-clause-keep_never_falls : goal.returns-in-Ok-clause-keep_never_falls
returns-in-Ok-clause-keep_never_falls g c = λ ends.
    let line = c.args.line.now in
    let state = c.answer_line-answered.result.answered.state in
    let before : KeeperSeen =
    record {
      files = g.D.Keep.files c.args.keep.now;
      asked = g.D.Keep.asked c.args.keep.now;
      faults = g.D.Keep.faults c.args.keep.now;
    } in
    let now : KeeperSeen =
    record {
      files = g.D.Keep.files c.answer_line-answered.new.keep;
      asked = g.D.Keep.asked c.answer_line-answered.new.keep;
      faults = g.D.Keep.faults c.answer_line-answered.new.keep;
    } in
    let keeps = subst (λ (r : Result (List ℕ) Why). KeepsLog (log_path line) before now r state) c.in-Ok.is c.answer_line-answered.ensures.keeps in
    answer_falls (log_path line) before now c.in-Ok.answer state keeps

pub returns-in-Err-clause-keep_never_falls : goal.returns-in-Err-clause-keep_never_falls
returns-in-Err-clause-keep_never_falls g c = λ ends.
    let line = c.args.line.now in
    let state = c.answer_line-answered.result.answered.state in
    let before : KeeperSeen =
    record {
      files = g.D.Keep.files c.args.keep.now;
      asked = g.D.Keep.asked c.args.keep.now;
      faults = g.D.Keep.faults c.args.keep.now;
    } in
    let now : KeeperSeen =
    record {
      files = g.D.Keep.files c.answer_line-answered.new.keep;
      asked = g.D.Keep.asked c.answer_line-answered.new.keep;
      faults = g.D.Keep.faults c.answer_line-answered.new.keep;
    } in
    let keeps = subst (λ (r : Result (List ℕ) Why). KeepsLog (log_path line) before now r state) c.in-Err.is c.answer_line-answered.ensures.keeps in
    end_falls (log_path line) before now c.in-Err.why state keeps (subst (λ (r : Ended). EndsJob r.why) c.ended-in-Err.ensures ends)

pub returns-in-Ok-clause-answer_first : goal.returns-in-Ok-clause-answer_first
returns-in-Ok-clause-answer_first g c = λ e.
    let same : c.finish-why.result ≡ Why.WriteFault = search rules in
    elim (c.finish-why.ensures.answer_first same) [
      | inl h ↦ inl h
      | inr t ↦ inr (search rules)
    ]
