-- How a call ends is how its run ended, but where its memo couldn't be written.
use Rattle.std.proofs.Common.{◌≡◌, ◌≢◌, ◌⊎◌, ◌≤◌, ◌++◌, ◌∙◌, ⊎_elim, ap, inl, inr, ℕ, List, [], false, true, Option, Some, None, drop, length, map, refl, sym, subst}
use Rattle.ciel_io.specs.Faults.{HasRisen}
use Rattle.ciel_io.specs.Tells.{Tells, TellsPart}
use Rattle.ciel_io.specs.Kept.{Files}
use Rattle.ciel_io.proofs.Joined.{part_whole, tells_more}
use Rattle.ciel_run_line.specs.Asked.{AsksFor, NoRun, ShowsEnd, StopsFor}
use Rattle.ciel_run_line.specs.Causes.{IfNoMemo, IfOther}
use Rattle.ciel_run_line.specs.Gates.{GatesTell}
use Rattle.ciel_run_line.specs.Given.{memo_path}
use Rattle.ciel_run_line.specs.Line.{OfLine, behind_job, files_of, paths_in}
use Rattle.ciel_run_line.specs.Keeping.{HasBytes}
use Rattle.ciel_run_line.specs.Logging.{most}
use Rattle.ciel_run_line.specs.Runs.{EndsShown, IsDriven, log_path}
use Rattle.ciel_run_line.proofs.Last.{risen_later}
use Rattle.ciel_run_line.specs.Told.{told_of}
use Rattle.ciel_run_line.specs.Views.{entry_view}
use Rattle.ciel_run_log.specs.Message.{message_of}
use Rattle.ciel_run_log.specs.Status.{status_of}
use Rattle.ciel_run_log.specs.declared.why.Ended.{Ended}
use Rattle.ciel_run_log.specs.declared.why.Why.{Why}
use Rattle.ciel_run.specs.Ending.{AsksKept, EndCause, EndsJob, IfKeepFault, IfLogFull, LogSays, MemoSays, TellsParts, Writes, WritesNothing, trace_of}
use Rattle.ciel_run.proofs.Kept.{asks_kept, done_job, if_keep_fault, if_log_full, risen_still, says_still, tells_behind}
use Rattle.ciel_run.proofs.Remembered.{memo_cause, memo_kept, memo_plain, none_same, not_bad_done, not_done, remembered, was_done, was_job, was_some}
use Rattle.ciel_run.proofs.top.run_line.Goals as goal

pub returns-clause-nothing : goal.returns-clause-nothing
returns-clause-nothing g c =
    let content = g.F.Files.content c.args.files.now in
    let line = c.args.line.now in
    let told = c.run-noted.result.ended in
    let J = map entry_view told.journal.items in
    let risen = HasRisen (g.F.Files.faults c.args.files.now) (g.F.Files.faults c.run-noted.new.files) in
    let memo = memo_path line in
    let why = c.remember-why.result in
    subst (λ (r : Ended). WritesNothing r.why → c.run-noted.new.out ≡ c.args.out.now) (sym c.ended.ensures)
    (remembered memo told.why why (λ y. WritesNothing y → c.run-noted.new.out ≡ c.args.out.now) c.remember-why.ensures.why
    c.run-noted.ensures.nothing
    (λ path is done x. absurd x)
    (λ path is done x. absurd x))

pub returns-clause-all_or_nothing : goal.returns-clause-all_or_nothing
returns-clause-all_or_nothing g c =
    let content = g.F.Files.content c.args.files.now in
    let line = c.args.line.now in
    let told = c.run-noted.result.ended in
    let J = map entry_view told.journal.items in
    let risen = HasRisen (g.F.Files.faults c.args.files.now) (g.F.Files.faults c.run-noted.new.files) in
    let memo = memo_path line in
    let why = c.remember-why.result in
    subst (λ (r : Ended). r.why ≡ Why.Memory → (c.run-noted.new.out ≡ c.args.out.now) ⊎ (Writes content line (Tells (g.O.Sink.written c.args.out.now) (g.O.Sink.written c.run-noted.new.out)))) (sym c.ended.ensures)
    (remembered memo told.why why (λ y. y ≡ Why.Memory → (c.run-noted.new.out ≡ c.args.out.now) ⊎ (Writes content line (Tells (g.O.Sink.written c.args.out.now) (g.O.Sink.written c.run-noted.new.out)))) c.remember-why.ensures.why
    c.run-noted.ensures.all_or_nothing
    (λ path is done e. absurd (let bad : Why.KeepFault path ≡ Why.Memory = e in cc))
    (λ path is done e. inr (c.run-noted.ensures.done done)))

pub returns-clause-cause : goal.returns-clause-cause
returns-clause-cause g c =
    let content = g.F.Files.content c.args.files.now in
    let line = c.args.line.now in
    let told = c.run-noted.result.ended in
    let J = map entry_view told.journal.items in
    let risen = HasRisen (g.F.Files.faults c.args.files.now) (g.F.Files.faults c.run-noted.new.files) in
    let memo = memo_path line in
    let why = c.remember-why.result in
    subst (λ (r : Ended). EndCause content line risen (map entry_view r.journal.items) r.why) (sym c.ended.ensures)
    (remembered memo told.why why (λ y. EndCause content line risen J y) c.remember-why.ensures.why
    c.run-noted.ensures.cause
    (λ path is done. memo_cause content line risen J c.requires.line
    (Tells (g.O.Sink.written c.args.out.now) (g.O.Sink.written c.run-noted.new.out)) (c.run-noted.ensures.done done) path is)
    (λ path is done. tt))

pub returns-clause-root : goal.returns-clause-root
returns-clause-root g c =
    let content = g.F.Files.content c.args.files.now in
    let line = c.args.line.now in
    let told = c.run-noted.result.ended in
    let J = map entry_view told.journal.items in
    let risen = HasRisen (g.F.Files.faults c.args.files.now) (g.F.Files.faults c.run-noted.new.files) in
    let memo = memo_path line in
    let why = c.remember-why.result in
    subst (λ (r : Ended). line.plain ≡ false → ShowsEnd r.why → OfLine content line (λ h source inputs. EndsShown h line source inputs (map entry_view r.journal.items))) (sym c.ended.ensures)
    (remembered memo told.why why (λ y. line.plain ≡ false → ShowsEnd y → OfLine content line (λ h source inputs. EndsShown h line source inputs J)) c.remember-why.ensures.why
    c.run-noted.ensures.root
    (λ path is done p x. absurd x)
    (λ path is done p x. absurd x))

pub returns-clause-empty : goal.returns-clause-empty
returns-clause-empty g c =
    let content = g.F.Files.content c.args.files.now in
    let line = c.args.line.now in
    let told = c.run-noted.result.ended in
    let J = map entry_view told.journal.items in
    let risen = HasRisen (g.F.Files.faults c.args.files.now) (g.F.Files.faults c.run-noted.new.files) in
    let memo = memo_path line in
    let why = c.remember-why.result in
    subst (λ (r : Ended). NoRun line.plain r.why → (map entry_view r.journal.items) ≡ []) (sym c.ended.ensures)
    (remembered memo told.why why (λ y. NoRun line.plain y → J ≡ []) c.remember-why.ensures.why
    c.run-noted.ensures.empty
    (λ path is done n. absurd (let bad : true ≡ false = sym n ∙ memo_plain line c.requires.line path is in cc))
    (λ path is done n. absurd (let bad : true ≡ false = sym n ∙ memo_plain line c.requires.line path is in cc)))

pub returns-clause-kept : goal.returns-clause-kept
returns-clause-kept g c =
    let content = g.F.Files.content c.args.files.now in
    let line = c.args.line.now in
    let told = c.run-noted.result.ended in
    let J = map entry_view told.journal.items in
    let risen = HasRisen (g.F.Files.faults c.args.files.now) (g.F.Files.faults c.run-noted.new.files) in
    let memo = memo_path line in
    let why = c.remember-why.result in
    subst (λ (r : Ended). NoRun line.plain r.why → c.run-noted.new.gates ≡ c.args.gates.now) (sym c.ended.ensures)
    (remembered memo told.why why (λ y. NoRun line.plain y → c.run-noted.new.gates ≡ c.args.gates.now) c.remember-why.ensures.why
    c.run-noted.ensures.kept
    (λ path is done n. absurd (let bad : true ≡ false = sym n ∙ memo_plain line c.requires.line path is in cc))
    (λ path is done n. absurd (let bad : true ≡ false = sym n ∙ memo_plain line c.requires.line path is in cc)))

pub returns-clause-told : goal.returns-clause-told
returns-clause-told g c =
    let content = g.F.Files.content c.args.files.now in
    let line = c.args.line.now in
    let told = c.run-noted.result.ended in
    let J = map entry_view told.journal.items in
    let risen = HasRisen (g.F.Files.faults c.args.files.now) (g.F.Files.faults c.run-noted.new.files) in
    let memo = memo_path line in
    let why = c.remember-why.result in
    subst (λ (r : Ended). r.why ≢ Why.Memory → GatesTell content (Some line) (map entry_view r.journal.items) (told_of g.G.Gate.entered line.workers c.args.gates.now.items) (told_of g.G.Gate.entered line.workers c.run-noted.new.gates.items)) (sym c.ended.ensures)
    (remembered memo told.why why (λ y. y ≢ Why.Memory → GatesTell content (Some line) J (told_of g.G.Gate.entered line.workers c.args.gates.now.items) (told_of g.G.Gate.entered line.workers c.run-noted.new.gates.items)) c.remember-why.ensures.why
    c.run-noted.ensures.told
    (λ path is done n. c.run-noted.ensures.told (λ e. let bad : Why.Done ≡ Why.Memory = sym done ∙ e in cc))
    (λ path is done n. absurd (n refl)))

pub returns-clause-others : goal.returns-clause-others
returns-clause-others g c =
    let content = g.F.Files.content c.args.files.now in
    let line = c.args.line.now in
    let told = c.run-noted.result.ended in
    let J = map entry_view told.journal.items in
    let risen = HasRisen (g.F.Files.faults c.args.files.now) (g.F.Files.faults c.run-noted.new.files) in
    let memo = memo_path line in
    let why = c.remember-why.result in
    subst (λ (r : Ended). r.why ≢ Why.Memory → drop line.workers c.run-noted.new.gates.items ≡ drop line.workers c.args.gates.now.items) (sym c.ended.ensures)
    (remembered memo told.why why (λ y. y ≢ Why.Memory → drop line.workers c.run-noted.new.gates.items ≡ drop line.workers c.args.gates.now.items) c.remember-why.ensures.why
    c.run-noted.ensures.others
    (λ path is done n. c.run-noted.ensures.others (λ e. let bad : Why.Done ≡ Why.Memory = sym done ∙ e in cc))
    (λ path is done n. absurd (n refl)))

pub returns-clause-all : goal.returns-clause-all
returns-clause-all g c =
    let content = g.F.Files.content c.args.files.now in
    let line = c.args.line.now in
    let told = c.run-noted.result.ended in
    let J = map entry_view told.journal.items in
    let risen = HasRisen (g.F.Files.faults c.args.files.now) (g.F.Files.faults c.run-noted.new.files) in
    let memo = memo_path line in
    let why = c.remember-why.result in
    subst (λ (r : Ended). r.why ≢ Why.Memory → length c.run-noted.new.gates.items ≡ 64) (sym c.ended.ensures)
    (remembered memo told.why why (λ y. y ≢ Why.Memory → length c.run-noted.new.gates.items ≡ 64) c.remember-why.ensures.why
    c.run-noted.ensures.all
    (λ path is done n. c.run-noted.ensures.all (λ e. let bad : Why.Done ≡ Why.Memory = sym done ∙ e in cc))
    (λ path is done n. absurd (n refl)))

pub returns-clause-asked : goal.returns-clause-asked
returns-clause-asked g c =
    let content = g.F.Files.content c.args.files.now in
    let line = c.args.line.now in
    let told = c.run-noted.result.ended in
    let J = map entry_view told.journal.items in
    let risen = HasRisen (g.F.Files.faults c.args.files.now) (g.F.Files.faults c.run-noted.new.files) in
    let memo = memo_path line in
    let why = c.remember-why.result in
    subst (λ (r : Ended). AsksFor r.why (paths_in (files_of line)) (behind_job line) (g.F.Files.asked c.args.files.now) (g.F.Files.asked c.run-noted.new.files)) (sym c.ended.ensures)
    (remembered memo told.why why (λ y. AsksFor y (paths_in (files_of line)) (behind_job line) (g.F.Files.asked c.args.files.now) (g.F.Files.asked c.run-noted.new.files)) c.remember-why.ensures.why
    c.run-noted.ensures.asked
    (λ path is done. subst (λ (y : Why). AsksFor y (paths_in (files_of line)) (behind_job line) (g.F.Files.asked c.args.files.now) (g.F.Files.asked c.run-noted.new.files)) done c.run-noted.ensures.asked)
    (λ path is done. part_whole _ _ _ (subst (λ (y : Why). AsksFor y (paths_in (files_of line)) (behind_job line) (g.F.Files.asked c.args.files.now) (g.F.Files.asked c.run-noted.new.files)) done c.run-noted.ensures.asked)))

pub returns-clause-order : goal.returns-clause-order
returns-clause-order g c =
    let content = g.F.Files.content c.args.files.now in
    let line = c.args.line.now in
    let told = c.run-noted.result.ended in
    let J = map entry_view told.journal.items in
    let risen = HasRisen (g.F.Files.faults c.args.files.now) (g.F.Files.faults c.run-noted.new.files) in
    let memo = memo_path line in
    let why = c.remember-why.result in
    subst (λ (r : Ended). StopsFor content (files_of line) line.memo line.resume (g.F.Files.asked c.args.files.now) (g.F.Files.asked c.run-noted.new.files) r.why) (sym c.ended.ensures)
    (remembered memo told.why why (λ y. StopsFor content (files_of line) line.memo line.resume (g.F.Files.asked c.args.files.now) (g.F.Files.asked c.run-noted.new.files) y) c.remember-why.ensures.why
    c.run-noted.ensures.order
    (λ path is done. tt)
    (λ path is done. tt))

pub returns-clause-of_other : goal.returns-clause-of_other
returns-clause-of_other g c = λ quiet.
    let content = g.F.Files.content c.args.files.now in
    let line = c.args.line.now in
    let told = c.run-noted.result.ended in
    let J = map entry_view told.journal.items in
    let risen = HasRisen (g.F.Files.faults c.args.files.now) (g.F.Files.faults c.run-noted.new.files) in
    let memo = memo_path line in
    let why = c.remember-why.result in
    subst (λ (r : Ended). IfOther content line (λ path. (r.why ≡ Why.OtherJob path) ⊎ (r.why ≡ Why.Memory))) (sym c.ended.ensures)
    (remembered memo told.why why (λ y. IfOther content line (λ path. (y ≡ Why.OtherJob path) ⊎ (y ≡ Why.Memory))) c.remember-why.ensures.why
    (c.run-noted.ensures.of_other quiet)
    (λ path is done p bytes e there short m source inputs st fits script other. absurd (not_done told.why p done (c.run-noted.ensures.of_other quiet p bytes e there short m source inputs st fits script other)))
    (λ path is done p bytes e there short m source inputs st fits script other. inr refl))

pub returns-clause-of_bad_memo : goal.returns-clause-of_bad_memo
returns-clause-of_bad_memo g c = λ quiet.
    let content = g.F.Files.content c.args.files.now in
    let line = c.args.line.now in
    let told = c.run-noted.result.ended in
    let J = map entry_view told.journal.items in
    let risen = HasRisen (g.F.Files.faults c.args.files.now) (g.F.Files.faults c.run-noted.new.files) in
    let memo = memo_path line in
    let why = c.remember-why.result in
    subst (λ (r : Ended). IfNoMemo content line (λ path at. (r.why ≡ Why.BadMemo path at) ⊎ (r.why ≡ Why.Memory))) (sym c.ended.ensures)
    (remembered memo told.why why (λ y. IfNoMemo content line (λ path at. (y ≡ Why.BadMemo path at) ⊎ (y ≡ Why.Memory))) c.remember-why.ensures.why
    (c.run-noted.ensures.of_bad_memo quiet)
    (λ path is done p bytes at e there short bad source inputs st fits script. absurd (not_bad_done told.why p at done (c.run-noted.ensures.of_bad_memo quiet p bytes at e there short bad source inputs st fits script)))
    (λ path is done p bytes at e there short bad source inputs st fits script. inr refl))

pub returns-clause-done : goal.returns-clause-done
returns-clause-done g c =
    let content = g.F.Files.content c.args.files.now in
    let line = c.args.line.now in
    let told = c.run-noted.result.ended in
    let J = map entry_view told.journal.items in
    let risen = HasRisen (g.F.Files.faults c.args.files.now) (g.F.Files.faults c.run-noted.new.files) in
    let memo = memo_path line in
    let why = c.remember-why.result in
    subst (λ (r : Ended). r.why ≡ Why.Done → Writes content line (Tells (g.O.Sink.written c.args.out.now) (g.O.Sink.written c.run-noted.new.out))) (sym c.ended.ensures)
    (remembered memo told.why why (λ y. y ≡ Why.Done → Writes content line (Tells (g.O.Sink.written c.args.out.now) (g.O.Sink.written c.run-noted.new.out))) c.remember-why.ensures.why
    c.run-noted.ensures.done
    (λ path is done e. absurd (let bad : Why.KeepFault path ≡ Why.Done = e in cc))
    (λ path is done e. absurd (let bad : Why.Memory ≡ Why.Done = e in cc)))

pub returns-clause-part : goal.returns-clause-part
returns-clause-part g c =
    let content = g.F.Files.content c.args.files.now in
    let line = c.args.line.now in
    let told = c.run-noted.result.ended in
    let J = map entry_view told.journal.items in
    let risen = HasRisen (g.F.Files.faults c.args.files.now) (g.F.Files.faults c.run-noted.new.files) in
    let memo = memo_path line in
    let why = c.remember-why.result in
    subst (λ (r : Ended). r.why ≡ Why.WriteFault → Writes content line (TellsPart (g.O.Sink.written c.args.out.now) (g.O.Sink.written c.run-noted.new.out))) (sym c.ended.ensures)
    (remembered memo told.why why (λ y. y ≡ Why.WriteFault → Writes content line (TellsPart (g.O.Sink.written c.args.out.now) (g.O.Sink.written c.run-noted.new.out))) c.remember-why.ensures.why
    c.run-noted.ensures.part
    (λ path is done e. absurd (let bad : Why.KeepFault path ≡ Why.WriteFault = e in cc))
    (λ path is done e. absurd (let bad : Why.Memory ≡ Why.WriteFault = e in cc)))

pub returns-clause-write_fault : goal.returns-clause-write_fault
returns-clause-write_fault g c =
    let content = g.F.Files.content c.args.files.now in
    let line = c.args.line.now in
    let told = c.run-noted.result.ended in
    let J = map entry_view told.journal.items in
    let risen = HasRisen (g.F.Files.faults c.args.files.now) (g.F.Files.faults c.run-noted.new.files) in
    let memo = memo_path line in
    let why = c.remember-why.result in
    subst (λ (r : Ended). r.why ≡ Why.WriteFault → HasRisen (g.O.Sink.faults c.args.out.now) (g.O.Sink.faults c.run-noted.new.out) ⊎ ((line.trace ≡ true) × HasRisen (g.J.Sink.faults c.args.log.now) (g.J.Sink.faults c.remember-why.new.log))) (sym c.ended.ensures)
    (remembered memo told.why why (λ y. y ≡ Why.WriteFault → HasRisen (g.O.Sink.faults c.args.out.now) (g.O.Sink.faults c.run-noted.new.out) ⊎ ((line.trace ≡ true) × HasRisen (g.J.Sink.faults c.args.log.now) (g.J.Sink.faults c.remember-why.new.log))) c.remember-why.ensures.why
    (λ e. ⊎_elim (λ r. inl r) (λ r. inr (
      r.0,
      risen_still (g.J.Sink.faults c.args.log.now) (g.J.Sink.faults c.run-noted.new.log)
          (g.J.Sink.faults c.remember-why.new.log) c.run-noted.ensures.log_never_falls c.remember-why.ensures.log_never_falls r.1,
    ))
    (c.run-noted.ensures.write_fault e))
    (λ path is done e. absurd (let bad : Why.KeepFault path ≡ Why.WriteFault = e in cc))
    (λ path is done e. absurd (let bad : Why.Memory ≡ Why.WriteFault = e in cc)))

pub returns-clause-answer_first : goal.returns-clause-answer_first
returns-clause-answer_first g c =
    let content = g.F.Files.content c.args.files.now in
    let line = c.args.line.now in
    let told = c.run-noted.result.ended in
    let J = map entry_view told.journal.items in
    let risen = HasRisen (g.F.Files.faults c.args.files.now) (g.F.Files.faults c.run-noted.new.files) in
    let memo = memo_path line in
    let why = c.remember-why.result in
    subst (λ (r : Ended). r.why ≡ Why.WriteFault → HasRisen (g.O.Sink.faults c.args.out.now) (g.O.Sink.faults c.run-noted.new.out) ⊎ Writes content line (Tells (g.O.Sink.written c.args.out.now) (g.O.Sink.written c.run-noted.new.out))) (sym c.ended.ensures)
    (remembered memo told.why why (λ y. y ≡ Why.WriteFault → HasRisen (g.O.Sink.faults c.args.out.now) (g.O.Sink.faults c.run-noted.new.out) ⊎ Writes content line (Tells (g.O.Sink.written c.args.out.now) (g.O.Sink.written c.run-noted.new.out))) c.remember-why.ensures.why
    c.run-noted.ensures.answer_first
    (λ path is done e. absurd (let bad : Why.KeepFault path ≡ Why.WriteFault = e in cc))
    (λ path is done e. absurd (let bad : Why.Memory ≡ Why.WriteFault = e in cc)))

pub returns-clause-full : goal.returns-clause-full
returns-clause-full g c =
    let content = g.F.Files.content c.args.files.now in
    let line = c.args.line.now in
    let told = c.run-noted.result.ended in
    let J = map entry_view told.journal.items in
    let risen = HasRisen (g.F.Files.faults c.args.files.now) (g.F.Files.faults c.run-noted.new.files) in
    let memo = memo_path line in
    let why = c.remember-why.result in
    subst (λ (r : Ended). IfLogFull r.why (λ path held. Writes content line (Tells (g.O.Sink.written c.args.out.now) (g.O.Sink.written c.run-noted.new.out)))) (sym c.ended.ensures)
    (remembered memo told.why why (λ y. IfLogFull y (λ path held. Writes content line (Tells (g.O.Sink.written c.args.out.now) (g.O.Sink.written c.run-noted.new.out)))) c.remember-why.ensures.why
    c.run-noted.ensures.full
    (λ path is done. tt)
    (λ path is done. tt))

pub returns-clause-driven : goal.returns-clause-driven
returns-clause-driven g c =
    subst (λ (r : Ended). OfLine (g.F.Files.content c.args.files.now) c.args.line.now
    (λ h source inputs. IsDriven h c.args.line.now source inputs (map entry_view r.journal.items))) (sym c.ended.ensures) c.run-noted.ensures.driven

pub returns-clause-unasked : goal.returns-clause-unasked
returns-clause-unasked g c = λ log memo. c.remember-why.ensures.none memo ∙ c.run-noted.ensures.unasked log

pub returns-clause-memo : goal.returns-clause-memo
returns-clause-memo g c = λ done path is es holds.
    memo_kept c.files_are_told_in_one_way.ensures.list (g.F.Files.content c.args.files.now) c.args.line.now
    (g.D.Keep.files c.run-noted.new.keep) (g.D.Keep.files c.remember-why.new.keep) c.run-noted.result.memo path is c.run-noted.ensures.entries
    (c.run-noted.ensures.memo (was_job (memo_path c.args.line.now) c.run-noted.result.ended.why c.remember-why.result c.remember-why.ensures.why
    (subst (λ (r : Ended). r.why ≡ Why.Done) c.ended.ensures done)))
    (c.remember-why.ensures.written (subst (λ (r : Ended). r.why ≡ Why.Done) c.ended.ensures done)) es holds

-- ---- of the keeper

pub returns-clause-keep_fault : goal.returns-clause-keep_fault
returns-clause-keep_fault g c =
    let line = c.args.line.now in
    let told = c.run-noted.result.ended in
    let J = map entry_view told.journal.items in
    let memo = memo_path line in
    let why = c.remember-why.result in
    let before = g.D.Keep.faults c.args.keep.now in
    let mid = g.D.Keep.faults c.run-noted.new.keep in
    let now = g.D.Keep.faults c.remember-why.new.keep in
    subst (λ (r : Ended). IfKeepFault r.why (λ path. HasRisen before now)) (sym c.ended.ensures)
    (remembered memo told.why why (λ y. why ≡ y → IfKeepFault y (λ path. HasRisen before now)) c.remember-why.ensures.why
    (λ e. if_keep_fault (λ path. HasRisen before mid) (λ path. HasRisen before now) told.why
    (λ path is r. subst (λ (n : ℕ). HasRisen before n)
    (sym (ap (λ k. g.D.Keep.faults k) (c.remember-why.ensures.other (λ j. subst EndsJob is j)))) r) c.run-noted.ensures.keep_fault)
    (λ path is done e. risen_later before mid now (c.run-noted.ensures.keep_never_falls (done_job told.why done))
    (c.remember-why.ensures.failed done path e))
    (λ path is done e. tt) refl)

pub returns-clause-begun : goal.returns-clause-begun
returns-clause-begun g c =
    let content = g.F.Files.content c.args.files.now in
    let line = c.args.line.now in
    let told = c.run-noted.result.ended in
    let J = map entry_view told.journal.items in
    let memo = memo_path line in
    let why = c.remember-why.result in
    let nothing = (J ≡ []) × (c.run-noted.new.gates ≡ c.args.gates.now) × (c.run-noted.new.out ≡ c.args.out.now) in
    let written = Writes content line (Tells (g.O.Sink.written c.args.out.now) (g.O.Sink.written c.run-noted.new.out)) in
    let shown = OfLine content line (λ h source inputs. EndsShown h line source inputs J) in
    subst (λ (r : Ended). IfKeepFault r.why (λ path. ((map entry_view r.journal.items ≡ []) × (c.run-noted.new.gates ≡ c.args.gates.now)
    × (c.run-noted.new.out ≡ c.args.out.now)) ⊎ (written × OfLine content line
    (λ h source inputs. EndsShown h line source inputs (map entry_view r.journal.items))))) (sym c.ended.ensures)
    (remembered memo told.why why (λ y. IfKeepFault y (λ path. nothing ⊎ (written × shown))) c.remember-why.ensures.why
    c.run-noted.ensures.begun
    (λ path is done. inr (c.run-noted.ensures.done done, c.run-noted.ensures.root (memo_plain line c.requires.line path is) (subst ShowsEnd (sym done) tt)))
    (λ path is done. tt))

pub returns-clause-log_full : goal.returns-clause-log_full
returns-clause-log_full g c =
    let line = c.args.line.now in
    let told = c.run-noted.result.ended in
    let J = map entry_view told.journal.items in
    let memo = memo_path line in
    let why = c.remember-why.result in
    let mid = g.D.Keep.files c.run-noted.new.keep in
    let now = g.D.Keep.files c.remember-why.new.keep in
    subst (λ (r : Ended). IfLogFull r.why (λ path held. (held ≤ most) × HasBytes path now held)) (sym c.ended.ensures)
    (remembered memo told.why why (λ y. IfLogFull y (λ path held. (held ≤ most) × HasBytes path now held)) c.remember-why.ensures.why
    (if_log_full (λ path held. (held ≤ most) × HasBytes path mid held) (λ path held. (held ≤ most) × HasBytes path now held) told.why
    (λ path held is r. subst (λ (o : Option Files). (held ≤ most) × HasBytes path o held)
    (sym (ap (λ k. g.D.Keep.files k) (c.remember-why.ensures.other (λ j. subst EndsJob is j)))) r) c.run-noted.ensures.log_full)
    (λ path is done. tt)
    (λ path is done. tt))

pub returns-clause-keep_asked : goal.returns-clause-keep_asked
returns-clause-keep_asked g c =
    let line = c.args.line.now in
    let told = c.run-noted.result.ended in
    let J = map entry_view told.journal.items in
    let memo = memo_path line in
    let why = c.remember-why.result in
    let before = g.D.Keep.asked c.args.keep.now in
    let mid = g.D.Keep.asked c.run-noted.new.keep in
    let now = g.D.Keep.asked c.remember-why.new.keep in
    subst (λ (r : Ended). AsksKept (log_path line) memo r.why before now) (sym c.ended.ensures)
    (asks_kept (log_path line) memo told.why why before mid now (was_some memo told.why why c.remember-why.ensures.why) c.run-noted.ensures.keep_asked
    (λ e. none_same memo told.why why c.remember-why.ensures.why e) (λ e. ap (λ k. g.D.Keep.asked k) (c.remember-why.ensures.none e))
    (λ n. ⊎_elim (λ s. inl (ap (λ k. g.D.Keep.asked k) s)) (λ t. inr t) (c.remember-why.ensures.asked n)))

pub returns-clause-log_told : goal.returns-clause-log_told
returns-clause-log_told g c = λ h given source inputs st.
    let line = c.args.line.now in
    let told = c.run-noted.result.ended in
    let J = map entry_view told.journal.items in
    let memo = memo_path line in
    let why = c.remember-why.result in
    let failed = HasRisen (g.D.Keep.faults c.args.keep.now) (g.D.Keep.faults c.run-noted.new.keep) in
    let fails = HasRisen (g.D.Keep.faults c.args.keep.now) (g.D.Keep.faults c.remember-why.new.keep) in
    let mid = g.D.Keep.files c.run-noted.new.keep in
    let now = g.D.Keep.files c.remember-why.new.keep in
    let kept = ⊎_elim (λ s. inl (ap (λ k. g.D.Keep.files k) s)) (λ t. inr t) c.remember-why.ensures.apart in
    subst (λ (r : Ended). LogSays h line source inputs (map entry_view r.journal.items) fails now r.why) (sym c.ended.ensures)
    (remembered memo told.why why (λ y. LogSays h line source inputs J fails now y) c.remember-why.ensures.why
    (says_still h line source inputs J mid now (λ e. ap (λ k. g.D.Keep.files k) (c.remember-why.ensures.none e)) kept failed fails told.why
    (λ j r. risen_still (g.D.Keep.faults c.args.keep.now) (g.D.Keep.faults c.run-noted.new.keep) (g.D.Keep.faults c.remember-why.new.keep)
    (c.run-noted.ensures.keep_never_falls j) c.remember-why.ensures.never_falls r)
    (λ n r. subst (λ (k : ℕ). HasRisen (g.D.Keep.faults c.args.keep.now) k)
    (sym (ap (λ k. g.D.Keep.faults k) (c.remember-why.ensures.other n))) r)
    (λ n. ap (λ k. g.D.Keep.files k) (c.remember-why.ensures.other n)) (c.run-noted.ensures.log_told h given source inputs st))
    (λ path is done. tt)
    (λ path is done. tt))

-- ---- of the log

pub returns-clause-message : goal.returns-clause-message
returns-clause-message g c = λ quiet.
    let line = c.args.line.now in
    let told = c.run-noted.result.ended in
    let J = map entry_view told.journal.items in
    let memo = memo_path line in
    let why = c.remember-why.result in
    let text = trace_of line.trace told.journal.items in
    let before = g.J.Sink.written c.args.log.now in
    let mid = g.J.Sink.written c.run-noted.new.log in
    let now = g.J.Sink.written c.remember-why.new.log in
    let calm = λ (r : HasRisen (g.J.Sink.faults c.run-noted.new.log) (g.J.Sink.faults c.remember-why.new.log)).
    quiet (risen_later (g.J.Sink.faults c.args.log.now) (g.J.Sink.faults c.run-noted.new.log) (g.J.Sink.faults c.remember-why.new.log)
    c.run-noted.ensures.log_never_falls r) in
    subst (λ (r : Ended). Tells before now (trace_of line.trace r.journal.items ++ message_of r.why)) (sym c.ended.ensures)
    (remembered memo told.why why (λ y. why ≡ y → Tells before now (text ++ message_of y)) c.remember-why.ensures.why
    (λ e. subst (λ (n : Option (List ℕ)). Tells before n (text ++ message_of told.why)) (sym (ap (λ k. g.J.Sink.written k) (c.remember-why.ensures.quiet e)))
    (c.run-noted.ensures.message (λ r. quiet (subst (λ (n : ℕ). HasRisen (g.J.Sink.faults c.args.log.now) n)
    (sym (ap (λ k. g.J.Sink.faults k) (c.remember-why.ensures.quiet e))) r))))
    (λ path is done e. tells_more before mid now text (message_of (Why.KeepFault path)) (c.run-noted.ensures.logged done)
    (subst (λ (y : Why). Tells mid now (message_of y)) e
    (c.remember-why.ensures.message (λ s. let bad : Why.Done ≡ Why.KeepFault path = sym done ∙ sym s ∙ e in cc) calm)))
    (λ path is done e. tells_more before mid now text (message_of Why.Memory) (c.run-noted.ensures.logged done)
    (subst (λ (y : Why). Tells mid now (message_of y)) e
    (c.remember-why.ensures.message (λ s. let bad : Why.Done ≡ Why.Memory = sym done ∙ sym s ∙ e in cc) calm))) refl)

pub returns-clause-message_part : goal.returns-clause-message_part
returns-clause-message_part g c =
    let line = c.args.line.now in
    let told = c.run-noted.result.ended in
    let J = map entry_view told.journal.items in
    let memo = memo_path line in
    let why = c.remember-why.result in
    let text = trace_of line.trace told.journal.items in
    let before = g.J.Sink.written c.args.log.now in
    let mid = g.J.Sink.written c.run-noted.new.log in
    let now = g.J.Sink.written c.remember-why.new.log in
    subst (λ (r : Ended). TellsParts before now (trace_of line.trace r.journal.items) (message_of r.why)) (sym c.ended.ensures)
    (remembered memo told.why why (λ y. why ≡ y → TellsParts before now text (message_of y)) c.remember-why.ensures.why
    (λ e. subst (λ (n : Option (List ℕ)). TellsParts before n text (message_of told.why)) (sym (ap (λ k. g.J.Sink.written k) (c.remember-why.ensures.quiet e)))
    c.run-noted.ensures.message_part)
    (λ path is done e. tells_behind before mid now text (message_of (Why.KeepFault path)) (c.run-noted.ensures.logged done)
    (subst (λ (y : Why). TellsPart mid now (message_of y)) e
    (c.remember-why.ensures.message_part (λ s. let bad : Why.Done ≡ Why.KeepFault path = sym done ∙ sym s ∙ e in cc))))
    (λ path is done e. tells_behind before mid now text (message_of Why.Memory) (c.run-noted.ensures.logged done)
    (subst (λ (y : Why). TellsPart mid now (message_of y)) e
    (c.remember-why.ensures.message_part (λ s. let bad : Why.Done ≡ Why.Memory = sym done ∙ sym s ∙ e in cc)))) refl)

pub returns-clause-logged : goal.returns-clause-logged
returns-clause-logged g c = λ done.
    let line = c.args.line.now in
    let told = c.run-noted.result.ended in
    let J = map entry_view told.journal.items in
    let memo = memo_path line in
    let why = c.remember-why.result in
    let before = g.J.Sink.written c.args.log.now in
    let now = g.J.Sink.written c.remember-why.new.log in
    let ends : why ≡ Why.Done = subst (λ (r : Ended). r.why ≡ Why.Done) c.ended.ensures done in
    let was : told.why ≡ Why.Done = was_done memo told.why why c.remember-why.ensures.why ends in
    subst (λ (r : Ended). Tells before now (trace_of line.trace r.journal.items)) (sym c.ended.ensures)
    (subst (λ (n : Option (List ℕ)). Tells before n (trace_of line.trace told.journal.items))
    (sym (ap (λ k. g.J.Sink.written k) (c.remember-why.ensures.quiet (ends ∙ sym was)))) (c.run-noted.ensures.logged was))

pub returns-clause-status : goal.returns-clause-status
returns-clause-status g c = subst (λ (r : Ended). r.status ≡ status_of r.why) (sym c.ended.ensures) refl
