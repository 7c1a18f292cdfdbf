-- What the run comes to is what the line's job comes to, and what it makes of the keeper.
use Rattle.std.proofs.Common.{◌≡◌, ◌≢◌, ◌<◌, ℕ, List, [], ◌∷◌, Option, Some, Result, Err, ap, ap₂, map, subst, sym, ⊎_elim}
use Rattle.sky_base.specs.JobView.{job_view}
use Rattle.ciel_io.specs.Faults.{HasRisen}
use Rattle.ciel_io.specs.Tells.{Tells}
use Rattle.ciel_journal.specs.Entries.{Entry}
use Rattle.ciel_journal.specs.History.{Plan}
use Rattle.ciel_journal.specs.Job.{Each}
use Rattle.ciel_log.specs.Logs.{LogWritten}
use Rattle.ciel_master.specs.Views.{entry_view}
use Rattle.ciel_master.specs.declared.stop.RunEnd.{RunEnd}
use Rattle.ciel_run_logged.specs.Ended.{EndsSo}
use Rattle.ciel_run_logged.specs.Keeping.{IfOver, KeeperSeen, Keeps}
use Rattle.ciel_run_line.specs.Causes.{AnswersSo, WaySo}
use Rattle.ciel_run_line.specs.Keeping.{KeepsLog, LogTold, header_of}
use Rattle.ciel_run_line.specs.Runs.{digest_of, log_at, log_path, plan_of}
use Rattle.ciel_run_log.specs.declared.why.Why.{Why}
use Rattle.ciel_run_line.proofs.Began.{log_told, run_keeps, unbegun_keeps, unbegun_told}
use Rattle.ciel_run_line.proofs.Ran.{memory_answers, memory_ways, run_answers, run_ways, unbegun_answers, unbegun_ways}
use Rattle.ciel_run_line.proofs.answer.answer_with_log.Goals as goal

pub returns-in-Err-clause-answers : goal.returns-in-Err-clause-answers
returns-in-Err-clause-answers g c =
    let w = c.args.line.now in
    let job = job_view c.args.loaded.job in
    let none : AnswersSo (g.K.Kit.gives c.args.kit) w [] job (Err c.in-Err.why) =
    ⊎_elim (λ m. subst (λ (y : Why). AnswersSo (g.K.Kit.gives c.args.kit) w [] job (Err y)) (sym m) (memory_answers (g.K.Kit.gives c.args.kit) w job))
    (λ f. subst (λ (y : Why). AnswersSo (g.K.Kit.gives c.args.kit) w [] job (Err y)) (sym f.0) (unbegun_answers (g.K.Kit.gives c.args.kit) w job c.args.path.now))
    c.in-Err.ensures.failed in
    subst (λ (r : Result (List ℕ) Why). AnswersSo (g.K.Kit.gives c.args.kit) w (map entry_view c.not_run.result.journal.items) job r) (sym c.not_run.ensures.result)
    (subst (λ (J : List Entry). AnswersSo (g.K.Kit.gives c.args.kit) w J job (Err c.in-Err.why)) (sym (ap (map entry_view) c.not_run.ensures.empty)) none)

pub returns-in-Err-clause-ways : goal.returns-in-Err-clause-ways
returns-in-Err-clause-ways g c =
    let w = c.args.line.now in
    let named : log_path c.args.line.now ≡ Some c.args.path.now = ap (λ (o : Option (List ℕ)). log_at o c.args.line.now.resume) c.requires.path in
    let none : WaySo w [] (Err c.in-Err.why) =
    ⊎_elim (λ m. subst (λ (y : Why). WaySo w [] (Err y)) (sym m) (memory_ways w))
    (λ f. subst (λ (y : Why). WaySo w [] (Err y)) (sym f.0) (unbegun_ways w c.args.path.now c.requires.plain named))
    c.in-Err.ensures.failed in
    subst (λ (r : Result (List ℕ) Why). WaySo w (map entry_view c.not_run.result.journal.items) r) (sym c.not_run.ensures.result)
    (subst (λ (J : List Entry). WaySo w J (Err c.in-Err.why)) (sym (ap (map entry_view) c.not_run.ensures.empty)) none)

pub returns-in-Err-clause-keeps : goal.returns-in-Err-clause-keeps
returns-in-Err-clause-keeps g c =
    let old : KeeperSeen =
    record {
      files = g.D.Keep.files c.args.keep.now;
      asked = g.D.Keep.asked c.args.keep.now;
      faults = g.D.Keep.faults c.args.keep.now;
    } in
    let now : KeeperSeen =
    record {
      files = g.D.Keep.files c.begin_log.new.keep;
      asked = g.D.Keep.asked c.begin_log.new.keep;
      faults = g.D.Keep.faults c.begin_log.new.keep;
    } in
    let named : log_path c.args.line.now ≡ Some c.args.path.now = ap (λ (o : Option (List ℕ)). log_at o c.args.line.now.resume) c.requires.path in
    subst (λ (r : Result (List ℕ) Why). KeepsLog (log_path c.args.line.now) old now r c.not_run.result.state) (sym c.not_run.ensures.result)
    (unbegun_keeps (log_path c.args.line.now) c.args.path.now named old now c.in-Err.why c.not_run.result.state c.in-Err.ensures.failed)

pub returns-in-Err-clause-logged : goal.returns-in-Err-clause-logged
returns-in-Err-clause-logged g c = λ inputs o.
    subst (LogTold (g.K.Kit.gives c.args.kit) c.args.line.now c.args.loaded.source inputs (map entry_view c.not_run.result.journal.items)
    (g.D.Keep.files c.begin_log.new.keep) c.not_run.result.state) (sym c.not_run.ensures.result)
    (unbegun_told (g.K.Kit.gives c.args.kit) c.args.line.now c.args.loaded.source inputs (map entry_view c.not_run.result.journal.items)
    (g.D.Keep.files c.begin_log.new.keep) c.not_run.result.state c.in-Err.why c.args.path.now
    (HasRisen (g.D.Keep.faults c.args.keep.now) (g.D.Keep.faults c.begin_log.new.keep))
    (Tells (g.D.Keep.asked c.args.keep.now) (g.D.Keep.asked c.begin_log.new.keep) (c.args.path.now ∷ [])) c.in-Err.ensures.failed)

pub run_with_log-end-requires-clause-losses : goal.run_with_log-end-requires-clause-losses
run_with_log-end-requires-clause-losses g c κs within =
    subst (λ (p : Plan). Each (λ (loss : ℕ × ℕ). loss.1 < p.workers) p.losses) (sym c.requires.plan) c.requires.line.losses

pub returns-clause-answers : goal.returns-clause-answers
returns-clause-answers g c =
    let J = map entry_view c.run_with_log-end.result.ran.journal.items in
    subst (λ r. AnswersSo (g.K.Kit.gives c.args.kit) c.args.line.now J (job_view c.args.loaded.job) r) (sym c.end_of.ensures)
    (run_answers (g.K.Kit.gives c.args.kit) c.args.line.now (job_view c.args.loaded.job) J c.requires.plain c.run_with_log-end.result.ran.end
    (subst (λ p. EndsSo (digest_of c.args.line.now.names) (job_view c.args.loaded.job) (g.K.Kit.gives c.args.kit) p J c.run_with_log-end.result.ran.end)
    c.requires.plan c.run_with_log-end.ensures.end))

pub returns-clause-ways : goal.returns-clause-ways
returns-clause-ways g c =
    let J = map entry_view c.run_with_log-end.result.ran.journal.items in
    subst (WaySo c.args.line.now J) (sym c.end_of.ensures) (run_ways c.args.line.now J c.requires.plain c.run_with_log-end.result.ran.end)

pub returns-clause-keeps : goal.returns-clause-keeps
returns-clause-keeps g c =
    let old : KeeperSeen =
    record {
      files = g.D.Keep.files c.args.keep.now;
      asked = g.D.Keep.asked c.args.keep.now;
      faults = g.D.Keep.faults c.args.keep.now;
    } in
    let begun : KeeperSeen =
    record {
      files = g.D.Keep.files c.begin_log.new.keep;
      asked = g.D.Keep.asked c.begin_log.new.keep;
      faults = g.D.Keep.faults c.begin_log.new.keep;
    } in
    let now : KeeperSeen =
    record {
      files = g.D.Keep.files c.run_with_log-end.new.keep;
      asked = g.D.Keep.asked c.run_with_log-end.new.keep;
      faults = g.D.Keep.faults c.run_with_log-end.new.keep;
    } in
    let state = c.run_with_log-end.result.state in
    let held = c.in-Ok.log.held in
    let end = c.run_with_log-end.result.ran.end in
    let keeps : end ≢ RunEnd.Memory → Keeps c.args.path.now held begun now state =
    (λ over. subst (λ (p : List ℕ). Keeps p held begun now state) c.in-Ok.ensures.path (c.run_with_log-end.ensures.keeps over)) in
    let named : log_path c.args.line.now ≡ Some c.args.path.now = ap (λ (o : Option (List ℕ)). log_at o c.args.line.now.resume) c.requires.path in
    subst (λ (r : Result (List ℕ) Why). KeepsLog (log_path c.args.line.now) old now r state) (sym c.end_of.ensures)
    (run_keeps c.args.line.now c.args.path.now named
    (header_of c.args.line.now c.as_slice.result.now (job_view c.args.loaded.job).inputs) old begun now c.in-Ok.ensures.begun
    c.in-Ok.ensures.never_falls c.in-Ok.ensures.asked held c.in-Ok.ensures.size state end keeps)

pub returns-clause-logged : goal.returns-clause-logged
returns-clause-logged g c = λ inputs o.
    let old : KeeperSeen =
    record {
      files = g.D.Keep.files c.args.keep.now;
      asked = g.D.Keep.asked c.args.keep.now;
      faults = g.D.Keep.faults c.args.keep.now;
    } in
    let begun : KeeperSeen =
    record {
      files = g.D.Keep.files c.begin_log.new.keep;
      asked = g.D.Keep.asked c.begin_log.new.keep;
      faults = g.D.Keep.faults c.begin_log.new.keep;
    } in
    let now : KeeperSeen =
    record {
      files = g.D.Keep.files c.run_with_log-end.new.keep;
      asked = g.D.Keep.asked c.run_with_log-end.new.keep;
      faults = g.D.Keep.faults c.run_with_log-end.new.keep;
    } in
    let w = c.args.line.now in
    let job = job_view c.args.loaded.job in
    let J = map entry_view c.run_with_log-end.result.ran.journal.items in
    let state = c.run_with_log-end.result.state in
    let held = c.in-Ok.log.held in
    let end = c.run_with_log-end.result.ran.end in
    let keeps : end ≢ RunEnd.Memory → Keeps c.args.path.now held begun now state =
    (λ over. subst (λ (p : List ℕ). Keeps p held begun now state) c.in-Ok.ensures.path (c.run_with_log-end.ensures.keeps over)) in
    let written : IfOver end (LogWritten (digest_of w.names) job (g.K.Kit.gives c.args.kit) (plan_of w) c.args.path.now held begun.files now.files J state) =
    subst (λ (x : Plan × List ℕ). IfOver end (LogWritten (digest_of w.names) job (g.K.Kit.gives c.args.kit) x.0 x.1 held begun.files now.files J state))
    (λ i. (c.requires.plan i, c.in-Ok.ensures.path i)) c.run_with_log-end.ensures.written in
    let named : log_path c.args.line.now ≡ Some c.args.path.now = ap (λ (o : Option (List ℕ)). log_at o c.args.line.now.resume) c.requires.path in
    subst (LogTold (g.K.Kit.gives c.args.kit) w c.args.loaded.source inputs J now.files state) (sym c.end_of.ensures)
    (log_told w c.args.path.now named (header_of w c.as_slice.result.now job.inputs) old begun now c.in-Ok.ensures.begun
    c.in-Ok.ensures.never_falls c.in-Ok.ensures.asked held c.in-Ok.ensures.size state (g.K.Kit.gives c.args.kit) c.args.loaded.source inputs J job o
    (ap₂ (λ bytes is. header_of w bytes is) c.as_slice.ensures o.1) end keeps written)
