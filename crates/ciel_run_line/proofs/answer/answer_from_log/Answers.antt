-- What the run that goes on comes to is what the line's job comes to, and what it makes of the keeper; and why it didn't go on.
use Rattle.std.proofs.Common.{◌≡◌, ◌≢◌, ◌<◌, ◌≤◌, ◌∙◌, ℕ, List, false, inl, inr, drop, length, Some, Result, Err, ap, map, refl, subst, sym}
use Rattle.std.specs.Prelude.{IfErr}
use Rattle.sky_base.specs.JobView.{job_view}
use Rattle.ciel_journal.specs.Entries.{Entry}
use Rattle.ciel_journal.specs.History.{Plan}
use Rattle.ciel_journal.specs.Job.{Each}
use Rattle.ciel_log.specs.Logging.{most}
use Rattle.ciel_log.specs.declared.state.LogState.{LogState}
use Rattle.ciel_log_records.specs.Records.{in_file}
use Rattle.ciel_master.specs.Seen.{plan_view}
use Rattle.ciel_master.specs.Views.{entry_view}
use Rattle.ciel_master.specs.declared.stop.RunEnd.{RunEnd}
use Rattle.ciel_run_logged.specs.Ended.{EndsSo}
use Rattle.ciel_run_logged.specs.Keeping.{IfOver, KeeperSeen}
use Rattle.ciel_run_logged.specs.Told.{told_of}
use Rattle.ciel_run_resumed.specs.Keeping.{KeptBy}
use Rattle.ciel_run_resumed.specs.Resuming.{FileTells, RefusesSo}
use Rattle.ciel_run_resumed.specs.declared.run.NotResumed.{NotResumed}
use Rattle.ciel_run_line.specs.Asked.{NoRunOf}
use Rattle.ciel_run_line.specs.Causes.{AnswersSo, WaySo}
use Rattle.ciel_run_line.specs.Keeping.{KeepsLog, LogTold, header_of, is_short}
use Rattle.ciel_run_line.specs.Resuming.{OnwardTold, OwnIfRead, RefusesLog, ReplaysLog}
use Rattle.ciel_run_line.specs.Runs.{digest_of, log_path}
use Rattle.ciel_run_log.specs.declared.why.Why.{Why}
use Rattle.ciel_run_line.proofs.Began.{onward_keeps, onward_told, refused_keeps, refused_told, unbegun_keeps}
use Rattle.ciel_run_line.proofs.Onward.{bad_at, begins_own, end_ran, end_some, header_other, onward_since, other_header, resumed_named}
use Rattle.ciel_run_line.proofs.Ran.{memory_answers, memory_ways, run_answers, run_ways}
use Rattle.ciel_run_line.proofs.Refused.{end_refuses, other_ended, ran_on, refused_answers, refused_cause, refused_none, refused_some, refused_ways, which_not}
use Rattle.ciel_run_line.proofs.ShortHeader.{short_header}
use Rattle.ciel_run_line.proofs.answer.answer_from_log.Goals as goal

-- ---- the header and the path weren't made

pub returns-in_default-clause-answers : goal.returns-in_default-clause-answers
returns-in_default-clause-answers g c = λ own.
    let w = c.args.line.now in
    let job = job_view c.args.loaded.job in
    subst (λ (r : Result (List ℕ) Why). AnswersSo (g.K.Kit.gives c.args.kit) w (map entry_view c.not_run.result.journal.items) job r) (sym c.not_run.ensures.result)
    (subst (λ (J : List Entry). AnswersSo (g.K.Kit.gives c.args.kit) w J job (Err Why.Memory)) (sym (ap (map entry_view) c.not_run.ensures.empty)) (memory_answers (g.K.Kit.gives c.args.kit) w job))

pub returns-in_default-clause-ways : goal.returns-in_default-clause-ways
returns-in_default-clause-ways g c =
    let w = c.args.line.now in
    subst (λ (r : Result (List ℕ) Why). WaySo w (map entry_view c.not_run.result.journal.items) r) (sym c.not_run.ensures.result)
    (subst (λ (J : List Entry). WaySo w J (Err Why.Memory)) (sym (ap (map entry_view) c.not_run.ensures.empty)) (memory_ways w))

pub returns-in_default-clause-refuses : goal.returns-in_default-clause-refuses
returns-in_default-clause-refuses g c =
    let job = job_view c.args.loaded.job in
    subst (λ (r : Result (List ℕ) Why). IfErr r (RefusesLog (g.K.Kit.gives c.args.kit) c.args.line.now c.args.loaded.source job (Some c.args.log.now)))
    (sym c.not_run.ensures.result) tt

pub returns-in_default-clause-of_other : goal.returns-in_default-clause-of_other
returns-in_default-clause-of_other g c = λ other. inr c.not_run.ensures.result

pub returns-in_default-clause-told : goal.returns-in_default-clause-told
returns-in_default-clause-told g c = λ some. absurd (some c.not_run.ensures.result)

pub returns-in_default-clause-keeps : goal.returns-in_default-clause-keeps
returns-in_default-clause-keeps g c =
    let w = c.args.line.now in
    let old : KeeperSeen =
    record {
      files = g.D.Keep.files c.args.keep.now;
      asked = g.D.Keep.asked c.args.keep.now;
      faults = g.D.Keep.faults c.args.keep.now;
    } in
    subst (λ (r : Result (List ℕ) Why). KeepsLog (log_path w) old old r c.not_run.result.state) (sym c.not_run.ensures.result)
    (unbegun_keeps (log_path w) c.args.path.now (resumed_named w c.requires.line c.args.path.now c.requires.path) old old Why.Memory
    c.not_run.result.state (inl refl))

pub returns-in_default-clause-logged : goal.returns-in_default-clause-logged
returns-in_default-clause-logged g c = λ own inputs o.
    subst (LogTold (g.K.Kit.gives c.args.kit) c.args.line.now c.args.loaded.source inputs (map entry_view c.not_run.result.journal.items) (g.D.Keep.files c.args.keep.now)
    c.not_run.result.state) (sym c.not_run.ensures.result) tt

-- ---- the log is what was read, and its header this line's

pub run_from_log-requires-clause-losses : goal.run_from_log-requires-clause-losses
run_from_log-requires-clause-losses g c κs within =
    subst (λ (p : Plan). Each (λ (loss : ℕ × ℕ). loss.1 < p.workers) p.losses) (sym c.requires.plan) c.requires.line.losses

pub run_from_log-requires-clause-short : goal.run_from_log-requires-clause-short
run_from_log-requires-clause-short g c κs within =
    let w = c.args.line.now in
    let source = c.args.loaded.source in
    let job = job_view c.args.loaded.job in
    let header_is : c.as_slice-2.result.now ≡ header_of w source job.inputs =
    c.as_slice-2.ensures ∙ c.in-Ok-Ok.ensures ∙ ap (λ bytes. header_of w bytes job.inputs) c.as_slice.ensures in
    subst (λ (b : List ℕ). length (in_file b) ≤ most) (sym header_is)
    (short_header w.workers w.seed w.losses (is_short w.names) source job.inputs c.requires.line.few c.requires.few c.requires.keys)

pub run_from_log-requires-clause-log : goal.run_from_log-requires-clause-log
run_from_log-requires-clause-log g c κs within = subst (λ (b : List ℕ). length b ≤ most) (sym c.as_slice-3.ensures) c.requires.log

-- ---- it was gone on from

pub returns-in-Ok-clause-answers : goal.returns-in-Ok-clause-answers
returns-in-Ok-clause-answers g c = λ own.
    let w = c.args.line.now in
    let source = c.args.loaded.source in
    let job = job_view c.args.loaded.job in
    let plan : Plan = plan_view c.args.plan in
    let J = map entry_view c.in-Ok.logged.ran.journal.items in
    let end = c.in-Ok.logged.ran.end in
    let header_is : c.as_slice-2.result.now ≡ header_of w source job.inputs =
    c.as_slice-2.ensures ∙ c.in-Ok-Ok.ensures ∙ ap (λ bytes. header_of w bytes job.inputs) c.as_slice.ensures in
    let begins = begins_own (g.K.Kit.gives c.args.kit) w source job c.args.log.now c.as_slice-2.result.now c.as_slice-3.result.now plan header_is c.as_slice-3.ensures
    c.requires.plan own in
    subst (λ (r : Result (List ℕ) Why). AnswersSo (g.K.Kit.gives c.args.kit) w J job r) (sym c.end_of.ensures)
    (run_answers (g.K.Kit.gives c.args.kit) w job J c.requires.plain end
    (subst (λ (p : Plan). EndsSo (digest_of w.names) job (g.K.Kit.gives c.args.kit) p J end) c.requires.plan (c.in-Ok.ensures.end begins)))

pub returns-in-Ok-clause-ways : goal.returns-in-Ok-clause-ways
returns-in-Ok-clause-ways g c =
    let J = map entry_view c.in-Ok.logged.ran.journal.items in
    subst (WaySo c.args.line.now J) (sym c.end_of.ensures) (run_ways c.args.line.now J c.requires.plain c.in-Ok.logged.ran.end)

pub returns-in-Ok-clause-refuses : goal.returns-in-Ok-clause-refuses
returns-in-Ok-clause-refuses g c =
    let w = c.args.line.now in
    let source = c.args.loaded.source in
    let job = job_view c.args.loaded.job in
    subst (λ (r : Result (List ℕ) Why). IfErr r (RefusesLog (g.K.Kit.gives c.args.kit) w source job (Some c.args.log.now))) (sym c.end_of.ensures)
    (end_refuses (g.K.Kit.gives c.args.kit) w source job (Some c.args.log.now) c.in-Ok.logged.ran.end)

pub returns-in-Ok-clause-of_other : goal.returns-in-Ok-clause-of_other
returns-in-Ok-clause-of_other g c = λ other.
    let w = c.args.line.now in
    let source = c.args.loaded.source in
    let job = job_view c.args.loaded.job in
    let header_is : c.as_slice-2.result.now ≡ header_of w source job.inputs =
    c.as_slice-2.ensures ∙ c.in-Ok-Ok.ensures ∙ ap (λ bytes. header_of w bytes job.inputs) c.as_slice.ensures in
    absurd (ran_on c.run_from_log.result NotResumed.OtherJob NotResumed.Memory c.in-Ok.logged c.in-Ok.is
    (c.run_from_log.ensures.of_other (other_header (g.K.Kit.gives c.args.kit) w source job c.args.log.now c.as_slice-2.result.now c.as_slice-3.result.now
    (plan_view c.args.plan) header_is c.as_slice-3.ensures c.requires.plan other)))

pub returns-in-Ok-clause-told : goal.returns-in-Ok-clause-told
returns-in-Ok-clause-told g c = λ some.
    let w = c.args.line.now in
    let source = c.args.loaded.source in
    let job = job_view c.args.loaded.job in
    let plan : Plan = plan_view c.args.plan in
    let J = map entry_view c.in-Ok.logged.ran.journal.items in
    let header_is : c.as_slice-2.result.now ≡ header_of w source job.inputs =
    c.as_slice-2.ensures ∙ c.in-Ok-Ok.ensures ∙ ap (λ bytes. header_of w bytes job.inputs) c.as_slice.ensures in
    subst (λ (p : Plan). OnwardTold (λ replayed. OwnIfRead (g.K.Kit.gives c.args.kit) w source job.inputs job (Some c.args.log.now)
    → ReplaysLog (g.K.Kit.gives c.args.kit) w source job.inputs job c.args.log.now replayed) J (told_of g.G.Gate.entered p.workers c.args.gates.now.items)
    (told_of g.G.Gate.entered p.workers c.run_from_log.new.gates.items)) c.requires.plan
    (onward_since (g.K.Kit.gives c.args.kit) w source job c.args.log.now c.as_slice-2.result.now c.as_slice-3.result.now plan header_is c.as_slice-3.ensures c.requires.plan J
    (told_of g.G.Gate.entered c.args.plan.workers c.args.gates.now.items)
    (told_of g.G.Gate.entered c.args.plan.workers c.run_from_log.new.gates.items)
    (c.in-Ok.ensures.told (end_some c.in-Ok.logged.ran.end c.end_of.result c.end_of.ensures some)))

pub returns-in-Ok-clause-others : goal.returns-in-Ok-clause-others
returns-in-Ok-clause-others g c = λ some.
    subst (λ (p : Plan). drop p.workers c.run_from_log.new.gates.items ≡ drop p.workers c.args.gates.now.items) c.requires.plan
    (c.in-Ok.ensures.others (end_some c.in-Ok.logged.ran.end c.end_of.result c.end_of.ensures some))

pub returns-in-Ok-clause-all : goal.returns-in-Ok-clause-all
returns-in-Ok-clause-all g c = λ some.
    c.in-Ok.ensures.all (end_some c.in-Ok.logged.ran.end c.end_of.result c.end_of.ensures some)

pub returns-in-Ok-clause-keeps : goal.returns-in-Ok-clause-keeps
returns-in-Ok-clause-keeps g c =
    let w = c.args.line.now in
    let old : KeeperSeen =
    record {
      files = g.D.Keep.files c.args.keep.now;
      asked = g.D.Keep.asked c.args.keep.now;
      faults = g.D.Keep.faults c.args.keep.now;
    } in
    let now : KeeperSeen =
    record {
      files = g.D.Keep.files c.run_from_log.new.keep;
      asked = g.D.Keep.asked c.run_from_log.new.keep;
      faults = g.D.Keep.faults c.run_from_log.new.keep;
    } in
    let state = c.in-Ok.logged.state in
    let end = c.in-Ok.logged.ran.end in
    let kept : end ≢ RunEnd.Memory → KeptBy c.args.path.now old now state =
    (λ over. subst (λ (p : List ℕ). KeptBy p old now state) c.in-Ok-Ok.ensures' (c.in-Ok.ensures.keeps over)) in
    subst (λ (r : Result (List ℕ) Why). KeepsLog (log_path w) old now r state) (sym c.end_of.ensures)
    (onward_keeps w c.args.path.now (resumed_named w c.requires.line c.args.path.now c.requires.path) old now state end kept)

pub returns-in-Ok-clause-logged : goal.returns-in-Ok-clause-logged
returns-in-Ok-clause-logged g c = λ own inputs o.
    let w = c.args.line.now in
    let source = c.args.loaded.source in
    let job = job_view c.args.loaded.job in
    let plan : Plan = plan_view c.args.plan in
    let J = map entry_view c.in-Ok.logged.ran.journal.items in
    let old : KeeperSeen =
    record {
      files = g.D.Keep.files c.args.keep.now;
      asked = g.D.Keep.asked c.args.keep.now;
      faults = g.D.Keep.faults c.args.keep.now;
    } in
    let now : KeeperSeen =
    record {
      files = g.D.Keep.files c.run_from_log.new.keep;
      asked = g.D.Keep.asked c.run_from_log.new.keep;
      faults = g.D.Keep.faults c.run_from_log.new.keep;
    } in
    let state = c.in-Ok.logged.state in
    let end = c.in-Ok.logged.ran.end in
    let header_is : c.as_slice-2.result.now ≡ header_of w source job.inputs =
    c.as_slice-2.ensures ∙ c.in-Ok-Ok.ensures ∙ ap (λ bytes. header_of w bytes job.inputs) c.as_slice.ensures in
    let begins = begins_own (g.K.Kit.gives c.args.kit) w source job c.args.log.now c.as_slice-2.result.now c.as_slice-3.result.now plan header_is c.as_slice-3.ensures
    c.requires.plan own in
    let over_inputs : c.as_slice-2.result.now ≡ header_of w source inputs = header_is ∙ ap (λ is. header_of w source is) o.1 in
    subst (LogTold (g.K.Kit.gives c.args.kit) w source inputs J now.files state) (sym c.end_of.ensures)
    (onward_told w c.args.path.now (resumed_named w c.requires.line c.args.path.now c.requires.path) old now (g.K.Kit.gives c.args.kit) source inputs J job o state end
    (subst (λ (x : Plan × List ℕ × List ℕ). IfOver end (FileTells (digest_of w.names) job (g.K.Kit.gives c.args.kit) x.0 x.1 x.2 now.files J state))
    (λ i. (c.requires.plan i, over_inputs i, c.in-Ok-Ok.ensures' i)) (c.in-Ok.ensures.written begins)))

pub returns-in-Ok-clause-kept : goal.returns-in-Ok-clause-kept
returns-in-Ok-clause-kept g c = λ none. absurd (end_ran c.in-Ok.logged.ran.end (subst (NoRunOf false) c.end_of.ensures none))

-- ---- it wasn't

pub returns-clause-answers : goal.returns-clause-answers
returns-clause-answers g c = λ own.
    let w = c.args.line.now in
    let job = job_view c.args.loaded.job in
    subst (λ (r : Result (List ℕ) Why). AnswersSo (g.K.Kit.gives c.args.kit) w (map entry_view c.not_run-in-Err.result.journal.items) job r) (sym c.not_run-in-Err.ensures.result)
    (subst (λ (J : List Entry). AnswersSo (g.K.Kit.gives c.args.kit) w J job (Err c.why_not.result)) (sym (ap (map entry_view) c.not_run-in-Err.ensures.empty))
    (refused_answers w c.args.path.now c.in-Err.not c.why_not.result c.why_not.ensures (g.K.Kit.gives c.args.kit) job))

pub returns-clause-ways : goal.returns-clause-ways
returns-clause-ways g c =
    let w = c.args.line.now in
    subst (λ (r : Result (List ℕ) Why). WaySo w (map entry_view c.not_run-in-Err.result.journal.items) r) (sym c.not_run-in-Err.ensures.result)
    (subst (λ (J : List Entry). WaySo w J (Err c.why_not.result)) (sym (ap (map entry_view) c.not_run-in-Err.ensures.empty))
    (refused_ways w c.args.path.now c.in-Err.not c.why_not.result c.why_not.ensures c.requires.plain c.requires.path
    (resumed_named w c.requires.line c.args.path.now c.requires.path)))

pub returns-clause-refuses : goal.returns-clause-refuses
returns-clause-refuses g c =
    let w = c.args.line.now in
    let source = c.args.loaded.source in
    let job = job_view c.args.loaded.job in
    let log = c.args.log.now in
    let header = c.as_slice-2.result.now in
    let bytes = c.as_slice-3.result.now in
    let plan : Plan = plan_view c.args.plan in
    let header_is : header ≡ header_of w source job.inputs =
    c.as_slice-2.ensures ∙ c.in-Ok-Ok.ensures ∙ ap (λ b. header_of w b job.inputs) c.as_slice.ensures in
    subst (λ (r : Result (List ℕ) Why). IfErr r (RefusesLog (g.K.Kit.gives c.args.kit) w source job (Some log))) (sym c.not_run-in-Err.ensures.result)
    (refused_cause w c.args.path.now c.in-Err.not c.why_not.result c.why_not.ensures (g.K.Kit.gives c.args.kit) source job log
    (λ e. header_other (g.K.Kit.gives c.args.kit) w source job log header bytes plan header_is c.as_slice-3.ensures c.requires.plan
    (c.run_from_log.ensures.other (c.in-Err.is ∙ ap (λ (n : NotResumed). Err n) e)))
    (λ at e. bad_at (g.K.Kit.gives c.args.kit) w source job log header bytes plan header_is c.as_slice-3.ensures c.requires.plan at
    (c.run_from_log.ensures.bad at (c.in-Err.is ∙ ap (λ (n : NotResumed). Err n) e))))

pub returns-clause-of_other : goal.returns-clause-of_other
returns-clause-of_other g c = λ other.
    let w = c.args.line.now in
    let source = c.args.loaded.source in
    let job = job_view c.args.loaded.job in
    let header_is : c.as_slice-2.result.now ≡ header_of w source job.inputs =
    c.as_slice-2.ensures ∙ c.in-Ok-Ok.ensures ∙ ap (λ bytes. header_of w bytes job.inputs) c.as_slice.ensures in
    other_ended w c.args.path.now c.in-Err.not c.why_not.result c.why_not.ensures c.not_run-in-Err.result.result c.not_run-in-Err.ensures.result
    (which_not c.run_from_log.result NotResumed.OtherJob NotResumed.Memory c.in-Err.not c.in-Err.is
    (c.run_from_log.ensures.of_other (other_header (g.K.Kit.gives c.args.kit) w source job c.args.log.now c.as_slice-2.result.now c.as_slice-3.result.now
    (plan_view c.args.plan) header_is c.as_slice-3.ensures c.requires.plan other)))

pub returns-clause-told : goal.returns-clause-told
returns-clause-told g c = λ some.
    let w = c.args.line.now in
    let same = c.in-Err.ensures.kept (refused_some w c.args.path.now c.in-Err.not c.why_not.result c.why_not.ensures c.not_run-in-Err.result.result
    c.not_run-in-Err.ensures.result some) in
    inl (
      ap (map entry_view) c.not_run-in-Err.ensures.empty,
      ap (λ gs. told_of g.G.Gate.entered w.workers gs.items) same,
    )

pub returns-clause-others : goal.returns-clause-others
returns-clause-others g c = λ some.
    let w = c.args.line.now in
    ap (λ gs. drop w.workers gs.items)
    (c.in-Err.ensures.kept (refused_some w c.args.path.now c.in-Err.not c.why_not.result c.why_not.ensures c.not_run-in-Err.result.result
    c.not_run-in-Err.ensures.result some))

pub returns-clause-all : goal.returns-clause-all
returns-clause-all g c = λ some.
    ap (λ gs. length gs.items)
    (c.in-Err.ensures.kept (refused_some c.args.line.now c.args.path.now c.in-Err.not c.why_not.result c.why_not.ensures
    c.not_run-in-Err.result.result c.not_run-in-Err.ensures.result some)) ∙ c.requires.gates

pub returns-clause-keeps : goal.returns-clause-keeps
returns-clause-keeps g c =
    let w = c.args.line.now in
    let old : KeeperSeen =
    record {
      files = g.D.Keep.files c.args.keep.now;
      asked = g.D.Keep.asked c.args.keep.now;
      faults = g.D.Keep.faults c.args.keep.now;
    } in
    let now : KeeperSeen =
    record {
      files = g.D.Keep.files c.run_from_log.new.keep;
      asked = g.D.Keep.asked c.run_from_log.new.keep;
      faults = g.D.Keep.faults c.run_from_log.new.keep;
    } in
    subst (λ (x : Result (List ℕ) Why × LogState). KeepsLog (log_path w) old now x.0 x.1)
    (λ i. (sym c.not_run-in-Err.ensures.result i, sym c.not_run-in-Err.ensures.whole i))
    (refused_keeps w c.args.path.now (resumed_named w c.requires.line c.args.path.now c.requires.path) old now c.in-Err.not c.why_not.result
    c.why_not.ensures (subst (λ (p : List ℕ). RefusesSo p old now c.in-Err.not) c.in-Ok-Ok.ensures' c.in-Err.ensures.refused))

pub returns-clause-logged : goal.returns-clause-logged
returns-clause-logged g c = λ own inputs o.
    let w = c.args.line.now in
    let J = map entry_view c.not_run-in-Err.result.journal.items in
    subst (LogTold (g.K.Kit.gives c.args.kit) w c.args.loaded.source inputs J (g.D.Keep.files c.run_from_log.new.keep) c.not_run-in-Err.result.state)
    (sym c.not_run-in-Err.ensures.result)
    (refused_told (g.K.Kit.gives c.args.kit) w c.args.loaded.source inputs J (g.D.Keep.files c.run_from_log.new.keep) c.not_run-in-Err.result.state c.args.path.now c.in-Err.not
    c.why_not.result c.why_not.ensures)

pub returns-clause-kept : goal.returns-clause-kept
returns-clause-kept g c = λ none.
    c.in-Err.ensures.kept (refused_none c.args.line.now c.args.path.now c.in-Err.not c.why_not.result c.why_not.ensures
    c.not_run-in-Err.result.result c.not_run-in-Err.ensures.result none)
