-- What the run comes to is what the line's job comes to, whichever way it is run.
use Rattle.std.proofs.Common.{◌≡◌, ◌<◌, ◌≤◌, ℕ, List, [], Bool, inr, length, Some, Option, Result, Err, ap, map, subst, sym}
use Rattle.std.specs.Prelude.{IfErr, IfSome}
use Rattle.sky_base.specs.JobView.{job_view}
use Rattle.ciel_journal.specs.Entries.{Entry}
use Rattle.ciel_journal.specs.History.{Plan}
use Rattle.ciel_journal.specs.Job.{Each}
use Rattle.ciel_log.specs.Logging.{most}
use Rattle.ciel_log.specs.declared.state.LogState.{LogState}
use Rattle.ciel_run_logged.specs.Ended.{EndsSo}
use Rattle.ciel_run_logged.specs.Keeping.{KeeperSeen}
use Rattle.ciel_run_logged.specs.Told.{ToldBy, told_of}
use Rattle.ciel_master.specs.Views.{entry_view}
use Rattle.ciel_run_line.specs.Asked.{NoRunOf}
use Rattle.ciel_run_line.specs.Causes.{AnswersSo, WaySo}
use Rattle.ciel_run_line.specs.Keeping.{KeepsLog, LogTold, header_of}
use Rattle.ciel_run_line.specs.Resuming.{RefusesLog}
use Rattle.ciel_run_line.specs.Runs.{digest_of, log_at, log_path}
use Rattle.ciel_run_log.specs.declared.why.Why.{Why}
use Rattle.ciel_run_line.proofs.Began.{plain_keeps, plain_no_log, unplanned_keeps, untold}
use Rattle.ciel_run_line.proofs.Last.{none_of}
use Rattle.ciel_run_line.proofs.Onward.{end_ran, end_some, logged_alone, named_other, no_path, own_read, plain_alone, resumed_named, told_alone, told_onward, told_still, unlogged}
use Rattle.ciel_run_line.proofs.Ran.{memory_answers, memory_ways, plain_answers, plain_ways, run_answers, run_ways}
use Rattle.ciel_run_line.proofs.Refused.{alone_refuses, end_refuses}
use Rattle.ciel_run_line.proofs.answer.answer.Goals as goal

-- ---- by the sequential interpreter

pub returns-then-line-clause-answers : goal.returns-then-line-clause-answers
returns-then-line-clause-answers g c = λ own.
    let w = c.args.line.now in
    let job = job_view c.args.loaded.job in
    subst (λ (J : List Entry). AnswersSo (g.K.Kit.gives c.args.kit) w J job c.plainly.result) (sym (ap (map entry_view) c.new.ensures.items))
    (plain_answers (g.K.Kit.gives c.args.kit) w job c.if-line.true c.plainly.result c.plainly.ensures.bytes c.plainly.ensures.none)

pub returns-then-line-clause-ways : goal.returns-then-line-clause-ways
returns-then-line-clause-ways g c =
    let w = c.args.line.now in
    subst (λ (J : List Entry). WaySo w J c.plainly.result) (sym (ap (map entry_view) c.new.ensures.items))
    (plain_ways w (g.K.Kit.gives c.args.kit) (job_view c.args.loaded.job) c.if-line.true c.plainly.result c.plainly.ensures.none)

pub returns-then-line-clause-refuses : goal.returns-then-line-clause-refuses
returns-then-line-clause-refuses g c =
    let w = c.args.line.now in
    let job = job_view c.args.loaded.job in
    alone_refuses (g.K.Kit.gives c.args.kit) w [] (plain_alone w c.requires.line c.if-line.true) c.args.loaded.source job c.args.log c.plainly.result
    (plain_ways w (g.K.Kit.gives c.args.kit) job c.if-line.true c.plainly.result c.plainly.ensures.none)

pub returns-then-line-clause-of_other : goal.returns-then-line-clause-of_other
returns-then-line-clause-of_other g c = λ path bytes e l o.
    absurd (no_path c.args.line.now.resume path (plain_alone c.args.line.now c.requires.line c.if-line.true) e)

pub returns-then-line-clause-told : goal.returns-then-line-clause-told
returns-then-line-clause-told g c = λ some.
    let w = c.args.line.now in
    let gates = told_of g.G.Gate.entered w.workers c.args.gates.now.items in
    told_alone (g.K.Kit.gives c.args.kit) w c.args.loaded.source (job_view c.args.loaded.job) c.args.log (map entry_view c.new.result.items) gates gates
    (plain_alone w c.requires.line c.if-line.true)
    (subst (λ (J : List Entry). ToldBy J gates gates) (sym (ap (map entry_view) c.new.ensures.items)) (told_still gates))

pub returns-then-line-clause-keeps : goal.returns-then-line-clause-keeps
returns-then-line-clause-keeps g c =
    plain_keeps (log_path c.args.line.now) (plain_no_log c.args.line.now c.requires.line c.if-line.true)
    (record {
      files = g.D.Keep.files c.args.keep.now;
      asked = g.D.Keep.asked c.args.keep.now;
      faults = g.D.Keep.faults c.args.keep.now;
    }) c.plainly.result

pub returns-then-line-clause-logged : goal.returns-then-line-clause-logged
returns-then-line-clause-logged g c = λ own inputs o.
    untold (g.K.Kit.gives c.args.kit) c.args.line.now c.args.loaded.source inputs (map entry_view c.new.result.items) (g.D.Keep.files c.args.keep.now) LogState.Whole
    (plain_no_log c.args.line.now c.requires.line c.if-line.true) c.plainly.result

-- ---- its run wasn't planned

pub returns-in_default-clause-answers : goal.returns-in_default-clause-answers
returns-in_default-clause-answers g c = λ own.
    let w = c.args.line.now in
    let job = job_view c.args.loaded.job in
    subst (λ (r : Result (List ℕ) Why). AnswersSo (g.K.Kit.gives c.args.kit) w (map entry_view c.not_run.result.journal.items) job r) (sym c.not_run.ensures.result)
    (subst (λ (J : List Entry). AnswersSo (g.K.Kit.gives c.args.kit) w J job (Err Why.Memory)) (sym (ap (map entry_view) c.not_run.ensures.empty)) (memory_answers (g.K.Kit.gives c.args.kit) w job))

pub returns-in_default-clause-ways : goal.returns-in_default-clause-ways
returns-in_default-clause-ways g c =
    let w = c.args.line.now in
    subst (λ (r : Result (List ℕ) Why). WaySo w (map entry_view c.not_run.result.journal.items) r) (sym c.not_run.ensures.result)
    (subst (λ (J : List Entry). WaySo w J (Err Why.Memory)) (sym (ap (map entry_view) c.not_run.ensures.empty)) (memory_ways w))

pub returns-in_default-clause-refuses : goal.returns-in_default-clause-refuses
returns-in_default-clause-refuses g c =
    subst (λ (r : Result (List ℕ) Why). IfErr r (RefusesLog (g.K.Kit.gives c.args.kit) c.args.line.now c.args.loaded.source (job_view c.args.loaded.job) c.args.log))
    (sym c.not_run.ensures.result) tt

pub returns-in_default-clause-of_other : goal.returns-in_default-clause-of_other
returns-in_default-clause-of_other g c = λ path bytes e l o. inr c.not_run.ensures.result

pub returns-in_default-clause-told : goal.returns-in_default-clause-told
returns-in_default-clause-told g c = λ some. absurd (some c.not_run.ensures.result)

pub returns-in_default-clause-keeps : goal.returns-in_default-clause-keeps
returns-in_default-clause-keeps g c =
    let log = log_path c.args.line.now in
    let kept : KeeperSeen =
    record {
      files = g.D.Keep.files c.args.keep.now;
      asked = g.D.Keep.asked c.args.keep.now;
      faults = g.D.Keep.faults c.args.keep.now;
    } in
    subst (λ (r : Result (List ℕ) Why). KeepsLog log kept kept r c.not_run.result.state) (sym c.not_run.ensures.result)
    (unplanned_keeps log kept c.not_run.result.state c.not_run.ensures.whole)

pub returns-in_default-clause-logged : goal.returns-in_default-clause-logged
returns-in_default-clause-logged g c = λ own inputs o.
    subst (LogTold (g.K.Kit.gives c.args.kit) c.args.line.now c.args.loaded.source inputs (map entry_view c.not_run.result.journal.items) (g.D.Keep.files c.args.keep.now)
    c.not_run.result.state) (sym c.not_run.ensures.result) tt

-- ---- with a log that it begins

pub returns-in-Some-clause-answers : goal.returns-in-Some-clause-answers
returns-in-Some-clause-answers g c = λ own. c.answer_with_log.ensures.answers

pub returns-in-Some-clause-refuses : goal.returns-in-Some-clause-refuses
returns-in-Some-clause-refuses g c =
    let w = c.args.line.now in
    alone_refuses (g.K.Kit.gives c.args.kit) w (map entry_view c.answer_with_log.result.journal.items) (logged_alone w c.requires.line c.in-Some.path c.in-Some.is)
    c.args.loaded.source (job_view c.args.loaded.job) c.args.log c.answer_with_log.result.result c.answer_with_log.ensures.ways

pub returns-in-Some-clause-of_other : goal.returns-in-Some-clause-of_other
returns-in-Some-clause-of_other g c = λ path bytes e l o.
    absurd (no_path c.args.line.now.resume path (logged_alone c.args.line.now c.requires.line c.in-Some.path c.in-Some.is) e)

pub returns-in-Some-clause-told : goal.returns-in-Some-clause-told
returns-in-Some-clause-told g c = λ some.
    let w = c.args.line.now in
    told_alone (g.K.Kit.gives c.args.kit) w c.args.loaded.source (job_view c.args.loaded.job) c.args.log (map entry_view c.answer_with_log.result.journal.items)
    (told_of g.G.Gate.entered w.workers c.args.gates.now.items) (told_of g.G.Gate.entered w.workers c.answer_with_log.new.gates.items)
    (logged_alone w c.requires.line c.in-Some.path c.in-Some.is) (c.answer_with_log.ensures.told some)

pub returns-in-Some-clause-kept : goal.returns-in-Some-clause-kept
returns-in-Some-clause-kept g c = λ none.
    c.answer_with_log.ensures.kept (subst (λ (b : Bool). NoRunOf b c.answer_with_log.result.result) c.if-line.false none)

pub returns-in-Some-clause-unasked : goal.returns-in-Some-clause-unasked
returns-in-Some-clause-unasked g c = λ none.
    absurd (no_path (log_path c.args.line.now) c.in-Some.path none
    (ap (λ (o : Option (List ℕ)). log_at o c.args.line.now.resume) c.in-Some.is))

pub returns-in-Some-clause-logged : goal.returns-in-Some-clause-logged
returns-in-Some-clause-logged g c = λ own. c.answer_with_log.ensures.logged

-- ---- from a log

pub answer_from_log-requires-clause-log : goal.answer_from_log-requires-clause-log
answer_from_log-requires-clause-log g c κs within =
    subst (λ (o : Option (List ℕ)). IfSome o (λ b. length b ≤ most)) c.in-Some-log.is c.requires.within

pub returns-in-Some-resume-clause-answers : goal.returns-in-Some-resume-clause-answers
returns-in-Some-resume-clause-answers g c = λ own.
    let w = c.args.line.now in
    let J = map entry_view c.answer_from_log.result.journal.items in
    let gates = told_of g.G.Gate.entered w.workers c.args.gates.now.items in
    c.answer_from_log.ensures.answers (own_read (g.K.Kit.gives c.args.kit) w c.args.loaded.source (job_view c.args.loaded.job) c.args.log J gates gates c.in-Some-resume.path
    c.in-Some-log.log c.in-Some-resume.is c.in-Some-log.is own)

pub returns-in-Some-resume-clause-refuses : goal.returns-in-Some-resume-clause-refuses
returns-in-Some-resume-clause-refuses g c =
    subst (λ (o : Option (List ℕ)). IfErr c.answer_from_log.result.result
    (RefusesLog (g.K.Kit.gives c.args.kit) c.args.line.now c.args.loaded.source (job_view c.args.loaded.job) o)) (sym c.in-Some-log.is) c.answer_from_log.ensures.refuses

pub returns-in-Some-resume-clause-of_other : goal.returns-in-Some-resume-clause-of_other
returns-in-Some-resume-clause-of_other g c =
    named_other (header_of c.args.line.now c.args.loaded.source (job_view c.args.loaded.job).inputs) c.answer_from_log.result.result
    c.args.line.now.resume c.args.log c.in-Some-resume.path c.in-Some-log.log c.in-Some-resume.is c.in-Some-log.is
    c.answer_from_log.ensures.of_other

pub returns-in-Some-resume-clause-told : goal.returns-in-Some-resume-clause-told
returns-in-Some-resume-clause-told g c = λ some.
    let w = c.args.line.now in
    told_onward (g.K.Kit.gives c.args.kit) w c.args.loaded.source (job_view c.args.loaded.job) c.args.log (map entry_view c.answer_from_log.result.journal.items)
    (told_of g.G.Gate.entered w.workers c.args.gates.now.items) (told_of g.G.Gate.entered w.workers c.answer_from_log.new.gates.items)
    c.in-Some-resume.path c.in-Some-log.log c.in-Some-resume.is c.in-Some-log.is (c.answer_from_log.ensures.told some)

pub returns-in-Some-resume-clause-kept : goal.returns-in-Some-resume-clause-kept
returns-in-Some-resume-clause-kept g c = λ none.
    c.answer_from_log.ensures.kept (subst (λ (b : Bool). NoRunOf b c.answer_from_log.result.result) c.if-line.false none)

pub returns-in-Some-resume-clause-unasked : goal.returns-in-Some-resume-clause-unasked
returns-in-Some-resume-clause-unasked g c = λ none.
    absurd (no_path (log_path c.args.line.now) c.in-Some-resume.path none
    (resumed_named c.args.line.now c.requires.line c.in-Some-resume.path c.in-Some-resume.is))

pub returns-in-Some-resume-clause-logged : goal.returns-in-Some-resume-clause-logged
returns-in-Some-resume-clause-logged g c = λ own.
    let w = c.args.line.now in
    let J = map entry_view c.answer_from_log.result.journal.items in
    let gates = told_of g.G.Gate.entered w.workers c.args.gates.now.items in
    c.answer_from_log.ensures.logged (own_read (g.K.Kit.gives c.args.kit) w c.args.loaded.source (job_view c.args.loaded.job) c.args.log J gates gates c.in-Some-resume.path
    c.in-Some-log.log c.in-Some-resume.is c.in-Some-log.is own)

-- ---- with none

pub run-end-requires-clause-losses : goal.run-end-requires-clause-losses
run-end-requires-clause-losses g c κs within =
    subst (λ (p : Plan). Each (λ (loss : ℕ × ℕ). loss.1 < p.workers) p.losses) (sym c.in-Ok.ensures.plan) c.requires.line.losses

pub returns-clause-answers : goal.returns-clause-answers
returns-clause-answers g c = λ own.
    subst (λ r. AnswersSo (g.K.Kit.gives c.args.kit) c.args.line.now (map entry_view c.run-end.result.journal.items) (job_view c.args.loaded.job) r) (sym c.end_of.ensures)
    (run_answers (g.K.Kit.gives c.args.kit) c.args.line.now (job_view c.args.loaded.job) (map entry_view c.run-end.result.journal.items) c.if-line.false c.run-end.result.end
    (subst (λ p. EndsSo (digest_of c.args.line.now.names) (job_view c.args.loaded.job) (g.K.Kit.gives c.args.kit) p (map entry_view c.run-end.result.journal.items)
    c.run-end.result.end)
    c.in-Ok.ensures.plan c.run-end.ensures.end))

pub returns-clause-ways : goal.returns-clause-ways
returns-clause-ways g c =
    subst (WaySo c.args.line.now (map entry_view c.run-end.result.journal.items)) (sym c.end_of.ensures)
    (run_ways c.args.line.now (map entry_view c.run-end.result.journal.items) c.if-line.false c.run-end.result.end)

pub returns-clause-refuses : goal.returns-clause-refuses
returns-clause-refuses g c =
    let w = c.args.line.now in
    let source = c.args.loaded.source in
    let job = job_view c.args.loaded.job in
    subst (λ (r : Result (List ℕ) Why). IfErr r (RefusesLog (g.K.Kit.gives c.args.kit) w source job c.args.log)) (sym c.end_of.ensures)
    (end_refuses (g.K.Kit.gives c.args.kit) w source job c.args.log c.run-end.result.end)

pub returns-clause-of_other : goal.returns-clause-of_other
returns-clause-of_other g c = λ path bytes e l o.
    absurd (no_path c.args.line.now.resume path (none_of c.args.line.now.resume c.in_default-resume.not-Some) e)

pub returns-clause-told : goal.returns-clause-told
returns-clause-told g c = λ some.
    let w = c.args.line.now in
    let J = map entry_view c.run-end.result.journal.items in
    told_alone (g.K.Kit.gives c.args.kit) w c.args.loaded.source (job_view c.args.loaded.job) c.args.log J (told_of g.G.Gate.entered w.workers c.args.gates.now.items)
    (told_of g.G.Gate.entered w.workers c.run-end.new.gates.items) (none_of w.resume c.in_default-resume.not-Some)
    (subst (λ (p : Plan). ToldBy J (told_of g.G.Gate.entered p.workers c.args.gates.now.items)
    (told_of g.G.Gate.entered p.workers c.run-end.new.gates.items)) c.in-Ok.ensures.plan
    (c.run-end.ensures.told (end_some c.run-end.result.end c.end_of.result c.end_of.ensures some)))

pub returns-clause-kept : goal.returns-clause-kept
returns-clause-kept g c = λ none.
    absurd (end_ran c.run-end.result.end (subst (λ (x : Bool × Result (List ℕ) Why). NoRunOf x.0 x.1)
    (λ i. (c.if-line.false i, c.end_of.ensures i)) none))

pub returns-clause-keeps : goal.returns-clause-keeps
returns-clause-keeps g c =
    let w = c.args.line.now in
    plain_keeps (log_path w)
    (λ path e. no_path (log_path w) path
    (unlogged w c.requires.line (none_of w.log c.in_default-log.not-Some) (none_of w.resume c.in_default-resume.not-Some)) e)
    (record {
      files = g.D.Keep.files c.args.keep.now;
      asked = g.D.Keep.asked c.args.keep.now;
      faults = g.D.Keep.faults c.args.keep.now;
    }) c.end_of.result

pub returns-clause-logged : goal.returns-clause-logged
returns-clause-logged g c = λ own inputs o.
    let w = c.args.line.now in
    untold (g.K.Kit.gives c.args.kit) w c.args.loaded.source inputs (map entry_view c.run-end.result.journal.items) (g.D.Keep.files c.args.keep.now) LogState.Whole
    (λ path e. no_path (log_path w) path
    (unlogged w c.requires.line (none_of w.log c.in_default-log.not-Some) (none_of w.resume c.in_default-resume.not-Some)) e) c.end_of.result
