-- What the job comes to, its line comes to.
use Rattle.std.proofs.Common.{◌≡◌, ◌∙◌, ℕ, List, [], inr, Option, Some, map, option_map, subst, sym}
use Rattle.std.specs.Prelude.{IfErr, IfSome, Result}
use Rattle.sky_base.specs.JobView.{job_view}
use Rattle.sky_base.specs.KitView.{Gives}
use Rattle.ciel_io.specs.Faults.{HasRisen}
use Rattle.ciel_log_file.specs.Whole.{BeginsOther}
use Rattle.ciel_master.specs.Views.{entry_view}
use Rattle.ciel_run_load.specs.Line.{Input}
use Rattle.ciel_run_logged.specs.Told.{told_of}
use Rattle.ciel_run_line.specs.Answering.{HasEnd}
use Rattle.ciel_run_line.specs.Asked.{AsksOf, StopsFor}
use Rattle.ciel_run_line.specs.Causes.{AnswersSo, CauseOf}
use Rattle.ciel_run_line.specs.Recall.{gives_with}
use Rattle.ciel_run_line.specs.Keeping.{KeeperSeen, KeepsLog, LogTold, header_of}
use Rattle.ciel_run_line.specs.Line.{behind_job, files_of, paths_in}
use Rattle.ciel_run_line.specs.Runs.{log_path}
use Rattle.ciel_run_log.specs.declared.why.Why.{Why}
use Rattle.ciel_run_line.proofs.Began.{unread_keeps}
use Rattle.ciel_run_line.proofs.Comes.{bytes, causes, driven, job_asks, job_order, logged, no_run, other_ends, root, surely_of}
use Rattle.ciel_run_line.proofs.Named.{no_end, no_job_cause}
use Rattle.ciel_run_line.proofs.Own.{gates_tell, log_is, own_alone, own_line}
use Rattle.ciel_run_line.proofs.Recalled.{kept_begins, kept_some, never_bad}
use Rattle.ciel_run_line.proofs.lines.answer_line.Goals as goal

-- ---- it was answered

pub returns-in-Ok-clause-none : goal.returns-in-Ok-clause-none
returns-in-Ok-clause-none g c =
    let content = g.F.Files.content c.args.files.now in
    let w = c.args.line.now in
    let J = map entry_view c.answer_given.result.answered.journal.items in
    let read = c.in-Ok.start.loaded.source in
    let job = job_view c.in-Ok.start.loaded.job in
    let log = c.in-Ok.start.log in
    let by : Gives = gives_with c.in-Ok.start.recalled in
    let r = c.answer_given.result.answered.result in
    let risen = HasRisen (g.F.Files.faults c.args.files.now) (g.F.Files.faults c.read_line.new.files) in
    let t = c.in-Ok.ensures.job in
    let some = c.in-Ok.ensures.some in
    let found = c.in-Ok.ensures.found in
    let same = c.in-Ok.ensures.given in
    let sure = surely_of content w (AnswersSo by w J job r)
    (λ e. c.answer_given.ensures.answers (own_alone by content w c.requires.line read job log t some found e))
    (λ h given source inputs st. c.answer_given.ensures.answers (own_line by content w c.requires.line read job log t some found same h given source inputs st)) in
    causes by content w same risen J read job log (log_is by content w c.requires.line read job log t some found) c.requires.line t r c.answer_given.ensures.ways sure
    c.answer_given.ensures.refuses

pub returns-in-Ok-clause-bytes : goal.returns-in-Ok-clause-bytes
returns-in-Ok-clause-bytes g c =
    let content = g.F.Files.content c.args.files.now in
    let w = c.args.line.now in
    let J = map entry_view c.answer_given.result.answered.journal.items in
    let read = c.in-Ok.start.loaded.source in
    let job = job_view c.in-Ok.start.loaded.job in
    let log = c.in-Ok.start.log in
    let by : Gives = gives_with c.in-Ok.start.recalled in
    let r = c.answer_given.result.answered.result in
    let risen = HasRisen (g.F.Files.faults c.args.files.now) (g.F.Files.faults c.read_line.new.files) in
    let t = c.in-Ok.ensures.job in
    let some = c.in-Ok.ensures.some in
    let found = c.in-Ok.ensures.found in
    let same = c.in-Ok.ensures.given in
    let sure = surely_of content w (AnswersSo by w J job r)
    (λ e. c.answer_given.ensures.answers (own_alone by content w c.requires.line read job log t some found e))
    (λ h given source inputs st. c.answer_given.ensures.answers (own_line by content w c.requires.line read job log t some found same h given source inputs st)) in
    bytes by content w same risen J read job t r sure

pub returns-in-Ok-clause-driven : goal.returns-in-Ok-clause-driven
returns-in-Ok-clause-driven g c =
    let content = g.F.Files.content c.args.files.now in
    let w = c.args.line.now in
    let J = map entry_view c.answer_given.result.answered.journal.items in
    let read = c.in-Ok.start.loaded.source in
    let job = job_view c.in-Ok.start.loaded.job in
    let log = c.in-Ok.start.log in
    let by : Gives = gives_with c.in-Ok.start.recalled in
    let r = c.answer_given.result.answered.result in
    let risen = HasRisen (g.F.Files.faults c.args.files.now) (g.F.Files.faults c.read_line.new.files) in
    let t = c.in-Ok.ensures.job in
    let some = c.in-Ok.ensures.some in
    let found = c.in-Ok.ensures.found in
    let same = c.in-Ok.ensures.given in
    let sure = surely_of content w (AnswersSo by w J job r)
    (λ e. c.answer_given.ensures.answers (own_alone by content w c.requires.line read job log t some found e))
    (λ h given source inputs st. c.answer_given.ensures.answers (own_line by content w c.requires.line read job log t some found same h given source inputs st)) in
    driven by content w same risen J read job t r sure

pub returns-in-Ok-clause-root : goal.returns-in-Ok-clause-root
returns-in-Ok-clause-root g c =
    let content = g.F.Files.content c.args.files.now in
    let w = c.args.line.now in
    let J = map entry_view c.answer_given.result.answered.journal.items in
    let read = c.in-Ok.start.loaded.source in
    let job = job_view c.in-Ok.start.loaded.job in
    let log = c.in-Ok.start.log in
    let by : Gives = gives_with c.in-Ok.start.recalled in
    let r = c.answer_given.result.answered.result in
    let risen = HasRisen (g.F.Files.faults c.args.files.now) (g.F.Files.faults c.read_line.new.files) in
    let t = c.in-Ok.ensures.job in
    let some = c.in-Ok.ensures.some in
    let found = c.in-Ok.ensures.found in
    let same = c.in-Ok.ensures.given in
    let sure = surely_of content w (AnswersSo by w J job r)
    (λ e. c.answer_given.ensures.answers (own_alone by content w c.requires.line read job log t some found e))
    (λ h given source inputs st. c.answer_given.ensures.answers (own_line by content w c.requires.line read job log t some found same h given source inputs st)) in
    root by content w same risen J read job t r c.answer_given.ensures.ways sure

pub returns-in-Ok-clause-of_other : goal.returns-in-Ok-clause-of_other
returns-in-Ok-clause-of_other g c = λ path bytes e there short memo source inputs st fits is other.
    let content = g.F.Files.content c.args.files.now in
    let w = c.args.line.now in
    let J = map entry_view c.answer_given.result.answered.journal.items in
    let read = c.in-Ok.start.loaded.source in
    let job = job_view c.in-Ok.start.loaded.job in
    let log = c.in-Ok.start.log in
    let by : Gives = gives_with c.in-Ok.start.recalled in
    let r = c.answer_given.result.answered.result in
    let risen = HasRisen (g.F.Files.faults c.args.files.now) (g.F.Files.faults c.read_line.new.files) in
    let t = c.in-Ok.ensures.job in
    let some = c.in-Ok.ensures.some in
    let found = c.in-Ok.ensures.found in
    let same = c.in-Ok.ensures.given in
    let here = t source inputs st in
    other_ends content w risen path r
    (c.answer_given.ensures.of_other path bytes e (log_is by content w c.requires.line read job log t some found path bytes e there)
    (subst (λ (x : List ℕ × List Input). BeginsOther bytes (header_of w x.0 x.1)) (λ i. (sym here.2 i, sym here.1.1 i)) other))

pub returns-in-Ok-clause-of_bad_memo : goal.returns-in-Ok-clause-of_bad_memo
returns-in-Ok-clause-of_bad_memo g c = λ path bytes at e there short bad source inputs st fits is.
    let content = g.F.Files.content c.args.files.now in
    let w = c.args.line.now in
    let J = map entry_view c.answer_given.result.answered.journal.items in
    let read = c.in-Ok.start.loaded.source in
    let job = job_view c.in-Ok.start.loaded.job in
    let log = c.in-Ok.start.log in
    let by : Gives = gives_with c.in-Ok.start.recalled in
    let r = c.answer_given.result.answered.result in
    let risen = HasRisen (g.F.Files.faults c.args.files.now) (g.F.Files.faults c.read_line.new.files) in
    let t = c.in-Ok.ensures.job in
    let some = c.in-Ok.ensures.some in
    let found = c.in-Ok.ensures.found in
    let same = c.in-Ok.ensures.given in
    absurd (never_bad content w.memo path bytes at c.files_are_told_in_one_way.ensures.both e there bad c.in-Ok.ensures.recalled)

pub returns-in-Ok-clause-empty : goal.returns-in-Ok-clause-empty
returns-in-Ok-clause-empty g c =
    no_run c.args.line.now (map entry_view c.answer_given.result.answered.journal.items) c.answer_given.result.answered.result
    c.answer_given.ensures.ways

pub returns-in-Ok-clause-told : goal.returns-in-Ok-clause-told
returns-in-Ok-clause-told g c = λ memory.
    let content = g.F.Files.content c.args.files.now in
    let w = c.args.line.now in
    let J = map entry_view c.answer_given.result.answered.journal.items in
    let read = c.in-Ok.start.loaded.source in
    let job = job_view c.in-Ok.start.loaded.job in
    let log = c.in-Ok.start.log in
    let by : Gives = gives_with c.in-Ok.start.recalled in
    let r = c.answer_given.result.answered.result in
    let risen = HasRisen (g.F.Files.faults c.args.files.now) (g.F.Files.faults c.read_line.new.files) in
    let t = c.in-Ok.ensures.job in
    let some = c.in-Ok.ensures.some in
    let found = c.in-Ok.ensures.found in
    let same = c.in-Ok.ensures.given in
    gates_tell by content w c.requires.line read job log t some found same J (told_of g.G.Gate.entered w.workers c.args.gates.now.items)
    (told_of g.G.Gate.entered w.workers c.answer_given.new.gates.items) (c.answer_given.ensures.told memory)

pub returns-in-Ok-clause-asks : goal.returns-in-Ok-clause-asks
returns-in-Ok-clause-asks g c =
    let content = g.F.Files.content c.args.files.now in
    let w = c.args.line.now in
    let J = map entry_view c.answer_given.result.answered.journal.items in
    let read = c.in-Ok.start.loaded.source in
    let job = job_view c.in-Ok.start.loaded.job in
    let log = c.in-Ok.start.log in
    let by : Gives = gives_with c.in-Ok.start.recalled in
    let r = c.answer_given.result.answered.result in
    let risen = HasRisen (g.F.Files.faults c.args.files.now) (g.F.Files.faults c.read_line.new.files) in
    let t = c.in-Ok.ensures.job in
    let some = c.in-Ok.ensures.some in
    let found = c.in-Ok.ensures.found in
    let same = c.in-Ok.ensures.given in
    job_asks w J r (paths_in (files_of w)) (behind_job w) (g.F.Files.asked c.args.files.now) (g.F.Files.asked c.read_line.new.files)
    c.answer_given.ensures.ways c.in-Ok.ensures.asked

pub returns-in-Ok-clause-order : goal.returns-in-Ok-clause-order
returns-in-Ok-clause-order g c =
    let content = g.F.Files.content c.args.files.now in
    let w = c.args.line.now in
    let J = map entry_view c.answer_given.result.answered.journal.items in
    let read = c.in-Ok.start.loaded.source in
    let job = job_view c.in-Ok.start.loaded.job in
    let log = c.in-Ok.start.log in
    let by : Gives = gives_with c.in-Ok.start.recalled in
    let r = c.answer_given.result.answered.result in
    let risen = HasRisen (g.F.Files.faults c.args.files.now) (g.F.Files.faults c.read_line.new.files) in
    let t = c.in-Ok.ensures.job in
    let some = c.in-Ok.ensures.some in
    let found = c.in-Ok.ensures.found in
    let same = c.in-Ok.ensures.given in
    job_order content w J r (files_of w) w.memo w.resume (g.F.Files.asked c.args.files.now) (g.F.Files.asked c.read_line.new.files)
    c.answer_given.ensures.ways

pub returns-in-Ok-clause-logged : goal.returns-in-Ok-clause-logged
returns-in-Ok-clause-logged g c =
    let content = g.F.Files.content c.args.files.now in
    let w = c.args.line.now in
    let J = map entry_view c.answer_given.result.answered.journal.items in
    let read = c.in-Ok.start.loaded.source in
    let job = job_view c.in-Ok.start.loaded.job in
    let log = c.in-Ok.start.log in
    let by : Gives = gives_with c.in-Ok.start.recalled in
    let r = c.answer_given.result.answered.result in
    let risen = HasRisen (g.F.Files.faults c.args.files.now) (g.F.Files.faults c.read_line.new.files) in
    let t = c.in-Ok.ensures.job in
    let some = c.in-Ok.ensures.some in
    let found = c.in-Ok.ensures.found in
    let same = c.in-Ok.ensures.given in
    logged by content w same risen J read job
    (λ h source inputs. LogTold h w source inputs J (g.D.Keep.files c.answer_given.new.keep) c.answer_given.result.answered.state r) t
    (λ h given source inputs st. c.answer_given.ensures.logged (own_line by content w c.requires.line read job log t some found same h given source inputs st))

pub returns-in-Ok-clause-entries : goal.returns-in-Ok-clause-entries
returns-in-Ok-clause-entries g c =
    kept_begins (g.F.Files.content c.args.files.now) c.args.line.now.memo c.in-Ok.start.recalled c.answer_given.result.memo (λ r. r.kit) (λ r. r.kept)
    (λ k. k.entries) c.answer_given.ensures.memo c.in-Ok.ensures.kept c.in-Ok.ensures.entries

pub returns-in-Ok-clause-memo : goal.returns-in-Ok-clause-memo
returns-in-Ok-clause-memo g c = λ end.
    kept_some c.in-Ok.start.recalled c.answer_given.result.memo (λ r. r.kept) c.answer_given.ensures.memo ∙ c.in-Ok.ensures.memo

-- ---- what the line names wasn't read

pub returns-in-Err-clause-none : goal.returns-in-Err-clause-none
returns-in-Err-clause-none g c =
    let content = g.F.Files.content c.args.files.now in
    let risen = HasRisen (g.F.Files.faults c.args.files.now) (g.F.Files.faults c.read_line.new.files) in
    let J = map entry_view c.not_run.result.journal.items in
    subst (λ (r : Result (List ℕ) Why). IfErr r (CauseOf content c.args.line.now risen J)) (sym c.not_run.ensures.result)
    (no_job_cause content c.args.line.now risen J c.in-Err.why c.in-Err.ensures.none)

pub returns-in-Err-clause-memo : goal.returns-in-Err-clause-memo
returns-in-Err-clause-memo g c = λ end.
    absurd (no_end (g.F.Files.content c.args.files.now) c.args.line.now
    (HasRisen (g.F.Files.faults c.args.files.now) (g.F.Files.faults c.read_line.new.files)) c.in-Err.why c.in-Err.ensures.none
    (subst HasEnd c.not_run.ensures.result end))

pub returns-in-Err-clause-of_other : goal.returns-in-Err-clause-of_other
returns-in-Err-clause-of_other g c = λ path bytes e there short memo source inputs st fits is other.
    inr (c.in-Err.why, c.not_run.ensures.result, c.in-Err.ensures.none)

pub returns-in-Err-clause-of_bad_memo : goal.returns-in-Err-clause-of_bad_memo
returns-in-Err-clause-of_bad_memo g c = λ path bytes at e there short bad source inputs st fits is.
    (c.in-Err.why, c.not_run.ensures.result, c.in-Err.ensures.before path bytes at e there bad)

pub returns-in-Err-clause-asks : goal.returns-in-Err-clause-asks
returns-in-Err-clause-asks g c =
    let w = c.args.line.now in
    subst (λ (r : Result (List ℕ) Why). AsksOf r (paths_in (files_of w)) (behind_job w) (g.F.Files.asked c.args.files.now)
    (g.F.Files.asked c.read_line.new.files)) (sym c.not_run.ensures.result) c.in-Err.ensures.asks

pub returns-in-Err-clause-order : goal.returns-in-Err-clause-order
returns-in-Err-clause-order g c =
    let w = c.args.line.now in
    subst (λ (r : Result (List ℕ) Why). IfErr r (StopsFor (g.F.Files.content c.args.files.now) (files_of w) w.memo w.resume
    (g.F.Files.asked c.args.files.now) (g.F.Files.asked c.read_line.new.files))) (sym c.not_run.ensures.result) c.in-Err.ensures.order

pub returns-in-Err-clause-keeps : goal.returns-in-Err-clause-keeps
returns-in-Err-clause-keeps g c =
    let w = c.args.line.now in
    let kept : KeeperSeen =
    record {
      files = g.D.Keep.files c.args.keep.now;
      asked = g.D.Keep.asked c.args.keep.now;
      faults = g.D.Keep.faults c.args.keep.now;
    } in
    subst (λ (r : Result (List ℕ) Why). KeepsLog (log_path w) kept kept r c.not_run.result.state) (sym c.not_run.ensures.result)
    (unread_keeps (g.F.Files.content c.args.files.now) w (log_path w)
    (HasRisen (g.F.Files.faults c.args.files.now) (g.F.Files.faults c.read_line.new.files)) kept c.in-Err.why c.in-Err.ensures.none
    c.not_run.result.state c.not_run.ensures.whole)
