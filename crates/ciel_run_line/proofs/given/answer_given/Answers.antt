-- The kit with entries crosses where its runtime does, and gives what is given by its entries.
use denote.Param.Send.{sendable}
use Rattle.std.proofs.Common.{◌≡◌, ◌≢◌, ℕ, List, Option, Some, Err, IfErr, Result, ap, map, subst, sym}
use Rattle.std.specs.Option.{option_map}
use Rattle.std.proofs.Crossing as std_crossing
use Rattle.sky_base.specs.JobView.{job_view}
use Rattle.sky_base.specs.KitView.{Gives}
use Rattle.ciel_memo.proofs.Crossing.{kit_send, kit_sync}
use Rattle.ciel_master.specs.Views.{entry_view}
use Rattle.ciel_run_load.specs.Line.{Input}
use Rattle.ciel_run_load.specs.Loading.{IsOf}
use Rattle.ciel_run_log.specs.declared.why.Why.{Why}
use Rattle.ciel_run_logged.specs.Told.{ToldBy, told_of}
use Rattle.ciel_run_line.specs.Causes.{AnswersSo}
use Rattle.ciel_run_line.specs.Recall.{gives_with}
use Rattle.ciel_run_line.specs.Keeping.{LogTold}
use Rattle.ciel_run_line.specs.Line.{SurelyAt}
use Rattle.ciel_run_line.specs.Resuming.{OnwardTold, OwnIfRead, RefusesLog, ReplaysLog}
use Rattle.ciel_run_line.specs.declared.recall.Recalled.{Recalled}
use Rattle.ciel_run_line.proofs.Shared.{recalled_alone}
use Rattle.ciel_run_line.proofs.given.answer_given.Goals as goal

pub answer-requires-2-send-K : goal.answer-requires-2-send-K
answer-requires-2-send-K g c κs within =
    let r = c.type_bounds.send-R in
    let y = c.type_bounds.sync-R in
    search (kit_send, std_crossing.crosses, sendable) depth 60 fits 20000

pub answer-requires-2-sync-K : goal.answer-requires-2-sync-K
answer-requires-2-sync-K g c κs within =
    let r = c.type_bounds.send-R in
    let y = c.type_bounds.sync-R in
    search (kit_sync, std_crossing.crosses, sendable) depth 60 fits 20000

pub answer-requires-2-clause-streams : goal.answer-requires-2-clause-streams
answer-requires-2-clause-streams g c κs within = λ e.
    absurd (recalled_alone c.args.line.now c.requires.line c.args.recalled c.in-Some.recalled c.in-Some.is c.requires.memo e)

pub returns-in_default-clause-answers : goal.returns-in_default-clause-answers
returns-in_default-clause-answers g c =
    let w = c.args.line.now in
    let source = c.args.loaded.source in
    let job = job_view c.args.loaded.job in
    let log = c.args.log in
    let so = ap (λ (o : Option (Recalled g.row.R.Denot)). gives_with o) c.in_default.is in
    subst (λ (e : Gives). OwnIfRead e w source job.inputs job log → AnswersSo e w (map entry_view c.answer.result.journal.items) job c.answer.result.result) (sym so)
    c.answer.ensures.answers

pub returns-in_default-clause-refuses : goal.returns-in_default-clause-refuses
returns-in_default-clause-refuses g c =
    let w = c.args.line.now in
    let source = c.args.loaded.source in
    let job = job_view c.args.loaded.job in
    let log = c.args.log in
    let so = ap (λ (o : Option (Recalled g.row.R.Denot)). gives_with o) c.in_default.is in
    subst (λ (e : Gives). IfErr c.answer.result.result (RefusesLog e w source job log)) (sym so) c.answer.ensures.refuses

pub returns-in_default-clause-told : goal.returns-in_default-clause-told
returns-in_default-clause-told g c =
    let w = c.args.line.now in
    let source = c.args.loaded.source in
    let job = job_view c.args.loaded.job in
    let log = c.args.log in
    let so = ap (λ (o : Option (Recalled g.row.R.Denot)). gives_with o) c.in_default.is in
    let J = map entry_view c.answer.result.journal.items in
    let before = told_of g.G.Gate.entered w.workers c.args.gates.now.items in
    let now = told_of g.G.Gate.entered w.workers c.answer.new.gates.items in
    subst (λ (e : Gives). c.answer.result.result ≢ Err Why.Memory → SurelyAt w.resume (ToldBy J before now)
    (OnwardTold (λ replayed. (bytes : List ℕ) → log ≡ Some bytes → OwnIfRead e w source job.inputs job log → ReplaysLog e w source job.inputs job bytes replayed) J before now))
    (sym so) c.answer.ensures.told

pub returns-in_default-clause-logged : goal.returns-in_default-clause-logged
returns-in_default-clause-logged g c =
    let w = c.args.line.now in
    let source = c.args.loaded.source in
    let job = job_view c.args.loaded.job in
    let log = c.args.log in
    let so = ap (λ (o : Option (Recalled g.row.R.Denot)). gives_with o) c.in_default.is in
    subst (λ (e : Gives). OwnIfRead e w source job.inputs job log → (inputs : List Input) → IsOf source inputs job
    → LogTold e w source inputs (map entry_view c.answer.result.journal.items) (g.D.Keep.files c.answer.new.keep) c.answer.result.state c.answer.result.result)
    (sym so) c.answer.ensures.logged

pub returns-clause-answers : goal.returns-clause-answers
returns-clause-answers g c =
    let w = c.args.line.now in
    let source = c.args.loaded.source in
    let job = job_view c.args.loaded.job in
    let log = c.args.log in
    let so = ap (λ (o : Option (Recalled g.row.R.Denot)). gives_with o) c.in-Some.is in
    subst (λ (e : Gives). OwnIfRead e w source job.inputs job log → AnswersSo e w (map entry_view c.answer-2.result.journal.items) job c.answer-2.result.result) (sym so)
    c.answer-2.ensures.answers

pub returns-clause-refuses : goal.returns-clause-refuses
returns-clause-refuses g c =
    let w = c.args.line.now in
    let source = c.args.loaded.source in
    let job = job_view c.args.loaded.job in
    let log = c.args.log in
    let so = ap (λ (o : Option (Recalled g.row.R.Denot)). gives_with o) c.in-Some.is in
    subst (λ (e : Gives). IfErr c.answer-2.result.result (RefusesLog e w source job log)) (sym so) c.answer-2.ensures.refuses

pub returns-clause-told : goal.returns-clause-told
returns-clause-told g c =
    let w = c.args.line.now in
    let source = c.args.loaded.source in
    let job = job_view c.args.loaded.job in
    let log = c.args.log in
    let so = ap (λ (o : Option (Recalled g.row.R.Denot)). gives_with o) c.in-Some.is in
    let J = map entry_view c.answer-2.result.journal.items in
    let before = told_of g.G.Gate.entered w.workers c.args.gates.now.items in
    let now = told_of g.G.Gate.entered w.workers c.answer-2.new.gates.items in
    subst (λ (e : Gives). c.answer-2.result.result ≢ Err Why.Memory → SurelyAt w.resume (ToldBy J before now)
    (OnwardTold (λ replayed. (bytes : List ℕ) → log ≡ Some bytes → OwnIfRead e w source job.inputs job log → ReplaysLog e w source job.inputs job bytes replayed) J before now))
    (sym so) c.answer-2.ensures.told

pub returns-clause-logged : goal.returns-clause-logged
returns-clause-logged g c =
    let w = c.args.line.now in
    let source = c.args.loaded.source in
    let job = job_view c.args.loaded.job in
    let log = c.args.log in
    let so = ap (λ (o : Option (Recalled g.row.R.Denot)). gives_with o) c.in-Some.is in
    subst (λ (e : Gives). OwnIfRead e w source job.inputs job log → (inputs : List Input) → IsOf source inputs job
    → LogTold e w source inputs (map entry_view c.answer-2.result.journal.items) (g.D.Keep.files c.answer-2.new.keep) c.answer-2.result.state c.answer-2.result.result)
    (sym so) c.answer-2.ensures.logged
