-- A crew with streams that was opened has no order, and tells at first what its gates tell.
use Rattle.std.proofs.Common.{map, ap, subst}
use Rattle.std.specs.Arc.{arc_value}
use Rattle.sky_base.specs.JobView.{job_view}
use Rattle.ciel_journal.specs.History.{Plan}
use Rattle.ciel_journal.specs.Job.{Each}
use Rattle.ciel_log_file.specs.Sending.{CanSend, sent_to}
use Rattle.ciel_log_law.specs.Ended.{EndsSo}
use Rattle.ciel_log_law.specs.Told.{LogContinued}
use Rattle.ciel_log_law.specs.Views.{entry_view}
use Rattle.ciel_run_logged.specs.Keeping.{IfOver}
use Rattle.ciel_run_onward.specs.Onward.{Stood, WorksOn}
use Rattle.ciel_run_onward.proofs.Opened.{of_crew, of_shop}
use Rattle.ciel_run_onward.proofs.Told.{since_first}
use Rattle.ciel_task_crew.specs.Crews.{Takes}
use Rattle.ciel_run_onward.proofs.run.on_streams.Goals as goal

pub run_over-requires-clause-sound : goal.run_over-requires-clause-sound
run_over-requires-clause-sound g c = ap (λ w. w.crew.sound) c.in-Ok-open.ensures.opened

pub run_over-requires-clause-takes : goal.run_over-requires-clause-takes
run_over-requires-clause-takes g c =
    of_crew (arc_value c.args.opened.shop) c.args.plan.value.workers _ _ c.requires.gates c.in-Ok-open.crew.crew (ap (λ w. w.crew) c.in-Ok-open.ensures.opened)
    (λ s o. Each (Takes g.K.Kit.gives g.N.Namer.digest s) c.args.onward.out.items) c.requires.takes

pub run_over-requires-clause-sends : goal.run_over-requires-clause-sends
run_over-requires-clause-sends g c =
    of_crew (arc_value c.args.opened.shop) c.args.plan.value.workers _ _ c.requires.gates c.in-Ok-open.crew.crew (ap (λ w. w.crew) c.in-Ok-open.ensures.opened)
    (λ s o. CanSend o c.args.onward.out.items) c.requires.sends

pub run_over-requires-clause-works : goal.run_over-requires-clause-works
run_over-requires-clause-works g c =
    of_crew (arc_value c.args.opened.shop) c.args.plan.value.workers _ _ c.requires.gates c.in-Ok-open.crew.crew (ap (λ w. w.crew) c.in-Ok-open.ensures.opened)
    (λ s o. WorksOn g.K.Kit.gives g.N.Namer.digest s c.args.opened.master (sent_to o c.args.onward.out.items) c.args.onward.end) c.requires.works

pub returns-in-Ok-open-clause-end : goal.returns-in-Ok-open-clause-end
returns-in-Ok-open-clause-end g c = λ stood.
    let J = map entry_view c.run_over.result.0.ran.journal.items in
    let end = c.run_over.result.0.ran.end in
    subst (λ (p : Plan). EndsSo (g.N.Namer.digest (arc_value c.args.opened.shop).namer) (job_view (arc_value c.args.opened.shop).job)
    (g.K.Kit.gives (arc_value c.args.opened.shop).kit) p J end) c.requires.plan
    (of_shop (arc_value c.args.opened.shop) c.args.plan.value.workers _ _ c.requires.gates c.in-Ok-open.crew.crew (ap (λ w. w.crew) c.in-Ok-open.ensures.opened)
    (λ s o. EndsSo (g.N.Namer.digest s.namer) (job_view s.job) (g.K.Kit.gives s.kit) c.args.opened.master.board.plan J end)
    (c.run_over.ensures.end
    (of_crew (arc_value c.args.opened.shop) c.args.plan.value.workers _ _ c.requires.gates c.in-Ok-open.crew.crew (ap (λ w. w.crew) c.in-Ok-open.ensures.opened)
    (λ s o. Stood g.K.Kit.gives g.N.Namer.digest s c.args.opened.master (sent_to o c.args.onward.out.items) c.args.onward.end c.args.onward.draws)
    stood)))

pub returns-in-Ok-open-clause-told : goal.returns-in-Ok-open-clause-told
returns-in-Ok-open-clause-told g c = λ over.
    since_first c.args.opened.master.board.journal (map entry_view c.run_over.result.0.ran.journal.items) c.in-Ok-open.crew.crew.told
    (map g.G.Gate.entered c.args.gates.items) (map g.G.Gate.entered c.run_over.result.1.items) (ap (λ w. w.crew.told) c.in-Ok-open.ensures.opened)
    (c.run_over.ensures.told over)

pub returns-in-Ok-open-clause-written : goal.returns-in-Ok-open-clause-written
returns-in-Ok-open-clause-written g c = λ stood.
    let J = map entry_view c.run_over.result.0.ran.journal.items in
    let end = c.run_over.result.0.ran.end in
    let log = c.args.onward.log in
    let before = g.D.Keep.files c.args.keep.now in
    let after = g.D.Keep.files c.run_over.new.keep in
    let R = c.args.opened.master.board.journal in
    let state = c.run_over.result.0.state in
    subst (λ (p : Plan). IfOver end (LogContinued (g.N.Namer.digest (arc_value c.args.opened.shop).namer) (job_view (arc_value c.args.opened.shop).job)
    (g.K.Kit.gives (arc_value c.args.opened.shop).kit) p log.path log.held before after R J state)) c.requires.plan
    (of_shop (arc_value c.args.opened.shop) c.args.plan.value.workers _ _ c.requires.gates c.in-Ok-open.crew.crew (ap (λ w. w.crew) c.in-Ok-open.ensures.opened)
    (λ s o. IfOver end (LogContinued (g.N.Namer.digest s.namer) (job_view s.job) (g.K.Kit.gives s.kit) c.args.opened.master.board.plan log.path log.held
    before after R J state))
    (c.run_over.ensures.written
    (of_crew (arc_value c.args.opened.shop) c.args.plan.value.workers _ _ c.requires.gates c.in-Ok-open.crew.crew (ap (λ w. w.crew) c.in-Ok-open.ensures.opened)
    (λ s o. Stood g.K.Kit.gives g.N.Namer.digest s c.args.opened.master (sent_to o c.args.onward.out.items) c.args.onward.end c.args.onward.draws)
    stood)))
