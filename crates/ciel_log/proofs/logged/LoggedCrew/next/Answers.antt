-- The report's places are those of the shop's shelves, and the log has its record.
use Rattle.std.proofs.Common.{◌∙◌, subst, sym}
use Rattle.sky_base.specs.JobView.{job_view}
use Rattle.ciel_task_crew.specs.Calls.{given}
use Rattle.ciel_task_crew.specs.Crews.{IsOut, Reports}
use Rattle.ciel_task_order.specs.Places.{EndAt}
use Rattle.ciel_task_order.specs.declared.shop.Shop.{Shop}
use Rattle.ciel_log.specs.Logging.{GoesOn, LoggedSeen}
use Rattle.ciel_log.proofs.logged.LoggedCrew.next.Goals as goal

pub next-requires-clause-out : goal.next-requires-clause-out
next-requires-clause-out g c = subst (λ (l : LoggedSeen g.row.C.Denot). IsOut (g.C.Crew.out l.inner)) (sym c.self.view_is) c.requires.out

pub report-requires-clause-places : goal.report-requires-clause-places
report-requires-clause-places g c =
    let r = c.in-Ok.report in
    let shop = g.C.Crew.shop c.self.inside.inner in
    let sc = (job_view shop.job).script in
    let answers = c.in-Ok.ensures.report.3 in (
      sc,
      subst (λ (s : Shop g.row.K.Denot g.row.N.Denot). EndAt s.shelves r.worker sc r.task r.end)
          (c.self.invariant.0 ∙ sym c.deref.ensures)
          (subst (λ w. EndAt shop.shelves w sc r.task r.end) (sym answers.performs.worker) answers.places.end),
    )

pub returns-in-Ok-clause-report : goal.returns-in-Ok-clause-report
returns-in-Ok-clause-report g c =
    subst (λ (l : LoggedSeen g.row.C.Denot). Reports g.K.Kit.gives g.N.Namer.digest (g.C.Crew.shop l.inner) (g.C.Crew.out l.inner)
    (g.C.Crew.out c.next.new.self) c.in-Ok.report) c.self.view_is c.in-Ok.ensures.report

pub returns-in-Ok-clause-goes : goal.returns-in-Ok-clause-goes
returns-in-Ok-clause-goes g c =
    subst (λ (l : LoggedSeen g.row.C.Denot). GoesOn g.C.Crew.goes (record { inner = g.C.Crew.record_of l.inner; log = l.log })
    (given c.in-Ok.report) (record { inner = g.C.Crew.record_of c.next.new.self; log = c.report.new.self.seen })) c.self.view_is
    (record { inner = c.in-Ok.ensures.goes; path = c.report.ensures.path; log = c.report.ensures.adds })
