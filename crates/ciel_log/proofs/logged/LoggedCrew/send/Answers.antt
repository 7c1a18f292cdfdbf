-- The record of the start stands there, and the inner crew's call is as that crew says.
use Rattle.std.proofs.Common.{subst}
use Rattle.ciel_task_crew.specs.Calls.{send_call}
use Rattle.ciel_log.specs.Logging.{GoesOn, LoggedSeen}
use Rattle.ciel_log.proofs.Putting.{start_goes}
use Rattle.ciel_log.proofs.logged.LoggedCrew.send.Goals as goal

pub returns-clause-goes : goal.returns-clause-goes
returns-clause-goes g c =
    subst (λ (l : LoggedSeen g.row.C.Denot). GoesOn g.C.Crew.goes (record { inner = g.C.Crew.record_of l.inner; log = l.log })
    (send_call c.args.order c.send.result) (record { inner = g.C.Crew.record_of c.send.new.self; log = c.start.new.self.seen })) c.self.view_is
    (start_goes g.C.Crew.goes _ _ c.args.order c.send.result c.start.ensures.path c.start.ensures.adds c.start.ensures.losses
    c.send.ensures.goes)
