use Rattle.ciel_crew_lanes.specs.Seen.{known}
use Rattle.ciel_crew_lanes.proofs.DeskSteps.{after_take}
use Rattle.ciel_crew_lanes.proofs.desk.Desk.take.Goals as goal

pub returns-in-Output : goal.returns-in-Output
returns-in-Output g c = record {
  taken = after_take g.W.Work.takes g.W.Work.fits (known c.self.inside.pass) (known c.receive.new.pass) _ c.args.self.now c.self.view_is
      c.self.invariant.2 c.requires.out (c.in-Output.ensures.taken.0 c.self.invariant.2.0);
}
