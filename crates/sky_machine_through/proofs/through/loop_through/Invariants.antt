use Rattle.std.proofs.Common.{◌≡◌, ◌≤◌}
use Rattle.sky_state.specs.Fits.{Fits}
use Rattle.sky_state.specs.StateView.{stand_of, spawned_of}
use Rattle.sky_machine.specs.Exactly.{gone_of}
use Rattle.sky_machine.specs.Knows.{KnowsNames}
use Rattle.sky_machine.specs.Onward.{GrewSoundly}
use Rattle.sky_machine.specs.declared.step.Step.{Step}
use Rattle.sky_machine_through.specs.Found.{CameFrom, GrewWhole, HasAll, SameKind, still_to_come}
use Rattle.sky_machine_through.proofs.AskedLemmas.{Before}
use Rattle.sky_machine_through.proofs.through.loop_through.Given as goal

abbrev pub invariant-turns : goal.invariant-turns
invariant-turns g l = record {
  fits : Fits l.script.code (stand_of l.state);
  found : HasAll (g.F.Finds.finds l.fn.finder) (stand_of l.state);
  finder : g.F.Finds.finds l.finder ≡ g.F.Finds.finds l.fn.finder;
  ready : g.F.Finds.ready l.finder;
  kind : SameKind (stand_of l.fn.state) Step.Waits (stand_of l.state);
  stays : g.F.Finds.stays l.finder ≡ g.F.Finds.stays l.fn.finder;
  through : Before (g.F.Finds.finds l.fn.finder) (g.N.Namer.digest l.namer) l.script.code g.F.Finds.notes (g.F.Finds.told l.fn.finder)
      (g.F.Finds.told l.finder) (stand_of l.fn.state) (stand_of l.state) (spawned_of l.fn.state) (spawned_of l.state);
  further : gone_of (stand_of l.fn.state) ≤ gone_of (stand_of l.state);
  whole : GrewWhole (g.N.Namer.digest l.namer) (spawned_of l.fn.state) (spawned_of l.state);
  known : KnowsNames (g.N.Namer.digest l.namer) (CameFrom (g.F.Finds.finds l.fn.finder) (stand_of l.fn.state)) Step.Waits (stand_of l.state)
      (spawned_of l.fn.state) (spawned_of l.state);
  made : GrewSoundly (g.N.Namer.digest l.namer) l.script.code (spawned_of l.fn.state) (spawned_of l.state);
}

abbrev pub decreases-turns : goal.decreases-turns
decreases-turns g l = still_to_come (stand_of l.state)
