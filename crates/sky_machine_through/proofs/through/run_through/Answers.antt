use Rattle.sky_state.specs.StateView.{stand_of, spawned_of}
use Rattle.sky_machine_through.proofs.Goes.{goes_through}
use Rattle.sky_machine_through.proofs.Turns.{ok_map}
use Rattle.sky_machine_through.proofs.through.run_through.Goals as goal

pub returns-clause-goes : goal.returns-clause-goes
returns-clause-goes g c =
    ok_map c.in_ok-ran.ran (λ s h. goes_through (g.N.Namer.digest c.args.namer.now) c.args.script.now.code (g.F.Finds.finds c.args.finder.now)
    (stand_of c.args.state.now) (stand_of c.loop_through.new.state) s (spawned_of c.args.state.now) (spawned_of c.loop_through.new.state)
    h.through) c.in_ok-ran.ensures.through
