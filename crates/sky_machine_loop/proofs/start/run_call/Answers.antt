use Rattle.std.proofs.Common.{subst}
use Rattle.sky_machine_entries.specs.Config.{Run}
use Rattle.sky_machine_entries.specs.Entries.{forms}
use Rattle.sky_machine_loop.specs.Stops.{Reaches, Grew}
use Rattle.sky_machine_loop.proofs.start.run_call.Goals as goal

pub returns-clause-reaches : goal.returns-clause-reaches
returns-clause-reaches g c = λ w h.
    subst (λ (r : Run). Reaches r c.in_ok-stop.stop (forms c.run_on.new.entries.items) c.run_on.new.state)
    (c.in_ok-control.ensures.same w h.script) (c.in_ok-stop.ensures.reaches w h)

pub returns-clause-made : goal.returns-clause-made
returns-clause-made g c = λ w h.
    subst (λ (r : Run). Grew (g.N.Namer.digest c.args.ground.now.namer.now) c.args.made.now.items c.run_on.new.made.items r)
    (c.in_ok-control.ensures.same w h.script) (c.in_ok-stop.ensures.made w h)
