-- A crew with streams that was opened is at work.
use Rattle.std.proofs.Common.{ap}
use Rattle.std.specs.Arc.{arc_value}
use Rattle.ciel_run_job.proofs.Began.{working_of}
use Rattle.ciel_flow_tests.proofs.run.counted.Goals as goal

pub drive-end-requires : goal.drive-end-requires
drive-end-requires g c =
    record {
      working =
          working_of g.K.Kit.gives g.N.Namer.digest (arc_value c.args.opened.shop) c.args.plan.value c.args.opened.master
          c.args.opened.eyes.items c.requires.opened c.requires.read c.requires.inputs
          c.functions_are_orderly.ensures.orderly _ _ c.in-Ok.crew.crew (ap (λ w. w.crew) c.in-Ok.ensures.opened) c.requires.gates;
    }
