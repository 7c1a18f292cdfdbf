use Rattle.std.proofs.Common.{length}
use Rattle.sky_base.specs.TreeView.{exp_view}
use Rattle.sky_base_law.specs.Nodes.{pre_script}
use Rattle.sky_machine_loop.proofs.Steps.{exp_within}
use Rattle.sky_machine_loop.proofs.Work.{begun}
use Rattle.sky_machine_loop.proofs.run.begun.Goals as goal

pub returns-clause-same : goal.returns-clause-same
returns-clause-same g c = λ w h. c.in_ok-next.ensures.same w h

pub returns-clause-falls : goal.returns-clause-falls
returns-clause-falls g c =
    begun (length (pre_script c.args.ground.now.code.now)) c.args.node _ _ _ _ _
    (exp_within c.args.ground.now.code.now (exp_view c.args.e.now) c.args.node c.requires.goes) c.in_ok-next.ensures.falls
