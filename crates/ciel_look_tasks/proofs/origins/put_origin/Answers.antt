-- One more.
use Rattle.std.proofs.Common.{not, ap, ◌∙◌}
use Rattle.std.specs.BTreeSet.{contains}
use Rattle.std.proofs.Math.Bool.{not-not}
use Rattle.ciel_look_tasks.specs.Origins.{origin_cmp}
use Rattle.ciel_look_tasks.proofs.AgainSteps.{origin_put}
use Rattle.ciel_look_tasks.proofs.origins.put_origin.Goals as goal

pub returns-in-Ok : goal.returns-in-Ok
returns-in-Ok c =
    record {
      was = ap not c.in-Ok.ensures.added ∙ not-not (contains origin_cmp c.args.origins.now (c.args.name, c.args.wait));
      put = λ n w. origin_put c.args.origins.now c.insert.new.self c.args.name n c.args.wait w c.in-Ok.ensures.updates;
    }
