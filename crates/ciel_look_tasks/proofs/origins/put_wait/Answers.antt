-- One more.
use Rattle.std.proofs.Common.{not, ap, ◌∙◌}
use Rattle.std.specs.BTreeSet.{contains}
use Rattle.std.specs.Ordering.{nat_cmp}
use Rattle.std.proofs.Math.Bool.{not-not}
use Rattle.ciel_look_tasks.proofs.AgainSteps.{wait_put}
use Rattle.ciel_look_tasks.proofs.origins.put_wait.Goals as goal

pub returns-in-Ok : goal.returns-in-Ok
returns-in-Ok c =
    record {
      was = ap not c.in-Ok.ensures.added ∙ not-not (contains nat_cmp c.args.waits.now c.args.wait);
      put = λ w. wait_put c.args.waits.now c.insert.new.self c.args.wait w c.in-Ok.ensures.updates;
    }
