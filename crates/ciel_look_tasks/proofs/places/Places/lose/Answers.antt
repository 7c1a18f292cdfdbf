-- Of all names.
use Rattle.std.proofs.Common.{◌∙◌}
use Rattle.ciel_look_tasks.proofs.ObjectSteps.{lost_are}
use Rattle.ciel_look_tasks.proofs.places.Places.lose.Goals as goal

pub returns-clause-objects : goal.returns-clause-objects
returns-clause-objects c =
    let m = c.args.self.now in
    lost_are c.args.worker m.gone.items c.as_slice.result.now m.at c.in_ok-names.names.items (c.as_slice.ensures.value ∙ c.in_ok-push.ensures.pushed)
    c.in_ok-names.ensures.ordered c.in_ok-names.ensures.names
