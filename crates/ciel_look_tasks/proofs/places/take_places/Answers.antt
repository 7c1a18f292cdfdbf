-- The places of the name, or none.
use Rattle.std.proofs.Common.{ap, ◌∙◌}
use Rattle.ciel_look_tasks.specs.ObjectPlaces.{placed_in}
use Rattle.ciel_look_tasks.proofs.ObjectSteps.{places_other}
use Rattle.ciel_look_tasks.proofs.places.take_places.Goals as goal

pub returns-in-Some : goal.returns-in-Some
returns-in-Some c =
    record {
      places = ap placed_in c.in-Some.ensures.value;
      others = λ n f. places_other c.args.at.now c.remove.new.self c.args.name.now n c.remove.ensures.updates f;
    }

pub returns-in-None : goal.returns-in-None
returns-in-None c =
    record {
      places = c.new.ensures.items ∙ ap placed_in c.in-None.ensures.value;
      others = λ n f. places_other c.args.at.now c.remove.new.self c.args.name.now n c.remove.ensures.updates f;
    }
