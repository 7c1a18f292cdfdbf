-- Behind those of the name.
use Rattle.ciel_look_tasks.proofs.ObjectSteps.{placed_put}
use Rattle.ciel_look_tasks.proofs.places.Places.put.Goals as goal

pub returns-in-Ok-clause-put : goal.returns-in-Ok-clause-put
returns-in-Ok-clause-put c =
    placed_put c.args.self.now.at c.take_places-places.new.at c.insert.new.self c.args.name c.take_places-places.result.items c.push.new.list c.args.place
    c.take_places-places.ensures.places c.take_places-places.ensures.others c.in_ok-push.ensures.pushed c.in-Ok.ensures.updates
