-- Where it was started.
use Rattle.ciel_look_text.proofs.Replaying.{given_nowhere, given_there}
use Rattle.ciel_look_text.proofs.replay.given_to.Goals as goal

pub returns-in_ok-names-in-Some : goal.returns-in_ok-names-in-Some
returns-in_ok-names-in-Some c =
    record { names = given_there c.args.scene.now c.args.id.now c.in-Some.place _ c.in-Some.ensures.place c.in_ok-names-in-Some.ensures.names }

pub returns-in-None : goal.returns-in-None
returns-in-None c =
    record { names = given_nowhere c.args.scene.now c.args.id.now _ c.in-None.ensures.place c.new.ensures.items }
