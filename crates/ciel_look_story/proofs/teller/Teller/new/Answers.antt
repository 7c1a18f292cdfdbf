-- Nothing is out.
use Rattle.ciel_look_story.proofs.Stands.{stand_new}
use Rattle.ciel_look_story.proofs.teller.Teller.new.Goals as goal

pub returns : goal.returns
returns c = record { stand = stand_new c.new.result c.new-2.result.items c.new.ensures.empty c.new-2.ensures.items }
