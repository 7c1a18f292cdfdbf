-- The order is out.
use Rattle.ciel_look_story.proofs.Stands.{stand_open}
use Rattle.ciel_look_story.proofs.teller.Teller.begin.Goals as goal

pub returns-in-Ok : goal.returns-in-Ok
returns-in-Ok c =
    let t = c.args.self.now in
    record { stand = stand_open t.worker_of c.insert.new.self t.gone.items t.closes t.over c.args.number c.args.worker c.in-Ok.ensures.updates }
