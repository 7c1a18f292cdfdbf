-- The order is out no longer.
use Rattle.std.proofs.Common.{◌+◌, ap, ◌∙◌}
use Rattle.ciel_look_story.proofs.Stands.{stand, stand_closed}
use Rattle.ciel_look_story.proofs.teller.Teller.close.Goals as goal

pub returns : goal.returns
returns c =
    let t = c.args.self.now in
    record {
      stand = ap (λ over. stand c.remove.new.self t.gone.items (t.closes + 1) over) c.either-self.ensures
          ∙ stand_closed t.worker_of c.remove.new.self t.gone.items t.closes t.over c.args.shown c.args.number c.remove.ensures.updates;
    }
