-- The list of the name, or none.
use Rattle.std.proofs.Common.{ap, ◌∙◌}
use Rattle.ciel_look_text.specs.Replays.{listed}
use Rattle.ciel_look_text.proofs.Replaying.{taken_other}
use Rattle.ciel_look_text.proofs.replay.take_list.Goals as goal

pub returns-in-Some : goal.returns-in-Some
returns-in-Some g c =
    record {
      list = ap listed c.in-Some.ensures.value;
      others = λ n f. taken_other c.args.lists.now c.remove.new.self c.args.name.now n c.remove.ensures.updates f;
    }

pub returns-in-None : goal.returns-in-None
returns-in-None g c =
    record {
      list = c.new.ensures.items ∙ ap listed c.in-None.ensures.value;
      others = λ n f. taken_other c.args.lists.now c.remove.new.self c.args.name.now n c.remove.ensures.updates f;
    }
