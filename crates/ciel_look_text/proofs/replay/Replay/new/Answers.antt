-- Nothing is there.
use Rattle.ciel_look_text.proofs.Replaying.{stand_none}
use Rattle.ciel_look_text.proofs.replay.Replay.new.Goals as goal

pub returns : goal.returns
returns c =
    record {
      nothing = λ s. stand_none s.runs.items c.new.result c.new-3.result c.new-2.result.items c.new-4.result.items c.new.ensures.empty
          c.new-2.ensures.items c.new-3.ensures.empty c.new-4.ensures.items;
    }
