-- Behind those of the name.
use Rattle.ciel_look_text.proofs.Replaying.{put_listed}
use Rattle.ciel_look_text.proofs.replay.put_in.Goals as goal

pub returns-in-Ok : goal.returns-in-Ok
returns-in-Ok g c =
    record {
      put = put_listed c.args.lists.now c.take_list-list.new.lists c.insert.new.self c.args.name c.take_list-list.result.items c.push.new.list c.args.thing
          c.take_list-list.ensures.list c.take_list-list.ensures.others c.in_ok-push.ensures.pushed c.in-Ok.ensures.updates;
    }
