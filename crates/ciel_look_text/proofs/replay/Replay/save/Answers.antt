-- One place more.
use Rattle.ciel_look_text.proofs.Replaying.{saves_other, saves_show}
use Rattle.ciel_look_text.proofs.replay.Replay.save.Goals as goal

pub returns-in_ok-push-in-Show-clause-saved : goal.returns-in_ok-push-in-Show-clause-saved
returns-in_ok-push-in-Show-clause-saved c =
    let r = c.args.self.now in
    saves_show c.args.id.now c.args.place r.show.items c.push.new.list.items r.others c.in-Show.is c.in_ok-push-in-Show.ensures.pushed

pub returns-in_ok-put_in-in-Of-clause-saved : goal.returns-in_ok-put_in-in-Of-clause-saved
returns-in_ok-put_in-in-Of-clause-saved c =
    let r = c.args.self.now in
    saves_other c.args.id.now c.in-Of.name c.args.place r.show.items r.others c.put_in.new.lists c.in-Of.is c.in_ok-put_in-in-Of.ensures.put
