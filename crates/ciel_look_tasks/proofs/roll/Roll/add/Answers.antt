-- The new task has the last place.
use Rattle.std.proofs.Common.{◌≡◌, length, arith}
use Rattle.ciel_look_tasks.proofs.RollSteps.{found_next, others_stay, root_next, root_stays}
use Rattle.ciel_look_tasks.proofs.roll.Roll.add.Goals as goal

pub invariant_of-self-in-Show : goal.invariant_of-self-in-Show
invariant_of-self-in-Show c =
    let t = c.args.self.now in
    let n : c.len-place.result ≡ length t.tasks.items = omega (arith, c.len-place.ensures, t.tasks.ok.0) in
    record {
      root_found = root_next t.tasks.items c.push.new.list.items c.args.task c.len-place.result c.in_ok-push.ensures.pushed c.in-Show.is n
          c.requires.new;
      found = others_stay t.tasks.items c.push.new.list.items c.args.task t.others c.in_ok-push.ensures.pushed c.in-Show.is t.found;
    }

pub invariant_of-self-in-Ok : goal.invariant_of-self-in-Ok
invariant_of-self-in-Ok c =
    let t = c.args.self.now in
    let n : c.len-place.result ≡ length t.tasks.items = omega (arith, c.len-place.ensures, t.tasks.ok.0) in
    record {
      root_found = root_stays t.tasks.items c.push.new.list.items c.args.task t.show c.in-Of.name c.in_ok-push.ensures.pushed c.in-Of.is
          t.root_found;
      found = found_next t.tasks.items c.push.new.list.items c.args.task c.len-place.result c.in-Of.name t.others c.insert.new.self
          c.in_ok-push.ensures.pushed c.in-Of.is n c.requires.new t.found c.in-Ok.ensures.updates;
    }
