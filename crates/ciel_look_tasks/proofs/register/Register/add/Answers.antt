-- The new description has the last place.
use Rattle.std.proofs.Common.{◌≡◌, length, arith}
use Rattle.ciel_look_tasks.proofs.KnownSteps.{knowns_push, made_push, place_next}
use Rattle.ciel_look_tasks.proofs.register.Register.add.Goals as goal

pub invariant_of-self-in-Ok : goal.invariant_of-self-in-Ok
invariant_of-self-in-Ok c =
    let t = c.args.self.now in
    let n : c.len-place.result ≡ length t.all.items = omega (arith, c.len-place.ensures, t.all.ok.0) in
    record {
      found = place_next t.all.items c.push.new.list.items c.args.one c.len-place.result t.at c.insert.new.self
          c.in_ok-push.ensures.pushed n c.requires.new t.found c.in-Ok.ensures.updates;
    }

pub returns-in-Ok : goal.returns-in-Ok
returns-in-Ok c =
    let t = c.args.self.now in
    record {
      known = knowns_push t.all.items c.push.new.list.items c.args.one c.in_ok-push.ensures.pushed;
      made = λ b e h. made_push b t.all.items c.push.new.list.items c.args.one c.in_ok-push.ensures.pushed e h;
    }
