-- The new step has the last place.
use Rattle.std.proofs.Common.{◌≡◌, arith, length}
use Rattle.ciel_look_text.proofs.Stepping.{step_found}
use Rattle.ciel_look_text.proofs.search.Steps.add.Goals as goal

pub invariant_of-self-in-Ok : goal.invariant_of-self-in-Ok
invariant_of-self-in-Ok c =
    let t = c.args.self.now in
    let n : c.len-place.result ≡ length t.all.items = omega (arith, c.len-place.ensures, t.all.ok.0) in
    record {
      found = step_found t.all.items c.push.new.list.items c.args.step c.len-place.result t.at c.insert.new.self c.in_ok-push.ensures.pushed n
          c.requires.new t.found c.in-Ok.ensures.updates;
    }
