-- The new order has the last place.
use Rattle.std.proofs.Common.{◌≡◌, arith, length, sym, ◌∙◌}
use Rattle.std.proofs.lemmas.List.{length-map}
use Rattle.ciel_look_tasks.specs.View.{start_view}
use Rattle.ciel_look_tasks.proofs.RunSteps.{last_pushed}
use Rattle.ciel_look_tasks.proofs.starts.Starts.begin.Goals as goal

pub invariant_of-self-in-Ok : goal.invariant_of-self-in-Ok
invariant_of-self-in-Ok c =
    let t = c.args.self.now in
    let n : c.len-place.result ≡ length t.runs.items = omega (arith, c.len-place.ensures, t.runs.ok.0) in
    record {
      last = last_pushed t.runs.items c.push.new.list.items c.args.run c.len-place.result t.run_of c.insert.new.self c.in_ok-push.ensures.pushed n
          t.last c.in-Ok.ensures.updates;
    }

pub returns-in-Ok-clause-place : goal.returns-in-Ok-clause-place
returns-in-Ok-clause-place c =
    let t = c.args.self.now in
    let n : c.len-place.result ≡ length t.runs.items = omega (arith, c.len-place.ensures, t.runs.ok.0) in
    n ∙ sym (length-map t.runs.items start_view)
