-- The starts stay, and the order ends.
use Rattle.std.proofs.Common.{Some, ap, arith, refl, sym, ◌∙◌}
use Rattle.std.proofs.lemmas.List.{map-set}
use Rattle.ciel_look_tasks.specs.Orders.{last_of}
use Rattle.ciel_look_tasks.specs.ReportView.{run_made, run_took}
use Rattle.ciel_look_tasks.specs.declared.scene.Run.{Run}
use Rattle.ciel_look_tasks.proofs.AgainSteps.{agains_closed}
use Rattle.ciel_look_tasks.proofs.RollSteps.{starts_closed}
use Rattle.ciel_look_tasks.proofs.RunSteps.{numbers_closed, orders_closed}
use Rattle.ciel_look_tasks.proofs.starts.Starts.close.Goals as goal

pub invariant_of-self : goal.invariant_of-self
invariant_of-self c =
    let t = c.args.self.now in
    let x : Run = c.in-Some.held.now in
    let y : Run = record {
      number = x.number;
      worker = x.worker;
      from = x.from;
      id = x.id;
      task = x.task;
      begun = x.begun;
      again = x.again;
      end = Some c.args.end;
    } in
    record { last = λ n. t.last n ∙ sym (ap (last_of n) (numbers_closed t.runs.items c.args.run x y refl c.in-Some.ensures.value)) }

pub returns-in-Some : goal.returns-in-Some
returns-in-Some c =
    let rs = c.args.self.now.runs in
    let x : Run = c.in-Some.held.now in
    let y : Run = record {
      number = x.number;
      worker = x.worker;
      from = x.from;
      id = x.id;
      task = x.task;
      begun = x.begun;
      again = x.again;
      end = Some c.args.end;
    } in
    record {
      starts = starts_closed rs.items c.args.run x y refl c.in-Some.ensures.value;
      agains = agains_closed rs.items c.args.run x y refl c.in-Some.ensures.value;
      took = map-set run_took rs.items c.args.run y;
      made = map-set run_made rs.items c.args.run y;
      orders = λ s e h. orders_closed rs.items c.args.run x y c.args.end s e (omega (arith, c.in-Some.ensures.variant.0 refl, rs.ok.0))
          c.in-Some.ensures.value refl refl h;
    }
