-- The last order of the number, where it is out.
use Rattle.ciel_look_tasks.proofs.RunSteps.{order_held, order_none, order_nowhere, order_place}
use Rattle.ciel_look_tasks.proofs.starts.Starts.order.Goals as goal

pub returns-in-Some : goal.returns-in-Some
returns-in-Some c =
    let rs = c.args.self.now.runs.items in
    record {
      order = order_held rs c.args.number c.in-Some.place c.held.result c.in-Some.ensures.place c.held.ensures.open c.held.ensures.place;
      place = order_place rs c.args.number c.in-Some.place c.held.result c.in-Some.ensures.place c.held.ensures.open c.held.ensures.place;
      start = c.held.ensures.start;
    }

pub returns-in-None : goal.returns-in-None
returns-in-None c =
    let rs = c.args.self.now.runs.items in
    record {
      order = order_none rs c.args.number c.in-None.ensures.place;
      place = order_nowhere rs c.args.number c.in-None.ensures.place;
      start = tt;
    }
