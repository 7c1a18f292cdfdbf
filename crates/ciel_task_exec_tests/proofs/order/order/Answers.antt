use Rattle.std.proofs.Common.{Some, None, refl, arith}
use Rattle.sky_base.specs.declared.object.Desc1.{Desc1}
use Rattle.ciel_task_order.specs.Orders.{names_in}
use Rattle.ciel_task_order.specs.declared.order.Order.{Order}
use Rattle.ciel_task_exec_tests.proofs.Ordered.{describes, name_of, names_apart, no_main}
use Rattle.ciel_task_exec_tests.proofs.order.order.Goals as goal

pub returns : goal.returns
returns c =
    let shop = c.args.shop.now in
    let x = c.in_ok-new.field-0 in
    let order : Order = record {
      number = 7;
      worker = 0;
      task = c.in_ok-task.task;
      desc = Some (Desc1.Exec x c.args.args 1 0);
      main = c.name.result;
      from = 0;
      saved = None;
      inputs = c.args.held;
    } in
    record {
      worker = omega (arith, c.requires.small.workers);
      describes = describes shop.job.script (names_in c.args.held.items) x c.args.args c.in_ok-task.task c.in_ok-task.ensures.task
          c.requires.refs c.requires.kept c.requires.names;
      saved = (refl, no_main order c.in_ok-task.task (name_of x c.args.args) c.in_ok-task.ensures.task);
      spots = c.requires.spots;
      distinct = names_apart (names_in c.args.held.items) c.requires.names;
    }
