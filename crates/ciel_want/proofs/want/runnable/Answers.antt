use Rattle.ciel_want.proofs.WantAnswers.{ready_picks}
use Rattle.ciel_want.proofs.want.runnable.Goals as goal

pub returns : goal.returns
returns g c =
    let f = c.in_ok-found.found in
    record {
      runnable = ready_picks c.args.main.now c.args.table.now c.requires.whole c.in_ok-out.out.tasks.now f.ready.items f.root
          c.in_ok-found.ensures.ready c.in_ok-found.ensures.ready_only c.in_ok-found.ensures.root c.args.out.now c.in_ok-out.ensures.tasks
          c.in_ok-tasks.tasks.items c.in_ok-tasks.ensures;
    }
