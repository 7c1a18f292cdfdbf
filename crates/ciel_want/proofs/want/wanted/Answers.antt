use Rattle.ciel_want.proofs.WantAnswers.{wanted_picks}
use Rattle.ciel_want.proofs.want.wanted.Goals as goal

pub returns : goal.returns
returns g c =
    record {
      wanted = wanted_picks c.args.main.now c.args.table.now c.requires.whole c.in_ok-out.out.tasks.now c.in_ok-found.found.reached.items
          c.in_ok-found.ensures.all c.in_ok-found.ensures.only _ c.in_ok-out.ensures.tasks c.in_ok-tasks.tasks.items c.in_ok-tasks.ensures;
    }
