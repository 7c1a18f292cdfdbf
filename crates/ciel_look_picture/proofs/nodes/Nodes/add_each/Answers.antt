-- One task more.
use Rattle.std.proofs.Common.{◌++◌, append-nil, ap, arith, sym, ◌∙◌}
use Rattle.ciel_look_picture.specs.Titles.{titles}
use Rattle.ciel_look_picture.proofs.NodeTitles.{tasks_seen, title_of_task, titles_all, titles_next}
use Rattle.ciel_look_picture.proofs.nodes.Nodes.add_each.Goals as goal

pub loop-task-init : goal.loop-task-init
loop-task-init c = sym (append-nil (titles c.args.self.now.all.items))

pub loop-task-preserved : goal.loop-task-preserved
loop-task-preserved c =
    let l = c.loop-task in
    titles_next (title_of_task c.args.scene.now) c.args.tasks.now (titles c.args.self.now.all.items) l.task-index c.task-item.result _ _ (omega arith)
    c.task-item.is l.invariant c.in_ok-single.ensures.titles

pub returns : goal.returns
returns c =
    let l = c.loop-task in
    let old = titles c.args.self.now.all.items in
    record {
      titles = titles_all (title_of_task c.args.scene.now) c.args.tasks.now old l.task-index _ (omega arith) l.invariant
          ∙ ap (λ z. old ++ z) (tasks_seen c.args.scene.now c.args.tasks.now);
    }
