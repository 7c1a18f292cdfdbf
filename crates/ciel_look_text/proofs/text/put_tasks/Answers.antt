-- A line more.
use Rattle.std.proofs.Common.{arith, refl}
use Rattle.ciel_look_tasks.specs.Known.{knowns}
use Rattle.ciel_look_tasks.specs.SceneView.{row_view}
use Rattle.ciel_look_text.specs.Text.{task_line}
use Rattle.ciel_look_text.proofs.Lines.{lines_end, lines_next}
use Rattle.ciel_look_text.proofs.text.put_tasks.Goals as goal

pub loop-task-preserved : goal.loop-task-preserved
loop-task-preserved c =
    let l = c.loop-task in
    lines_next (row_view c.args.scene.now) (task_line (knowns c.args.scene.now.known.all.items)) c.args.lines.now c.args.tasks.now l.lines _ _ l.task-index
    c.task-item.result (omega arith) c.task-item.is l.invariant c.in_ok-line.ensures.line c.in_ok-put.ensures.put

pub returns : goal.returns
returns c =
    let l = c.loop-task in
    record {
      lines = lines_end (row_view c.args.scene.now) (task_line (knowns c.args.scene.now.known.all.items)) c.args.lines.now c.args.tasks.now l.lines
          l.task-index (omega arith) l.invariant;
    }
