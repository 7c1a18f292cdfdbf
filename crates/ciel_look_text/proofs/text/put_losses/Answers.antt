-- A line more.
use Rattle.std.proofs.Common.{arith, refl}
use Rattle.ciel_look_tasks.specs.Known.{knowns}
use Rattle.ciel_look_tasks.specs.SceneView.{taken_view}
use Rattle.ciel_look_text.specs.Text.{loss_line}
use Rattle.ciel_look_text.proofs.Lines.{lines_end, lines_next}
use Rattle.ciel_look_text.proofs.text.put_losses.Goals as goal

pub loop-loss-preserved : goal.loop-loss-preserved
loop-loss-preserved c =
    let l = c.loop-loss in
    lines_next (taken_view c.args.scene.now) (loss_line (knowns c.args.scene.now.known.all.items)) c.args.lines.now c.args.losses.now l.lines _ _ l.loss-index
    c.loss-item.result (omega arith) c.loss-item.is l.invariant c.in_ok-line.ensures.line c.in_ok-put.ensures.put

pub returns : goal.returns
returns c =
    let l = c.loop-loss in
    record {
      lines = lines_end (taken_view c.args.scene.now) (loss_line (knowns c.args.scene.now.known.all.items)) c.args.lines.now c.args.losses.now l.lines
          l.loss-index (omega arith) l.invariant;
    }
