-- The tasks, the losses, the sum.
use Rattle.ciel_look_text.proofs.Lines.{all_lines}
use Rattle.ciel_look_text.proofs.text.text_of.Goals as goal

pub returns : goal.returns
returns c =
    record {
      text = all_lines c.args.scene.now _ _ _ _ _ _ _ c.as_slice.ensures.value c.as_slice-2.ensures.value c.new-lines.ensures
          c.in_ok-put_tasks.ensures.lines c.in_ok-put_losses.ensures.lines c.in_ok-line.ensures.line c.in_ok-put.ensures.put;
    }
