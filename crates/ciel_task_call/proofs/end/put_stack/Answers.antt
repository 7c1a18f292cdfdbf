use Rattle.std.proofs.Common.{sym, ap, subst, ◌∙◌}
use Rattle.sha1.specs.Sha1.{sha1}
use Rattle.sky_frozen_bytes.specs.Bytes.{frozen_bytes}
use Rattle.ciel_task_order.specs.declared.block.Block.{Block}
use Rattle.ciel_task_inputs.specs.JournalWalksLaws.{names_of}
use Rattle.ciel_task_call.specs.Ends.{LiesAt}
use Rattle.ciel_task_call.proofs.TaskStart.{names_known}
use Rattle.ciel_task_call.proofs.end.put_stack.Goals as goal

pub returns : goal.returns
returns g c = record {
  lies = subst (λ z. LiesAt c.args.shelves.now c.args.worker (Block.Frozen z) c.in_ok-frozen.frozen) c.in_ok-stack.ensures c.in_ok-frozen.ensures;
  wait = c.wait.ensures;
  refs = sym (names_known c.in_ok-refs.refs) ∙ ap names_of c.in_ok-refs.ensures;
  holds = sym (names_known c.in_ok-holds.holds) ∙ ap names_of c.in_ok-holds.ensures;
  waits = c.in_ok-refs.ensures;
  keeps = c.in_ok-holds.ensures;
  mark = c.mark-mark.ensures.mark ∙ ap sha1 (c.bytes.ensures ∙ ap frozen_bytes c.in_ok-stack.ensures);
}
