-- One task after another is looked at.
use Rattle.std.proofs.Common.{Some, None, arith, ap, cond, drop, refl, sym, ◌+◌, ◌∙◌}
use Rattle.ciel_look_tasks.specs.View.{ids}
use Rattle.ciel_look_text.specs.Asked.{first_asked}
use Rattle.ciel_look_text.proofs.Going.{same_end, same_here, same_next}
use Rattle.ciel_look_text.proofs.why.find_task.Goals as goal

pub loop-task-init : goal.loop-task-init
loop-task-init c = refl

pub loop-task-preserved : goal.loop-task-preserved
loop-task-preserved c =
    let l = c.loop-task in
    let rest = first_asked c.args.digits.now (ids (drop (l.task-index + 1) c.args.tasks.now)) in
    same_next (λ ts. first_asked c.args.digits.now (ids ts)) c.args.tasks.now l.task-index c.task-item.result (omega arith) c.task-item.is
    (ap (λ b. cond b (Some c.task-item.result.id) rest) (sym c.in_ok-found.ensures ∙ c.if-found.false)) l.invariant

pub returns-then-found : goal.returns-then-found
returns-then-found c =
    let l = c.loop-task in
    let rest = first_asked c.args.digits.now (ids (drop (l.task-index + 1) c.args.tasks.now)) in
    record {
      found = sym (same_here (λ ts. first_asked c.args.digits.now (ids ts)) c.args.tasks.now l.task-index c.task-item.result (omega arith) c.task-item.is
          l.invariant ∙ ap (λ b. cond b (Some c.task-item.result.id) rest) (sym c.in_ok-found.ensures ∙ c.if-found.true));
    }

pub returns : goal.returns
returns c =
    let l = c.loop-task in
    record { found = sym (same_end (λ ts. first_asked c.args.digits.now (ids ts)) c.args.tasks.now l.task-index (omega arith) l.invariant) }
