-- One after another.
use Rattle.std.proofs.Common.{◌≡◌, ◌||◌, arith, ap, drop, false, get_or, refl, sym, true, ◌+◌, ◌∙◌}
use Rattle.std.specs.List.{list_any}
use Rattle.ciel_look_text.specs.Now.{is_left}
use Rattle.ciel_look_text.proofs.Sums.{element_is}
use Rattle.ciel_look_text.proofs.Going.{same_end, same_here, same_next}
use Rattle.ciel_look_text.proofs.replay.any_left.Goals as goal

pub loop-worker-init : goal.loop-worker-init
loop-worker-init c = refl

pub loop-worker-preserved : goal.loop-worker-preserved
loop-worker-preserved c =
    let l = c.loop-worker in
    same_next (list_any (is_left c.args.gone.now)) c.args.workers.now l.worker-index (get_or c.args.workers.now l.worker-index 0) (omega arith)
    (element_is c.args.workers.now l.worker-index (omega arith))
    (ap (λ b. b || list_any (is_left c.args.gone.now) (drop (l.worker-index + 1) c.args.workers.now)) (sym c.is_left.ensures ∙ c.if-is_left.false))
    l.invariant

pub returns-then-is_left : goal.returns-then-is_left
returns-then-is_left c =
    let l = c.loop-worker in
    sym (same_here (list_any (is_left c.args.gone.now)) c.args.workers.now l.worker-index (get_or c.args.workers.now l.worker-index 0) (omega arith)
    (element_is c.args.workers.now l.worker-index (omega arith)) l.invariant
    ∙ ap (λ b. b || list_any (is_left c.args.gone.now) (drop (l.worker-index + 1) c.args.workers.now)) (sym c.is_left.ensures ∙ c.if-is_left.true))

pub returns : goal.returns
returns c =
    let l = c.loop-worker in
    sym (same_end (list_any (is_left c.args.gone.now)) c.args.workers.now l.worker-index (omega arith) l.invariant)
