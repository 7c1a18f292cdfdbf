-- One place after another.
use Rattle.std.proofs.Common.{◌||◌, arith, ap, drop, false, get_or, refl, sym, true, ◌+◌, ◌∙◌}
use Rattle.std.specs.List.{list_any}
use Rattle.ciel_look_tasks.specs.SceneView.{picked}
use Rattle.ciel_look_tasks.specs.Tasks.{same_task}
use Rattle.ciel_look_tasks.specs.View.{ids}
use Rattle.ciel_look_text.proofs.Going.{same_end, same_here, same_next}
use Rattle.ciel_look_text.proofs.Sums.{element_is}
use Rattle.ciel_look_text.proofs.Telling.{stack_at}
use Rattle.ciel_look_text.proofs.why.takes_stack.Goals as goal

pub loop-place-init : goal.loop-place-init
loop-place-init c = refl

pub loop-place-preserved : goal.loop-place-preserved
loop-place-preserved c =
    let l = c.loop-place in
    let ts = c.args.scene.now.roll.tasks.items in
    same_next (λ ps. list_any (same_task c.args.id.now) (ids (picked ts ps))) c.args.places.now l.place-index (get_or c.args.places.now l.place-index 0)
    (omega arith) (element_is c.args.places.now l.place-index (omega arith))
    (stack_at c.args.id.now ts (get_or c.args.places.now l.place-index 0) (drop (l.place-index + 1) c.args.places.now) false (sym c.if-is_at.false ∙ c.is_at.ensures)) l.invariant

pub returns-then-is_at : goal.returns-then-is_at
returns-then-is_at c =
    let l = c.loop-place in
    let ts = c.args.scene.now.roll.tasks.items in
    sym (same_here (λ ps. list_any (same_task c.args.id.now) (ids (picked ts ps))) c.args.places.now l.place-index (get_or c.args.places.now l.place-index 0)
    (omega arith) (element_is c.args.places.now l.place-index (omega arith)) l.invariant
    ∙ stack_at c.args.id.now ts (get_or c.args.places.now l.place-index 0) (drop (l.place-index + 1) c.args.places.now) true (sym c.if-is_at.true ∙ c.is_at.ensures))

pub returns : goal.returns
returns c =
    let l = c.loop-place in
    let ts = c.args.scene.now.roll.tasks.items in
    sym (same_end (λ ps. list_any (same_task c.args.id.now) (ids (picked ts ps))) c.args.places.now l.place-index (omega arith) l.invariant)
