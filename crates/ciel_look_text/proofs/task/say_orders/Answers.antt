-- One more, or none.
use Rattle.std.proofs.Common.{arith, codes, get_or, map, subst, sym, take, true}
use Rattle.ciel_look_tasks.specs.SceneView.{picked}
use Rattle.ciel_look_tasks.specs.Known.{knowns}
use Rattle.ciel_look_text.specs.Runs.{run_said}
use Rattle.ciel_look_text.specs.Says.{SaysSome}
use Rattle.ciel_look_text.proofs.Parts.{some_none, some_two}
use Rattle.ciel_look_text.proofs.Picking.{picked_all, picked_next}
use Rattle.ciel_look_text.proofs.Sums.{element_is}
use Rattle.ciel_look_text.proofs.task.say_orders.Goals as goal

pub loop-place-init : goal.loop-place-init
loop-place-init c = some_none (codes ": ") (codes "; ") true c.args.line.now

pub loop-place-preserved : goal.loop-place-preserved
loop-place-preserved c =
    let l = c.loop-place in
    let places = c.args.places.now in
    let said = run_said (knowns c.args.scene.now.known.all.items) in
    subst (λ xs. SaysSome (codes ": ") (codes "; ") true c.args.line.now xs c.say_order_at.new.line c.in_ok-first.first)
    (sym (picked_next said c.args.scene.now.runs.items places l.place-index (get_or places l.place-index 0) (omega arith)
    (element_is places l.place-index (omega arith))))
    (some_two (codes ": ") (codes "; ") true l.first c.in_ok-first.first c.args.line.now l.line c.say_order_at.new.line _ _ l.invariant c.in_ok-first.ensures.said)

pub returns : goal.returns
returns c =
    let l = c.loop-place in
    let whole =
    subst (λ xs. SaysSome (codes ": ") (codes "; ") true c.args.line.now xs l.line l.first)
    (picked_all (run_said (knowns c.args.scene.now.known.all.items)) c.args.scene.now.runs.items c.args.places.now l.place-index (omega arith)) l.invariant in
    record { said = whole.put }
