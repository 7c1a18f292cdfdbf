-- One more, or none.
use Rattle.std.proofs.Common.{arith, codes, get_or, map, subst, sym, take, true}
use Rattle.ciel_look_tasks.specs.SceneView.{picked}
use Rattle.ciel_look_text.specs.Runs.{number_said}
use Rattle.ciel_look_text.specs.Says.{SaysSome}
use Rattle.ciel_look_text.proofs.Parts.{some_none, some_two}
use Rattle.ciel_look_text.proofs.Picking.{picked_all, picked_next}
use Rattle.ciel_look_text.proofs.Sums.{element_is}
use Rattle.ciel_look_text.proofs.loss.say_numbers.Goals as goal

pub loop-place-init : goal.loop-place-init
loop-place-init c = some_none (codes "start ") (codes ", start ") true c.args.line.now

pub loop-place-preserved : goal.loop-place-preserved
loop-place-preserved c =
    let l = c.loop-place in
    let places = c.args.places.now in
    let said = number_said in
    subst (λ xs. SaysSome (codes "start ") (codes ", start ") true c.args.line.now xs c.say_number_at.new.line c.in_ok-first.first)
    (sym (picked_next said c.args.scene.now.runs.items places l.place-index (get_or places l.place-index 0) (omega arith)
    (element_is places l.place-index (omega arith))))
    (some_two (codes "start ") (codes ", start ") true l.first c.in_ok-first.first c.args.line.now l.line
    c.say_number_at.new.line _ _ l.invariant c.in_ok-first.ensures.said)

pub returns : goal.returns
returns c =
    let l = c.loop-place in
    let whole =
    subst (λ xs. SaysSome (codes "start ") (codes ", start ") true c.args.line.now xs l.line l.first)
    (picked_all (number_said) c.args.scene.now.runs.items c.args.places.now l.place-index (omega arith)) l.invariant in
    record { said = whole }
