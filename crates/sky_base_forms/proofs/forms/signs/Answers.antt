use Rattle.std.proofs.Common.{◌∙◌, ◌-◌, reverse, take, ap, arith}
use Rattle.sky_base.specs.View.{view}
use Rattle.sky_base.specs.TreeView.{signs_view}
use Rattle.sky_base_scope.specs.Plain as plain
use Rattle.sky_base_forms.specs.GroundView.{ground_of}
use Rattle.sky_base_forms.proofs.Signs.{signs_one}
use Rattle.sky_base_forms.proofs.forms.signs.Goals as goal

pub returns-in-Err-clause-answer : goal.returns-in-Err-clause-answer
returns-in-Err-clause-answer c = λ rows ne.
    let l = c.loop-left in
    let run = ground_of c.args.ground.now in
    let ss = c.args.signs.now in
    l.invariant.same rows ∙ ap (λ xs. plain.signs run xs (view l.v) rows l.state)
    (signs_one ss l.left _ c.loop-left-test.true l.invariant.within)
    ∙ c.in-Err.ensures.answer ne rows (λ s u. plain.signs run (reverse (signs_view (take (l.left - 1) ss))) u rows s)

pub loop-left-preserved : goal.loop-left-preserved
loop-left-preserved c =
    let l = c.loop-left in
    let run = ground_of c.args.ground.now in
    let ss = c.args.signs.now in
    record {
      within = omega (arith, l.invariant.within);
      kept = c.in-Ok.ensures.kept;
      same = λ rows. l.invariant.same rows ∙ ap (λ xs. plain.signs run xs (view l.v) rows l.state)
          (signs_one ss l.left _ c.loop-left-test.true l.invariant.within)
          ∙ c.in-Ok.ensures.answer rows (λ s u. plain.signs run (reverse (signs_view (take (l.left - 1) ss))) u rows s);
    }
