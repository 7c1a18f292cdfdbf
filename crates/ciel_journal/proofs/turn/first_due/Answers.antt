use Rattle.std.proofs.Common.{◌∙◌, sym, subst, arith, ℕ, suc, List, Some}
use Rattle.std.proofs.lemmas.Option.{slice_get-get_or}
use Rattle.ciel_journal.proofs.DueLaw.{Below, below_better, below_first, below_keep, below_next, below_skip, first_none, first_some}
use Rattle.ciel_journal.proofs.turn.first_due.Goals as goal
use Rattle.ciel_journal.proofs.turn.first_due.Goals.{then-is_due+in-Some+then-losses-i, then-is_due+in-Some+else-losses-i, then-is_due+in_default}
use Rattle.ciel_journal.proofs.turn.first_due.Goals.{else-is_due}
use Rattle.std.proofs.Common as common

pub loop-i-preserved : goal.loop-i-preserved
loop-i-preserved c =
    let losses : List (ℕ × ℕ) = c.args.losses.now in
    let gone : List ℕ = c.args.gone.now in
    let closes : ℕ = c.args.closes in
    let n : ℕ = c.loop-i.i in
    let x : ℕ × ℕ = common.get_or losses n (0, 0) in
    let g = slice_get-get_or losses n (0, 0) c.loop-i-test.true in
    elim c.if-is_due.branch [
      | then-is_due+in-Some+then-losses-i w ↦
          let b : Below losses closes gone n (Some w.in-Some.j) = subst (Below losses closes gone n) w.in-Some.is c.loop-i.invariant in
          let l = b.0 in
          let m = c.loop-i-test.true in
          let y : ℕ × ℕ = common.get_or losses w.in-Some.j (0, 0) in
          let h = slice_get-get_or losses w.in-Some.j (0, 0) (omega (arith, l, m)) in
          below_next losses closes gone n c.if-is_due.first
          (subst (Below losses closes gone (suc n)) (sym w.first-is)
          (below_better losses closes gone n w.in-Some.j x y g h (sym c.is_due.ensures.due ∙ w.if-is_due.true) w.if-losses-i.true b))
      | then-is_due+in-Some+else-losses-i w ↦
          let b : Below losses closes gone n (Some w.in-Some.j) = subst (Below losses closes gone n) w.in-Some.is c.loop-i.invariant in
          let l = b.0 in
          let m = c.loop-i-test.true in
          let y : ℕ × ℕ = common.get_or losses w.in-Some.j (0, 0) in
          let h = slice_get-get_or losses w.in-Some.j (0, 0) (omega (arith, l, m)) in
          below_next losses closes gone n c.if-is_due.first
          (subst (Below losses closes gone (suc n)) (sym w.first-is)
          (below_keep losses closes gone n w.in-Some.j x y g h w.if-losses-i.false b))
      | then-is_due+in_default w ↦
          below_next losses closes gone n c.if-is_due.first
          (subst (Below losses closes gone (suc n)) (sym w.first-is)
          (below_first losses closes gone n x g (sym c.is_due.ensures.due ∙ w.if-is_due.true)
          (subst (Below losses closes gone n) w.in_default.is c.loop-i.invariant)))
      | else-is_due w ↦
          below_next losses closes gone n c.if-is_due.first
          (subst (Below losses closes gone (suc n)) (sym w.first-is)
          (below_skip losses closes gone n c.loop-i.first x g (sym c.is_due.ensures.due ∙ w.if-is_due.false) c.loop-i.invariant))
    ]

pub returns-clause-first : goal.returns-clause-first
returns-clause-first c =
    let a = c.loop-i-test.false in
    let b = c.loop-i.auto.i-end in
    first_some c.args.losses.now c.args.closes c.args.gone.now c.loop-i.i (omega (arith, a, b)) c.loop-i.first c.loop-i.invariant

pub returns-clause-none : goal.returns-clause-none
returns-clause-none c =
    let a = c.loop-i-test.false in
    let b = c.loop-i.auto.i-end in
    first_none c.args.losses.now c.args.closes c.args.gone.now c.loop-i.i (omega (arith, a, b)) c.loop-i.first c.loop-i.invariant
