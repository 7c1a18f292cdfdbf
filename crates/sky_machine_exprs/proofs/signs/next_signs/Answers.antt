use Rattle.std.proofs.Common.{◌-◌, ◌+◌, sym, ap, ◌∙◌, arith, reverse, take}
use Rattle.sky_base.specs.View.{view}
use Rattle.sky_base.specs.TreeView.{signs_view}
use Rattle.sky_base.specs.Eval.{signs}
use Rattle.sky_machine_entries.specs.Config.{rest_in, config}
use Rattle.sky_machine_exprs.proofs.LastSigns.{sign_next, star_signed}
use Rattle.sky_machine_exprs.proofs.signs.next_signs.Goals as goal

pub returns-then-not-visit-clause-same : goal.returns-then-not-visit-clause-same
returns-then-not-visit-clause-same c = λ w.
    let l = c.loop-left in
    let whole = signs w (reverse (signs_view c.args.signs.now)) c.args.node c.args.step (view c.args.v) c.args.state.now in
    ap (λ x. config w l.entries.items x c.visit.new.state) c.fail.ensures
    ∙ ap (rest_in w l.entries.items) (sym (c.visit.ensures.failed c.if-not-visit.true _)
    ∙ sym (sign_next w c.args.signs.now l.left c.args.node l.step _ (view l.v) l.state c.loop-left-test.true l.invariant.within)
    ∙ l.invariant.same w) ∙ ap (λ es. rest_in w es whole) l.invariant.still

pub returns-in-Failed-clause-same : goal.returns-in-Failed-clause-same
returns-in-Failed-clause-same c = λ w.
    let l = c.loop-left in
    let st = c.visit.new.state in
    let before = reverse (signs_view (take (l.left - 1) c.args.signs.now)) in
    let whole = signs w (reverse (signs_view c.args.signs.now)) c.args.node c.args.step (view c.args.v) c.args.state.now in
    ap (λ x. config w l.entries.items x st) c.fail-in-Failed.ensures
    ∙ ap (rest_in w l.entries.items)
    (sym (c.in-Failed.ensures w c.args.node l.step before _ st (λ u z. signs w before c.args.node (l.step + 1) u z))
    ∙ sym (c.visit.ensures.more c.if-not-visit.false _)
    ∙ sym (sign_next w c.args.signs.now l.left c.args.node l.step _ (view l.v) l.state c.loop-left-test.true l.invariant.within)
    ∙ l.invariant.same w) ∙ ap (λ es. rest_in w es whole) l.invariant.still

pub returns-in-Star-clause-same : goal.returns-in-Star-clause-same
returns-in-Star-clause-same c = λ w.
    let l = c.loop-left in
    let st = c.visit.new.state in
    let before = reverse (signs_view (take (l.left - 1) c.args.signs.now)) in
    let whole = signs w (reverse (signs_view c.args.signs.now)) c.args.node c.args.step (view c.args.v) c.args.state.now in
    c.in_ok-control-in-Star.ensures.same w st ∙ ap (rest_in w l.entries.items)
    (star_signed w _ (view l.v) c.args.node l.step before _ st (λ u z. signs w before c.args.node (l.step + 1) u z) c.in-Star.ensures
    ∙ sym (c.visit.ensures.more c.if-not-visit.false _)
    ∙ sym (sign_next w c.args.signs.now l.left c.args.node l.step _ (view l.v) l.state c.loop-left-test.true l.invariant.within)
    ∙ l.invariant.same w) ∙ ap (λ es. rest_in w es whole) l.invariant.still

pub loop-left-preserved : goal.loop-left-preserved
loop-left-preserved c =
    let l = c.loop-left in
    let st = c.visit.new.state in
    let before = reverse (signs_view (take (l.left - 1) c.args.signs.now)) in
    record {
      within = omega (arith, l.invariant.within);
      kept = c.in-Made.ensures.0;
      few = c.visit.ensures.within;
      more = omega (arith, l.invariant.more, c.visit.ensures.rises c.if-not-visit.false);
      steps = omega (arith, l.invariant.steps, c.loop-left-test.true);
      still = l.invariant.still;
      same = λ w. sym (c.in-Made.ensures.1 w c.args.node l.step before _ st (λ u z. signs w before c.args.node (l.step + 1) u z))
          ∙ sym (c.visit.ensures.more c.if-not-visit.false _)
          ∙ sym (sign_next w c.args.signs.now l.left c.args.node l.step _ (view l.v) l.state c.loop-left-test.true l.invariant.within)
          ∙ l.invariant.same w;
    }
