use Rattle.std.proofs.Common.{◌∙◌, ap, sym, subst, refl, [], inl, inr}
use Rattle.ciel_want_marks.specs.Lists.{at}
use Rattle.ciel_want_marks.specs.Marks.{MarksSeen, Stands}
use Rattle.ciel_want_marks.proofs.PlacedRow.{goes_next, placed_more, placed_stands, placed_why}
use Rattle.ciel_want_marks.proofs.NodeAdvance.{is_active, not_active}
use Rattle.ciel_want_marks.proofs.marks.Marks.place.Goals as goal

pub waiting-init : goal.waiting-init
waiting-init c =
    let m = c.args.self.now in
    let v = c.in-Some.maker in
    let e = c.set_live-waiting.ensures.set in
    record {
      placed = record {
        live = ap (λ (x : MarksSeen). x.live) e;
        makers = ap (λ (x : MarksSeen). x.makers) e;
        out = ap (λ (x : MarksSeen). x.out) e;
      };
      stands = λ needs f r. subst (λ ws. Stands c.set_live-waiting.new.self needs [] ws) (sym c.set_live-waiting.ensures.waiting)
          (subst (λ x. Stands x needs [] (at m.watchers c.args.row)) (sym e)
          (placed_stands m c.args.row v needs r f (sym c.maker.ensures.maker ∙ c.in-Some.is)
          (not_active m v (sym c.is_active.ensures.active ∙ c.if-is_active.false))));
      none = λ needs r. ap (λ (x : MarksSeen). x.todo) e ∙ r.1;
    }

pub waiting-preserved : goal.waiting-preserved
waiting-preserved c =
    let i = c.waiting.invariant in
    record {
      placed = placed_more c.args.self.now c.waiting.self c.go_on.new.self c.args.row i.placed c.in_ok-go_on.ensures.same;
      stands = λ needs f r. goes_next c.waiting.self c.go_on.new.self c.in-Some-pop.node c.waiting.waiting c.pop.new.self c.in-Some-pop.ensures
          needs (i.none needs r) c.in_ok-go_on.ensures.stands (i.stands needs f r);
      none = λ needs r. c.in_ok-go_on.ensures.todo ∙ i.none needs r;
    }

pub returns-clause-right : goal.returns-clause-right
returns-clause-right c =
    let i = c.waiting.invariant in
    λ e needs f r. (subst (λ ws. Stands c.waiting.self needs [] ws) c.in_default-pop.ensures.0 (i.stands needs f r), i.none needs r)

pub returns-clause-cause : goal.returns-clause-cause
returns-clause-cause c =
    let m = c.args.self.now in
    let v = c.in-Some.maker in (
      λ e. cc,
      λ q. absurd (placed_why m c.args.row v (sym c.maker.ensures.maker ∙ c.in-Some.is)
          (not_active m v (sym c.is_active.ensures.active ∙ c.if-is_active.false)) q),
    )

pub returns-then-is_active-clause-cause : goal.returns-then-is_active-clause-cause
returns-then-is_active-clause-cause c =
    let m = c.args.self.now in
    let v = c.in-Some.maker in
    (λ e. inr (v, sym c.maker.ensures.maker ∙ c.in-Some.is, is_active m v (sym c.is_active.ensures.active ∙ c.if-is_active.true)), λ q. refl)

pub returns-in_default-clause-cause : goal.returns-in_default-clause-cause
returns-in_default-clause-cause c =
    (λ e. inl (sym c.maker.ensures.maker ∙ c.in_default.is), λ q. refl)
