-- Where its worker is left.
use Rattle.std.proofs.Common.{Some, None, ap, cond, map, not, option_map, slice_get, subst, sym, ◌≡◌, ◌∙◌}
use Rattle.ciel_look_tasks.specs.SceneView.{one_of, order_view}
use Rattle.ciel_look_tasks.proofs.KnownSteps.{get_is}
use Rattle.ciel_look_text.specs.Now.{latest}
use Rattle.ciel_look_text.proofs.replay.later.Goals as goal

pub returns-then-is_left : goal.returns-then-is_left
returns-then-is_left c =
    let there = get_is c.deref.result.now c.args.place (Some c.in-Some.run') c.in-Some.ensures.lookup
    ∙ ap (λ rs. slice_get rs c.args.place) c.deref.ensures.value in
    let last = option_map (λ r. order_view r.now) c.args.last in
    record {
      later = subst (λ o. Some (order_view c.in-Some.run'.now) ≡ latest c.args.gone.now last (map order_view (one_of o))) there
          (sym (ap (λ b. cond b (Some (order_view c.in-Some.run'.now)) last) (sym c.is_left.ensures ∙ c.if-is_left.true)));
    }

pub returns-else-is_left : goal.returns-else-is_left
returns-else-is_left c =
    let there = get_is c.deref.result.now c.args.place (Some c.in-Some.run') c.in-Some.ensures.lookup
    ∙ ap (λ rs. slice_get rs c.args.place) c.deref.ensures.value in
    let last = option_map (λ r. order_view r.now) c.args.last in
    record {
      later = subst (λ o. last ≡ latest c.args.gone.now last (map order_view (one_of o))) there
          (sym (ap (λ b. cond b (Some (order_view c.in-Some.run'.now)) last) (sym c.is_left.ensures ∙ c.if-is_left.false)));
    }

pub returns-in-None : goal.returns-in-None
returns-in-None c =
    let there = get_is c.deref.result.now c.args.place None c.in-None.ensures.lookup ∙ ap (λ rs. slice_get rs c.args.place) c.deref.ensures.value in
    let last = option_map (λ r. order_view r.now) c.args.last in
    record { later = ap (λ o. latest c.args.gone.now last (map order_view (one_of o))) there }
