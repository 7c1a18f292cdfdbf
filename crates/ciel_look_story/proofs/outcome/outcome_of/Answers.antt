-- Objects are weighed one by one.
use Rattle.std.proofs.Common.{◌≡◌, ◌∷◌, [], ap, sym, ◌∙◌, subst, refl, List, IfOk, map}
use Rattle.sky_base.specs.ObjectView.{object_view}
use Rattle.sky_base.specs.declared.object.Object.{Object}
use Rattle.ciel_log_read.specs.View.{end_view}
use Rattle.ciel_look_told.specs.Told as told
use Rattle.ciel_look_told.specs.Told.{outcome, weight}
use Rattle.ciel_look_told.specs.View.{outcome_view}
use Rattle.ciel_look_story.proofs.outcome.outcome_of.Goals as goal

one_by_one : (xs : List Object) → map (λ o. weight (object_view o)) xs ≡ map weight (map object_view xs)
one_by_one [] = refl
one_by_one (x ∷ xs) = ap (λ ws. weight (object_view x) ∷ ws) (one_by_one xs)

pub returns-in-Made : goal.returns-in-Made
returns-in-Made c =
    let same : map (λ o. weight (object_view o)) c.as_slice.result.now ≡ map weight (map object_view c.in-Made.objects.items) =
    ap (map (λ o. weight (object_view o))) c.as_slice.ensures.value ∙ one_by_one c.in-Made.objects.items in
    record {
      outcome = subst (λ e. IfOk c.made.result (λ o. outcome_view o ≡ outcome (end_view e))) (sym c.in-Made.is)
          (subst (λ ws. IfOk c.made.result (λ o. outcome_view o ≡ told.made ws)) same c.made.ensures.outcome);
    }
