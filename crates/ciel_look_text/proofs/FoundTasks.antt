-- The task that is asked for, among the tasks.
use Rattle.std.proofs.Common.{◌≡◌, ℕ, List, [], ◌∷◌, Bool, true, false, ◌||◌, cond, is_some, map, Option, Some, None, refl, ap, sym, ◌∙◌}
use Rattle.std.proofs.lemmas.Simd.{map-map}
use Rattle.sky_base.specs.declared.object.TaskId.{TaskId}
use Rattle.ciel_look_tasks.specs.SceneView.{row_view}
use Rattle.ciel_look_tasks.specs.Seen.{row_task}
use Rattle.ciel_look_tasks.specs.View.{ids}
use Rattle.ciel_look_tasks.specs.declared.scene.Scene.{Scene}
use Rattle.ciel_look_text.specs.Asked.{any_has, first_asked, has_digits}

pub asked_some : (digits : List ℕ) (ts : List TaskId) (o : Option TaskId) → o ≡ first_asked digits ts → is_some o ≡ any_has digits ts
asked_some digits ts o e = ap is_some e ∙ go ts
  where
    go : (us : List TaskId) → is_some (first_asked digits us) ≡ any_has digits us
    go [] = refl
    go (u ∷ us) = one (has_digits digits u) (go us)
      where
        one : (b : Bool) → is_some (first_asked digits us) ≡ any_has digits us → is_some (cond b (Some u) (first_asked digits us)) ≡ (b || any_has digits us)
        one true h = refl
        one false h = h

pub rows_asked : (s : Scene) (digits : List ℕ) (o : Option TaskId) → o ≡ first_asked digits (ids s.roll.tasks.items)
    → first_asked digits (map row_task (map (row_view s) s.roll.tasks.items)) ≡ o
rows_asked s digits o e = ap (first_asked digits) (map-map row_task (row_view s) s.roll.tasks.items) ∙ sym e
