-- What doesn't pass: one of some, and one that is kept.
use Rattle.std.proofs.Common.{◌≡◌, ℕ, zero, suc, List, [], ◌∷◌, drop, Some, None, sym, ◌∙◌, subst}
use Rattle.std.specs.BTreeMap.{BTreeMap, get}
use Rattle.sky_base.specs.NameOrder.{name_cmp}
use Rattle.sky_base.specs.ObjectView.{object_view}
use Rattle.sky_base.specs.Tree.{Script}
use Rattle.sky_base.specs.declared.object.Object.{Object}
use Rattle.ciel_journal.specs.Job.{Digest, Each}
use Rattle.ciel_log_fits.specs.Known.{AfterSeen}
use Rattle.ciel_log_objects.specs.Objects.{IsKept, Passes}
use Rattle.ciel_task_order.specs.Views.{P}

-- what holds of each holds of the one at a place
pub each_there : {A : Type 0} (Q : A → Type 0) (xs : List A) (i : ℕ) (x : A) (ys : List A) → drop i xs ≡ x ∷ ys → Each Q xs → Q x
each_there Q xs zero x ys e h = (subst (Each Q) e h).0
each_there Q [] (suc i) x ys e h = cc
each_there Q (z ∷ zs) (suc i) x ys e h = each_there Q zs i x ys e h.1

-- ---- objects that are kept

some_object : (x y : Object) → Some x ≡ Some y → x ≡ y
some_object x y e = cc

module _ (sc : Script) (after : AfterSeen P) (kept : BTreeMap Digest Object) (name : Digest) where
  pub not_kept : get name_cmp kept name ≡ None → IsKept sc after kept name → ⊥
  not_kept e k = let bad : None ≡ Some k.0 = sym e ∙ k.1 in cc

  pub kept_fails : (o : Object) → get name_cmp kept name ≡ Some o → (Passes sc after (object_view o) → ⊥) → IsKept sc after kept name → ⊥
  kept_fails o e fails k =
      fails (subst (λ z. Passes sc after (object_view z)) (some_object k.0 o (sym k.1 ∙ e)) k.2)
