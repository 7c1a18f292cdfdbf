-- The first part of a form is begun.
use Rattle.std.proofs.Common.{◌≡◌, ◌+◌, ℕ, List, Option, Some, refl, sym, subst}
use Rattle.sky_base.specs.Tree.{Exp}
use Rattle.sky_base.specs.Res.{Entry, End, then_do}
use Rattle.sky_base.specs.Eval.{World, eval, body_at}
use Rattle.sky_base_law.specs.Opened.{Node, exp_node, HasExp}
use Rattle.sky_base_scope.specs.Plain.{Vars}
use Rattle.sky_machine_code.proofs.Bodies.{own_exp}
use Rattle.sky_machine_entries.specs.Config.{Run}

pub first_begun : (w : World (List ℕ)) (d d' : ℕ) (e e' : Exp) (m part : ℕ) (st : Vars) (en : Entry (List ℕ)) (k : End (List ℕ) → Vars → Run)
    → d' ≡ d → e' ≡ e → part ≡ m → then_do (eval w (body_at w d') e' part st) en k ≡ then_do (eval w (body_at w d) e m st) en k
first_begun w d d' e e' m part st en k same is f = rw (same, is, f) refl

module _ (at : ℕ → Option Node) where
  pub first_at : (e : Exp) (n r : ℕ) → ((t : Node) → at (n + 1) ≡ Some t → r ≡ n + 1) → HasExp at e (n + 1) → r ≡ n + 1
  first_at e n r is h = is (exp_node e) (own_exp at e (n + 1) h)

  pub first_has : (e e' : Exp) (n r : ℕ) → e' ≡ e → ((t : Node) → at (n + 1) ≡ Some t → r ≡ n + 1) → HasExp at e (n + 1) → HasExp at e' r
  first_has e e' n r same is h =
      subst (λ (x : Exp). HasExp at x r) (sym same) (subst (HasExp at e) (sym (first_at e n r is h)) h)
