-- A part of a form is begun.
use Rattle.std.proofs.Common.{◌≡◌, ◌<◌, ◌≤◌, ◌+◌, ℕ, List, Option, refl, sym, subst, arith}
use Rattle.sky_base.specs.Val.{Val, Vals, vals_of}
use Rattle.sky_base.specs.Tree.{Place, Form, Exp, Exps, nodes}
use Rattle.sky_base.specs.Res.{part_at, then_do, visit}
use Rattle.sky_base.specs.Eval.{World, eval, eval_parts, formed, after, body_at}
use Rattle.sky_base_law.specs.Opened.{Node, HasExp, HasExps}
use Rattle.sky_base_scope.specs.Plain.{Vars, items}
use Rattle.sky_base_scope.specs.RunView.{KeptVals}
use Rattle.sky_machine_code.proofs.Bodies.{nodes_pos}
use Rattle.sky_machine_parts.proofs.Items.{items_vals}

module _ (w : World (List ℕ)) (d d' : ℕ) (same : d' ≡ d) where
  pub part_begun : (n k m next : ℕ) (o : Form) (p : Place) (vs : List (Val (List ℕ))) (e : Exp) (es xs : Exps) (st : Vars) → next ≡ m + nodes e
      → xs ≡ Exps.exp e es → then_do (eval w (body_at w d') e m st) (part_at n k next o p vs es)
      (after w (body_at w d) (part_at n k next o p vs es)) ≡ eval_parts w (body_at w d) xs n k m o p vs st
  part_begun n k m next o p vs e es xs st f g = rw (same, f, g) refl

pub parts_done : (w : World (List ℕ)) (d n k m : ℕ) (o : Form) (p : Place) (vs : List (Val (List ℕ))) (xs : Exps) (st : Vars) → xs ≡ Exps.no_exps
    → visit p st (λ s. formed w o vs n p s) ≡ eval_parts w (body_at w d) xs n k m o p vs st
parts_done w d n k m o p vs xs st g = rw g refl

module _ (at : ℕ → Option Node) where
  pub part_has : (m : ℕ) (e : Exp) (es xs : Exps) → xs ≡ Exps.exp e es → HasExps at xs m → HasExp at e m
  part_has m e es xs g h = (subst (λ (ys : Exps). HasExps at ys m) g h).0

  pub part_ready : (k m next : ℕ) (e : Exp) (es xs : Exps) (vs : Vals (List ℕ)) → xs ≡ Exps.exp e es → HasExps at xs m → next ≡ m + nodes e
      → k ≤ m → KeptVals vs → (k < next) × HasExps at es next × KeptVals (vals_of (items vs))
  part_ready k m next e es xs vs g h f le kept =
      let hs = subst (λ (ys : Exps). HasExps at ys m) g h in
      (omega (arith, nodes_pos e), subst (HasExps at es) (sym f) hs.1, subst KeptVals (sym (items_vals vs)) kept)
