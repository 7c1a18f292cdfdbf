-- A choice from its first arm.
use Rattle.std.proofs.Common.{◌≡◌, ◌+◌, ℕ, List, Option, Some, refl, sym, ap, subst, arith}
use Rattle.sky_base.specs.Tree.{Arms, Else, arms_nodes}
use Rattle.sky_base.specs.Eval.{World, eval_arms, eval_else, body_at}
use Rattle.sky_base_law.specs.Opened.{Node, exp_node, block_node, HasArms, HasElse}
use Rattle.sky_base_scope.specs.Plain.{Vars}
use Rattle.sky_machine_code.proofs.Bodies.{own_exp}

module _ (at : ℕ → Option Node) where
  -- where the number of the first part is wanted, there is one
  pub record Begins (w : World (List ℕ)) (d n r : ℕ) (arms : Arms) (els : Else) : Type 0 where
    pub same : (st : Vars) → eval_arms w (body_at w d) arms n 1 r (r + arms_nodes arms) els
        (λ t. eval_else w (body_at w d) els (r + arms_nodes arms) t) st
        ≡ eval_arms w (body_at w d) arms n 1 (n + 1) (n + 1 + arms_nodes arms) els
        (λ t. eval_else w (body_at w d) els (n + 1 + arms_nodes arms) t) st

  at_first : (w : World (List ℕ)) (d n r : ℕ) (arms : Arms) (els : Else) → n + 1 ≡ r → HasArms at arms (n + 1)
      → HasElse at els (n + 1 + arms_nodes arms) → Begins w d n r arms els
  at_first w d n r arms els is h i =
      record {
        same = λ st. ap (λ m. eval_arms w (body_at w d) arms n 1 m (m + arms_nodes arms) els
            (λ t. eval_else w (body_at w d) els (m + arms_nodes arms) t) st) (sym is);
      }

  pub begins : (w : World (List ℕ)) (d n r : ℕ) (arms : Arms) (els : Else) → ((t : Node) → at (n + 1) ≡ Some t → r ≡ n + 1)
      → HasArms at arms (n + 1) → HasElse at els (n + 1 + arms_nodes arms) → Begins w d n r arms els
  begins w d n r (Arms.arm p e b more) els is h i =
      at_first w d n r (Arms.arm p e b more) els (sym (is (exp_node e) (own_exp at e (n + 1) h.0))) h i
  begins w d n r Arms.no_arms Else.no_else is h i = record { same = λ st. refl }
  begins w d n r Arms.no_arms (Else.otherwise b) is h i =
      let z : n + 1 + 0 ≡ n + 1 = omega arith in
      at_first w d n r Arms.no_arms (Else.otherwise b) (sym (is (block_node b) (subst (λ m. at m ≡ Some (block_node b)) z i.0))) h i

  -- the arms and the last block, at the numbers that are counted from the first part
  pub begins_has : (n r : ℕ) (arms : Arms) (els : Else) → ((t : Node) → at (n + 1) ≡ Some t → r ≡ n + 1) → HasArms at arms (n + 1)
      → HasElse at els (n + 1 + arms_nodes arms) → HasArms at arms r × HasElse at els (r + arms_nodes arms)
  begins_has n r (Arms.arm p e b more) els is h i =
      let q = sym (is (exp_node e) (own_exp at e (n + 1) h.0)) in
      (subst (HasArms at (Arms.arm p e b more)) q h, subst (λ m. HasElse at els (m + arms_nodes (Arms.arm p e b more))) q i)
  begins_has n r Arms.no_arms Else.no_else is h i = (tt, tt)
  begins_has n r Arms.no_arms (Else.otherwise b) is h i =
      let z : n + 1 + 0 ≡ n + 1 = omega arith in
      let q = sym (is (block_node b) (subst (λ m. at m ≡ Some (block_node b)) z i.0)) in
      (tt, subst (λ m. HasElse at (Else.otherwise b) (m + 0)) q i)
