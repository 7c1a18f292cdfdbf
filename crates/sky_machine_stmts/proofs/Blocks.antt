-- A part of a statement or of a block is begun.
use Rattle.std.proofs.Common.{◌≡◌, ◌<◌, ◌≤◌, ◌+◌, ℕ, zero, suc, List, [], ◌∷◌, length, true, Option, Some, refl, sym, ap, ◌∙◌, subst, arith}
use Rattle.sky_base.specs.Val.{Val, Vals, null, truth, num, text, list, dict, fun, ref, no_vals, val, size, sizes}
use Rattle.sky_base.specs.Op.{val_at}
use Rattle.sky_base.specs.Tree.{Place, Exp, Stm, Stms, Arms, Else, nodes, stm_nodes, block_nodes, arms_nodes}
use Rattle.sky_base.specs.StmtView.{arms_view}
use Rattle.sky_base.specs.declared.stmt.Arm.{Arm}
use Rattle.sky_base.specs.Res.{Entry, End, Fin, arm_test, while_test, while_body, for_body, block_at, then_do, visit}
use Rattle.sky_base.specs.Eval.{World, set_var, left, each, eval, eval_stm, eval_stms, eval_arms, eval_else, eval_block, after, body_at}
use Rattle.sky_base_law.specs.Opened.{Node, exp_node, stm_node, block_node, HasExp, HasStm, HasStms, HasArms, HasElse}
use Rattle.sky_base_scope.specs.Plain.{Vars}
use Rattle.sky_machine_code.proofs.Bodies.{own_exp, own_stm}
use Rattle.sky_machine_entries.specs.Config.{Run}
use Rattle.sky_machine_code.proofs.Bodies.{nodes_pos, stm_nodes_pos}

module _ (w : World (List ℕ)) (d d' : ℕ) (same : d' ≡ d) where
  pub stm_begun : (n k step m next : ℕ) (a : Stm) (more xs : Stms) (st : Vars) → step ≡ k + 1 → next ≡ m + stm_nodes a → xs ≡ Stms.stm a more
      → then_do (eval_stm w (body_at w d') a m st) (block_at n step next more) (after w (body_at w d) (block_at n step next more))
      ≡ eval_stms w (body_at w d) xs n k m st
  stm_begun n k step m next a more xs st e f g = rw (same, e, f, g) refl

  pub part_begun : (e : Exp) (m part : ℕ) (st : Vars) (en : Entry (List ℕ)) (k : End (List ℕ) → Vars → Run) → part ≡ m
      → then_do (eval w (body_at w d') e part st) en k ≡ then_do (eval w (body_at w d) e m st) en k
  part_begun e m part st en k f = rw (same, f) refl

pub stms_none : (w : World (List ℕ)) (d n k m : ℕ) (xs : Stms) (st : Vars) → xs ≡ Stms.no_stms → Fin End.goes st
    ≡ eval_stms w (body_at w d) xs n k m st
stms_none w d n k m xs st g = rw g refl

module _ (at : ℕ → Option Node) where
  pub stm_ready : (k m next : ℕ) (a : Stm) (more xs : Stms) → xs ≡ Stms.stm a more → HasStms at xs m → next ≡ m + stm_nodes a → k ≤ m
      → (k + 1 ≤ next) × HasStms at more next
  stm_ready k m next a more xs g h f le =
      let hs = subst (λ (ys : Stms). HasStms at ys m) g h in (omega (arith, stm_nodes_pos a), subst (HasStms at more) (sym f) hs.1)

  pub stm_has : (m : ℕ) (a : Stm) (more xs : Stms) → xs ≡ Stms.stm a more → HasStms at xs m → HasStm at a m
  stm_has m a more xs g h = (subst (λ (ys : Stms). HasStms at ys m) g h).0

-- ---- the first part of a node

module _ (at : ℕ → Option Node) where
  pub exp_inside : (e : Exp) (n r : ℕ) → ((t : Node) → at (n + 1) ≡ Some t → r ≡ n + 1) → HasExp at e (n + 1) → r ≡ n + 1
  exp_inside e n r is h = is (exp_node e) (own_exp at e (n + 1) h)

  pub exp_inside_has : (e : Exp) (n r : ℕ) → ((t : Node) → at (n + 1) ≡ Some t → r ≡ n + 1) → HasExp at e (n + 1) → HasExp at e r
  exp_inside_has e n r is h = subst (HasExp at e) (sym (exp_inside e n r is h)) h

  pub stms_inside_has : (b : Stms) (n r : ℕ) → ((t : Node) → at (n + 1) ≡ Some t → r ≡ n + 1) → HasStms at b (n + 1) → HasStms at b r
  stms_inside_has Stms.no_stms n r is h = tt
  stms_inside_has (Stms.stm a more) n r is h =
      subst (HasStms at (Stms.stm a more)) (sym (is (stm_node a) (own_stm at a (n + 1) h.0))) h

  pub stms_inside : (w : World (List ℕ)) (d : ℕ) (b : Stms) (n r : ℕ) (st : Vars) → ((t : Node) → at (n + 1) ≡ Some t → r ≡ n + 1)
      → HasStms at b (n + 1) → eval_stms w (body_at w d) b n 0 r st ≡ eval_block w (body_at w d) b n st
  stms_inside w d Stms.no_stms n r st is h = refl
  stms_inside w d (Stms.stm a more) n r st is h =
      ap (λ m. eval_stms w (body_at w d) (Stms.stm a more) n 0 m st) (is (stm_node a) (own_stm at a (n + 1) h.0))

module _ (w : World (List ℕ)) (d d' : ℕ) (same : d' ≡ d) where
  pub block_begun : (b : Stms) (m part : ℕ) (st : Vars) (en : Entry (List ℕ)) (k : End (List ℕ) → Vars → Run) → part ≡ m
      → then_do (eval_block w (body_at w d') b part st) en k ≡ then_do (eval_block w (body_at w d) b m st) en k
  block_begun b m part st en k f = rw (same, f) refl

  pub while_body_begun : (n m : ℕ) (p : Place) (e : Exp) (b : Stms) (v : Val (List ℕ)) (st : Vars) → v ≡ truth true
      → then_do (eval_block w (body_at w d') b m st) (while_body n m p e b) (after w (body_at w d) (while_body n m p e b))
      ≡ after w (body_at w d) (while_test n m p e b) (End.got v) st
  while_body_begun n m p e b v st t = rw (same, t) refl

  pub each_begun : (n m t t' : ℕ) (p : Place) (x : List ℕ) (vs us : Vals (List ℕ)) (v : Val (List ℕ)) (b : Stms) (st st' st'' : Vars) → t'
      ≡ t + 1 → us ≡ val v (left (t + 1) vs) → ((K : Vars → Run) → visit p st K ≡ K st') → st'' ≡ set_var x v st'
      → then_do (eval_block w (body_at w d') b m st'') (for_body n m t' p x vs b) (after w (body_at w d) (for_body n m t' p x vs b))
      ≡ each us n m t p x vs b (eval_block w (body_at w d) b m) st
  each_begun n m t t' p x vs us v b st st' st'' e is visited set =
      let z : t + 1 ≡ suc t = omega arith in
      let f : us ≡ val v (left (suc t) vs) = is ∙ ap (λ k. val v (left k vs)) z in
      rw (same, set, e ∙ z, f) (sym (visited (λ s. then_do (eval_block w (body_at w d) b m (set_var x v s)) (for_body n m (suc t) p x vs b)
      (after w (body_at w d) (for_body n m (suc t) p x vs b)))))

  pub arm_begun : (n k m block i j : ℕ) (p : Place) (e : Exp) (b : Stms) (arms xs : Arms) (els : Else) (st : Vars) → block ≡ m + nodes e → xs
      ≡ Arms.arm p e b arms → i ≡ m + arms_nodes xs → j ≡ block + block_nodes b + arms_nodes arms
      → then_do (eval w (body_at w d') e m st) (arm_test n k block j p b arms els) (after w (body_at w d) (arm_test n k block j p b arms els))
      ≡ eval_arms w (body_at w d) xs n k m i els (λ t. eval_else w (body_at w d) els i t) st
  arm_begun n k m block i j p e b arms xs els st f g h l =
      let q : j ≡ i = omega (arith, f, h, l, ap arms_nodes g) in rw (same, q, f, g) refl

module _ (at : ℕ → Option Node) where
  pub arm_ready : (k m block j : ℕ) (p : Place) (e : Exp) (b : Stms) (arms xs : Arms) (els : Else) → block ≡ m + nodes e → xs
      ≡ Arms.arm p e b arms → j ≡ block + block_nodes b + arms_nodes arms → k ≤ m → HasArms at xs m → HasElse at els (m + arms_nodes xs)
      → (k < block) × ((at block ≡ Some (block_node b)) × HasStms at b (block + 1)) × HasArms at arms (block + block_nodes b) × HasElse at els j
  arm_ready k m block j p e b arms xs els f g l le has other =
      let hs = subst (λ (ys : Arms). HasArms at ys m) g has in
      let q : m + arms_nodes xs ≡ j = omega (arith, f, l, ap arms_nodes g) in (
        omega (arith, nodes_pos e, f),
        (subst (λ n. at n ≡ Some (block_node b)) (sym f) hs.1, subst (λ n. HasStms at b (n + 1)) (sym f) hs.2),
        subst (λ n. HasArms at arms (n + block_nodes b)) (sym f) hs.3,
        subst (HasElse at els) q other,
      )

-- ---- what is left of a list

size_pos : (v : Val (List ℕ)) → 0 < size v
size_pos null = omega arith
size_pos (truth b) = omega arith
size_pos (num z) = omega arith
size_pos (text t) = omega arith
size_pos (list vs) = omega arith
size_pos (dict ps) = omega arith
size_pos (fun f c) = omega arith
size_pos (ref d) = omega arith

pub place_small : (vs : Vals (List ℕ)) (i : ℕ) (v : Val (List ℕ)) → val_at vs i ≡ Some v → i < sizes vs
place_small no_vals i v e = absurd cc
place_small (val u vs) zero v e = omega (arith, size_pos u)
place_small (val u vs) (suc i) v e = omega (arith, size_pos u, place_small vs i v e)

pub arms_zero : (xs : List Arm) → length xs ≡ 0 → arms_nodes (arms_view xs) ≡ 0
arms_zero [] e = refl
arms_zero (x ∷ xs) e = absurd (omega arith)
