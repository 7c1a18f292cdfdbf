-- At each number of a script stands a node with all that is in it.
use Rattle.std.proofs.Common.{◌≡◌, ◌<◌, ◌≤◌, ◌+◌, ◌⊎◌, inl, inr, ℕ, zero, suc, List, [], ◌∷◌, length, Option, Some, slice_get, refl, sym, ap, ◌∙◌}
use Rattle.std.proofs.Common.{subst, arith}
use Rattle.sky_base.specs.Tree.{Exp, Exps, Links, Ands, Steps, Stm, Stms, Arms, Else, FunDef, Script, nodes, exps_nodes, links_nodes, ands_nodes}
use Rattle.sky_base.specs.Tree.{steps_nodes, stm_nodes, stms_nodes, arms_nodes, else_nodes, block_nodes, funs_nodes, script_nodes}
use Rattle.sky_base_law.specs.Opened.{Node, exp_node, stm_node, block_node, HasExp, HasExps, HasLinks, HasAnds, HasSteps, HasStm, HasStms, HasArms}
use Rattle.sky_base_law.specs.Opened.{HasElse, HasFuns}
use Rattle.sky_base_law.specs.Nodes.{pre_script, node_at}
use Rattle.sky_base_law.proofs.NodesLaw.{has_script}
use Rattle.sky_machine_numbers.specs.Standing.{HasNode}
use Rattle.sky_base_law.proofs.NodesLaw.{script_count}

-- ---- numbers, one part after the other

first_or : (i n : ℕ) → n ≤ i → (i ≡ n) ⊎ (n + 1 ≤ i)
first_or zero zero h = inl refl
first_or (suc i) zero h = inr (omega arith)
first_or zero (suc n) h = absurd (omega (arith, h))
first_or (suc i) (suc n) h = more (first_or i n (omega (arith, h)))
  where
    more : (i ≡ n) ⊎ (n + 1 ≤ i) → (suc i ≡ suc n) ⊎ (suc n + 1 ≤ suc i)
    more (inl e) = inl (ap suc e)
    more (inr g) = inr (omega (arith, g))

less_or : (i m : ℕ) → (i < m) ⊎ (m ≤ i)
less_or i zero = inr (omega arith)
less_or zero (suc m) = inl (omega arith)
less_or (suc i) (suc m) = more (less_or i m)
  where
    more : (i < m) ⊎ (m ≤ i) → (suc i < suc m) ⊎ (suc m ≤ suc i)
    more (inl h) = inl (omega (arith, h))
    more (inr h) = inr (omega (arith, h))

either : {A B C : Type 0} → A ⊎ B → (A → C) → (B → C) → C
either (inl a) f g = f a
either (inr b) f g = g b

place_in : {A : Type 0} (xs : List A) (i : ℕ) (x : A) → slice_get xs i ≡ Some x → i < length xs
place_in [] i x e = absurd cc
place_in (y ∷ xs) zero x e = omega arith
place_in (y ∷ xs) (suc i) x e = omega (arith, place_in xs i x e)

module _ (at : ℕ → Option Node) where
  -- what stands at this number stands with all that is in it
  Stands : ℕ → Type 0
  Stands i = (t : Node) → at i ≡ Some t → HasNode at t i

  here : (i n : ℕ) (t : Node) → at n ≡ Some t → HasNode at t n → i ≡ n → Stands i
  unfolding Stands
  here i n t h p e u g =
      let q : Some t ≡ Some u = sym h ∙ ap at (sym e) ∙ g in
      let s : t ≡ u = cc in
      subst (λ x. HasNode at x i) s (subst (HasNode at t) (sym e) p)

  mutual
    in_exp : (e : Exp) (n i : ℕ) → HasExp at e n → n ≤ i → i < n + nodes e → Stands i
    in_exp (Exp.literal l p) n i h lo hi = here i n (exp_node (Exp.literal l p)) h h (omega (arith, lo, hi))
    in_exp (Exp.name x p) n i h lo hi = here i n (exp_node (Exp.name x p)) h h (omega (arith, lo, hi))
    in_exp (Exp.func x p) n i h lo hi = here i n (exp_node (Exp.func x p)) h h (omega (arith, lo, hi))
    in_exp (Exp.parens e) n i h lo hi =
        either (first_or i n lo) (here i n (exp_node (Exp.parens e)) h.0 h) (λ g. in_exp e (n + 1) i h.1 g (omega (arith, hi)))
    in_exp (Exp.parts o p es) n i h lo hi =
        either (first_or i n lo) (here i n (exp_node (Exp.parts o p es)) h.0 h) (λ g. in_exps es (n + 1) i h.1 g (omega (arith, hi)))
    in_exp (Exp.chain e ls) n i h lo hi =
        either (first_or i n lo) (here i n (exp_node (Exp.chain e ls)) h.0 h)
        (λ g. either (less_or i (n + 1 + nodes e)) (λ l. in_exp e (n + 1) i h.1 g l)
        (λ m. in_links ls (n + 1 + nodes e) i h.2 m (omega (arith, hi))))
    in_exp (Exp.logic j e ls) n i h lo hi =
        either (first_or i n lo) (here i n (exp_node (Exp.logic j e ls)) h.0 h)
        (λ g. either (less_or i (n + 1 + nodes e)) (λ l. in_exp e (n + 1) i h.1 g l)
        (λ m. in_ands ls (n + 1 + nodes e) i h.2 m (omega (arith, hi))))
    in_exp (Exp.prefix ss e) n i h lo hi =
        either (first_or i n lo) (here i n (exp_node (Exp.prefix ss e)) h.0 h) (λ g. in_exp e (n + 1) i h.1 g (omega (arith, hi)))
    in_exp (Exp.postfix e ss) n i h lo hi =
        either (first_or i n lo) (here i n (exp_node (Exp.postfix e ss)) h.0 h)
        (λ g. either (less_or i (n + 1 + nodes e)) (λ l. in_exp e (n + 1) i h.1 g l)
        (λ m. in_steps ss (n + 1 + nodes e) i h.2 m (omega (arith, hi))))

    in_exps : (es : Exps) (n i : ℕ) → HasExps at es n → n ≤ i → i < n + exps_nodes es → Stands i
    in_exps Exps.no_exps n i h lo hi = absurd (omega (arith, lo, hi))
    in_exps (Exps.exp e es) n i h lo hi =
        either (less_or i (n + nodes e)) (λ l. in_exp e n i h.0 lo l) (λ m. in_exps es (n + nodes e) i h.1 m (omega (arith, hi)))

    in_links : (ls : Links) (n i : ℕ) → HasLinks at ls n → n ≤ i → i < n + links_nodes ls → Stands i
    in_links Links.no_links n i h lo hi = absurd (omega (arith, lo, hi))
    in_links (Links.link o p e ls) n i h lo hi =
        either (less_or i (n + nodes e)) (λ l. in_exp e n i h.0 lo l) (λ m. in_links ls (n + nodes e) i h.1 m (omega (arith, hi)))

    in_ands : (ls : Ands) (n i : ℕ) → HasAnds at ls n → n ≤ i → i < n + ands_nodes ls → Stands i
    in_ands Ands.no_ands n i h lo hi = absurd (omega (arith, lo, hi))
    in_ands (Ands.and p e ls) n i h lo hi =
        either (less_or i (n + nodes e)) (λ l. in_exp e n i h.0 lo l) (λ m. in_ands ls (n + nodes e) i h.1 m (omega (arith, hi)))

    in_steps : (ss : Steps) (n i : ℕ) → HasSteps at ss n → n ≤ i → i < n + steps_nodes ss → Stands i
    in_steps Steps.no_steps n i h lo hi = absurd (omega (arith, lo, hi))
    in_steps (Steps.index e p ss) n i h lo hi =
        either (less_or i (n + nodes e)) (λ l. in_exp e n i h.0 lo l) (λ m. in_steps ss (n + nodes e) i h.1 m (omega (arith, hi)))
    in_steps (Steps.call es p ss) n i h lo hi =
        either (less_or i (n + exps_nodes es)) (λ l. in_exps es n i h.0 lo l) (λ m. in_steps ss (n + exps_nodes es) i h.1 m (omega (arith, hi)))

  -- the block's own number, or one inside
  first_block : (b : Stms) (n i : ℕ) → at n ≡ Some (block_node b) → HasStms at b (n + 1) → n ≤ i → (n + 1 ≤ i → Stands i) → Stands i
  first_block b n i h hs lo more = either (first_or i n lo) (here i n (block_node b) h (h, hs)) more

  mutual
    in_stm : (a : Stm) (n i : ℕ) → HasStm at a n → n ≤ i → i < n + stm_nodes a → Stands i
    in_stm (Stm.set x p e) n i h lo hi =
        either (first_or i n lo) (here i n (stm_node (Stm.set x p e)) h.0 h) (λ g. in_exp e (n + 1) i h.1 g (omega (arith, hi)))
    in_stm (Stm.add x q p e) n i h lo hi =
        either (first_or i n lo) (here i n (stm_node (Stm.add x q p e)) h.0 h) (λ g. in_exp e (n + 1) i h.1 g (omega (arith, hi)))
    in_stm (Stm.put x q p k e) n i h lo hi =
        either (first_or i n lo) (here i n (stm_node (Stm.put x q p k e)) h.0 h)
        (λ g. either (less_or i (n + 1 + nodes k)) (λ l. in_exp k (n + 1) i h.1 g l)
        (λ m. in_exp e (n + 1 + nodes k) i h.2 m (omega (arith, hi))))
    in_stm (Stm.return p e) n i h lo hi =
        either (first_or i n lo) (here i n (stm_node (Stm.return p e)) h.0 h) (λ g. in_exp e (n + 1) i h.1 g (omega (arith, hi)))
    in_stm (Stm.leave p) n i h lo hi = here i n (stm_node (Stm.leave p)) h h (omega (arith, lo, hi))
    in_stm (Stm.cases p arms els) n i h lo hi =
        either (first_or i n lo) (here i n (stm_node (Stm.cases p arms els)) h.0 h)
        (λ g. either (less_or i (n + 1 + arms_nodes arms)) (λ l. in_arms arms (n + 1) i h.1 g l)
        (λ m. in_else els (n + 1 + arms_nodes arms) i h.2 m (omega (arith, hi))))
    in_stm (Stm.while p e b) n i h lo hi =
        either (first_or i n lo) (here i n (stm_node (Stm.while p e b)) h.0 h)
        (λ g. either (less_or i (n + 1 + nodes e)) (λ l. in_exp e (n + 1) i h.1 g l)
        (λ m. first_block b (n + 1 + nodes e) i h.2 h.3 m (λ k. in_stms b (n + 1 + nodes e + 1) i h.3 k (omega (arith, hi)))))
    in_stm (Stm.repeat p b e) n i h lo hi =
        either (first_or i n lo) (here i n (stm_node (Stm.repeat p b e)) h.0 h)
        (λ g. either (less_or i (n + 1 + block_nodes b))
        (λ l. first_block b (n + 1) i h.2 h.3 g (λ k. in_stms b (n + 1 + 1) i h.3 k (omega (arith, l))))
        (λ m. in_exp e (n + 1 + block_nodes b) i h.1 m (omega (arith, hi))))
    in_stm (Stm.for p x e b) n i h lo hi =
        either (first_or i n lo) (here i n (stm_node (Stm.for p x e b)) h.0 h)
        (λ g. either (less_or i (n + 1 + nodes e)) (λ l. in_exp e (n + 1) i h.1 g l)
        (λ m. first_block b (n + 1 + nodes e) i h.2 h.3 m (λ k. in_stms b (n + 1 + nodes e + 1) i h.3 k (omega (arith, hi)))))
    in_stm (Stm.just p e) n i h lo hi =
        either (first_or i n lo) (here i n (stm_node (Stm.just p e)) h.0 h) (λ g. in_exp e (n + 1) i h.1 g (omega (arith, hi)))

    in_stms : (b : Stms) (n i : ℕ) → HasStms at b n → n ≤ i → i < n + stms_nodes b → Stands i
    in_stms Stms.no_stms n i h lo hi = absurd (omega (arith, lo, hi))
    in_stms (Stms.stm a more) n i h lo hi =
        either (less_or i (n + stm_nodes a)) (λ l. in_stm a n i h.0 lo l) (λ m. in_stms more (n + stm_nodes a) i h.1 m (omega (arith, hi)))

    in_arms : (arms : Arms) (n i : ℕ) → HasArms at arms n → n ≤ i → i < n + arms_nodes arms → Stands i
    in_arms Arms.no_arms n i h lo hi = absurd (omega (arith, lo, hi))
    in_arms (Arms.arm p e b arms) n i h lo hi =
        either (less_or i (n + nodes e)) (λ l. in_exp e n i h.0 lo l)
        (λ m. either (less_or i (n + nodes e + block_nodes b))
        (λ l. first_block b (n + nodes e) i h.1 h.2 m (λ k. in_stms b (n + nodes e + 1) i h.2 k (omega (arith, l))))
        (λ k. in_arms arms (n + nodes e + block_nodes b) i h.3 k (omega (arith, hi))))

    in_else : (els : Else) (n i : ℕ) → HasElse at els n → n ≤ i → i < n + else_nodes els → Stands i
    in_else Else.no_else n i h lo hi = absurd (omega (arith, lo, hi))
    in_else (Else.otherwise b) n i h lo hi = first_block b n i h.0 h.1 lo (λ k. in_stms b (n + 1) i h.1 k (omega (arith, hi)))

  in_block : (b : Stms) (n i : ℕ) → at n ≡ Some (block_node b) → HasStms at b (n + 1) → n ≤ i → i < n + block_nodes b → Stands i
  in_block b n i h hs lo hi = first_block b n i h hs lo (λ k. in_stms b (n + 1) i hs k (omega (arith, hi)))

  in_funs : (fs : List FunDef) (n i : ℕ) → HasFuns at fs n → n ≤ i → i < n + funs_nodes fs → Stands i
  in_funs [] n i h lo hi = absurd (omega (arith, lo, hi))
  in_funs (f ∷ fs) n i h lo hi =
      either (less_or i (n + block_nodes f.body)) (λ l. in_block f.body n i h.0.0 h.0.1 lo l)
      (λ m. in_funs fs (n + block_nodes f.body) i h.1 m (omega (arith, hi)))

-- at each number of a script
pub stands : (sc : Script) (i : ℕ) (t : Node) → node_at sc i ≡ Some t → HasNode (λ k. node_at sc k) t i
unfolding Stands
stands sc i t e =
    let at = λ (k : ℕ). node_at sc k in
    let has = has_script sc in
    let few : i < script_nodes sc = omega (arith, place_in (pre_script sc) i t e, script_count sc) in
    either (less_or i (block_nodes sc.main)) (λ l. in_block at sc.main 0 i has.0.0 has.0.1 (omega arith) (omega (arith, l)))
    (λ m. in_funs at sc.funs (block_nodes sc.main) i has.1 m (omega (arith, few))) t e
