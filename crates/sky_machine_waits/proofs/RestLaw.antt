-- From forms under way that follow each other as a saved stack does, each opened by what is saved of it, a run goes on with such
-- forms at each of its waits.
use Rattle.std.proofs.Common.{◌≡◌, ℕ, zero, suc, ◌+◌, inl, inr, ◌⊎◌, ⊎_elim, List, [], ◌∷◌, ◌++◌, reverse, Option, Some, None, refl, sym, ap, ◌∙◌}
use Rattle.std.proofs.Common.{subst}
use Rattle.sky_base.specs.Val.{Pairs}
use Rattle.sky_base.specs.Tree.{Place, Sign, SignAt, Form, Exp, Exps, Links, Ands, Stm, Stms, Arms, Else, nodes, block_nodes, arms_nodes}
use Rattle.sky_base.specs.Res.{End, St, Entry, Res, Fin, Tell, Ask, node_of, step_of, kept_of, opens}
use Rattle.sky_base.specs.Eval.{World, Body, body_of, body_at, after, inside, plug}
use Rattle.sky_base.specs.Read.{Halt, first_halt}
use Rattle.sky_base_law.specs.Opened.{Node, exp_node, stm_node, block_node, Opened, HasExp, HasStm, HasStms, HasArms, HasElse}
use Rattle.sky_base_law.specs.Nodes.{node_at}
use Rattle.sky_base_law.specs.Tasks.{In}
use Rattle.sky_machine_code.proofs.Bodies.{own_exp}
use Rattle.sky_machine_numbers.specs.Standing.{HasNode}
use Rattle.sky_machine_numbers.proofs.Inside.{stands}
use Rattle.sky_state.specs.Table.{Row, part, turn, star, outputs, open_call, no_step, on_by, past_part, past_link, past_and, past_arm, past_stm}
use Rattle.sky_state.specs.Table.{past_sign, Spot, finished, in_index, in_call, spot_of, past_spot, parts_row, part_row, link_row, and_row, sign_is}
use Rattle.sky_state.specs.Table.{sign_row, spot_row, exp_row, arm_row, arm_blocks, else_block, stm_row, stm_places, ran_row, block_row, row, places}
use Rattle.sky_state.specs.Table.{IsStep}
use Rattle.sky_state.specs.Chained.{body_places, row_at, KeptBy, Above, Chained, AllOpened}
use Rattle.sky_state.proofs.LinkLaw.{block_of_body, Linked, linked_then}
use Rattle.sky_machine_waits.proofs.AfterLaw.{PartsAt, LinksAt, AndsAt, ArmsAt, StmsAt, SpotAt, part_has, link_has, and_has, arm_has, stm_has, spot_at}
use Rattle.sky_machine_waits.proofs.AfterLaw.{spot_has, past_has, HoldsArms, AfterLinked, form_goes}

-- ---- the nodes on which a form stands hold the blocks of each `if` among them

module _ (at : ℕ → Option Node) where
  abbrev NoStm : ℕ → Type 0
  NoStm m = (a : Stm) → at m ≡ Some (stm_node a) → ⊥

  none_holds : HoldsArms at []
  none_holds n p arms els i here x j = absurd i

  one_holds : (m : ℕ) → NoStm m → HoldsArms at (m ∷ [])
  one_holds m apart n p arms els (inl e) here x j =
      absurd (apart (Stm.cases p arms els) (subst (λ i. at i ≡ Some (stm_node (Stm.cases p arms els))) e here))
  one_holds m apart n p arms els (inr i) here x j = absurd i

  exp_no : (e : Exp) (m : ℕ) → HasExp at e m → NoStm m
  exp_no e m h a is = apart e a (sym (own_exp at e m h) ∙ is)
    where
      apart : (e : Exp) (a : Stm) → Some (exp_node e) ≡ Some (stm_node a) → ⊥
      apart e a i = cc

  block_no : (b : Stms) (m : ℕ) → at m ≡ Some (block_node b) → NoStm m
  block_no b m h a is = apart b a (sym h ∙ is)
    where
      apart : (b : Stms) (a : Stm) → Some (block_node b) ≡ Some (stm_node a) → ⊥
      apart b a i = cc

  -- ---- expressions

  parts_hold : (o : Form) (i : ℕ) → HoldsArms at (places (parts_row o i))
  parts_hold Form.list i = none_holds
  parts_hold Form.dict i = none_holds
  parts_hold Form.spawn i = none_holds
  parts_hold Form.spawn_exec i = none_holds
  parts_hold Form.exec zero = none_holds
  parts_hold Form.exec (suc zero) = none_holds
  parts_hold Form.exec (suc (suc zero)) = none_holds
  parts_hold Form.exec (suc (suc (suc zero))) = none_holds
  parts_hold Form.exec (suc (suc (suc (suc i)))) = none_holds
  parts_hold Form.ref i = none_holds
  parts_hold Form.len i = none_holds
  parts_hold Form.keys i = none_holds
  parts_hold Form.has i = none_holds
  parts_hold Form.range i = none_holds

  part_holds : (o : Form) (i : ℕ) (x y : ℕ × Exps) (z : Option (ℕ × Exps)) → on_by past_part i x ≡ z → PartsAt at x
      → HoldsArms at (places (part_row o i z))
  part_holds o i x y None e h = none_holds
  part_holds o i x y (Some (m, Exps.no_exps)) e h = parts_hold o i
  part_holds o i x y (Some (m, Exps.exp a es)) e h =
      one_holds m (exp_no a m (past_has (PartsAt at) past_part (part_has at) i x (m, Exps.exp a es) e h).0)

  link_holds : (i : ℕ) (x : ℕ × Links) (z : Option (ℕ × Links)) → on_by past_link i x ≡ z → LinksAt at x → HoldsArms at (places (link_row z))
  link_holds i x None e h = none_holds
  link_holds i x (Some (m, Links.no_links)) e h = none_holds
  link_holds i x (Some (m, Links.link o p a ls)) e h =
      one_holds m (exp_no a m (past_has (LinksAt at) past_link (link_has at) i x (m, Links.link o p a ls) e h).0)

  and_holds : (i : ℕ) (x : ℕ × Ands) (z : Option (ℕ × Ands)) → on_by past_and i x ≡ z → AndsAt at x → HoldsArms at (places (and_row z))
  and_holds i x None e h = none_holds
  and_holds i x (Some (m, Ands.no_ands)) e h = none_holds
  and_holds i x (Some (m, Ands.and p a ls)) e h =
      one_holds m (exp_no a m (past_has (AndsAt at) past_and (and_has at) i x (m, Ands.and p a ls) e h).0)

  sign_holds : (z : Option (List SignAt)) → HoldsArms at (places (sign_row z))
  sign_holds None = none_holds
  sign_holds (Some []) = none_holds
  sign_holds (Some (s ∷ ss)) = go s.sign
    where
      go : (x : Sign) → HoldsArms at (places (sign_is x))
      go Sign.not = none_holds
      go Sign.minus = none_holds
      go Sign.star = none_holds

  spot_holds : (i : ℕ) (x : Spot) (z : Option Spot) → on_by past_spot i x ≡ z → SpotAt at x → HoldsArms at (places (spot_row z))
  spot_holds i x None e h = none_holds
  spot_holds i x (Some finished) e h = none_holds
  spot_holds i x (Some (in_index m a p ss)) e h =
      one_holds m (exp_no a m (past_has (SpotAt at) past_spot (spot_has at) i x (in_index m a p ss) e h).0)
  spot_holds i x (Some (in_call m j Exps.no_exps p ss)) e h = none_holds
  spot_holds i x (Some (in_call m j (Exps.exp a es) p ss)) e h =
      one_holds m (exp_no a m (past_has (SpotAt at) past_spot (spot_has at) i x (in_call m j (Exps.exp a es) p ss) e h).0.0)

  exp_holds : (x : Exp) (n k : ℕ) → HasExp at x n → HoldsArms at (places (exp_row x n k))
  exp_holds (Exp.literal l p) n k h = none_holds
  exp_holds (Exp.name x p) n k h = none_holds
  exp_holds (Exp.func x p) n k h = none_holds
  exp_holds (Exp.parens e) n zero h = none_holds
  exp_holds (Exp.parens e) n (suc zero) h = one_holds (n + 1) (exp_no e (n + 1) h.1)
  exp_holds (Exp.parens e) n (suc (suc k)) h = none_holds
  exp_holds (Exp.parts o p es) n zero h = none_holds
  exp_holds (Exp.parts o p es) n (suc i) h = part_holds o i (n + 1, es) (n + 1, es) (on_by past_part i (n + 1, es)) refl h.1
  exp_holds (Exp.chain e ls) n zero h = none_holds
  exp_holds (Exp.chain e ls) n (suc zero) h = one_holds (n + 1) (exp_no e (n + 1) h.1)
  exp_holds (Exp.chain e ls) n (suc (suc i)) h = link_holds i (n + 1 + nodes e, ls) (on_by past_link i (n + 1 + nodes e, ls)) refl h.2
  exp_holds (Exp.logic j e ls) n zero h = none_holds
  exp_holds (Exp.logic j e ls) n (suc zero) h = one_holds (n + 1) (exp_no e (n + 1) h.1)
  exp_holds (Exp.logic j e ls) n (suc (suc i)) h = and_holds i (n + 1 + nodes e, ls) (on_by past_and i (n + 1 + nodes e, ls)) refl h.2
  exp_holds (Exp.prefix ss e) n zero h = none_holds
  exp_holds (Exp.prefix ss e) n (suc zero) h = one_holds (n + 1) (exp_no e (n + 1) h.1)
  exp_holds (Exp.prefix ss e) n (suc (suc i)) h = sign_holds (on_by past_sign i (reverse ss))
  exp_holds (Exp.postfix e ss) n zero h = none_holds
  exp_holds (Exp.postfix e ss) n (suc zero) h = one_holds (n + 1) (exp_no e (n + 1) h.1)
  exp_holds (Exp.postfix e ss) n (suc (suc i)) h =
      spot_holds i (spot_of (n + 1 + nodes e) ss) (on_by past_spot i (spot_of (n + 1 + nodes e) ss)) refl (spot_at at (n + 1 + nodes e) ss h.2)

  -- ---- statements and blocks

  arm_holds : (i : ℕ) (x : ℕ × Arms) (z : Option (ℕ × Arms)) → on_by past_arm i x ≡ z → ArmsAt at x → HoldsArms at (places (arm_row z))
  arm_holds i x None e h = none_holds
  arm_holds i x (Some (m, Arms.no_arms)) e h = none_holds
  arm_holds i x (Some (m, Arms.arm p a b arms)) e h =
      one_holds m (exp_no a m (past_has (ArmsAt at) past_arm (arm_has at) i x (m, Arms.arm p a b arms) e h).0)

  stm_holds : (x : Stm) (n k : ℕ) → HasStm at x n → HoldsArms at (places (stm_row x n k))
  stm_holds (Stm.set x p e) n zero h = none_holds
  stm_holds (Stm.set x p e) n (suc zero) h = one_holds (n + 1) (exp_no e (n + 1) h.1)
  stm_holds (Stm.set x p e) n (suc (suc k)) h = none_holds
  stm_holds (Stm.add x q p e) n zero h = none_holds
  stm_holds (Stm.add x q p e) n (suc zero) h = one_holds (n + 1) (exp_no e (n + 1) h.1)
  stm_holds (Stm.add x q p e) n (suc (suc k)) h = none_holds
  stm_holds (Stm.put x q p i e) n zero h = none_holds
  stm_holds (Stm.put x q p i e) n (suc zero) h = one_holds (n + 1) (exp_no i (n + 1) h.1)
  stm_holds (Stm.put x q p i e) n (suc (suc zero)) h = one_holds (n + 1 + nodes i) (exp_no e (n + 1 + nodes i) h.2)
  stm_holds (Stm.put x q p i e) n (suc (suc (suc k))) h = none_holds
  stm_holds (Stm.return p e) n zero h = none_holds
  stm_holds (Stm.return p e) n (suc zero) h = one_holds (n + 1) (exp_no e (n + 1) h.1)
  stm_holds (Stm.return p e) n (suc (suc k)) h = none_holds
  stm_holds (Stm.leave p) n k h = none_holds
  stm_holds (Stm.cases p arms els) n zero h = none_holds
  stm_holds (Stm.cases p arms els) n (suc i) h = arm_holds i (n + 1, arms) (on_by past_arm i (n + 1, arms)) refl h.1
  stm_holds (Stm.while p e b) n zero h = none_holds
  stm_holds (Stm.while p e b) n (suc zero) h = one_holds (n + 1) (exp_no e (n + 1) h.1)
  stm_holds (Stm.while p e b) n (suc (suc zero)) h = one_holds (n + 1 + nodes e) (block_no b (n + 1 + nodes e) h.2)
  stm_holds (Stm.while p e b) n (suc (suc (suc k))) h = none_holds
  stm_holds (Stm.repeat p b e) n zero h = none_holds
  stm_holds (Stm.repeat p b e) n (suc zero) h = one_holds (n + 1) (block_no b (n + 1) h.2)
  stm_holds (Stm.repeat p b e) n (suc (suc zero)) h = one_holds (n + 1 + block_nodes b) (exp_no e (n + 1 + block_nodes b) h.1)
  stm_holds (Stm.repeat p b e) n (suc (suc (suc k))) h = none_holds
  stm_holds (Stm.for p x e b) n zero h = none_holds
  stm_holds (Stm.for p x e b) n (suc zero) h = one_holds (n + 1) (exp_no e (n + 1) h.1)
  stm_holds (Stm.for p x e b) n (suc (suc zero)) h = one_holds (n + 1 + nodes e) (block_no b (n + 1 + nodes e) h.2)
  stm_holds (Stm.for p x e b) n (suc (suc (suc k))) h = none_holds
  stm_holds (Stm.just p e) n zero h = none_holds
  stm_holds (Stm.just p e) n (suc zero) h = one_holds (n + 1) (exp_no e (n + 1) h.1)
  stm_holds (Stm.just p e) n (suc (suc k)) h = none_holds

  -- the blocks of arms are no statements
  arms_no : (m : ℕ) (arms : Arms) → HasArms at arms m → (x : ℕ) → In x (arm_blocks m arms) → NoStm x
  arms_no m Arms.no_arms h x i = absurd i
  arms_no m (Arms.arm p e b arms) h x (inl is) = subst NoStm (sym is) (block_no b (m + nodes e) h.1)
  arms_no m (Arms.arm p e b arms) h x (inr i) = arms_no (m + nodes e + block_nodes b) arms h.3 x i

  else_no : (m : ℕ) (els : Else) → HasElse at els m → (x : ℕ) → In x (else_block m els) → NoStm x
  else_no m Else.no_else h x i = absurd i
  else_no m (Else.otherwise b) h x (inl is) = subst NoStm (sym is) (block_no b m h.0)
  else_no m (Else.otherwise b) h x (inr i) = absurd i

  in_either : (x : ℕ) (xs ys : List ℕ) → In x (xs ++ ys) → In x xs ⊎ In x ys
  in_either x [] ys i = inr i
  in_either x (z ∷ xs) ys (inl e) = inl (inl e)
  in_either x (z ∷ xs) ys (inr i) = ⊎_elim (λ j. inl (inr j)) (λ j. inr j) (in_either x xs ys i)

  cases_hold : (q : Place) (arms : Arms) (els : Else) (m : ℕ) → HasStm at (Stm.cases q arms els) m
      → HoldsArms at (stm_places m (Stm.cases q arms els))
  cases_hold q arms els m h n p arms' els' (inl is) here x j = inr (blocks (same (sym (sym (ap at is) ∙ here) ∙ h.0)) j)
    where
      same : Some (stm_node (Stm.cases p arms' els')) ≡ Some (stm_node (Stm.cases q arms els)) → (arms' ≡ arms) × (els' ≡ els)
      same e = (cc, cc)

      blocks : (arms' ≡ arms) × (els' ≡ els) → In x (arm_blocks (n + 1) arms' ++ else_block (n + 1 + arms_nodes arms') els')
          → In x (arm_blocks (m + 1) arms ++ else_block (m + 1 + arms_nodes arms) els)
      blocks s i =
          subst (λ k. In x (arm_blocks (k + 1) arms ++ else_block (k + 1 + arms_nodes arms) els)) is
          (subst (λ e. In x (arm_blocks (n + 1) arms ++ else_block (n + 1 + arms_nodes arms) e)) s.1
          (subst (λ a. In x (arm_blocks (n + 1) a ++ else_block (n + 1 + arms_nodes a) els')) s.0 i))
  cases_hold q arms els m h n p arms' els' (inr i) here x j =
      absurd (⊎_elim (λ k. arms_no (m + 1) arms h.1 n k (Stm.cases p arms' els') here)
      (λ k. else_no (m + 1 + arms_nodes arms) els h.2 n k (Stm.cases p arms' els') here)
      (in_either n (arm_blocks (m + 1) arms) (else_block (m + 1 + arms_nodes arms) els) i))

  alone : (a : Stm) (m : ℕ) → at m ≡ Some (stm_node a) → ((p : Place) (arms : Arms) (els : Else) → a ≡ Stm.cases p arms els → ⊥)
      → HoldsArms at (m ∷ [])
  alone a m h other n p arms els (inl is) here x j = absurd (other p arms els (same (sym h ∙ sym (ap at is) ∙ here)))
    where
      same : Some (stm_node a) ≡ Some (stm_node (Stm.cases p arms els)) → a ≡ Stm.cases p arms els
      same e = cc
  alone a m h other n p arms els (inr i) here x j = absurd i

  places_hold : (a : Stm) (m : ℕ) → HasStm at a m → HoldsArms at (stm_places m a)
  places_hold (Stm.set x p e) m h = alone (Stm.set x p e) m h.0 (λ q arms els i. absurd cc)
  places_hold (Stm.add x q p e) m h = alone (Stm.add x q p e) m h.0 (λ o arms els i. absurd cc)
  places_hold (Stm.put x q p i e) m h = alone (Stm.put x q p i e) m h.0 (λ o arms els j. absurd cc)
  places_hold (Stm.return p e) m h = alone (Stm.return p e) m h.0 (λ q arms els i. absurd cc)
  places_hold (Stm.leave p) m h = alone (Stm.leave p) m h (λ q arms els i. absurd cc)
  places_hold (Stm.cases p arms els) m h = cases_hold p arms els m h
  places_hold (Stm.while p e b) m h = alone (Stm.while p e b) m h.0 (λ q arms els i. absurd cc)
  places_hold (Stm.repeat p b e) m h = alone (Stm.repeat p b e) m h.0 (λ q arms els i. absurd cc)
  places_hold (Stm.for p x e b) m h = alone (Stm.for p x e b) m h.0 (λ q arms els i. absurd cc)
  places_hold (Stm.just p e) m h = alone (Stm.just p e) m h.0 (λ q arms els i. absurd cc)

  ran_holds : (i : ℕ) (x : ℕ × Stms) (z : Option (ℕ × Stms)) → on_by past_stm i x ≡ z → StmsAt at x → HoldsArms at (places (ran_row z))
  ran_holds i x None e h = none_holds
  ran_holds i x (Some (m, Stms.no_stms)) e h = none_holds
  ran_holds i x (Some (m, Stms.stm a more)) e h =
      places_hold a m (past_has (StmsAt at) past_stm (stm_has at) i x (m, Stms.stm a more) e h).0

  block_holds : (b : Stms) (n k : ℕ) → HasStms at b (n + 1) → HoldsArms at (places (block_row b n k))
  block_holds b n zero h = none_holds
  block_holds b n (suc i) h = ran_holds i (n + 1, b) (on_by past_stm i (n + 1, b)) refl h

  row_holds : (t : Node) (n k : ℕ) → HasNode at t n → HoldsArms at (places (row (Some t) n k))
  row_holds (exp_node x) n k h = exp_holds x n k h
  row_holds (stm_node x) n k h = stm_holds x n k h
  row_holds (block_node b) n k h = block_holds b n k h.1

-- ---- the rest

module _ {N : Type 0} (w : World N) where
  abbrev At : ℕ → Option Node
  At i = node_at w.script i

  abbrev Chain : List ℕ → List (Entry N) → Type 0
  Chain ps fr = Chained w.script At ps fr

  body_holds : (f : List ℕ) → HoldsArms At (body_places (body_of f w.script))
  body_holds f = go (body_of f w.script) refl
    where
      go : (o : Option Body) → body_of f w.script ≡ o → HoldsArms At (body_places o)
      go None e = none_holds At
      go (Some b) e = one_holds At b.node (block_no At b.block b.node (block_of_body w.script f b e))

  -- what stands above a form that doesn't wait, and that any such may stand there
  pub record Further (r : Row) (o : Option (List ℕ × Pairs N)) (fr : List (Entry N)) : Type 0 where
    pub nodes : List ℕ
    pub hold : HoldsArms At nodes
    pub chained : Chain nodes fr
    pub other : (gr : List (Entry N)) → Chain nodes gr → Above w.script At r o (gr ≡ []) (λ ms. Chain ms gr)

  further : (r : Row) (o : Option (List ℕ × Pairs N)) (fr : List (Entry N)) → HoldsArms At (places r) → (fr ≡ [] → ⊥)
      → Above w.script At r o (fr ≡ []) (λ ms. Chain ms fr) → Further r o fr
  further (part k ms) None fr hold some h = record { nodes = ms; hold = hold; chained = h; other = λ gr g. g }
  further (part k ms) (Some c) fr hold some h = absurd h
  further (turn m) None fr hold some h = record { nodes = m ∷ []; hold = hold; chained = h; other = λ gr g. g }
  further (turn m) (Some c) fr hold some h = absurd h
  further star None fr hold some h = absurd (some h)
  further star (Some c) fr hold some h = absurd h
  further outputs None fr hold some h = absurd (some h)
  further outputs (Some c) fr hold some h = absurd h
  further open_call None fr hold some h = absurd h
  further open_call (Some c) fr hold some h =
      record { nodes = body_places (body_of c.0 w.script); hold = body_holds c.0; chained = h.1; other = λ gr g. (h.0, g) }
  further no_step None fr hold some h = absurd h
  further no_step (Some c) fr hold some h = absurd h

  is_step : (r : Row) (o : Option (List ℕ × Pairs N)) (fr : List (Entry N)) → Above w.script At r o (fr ≡ []) (λ ms. Chain ms fr) → IsStep r
  is_step (part k ms) o fr h = tt
  is_step (turn m) o fr h = tt
  is_step star o fr h = tt
  is_step outputs o fr h = tt
  is_step open_call o fr h = tt
  is_step no_step None fr h = h
  is_step no_step (Some c) fr h = h

  -- a form goes on linked, whatever end its part has
  goes : (d : ℕ) (en : Entry N) (fr : List (Entry N)) (ps : List ℕ) → HoldsArms At ps → Chain ps (en ∷ fr) → Opened At en → AfterLinked w d ps en
  goes d en fr ps hold c (t, here, is) =
      form_goes w d (opens en) t (node_of en) (step_of en) here (kept_of en)
      (subst (λ x. IsStep (row x (node_of en) (step_of en))) here (is_step (row_at w.script At en) (opens en) fr c.2))
      (subst (λ x. KeptBy w.script At (row x (node_of en) (step_of en)) (kept_of en)) here c.1) en is ps c.0 hold

  holds_at : (en : Entry N) → Opened At en → HoldsArms At (places (row_at w.script At en))
  holds_at en (t, here, is) =
      subst (λ x. HoldsArms At (places (row x (node_of en) (step_of en)))) (sym here)
      (row_holds At t (node_of en) (step_of en) (stands w.script (node_of en) t here))

  some_more : (x : Entry N) (fr : List (Entry N)) → (x ∷ fr) ≡ [] → ⊥
  some_more x fr e = cc

  rest_linked : (d : ℕ) (fr : List (Entry N)) (ps : List ℕ) → HoldsArms At ps → Chain ps fr → AllOpened At fr → (e : End N) (st : St N)
      → Linked w At ps (plug w d fr (Fin e st))
  rest_linked d [] ps hold c o e st = absurd c
  rest_linked d (en ∷ []) ps hold c o e st = goes d en [] ps hold c o.0 e st
  rest_linked d (en ∷ x ∷ fr) ps hold c o e st =
      let up = further (row_at w.script At en) (opens en) (x ∷ fr) (holds_at en o.0) (some_more x fr) c.2 in
      linked_then w At ps up.nodes (plug w (inside w en d) (x ∷ fr) (Fin e st)) en (after w (body_at w d) en) (λ gr g. (c.0, c.1, up.other gr g))
      (rest_linked (inside w en d) (x ∷ fr) up.nodes up.hold up.chained o.1 e st) (goes d en (x ∷ fr) ps hold c o.0)

  at_halt : (ps : List ℕ) (r : Res N) (h : Halt N) → Linked w At ps r → first_halt r ≡ Some h → Chain ps h.forms
  at_halt ps (Fin e st) h l is = absurd cc
  at_halt ps (Tell d r) h l is = at_halt ps r h l.1 is
  at_halt ps (Ask q fr st k) h l is = let same : fr ≡ h.forms = cc in subst (Chain ps) same l.0

  -- from the block of a body on
  pub rest_chained : (d : ℕ) (f : List ℕ) (fr : List (Entry N)) (e : End N) (st : St N) (h : Halt N)
      → Chain (body_places (body_of f w.script)) fr → AllOpened At fr → first_halt (plug w d fr (Fin e st)) ≡ Some h
      → Chain (body_places (body_of f w.script)) h.forms
  rest_chained d f fr e st h c o is =
      at_halt (body_places (body_of f w.script)) (plug w d fr (Fin e st)) h
      (rest_linked d fr (body_places (body_of f w.script)) (body_holds f) c o e st) is
