-- One step of a walk over the parts of a form, and its end.
use Rattle.std.proofs.Common.{◌≡◌, ◌<◌, ◌≤◌, ◌+◌, ◌-◌, ℕ, zero, suc, List, [], ◌∷◌, length, Option, None, true, refl, sym, ap, ◌∙◌, subst, arith}
use Rattle.std.proofs.Common.{add-one}
use Rattle.sky_base.specs.Val.{Val, Pairs}
use Rattle.sky_base.specs.Tree.{Place, Oper, Junction, Form, Exp, Exps, Links, Ands, Steps, Stms, Arms, Else, nodes, block_nodes}
use Rattle.sky_base.specs.Tree.{arms_nodes}
use Rattle.sky_base_law.specs.Opened.{Node, Pos, finished, in_index, in_args, HasExp, HasExps, HasLinks, HasAnds, HasSteps, HasArms}
use Rattle.sky_base_law.specs.Opened.{next_part, next_link, next_and, next_arm, enter_pos, next_pos, times, part_open, link_open, and_open}
use Rattle.sky_base_law.specs.Opened.{pos_open, arm_open, chain_open, logic_open, postfix_open, form_open, cases_open}
use Rattle.sky_base.specs.TreeView.{ands_view}
use Rattle.sky_base.specs.StmtView.{arms_view}
use Rattle.sky_base.specs.declared.tree.Join.{Join}
use Rattle.sky_base.specs.declared.stmt.Arm.{Arm}
use Rattle.sky_machine_open.specs.Spots.{HasPos, is_finished}
use Rattle.sky_machine_open.proofs.Walks.{times_stay}

-- ---- one step more, and where nothing is left

pub part_step : (i m next : ℕ) (x : ℕ × Exps) (e : Exp) (xs es : Exps) → times next_part i x ≡ (m, xs) → xs ≡ Exps.exp e es → next ≡ m + nodes e
    → times next_part (i + 1) x ≡ (next, es)
part_step i m next x e xs es h g f = rw add-one (ap next_part h ∙ ap (λ y. next_part (m, y)) g ∙ ap (λ k. (k, es)) (sym f))

pub part_stop : (i k m : ℕ) (x : ℕ × Exps) (xs : Exps) → times next_part i x ≡ (m, xs) → xs ≡ Exps.no_exps → i ≤ k → times next_part k x
    ≡ (m, Exps.no_exps)
part_stop i k m x xs h g le = times_stay next_part x (m, Exps.no_exps) i k (h ∙ ap (λ y. (m, y)) g) refl le

pub link_step : (i m next : ℕ) (x : ℕ × Links) (o : Oper) (p : Place) (e : Exp) (xs ls : Links) → times next_link i x ≡ (m, xs) → xs
    ≡ Links.link o p e ls → next ≡ m + nodes e → times next_link (i + 1) x ≡ (next, ls)
link_step i m next x o p e xs ls h g f = rw add-one (ap next_link h ∙ ap (λ y. next_link (m, y)) g ∙ ap (λ k. (k, ls)) (sym f))

pub link_stop : (i k m : ℕ) (x : ℕ × Links) (xs : Links) → times next_link i x ≡ (m, xs) → xs ≡ Links.no_links → i ≤ k → times next_link k x
    ≡ (m, Links.no_links)
link_stop i k m x xs h g le = times_stay next_link x (m, Links.no_links) i k (h ∙ ap (λ y. (m, y)) g) refl le

pub and_step : (i m next : ℕ) (x : ℕ × Ands) (p : Place) (e : Exp) (xs ls : Ands) → times next_and i x ≡ (m, xs) → xs ≡ Ands.and p e ls → next
    ≡ m + nodes e → times next_and (i + 1) x ≡ (next, ls)
and_step i m next x p e xs ls h g f = rw add-one (ap next_and h ∙ ap (λ y. next_and (m, y)) g ∙ ap (λ k. (k, ls)) (sym f))

pub and_stop : (i k m : ℕ) (x : ℕ × Ands) (xs : Ands) → times next_and i x ≡ (m, xs) → xs ≡ Ands.no_ands → i ≤ k → times next_and k x ≡ (m, xs)
and_stop i k m x xs h g le = times_stay next_and x (m, xs) i k h (ap (λ y. next_and (m, y)) g ∙ ap (λ y. (m, y)) (sym g)) le

pub arm_step : (i m next : ℕ) (x : ℕ × Arms) (p : Place) (e : Exp) (b : Stms) (xs more : Arms) → times next_arm i x ≡ (m, xs) → xs
    ≡ Arms.arm p e b more → next ≡ m + nodes e + block_nodes b → times next_arm (i + 1) x ≡ (next, more)
arm_step i m next x p e b xs more h g f = rw add-one (ap next_arm h ∙ ap (λ y. next_arm (m, y)) g ∙ ap (λ k. (k, more)) (sym f))

pub arm_stop : (i k m : ℕ) (x : ℕ × Arms) (xs : Arms) → times next_arm i x ≡ (m, xs) → xs ≡ Arms.no_arms → i ≤ k → times next_arm k x ≡ (m, xs)
arm_stop i k m x xs h g le = times_stay next_arm x (m, xs) i k h (ap (λ y. next_arm (m, y)) g ∙ ap (λ y. (m, y)) (sym g)) le

pub pos_step : (i : ℕ) (x y z : Pos) → y ≡ times next_pos i x → z ≡ next_pos y → z ≡ times next_pos (i + 1) x
pos_step i x y z h g = rw add-one (g ∙ ap next_pos h)

-- ---- the nodes of what is left

module _ (at : ℕ → Option Node) where
  pub parts_left : (m next : ℕ) (e : Exp) (xs es : Exps) → xs ≡ Exps.exp e es → next ≡ m + nodes e → HasExps at xs m → HasExps at es next
  parts_left m next e xs es g f h = subst (HasExps at es) (sym f) (subst (λ y. HasExps at y m) g h).1

  pub part_has : (m : ℕ) (e : Exp) (xs es : Exps) → xs ≡ Exps.exp e es → HasExps at xs m → HasExp at e m
  part_has m e xs es g h = (subst (λ y. HasExps at y m) g h).0

  pub links_left : (m next : ℕ) (o : Oper) (p : Place) (e : Exp) (xs ls : Links) → xs ≡ Links.link o p e ls → next ≡ m + nodes e
      → HasLinks at xs m → HasLinks at ls next
  links_left m next o p e xs ls g f h = subst (HasLinks at ls) (sym f) (subst (λ y. HasLinks at y m) g h).1

  pub link_has : (m : ℕ) (o : Oper) (p : Place) (e : Exp) (xs ls : Links) → xs ≡ Links.link o p e ls → HasLinks at xs m → HasExp at e m
  link_has m o p e xs ls g h = (subst (λ y. HasLinks at y m) g h).0

  pub ands_left : (m next : ℕ) (p : Place) (e : Exp) (xs ls : Ands) → xs ≡ Ands.and p e ls → next ≡ m + nodes e → HasAnds at xs m → HasAnds at ls next
  ands_left m next p e xs ls g f h = subst (HasAnds at ls) (sym f) (subst (λ y. HasAnds at y m) g h).1

  pub and_has : (m : ℕ) (p : Place) (e : Exp) (xs ls : Ands) → xs ≡ Ands.and p e ls → HasAnds at xs m → HasExp at e m
  and_has m p e xs ls g h = (subst (λ y. HasAnds at y m) g h).0

  pub arms_left : (m next : ℕ) (p : Place) (e : Exp) (b : Stms) (xs more : Arms) → xs ≡ Arms.arm p e b more → next ≡ m + nodes e + block_nodes b
      → HasArms at xs m → HasArms at more next
  arms_left m next p e b xs more g f h = subst (HasArms at more) (sym f) (subst (λ y. HasArms at y m) g h).3

  pub enter_has : (m : ℕ) (ss : Steps) → HasSteps at ss m → HasPos at (enter_pos m ss)
  enter_has m Steps.no_steps h = tt
  enter_has m (Steps.index e p ss) h = h
  enter_has m (Steps.call es p ss) h = h

  pub enters_has : (m : ℕ) (ss : Steps) (x : Pos) → x ≡ enter_pos m ss → HasSteps at ss m → HasPos at x
  enters_has m ss x e h = subst (HasPos at) (sym e) (enter_has m ss h)

  pub next_has : (x : Pos) → HasPos at x → HasPos at (next_pos x)
  next_has finished h = tt
  next_has (in_index m e p ss) h = enter_has (m + nodes e) ss h.1
  next_has (in_args m Exps.no_exps p ss) h = enter_has m ss (subst (HasSteps at ss) (omega arith) h.1)
  next_has (in_args m (Exps.exp e es) p ss) h = (h.0.1, subst (HasSteps at ss) (omega arith) h.1)

  pub past_has : (x y : Pos) → y ≡ next_pos x → HasPos at x → HasPos at y
  past_has x y e h = subst (HasPos at) (sym e) (next_has x h)

-- ---- the form at a step

pub form_one : (o : Form) (p : Place) (es : Exps) (n m k : ℕ) (vs : List (Val (List ℕ))) → m ≡ n + 1 → 1 ≤ k
    → part_open (times next_part (k - 1) (m, es)) n k o p vs ≡ form_open o p es n k vs
form_one o p es n m zero vs f h = absurd (omega (arith, h))
form_one o p es n m (suc i) vs f h = let g : suc i - 1 ≡ i = omega arith in rw (g, f) refl

pub chain_two : (e : Exp) (ls : Links) (n m k : ℕ) (vs : List (Val (List ℕ))) → m ≡ n + 1 + nodes e → 2 ≤ k
    → link_open (times next_link (k - 2) (m, ls)) n k vs ≡ chain_open e ls n k vs
chain_two e ls n m zero vs f h = absurd (omega (arith, h))
chain_two e ls n m (suc zero) vs f h = absurd (omega (arith, h))
chain_two e ls n m (suc (suc i)) vs f h = let g : suc (suc i) - 2 ≡ i = omega arith in rw (g, f) refl

pub logic_two : (j : Junction) (e : Exp) (ls : Ands) (n m k : ℕ) (vs : List (Val (List ℕ))) → m ≡ n + 1 + nodes e → 2 ≤ k
    → and_open (times next_and (k - 2) (m, ls)) n k j vs ≡ logic_open j e ls n k vs
logic_two j e ls n m zero vs f h = absurd (omega (arith, h))
logic_two j e ls n m (suc zero) vs f h = absurd (omega (arith, h))
logic_two j e ls n m (suc (suc i)) vs f h = let g : suc (suc i) - 2 ≡ i = omega arith in rw (g, f) refl

pub postfix_two : (e : Exp) (ss : Steps) (n m k : ℕ) (vs : List (Val (List ℕ))) (c : Option (List ℕ × Pairs (List ℕ))) (x : Pos) → x
    ≡ times next_pos (k - 2) (enter_pos m ss) → m ≡ n + 1 + nodes e → 2 ≤ k → pos_open x n k vs c ≡ postfix_open e ss n k vs c
postfix_two e ss n m zero vs c x h f g = absurd (omega (arith, g))
postfix_two e ss n m (suc zero) vs c x h f g = absurd (omega (arith, g))
postfix_two e ss n m (suc (suc i)) vs c x h f g = let q : suc (suc i) - 2 ≡ i = omega arith in rw (h, q, f) refl

-- ---- the first part inside of a node, and the one after it

module _ (at : ℕ → Option Node) where
  pub exp_in : (e e' : Exp) (m r : ℕ) → e' ≡ e → r ≡ m → HasExp at e m → HasExp at e' r
  exp_in e e' m r g f h = subst (λ x. HasExp at x r) (sym g) (subst (HasExp at e) (sym f) h)

pub second_is : (e e' : Exp) (n r s : ℕ) → e' ≡ e → r ≡ n + 1 → s ≡ r + nodes e' → s ≡ n + 1 + nodes e
second_is e e' n r s g f h = h ∙ ap (λ k. k + nodes e') f ∙ ap (λ x. n + 1 + nodes x) g

-- ---- where nothing is left

pub pos_stop : (i k : ℕ) (x y : Pos) → y ≡ times next_pos i x → is_finished y ≡ true → i ≤ k → y ≡ times next_pos k x
pos_stop i k x finished e h le = sym (times_stay next_pos x finished i k (sym e) refl le)
pos_stop i k x (in_index m y p ss) e h le = absurd cc
pos_stop i k x (in_args m es p ss) e h le = absurd cc

pub no_joins : (xs : List Join) → length xs ≡ 0 → ands_view xs ≡ Ands.no_ands
no_joins [] e = refl
no_joins (x ∷ xs) e = absurd (omega (arith, e))

no_arms : (xs : List Arm) → length xs ≡ 0 → arms_view xs ≡ Arms.no_arms
no_arms [] e = refl
no_arms (x ∷ xs) e = absurd (omega (arith, e))

cases_end : (arms : Arms) (els : Else) (n k i m : ℕ) → times next_arm i (n + 1, arms) ≡ (m, Arms.no_arms) → i < k
    → cases_open {N = List ℕ} arms els n k ≡ None
cases_end arms els n zero i m e h = absurd (omega (arith, h))
cases_end arms els n (suc j) i m e h =
    ap (λ x. arm_open x n (suc j) (n + 1 + arms_nodes arms) els) (arm_stop i j m (n + 1, arms) Arms.no_arms e refl (omega (arith, h)))

-- fewer arms than steps
pub cases_none : (arms : Arms) (els : Else) (n k i first m : ℕ) (xs : List Arm) → first ≡ n + 1 → times next_arm i (first, arms)
    ≡ (m, arms_view xs) → length xs ≡ 0 → i < k → None ≡ cases_open {N = List ℕ} arms els n k
cases_none arms els n k i first m xs f e g h =
    sym (cases_end arms els n k i m (ap (λ r. times next_arm i (r, arms)) (sym f) ∙ e ∙ ap (λ y. (m, y)) (no_arms xs g)) h)
