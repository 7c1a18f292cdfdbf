-- One step more of a walk, and a walk that goes no further.
use Rattle.std.proofs.Common.{◌≡◌, ◌<◌, ◌≤◌, ◌+◌, ◌⊎◌, inl, inr, ℕ, zero, suc, List, [], ◌∷◌, length, Option, Some, None, refl, sym, ap, ◌∙◌, subst}
use Rattle.std.proofs.Common.{arith, add-one}
use Rattle.std.specs.Option.{option_and_then}
use Rattle.sky_base.specs.Tree.{Place, Oper, Exp, Exps, Links, Ands, Steps, Stm, Stms, Arms, nodes, stm_nodes, block_nodes}
use Rattle.sky_base.specs.TreeView.{ands_view}
use Rattle.sky_base.specs.StmtView.{arms_view, stms_view}
use Rattle.sky_base.specs.declared.tree.Join.{Join}
use Rattle.sky_base.specs.declared.stmt.Arm.{Arm}
use Rattle.sky_base.specs.declared.stmt.Stmt.{Stmt}
use Rattle.sky_base_law.specs.Opened.{Node, HasSteps, HasStms}
use Rattle.sky_base_law.proofs.Lists.{some_is}
use Rattle.sky_state.specs.Table.{on_by, past_part, past_link, past_and, past_arm, past_stm, Spot, finished, in_index, in_call, spot_of, past_spot}
use Rattle.sky_frozen_fits.specs.Rows.{HasSpot}

pub on_more : {A : Type 0} (f : A → Option A) (i : ℕ) (x y z : A) → on_by f i x ≡ Some y → f y ≡ Some z → on_by f (i + 1) x ≡ Some z
on_more f i x y z e g = rw add-one (ap (option_and_then f) e ∙ g)

at_most : (i k : ℕ) → suc i ≤ suc k → (suc i ≤ k) ⊎ (i ≡ k)
at_most zero zero h = inr refl
at_most zero (suc k) h = inl (omega arith)
at_most (suc i) zero h = absurd (omega (arith, h))
at_most (suc i) (suc k) h = more (at_most i k (omega (arith, h)))
  where
    more : (suc i ≤ k) ⊎ (i ≡ k) → (suc (suc i) ≤ suc k) ⊎ (suc i ≡ suc k)
    more (inl g) = inl (omega (arith, g))
    more (inr e) = inr (ap suc e)

-- where one step leads nowhere, more steps don't either
pub on_none : {A : Type 0} (f : A → Option A) (i k : ℕ) (x y : A) → on_by f i x ≡ Some y → f y ≡ None → i < k → on_by f k x ≡ None
on_none f i zero x y e g h = absurd (omega (arith, h))
on_none {A = A} f i (suc k) x y e g h = go (at_most i k (omega (arith, h))) (λ l. on_none f i k x y e g (omega (arith, l)))
  where
    go : (suc i ≤ k) ⊎ (i ≡ k) → (suc i ≤ k → on_by f k x ≡ None) → on_by f (suc k) x ≡ None
    go (inl l) again = ap (option_and_then f) (again l)
    go (inr d) again = ap (option_and_then f) (ap (λ n. on_by f n x) (sym d) ∙ e) ∙ g

-- ---- nothing is left

pub none_part : (m : ℕ) (xs : Exps) → xs ≡ Exps.no_exps → past_part (m, xs) ≡ None
none_part m xs e = ap (λ r. past_part (m, r)) e

pub none_link : (m : ℕ) (xs : Links) → xs ≡ Links.no_links → past_link (m, xs) ≡ None
none_link m xs e = ap (λ r. past_link (m, r)) e

pub none_and : (m : ℕ) (xs : List Join) → length xs ≡ 0 → past_and (m, ands_view xs) ≡ None
none_and m [] e = refl
none_and m (x ∷ xs) e = absurd (omega (arith, e))

pub none_arm : (m : ℕ) (xs : List Arm) → length xs ≡ 0 → past_arm (m, arms_view xs) ≡ None
none_arm m [] e = refl
none_arm m (x ∷ xs) e = absurd (omega (arith, e))

pub none_stm : (m : ℕ) (xs : List Stmt) → length xs ≡ 0 → past_stm (m, stms_view xs) ≡ None
none_stm m [] e = refl
none_stm m (x ∷ xs) e = absurd (omega (arith, e))

-- ---- one more

pub one_part : (m next : ℕ) (e : Exp) (xs es : Exps) → xs ≡ Exps.exp e es → next ≡ m + nodes e → past_part (m, xs) ≡ Some (next, es)
one_part m next e xs es g f = ap (λ r. past_part (m, r)) g ∙ ap (λ k. Some (k, es)) (sym f)

pub one_link : (m next : ℕ) (o : Oper) (p : Place) (e : Exp) (xs ls : Links) → xs ≡ Links.link o p e ls → next ≡ m + nodes e → past_link (m, xs)
    ≡ Some (next, ls)
one_link m next o p e xs ls g f = ap (λ r. past_link (m, r)) g ∙ ap (λ k. Some (k, ls)) (sym f)

pub one_and : (m next : ℕ) (p : Place) (e : Exp) (xs ls : Ands) → xs ≡ Ands.and p e ls → next ≡ m + nodes e → past_and (m, xs) ≡ Some (next, ls)
one_and m next p e xs ls g f = ap (λ r. past_and (m, r)) g ∙ ap (λ k. Some (k, ls)) (sym f)

pub one_arm : (m next : ℕ) (p : Place) (e : Exp) (b : Stms) (xs more : Arms) → xs ≡ Arms.arm p e b more → next ≡ m + nodes e + block_nodes b
    → past_arm (m, xs) ≡ Some (next, more)
one_arm m next p e b xs more g f = ap (λ r. past_arm (m, r)) g ∙ ap (λ k. Some (k, more)) (sym f)

pub one_stm : (m next : ℕ) (a : Stm) (xs more : Stms) → xs ≡ Stms.stm a more → next ≡ m + stm_nodes a → past_stm (m, xs) ≡ Some (next, more)
one_stm m next a xs more g f = ap (λ r. past_stm (m, r)) g ∙ ap (λ k. Some (k, more)) (sym f)

-- ---- places among indices and calls

module _ (at : ℕ → Option Node) where
  spot_has : (m : ℕ) (ss : Steps) → HasSteps at ss m → HasSpot at (spot_of m ss)
  spot_has m Steps.no_steps h = tt
  spot_has m (Steps.index e p ss) h = h
  spot_has m (Steps.call es p ss) h = h

  pub first_has : (m : ℕ) (ss : Steps) (x : Spot) → x ≡ spot_of m ss → HasSteps at ss m → HasSpot at x
  first_has m ss x e h = subst (HasSpot at) (sym e) (spot_has m ss h)

  past_has : (x y : Spot) → past_spot x ≡ Some y → HasSpot at x → HasSpot at y
  past_has finished y e h = absurd cc
  past_has (in_index m x p ss) y e h = subst (HasSpot at) (some_is (spot_of (m + nodes x) ss) y e) (spot_has (m + nodes x) ss h.1)
  past_has (in_call m i Exps.no_exps p ss) y e h =
      subst (HasSpot at) (some_is (spot_of m ss) y e) (spot_has m ss (subst (HasSteps at ss) (omega arith) h.1))
  past_has (in_call m i (Exps.exp x es) p ss) y e h =
      subst (HasSpot at) (some_is (in_call (m + nodes x) (i + 1) es p ss) y e) (h.0.1, subst (HasSteps at ss) (omega arith) h.1)

  pub spot_left : (x y : Spot) → past_spot x ≡ Some y → HasSpot at x → HasSpot at y
  spot_left x y e h = past_has x y e h

-- what stands behind the first of a block's statements stands where that one ends
pub stms_left : (at : ℕ → Option Node) (m next : ℕ) (a : Stm) (xs more : Stms) → xs ≡ Stms.stm a more → next ≡ m + stm_nodes a → HasStms at xs m
    → HasStms at more next
stms_left at m next a xs more g f h = subst (HasStms at more) (sym f) (subst (λ y. HasStms at y m) g h).1
