-- How many values a saved entry keeps.
use Rattle.std.proofs.Common.{◌≡◌, ◌≢◌, ◌<◌, ◌≤◌, ◌+◌, ◌-◌, ℕ, zero, suc, List, [], ◌∷◌, length, reverse, Option, Some, None, refl, sym, ap, ◌∙◌}
use Rattle.std.proofs.Common.{subst, arith}
use Rattle.std.specs.Option.{option_and_then}
use Rattle.sky_base.specs.Tree.{Place, Junction, Sign, SignAt, Form, Exp, Exps, Links, Ands, Steps, Stm, Stms, Arms, nodes}
use Rattle.sky_base.specs.TreeView.{at, exp_view, exps_view, steps_view}
use Rattle.sky_base.specs.declared.tree.Expr.{Expr}
use Rattle.sky_base.specs.declared.tree.Step.{Step}
use Rattle.sky_base_law.specs.Opened.{next_part, times}
use Rattle.sky_base_law.proofs.Lists.{some_is, none_some}
use Rattle.sky_state.specs.Table.{keeps, on_by, past_part, past_link, past_and, past_arm, past_stm, past_sign, finished, in_index, in_call, spot_of}
use Rattle.sky_state.specs.Table.{past_spot, part_row, link_row, and_row, sign_is, sign_row, spot_row, arm_row, ran_row, block_row, stm_row, exp_row}
use Rattle.sky_state.specs.Table.{IsStep}
use Rattle.sky_machine_restore.specs.Kept.{kept_in_call, kept_after}

-- ---- parts

past_next : (x y : ℕ × Exps) → past_part x ≡ Some y → next_part x ≡ y
past_next (m, Exps.no_exps) y e = absurd (none_some y e)
past_next (m, Exps.exp x es) y e = some_is (m + nodes x, es) y e

times_on : (i : ℕ) (x y : ℕ × Exps) → on_by past_part i x ≡ Some y → times next_part i x ≡ y
times_on zero x y e = some_is x y e
times_on (suc i) x y e = go (on_by past_part i x) e (λ z d. times_on i x z d) refl
  where
    go : (o : Option (ℕ × Exps)) → option_and_then past_part o ≡ Some y
        → ((z : ℕ × Exps) → on_by past_part i x ≡ Some z → times next_part i x ≡ z) → on_by past_part i x ≡ o → next_part (times next_part i x)
        ≡ y
    go None h k d = absurd (none_some y h)
    go (Some z) h k d = ap next_part (k z d) ∙ past_next z y h

-- the place after i parts, where it is a step
there : (o : Form) (i : ℕ) (x : ℕ × Exps) → IsStep (part_row o i (on_by past_part i x)) → part_row o i (on_by past_part i x)
    ≡ part_row o i (Some (times next_part i x))
there o i x s = go (on_by past_part i x) s (λ y d. times_on i x y d) refl
  where
    go : (r : Option (ℕ × Exps)) → IsStep (part_row o i r) → ((y : ℕ × Exps) → on_by past_part i x ≡ Some y → times next_part i x ≡ y)
        → on_by past_part i x ≡ r → part_row o i r ≡ part_row o i (Some (times next_part i x))
    go None h k d = absurd h
    go (Some y) h k d = ap (λ z. part_row o i (Some z)) (sym (k y d))

waits_one : (o : Form) (i m : ℕ) → IsStep (part_row o i (Some (m, Exps.no_exps))) → keeps (part_row o i (Some (m, Exps.no_exps))) ≡ 1
waits_one Form.exec zero m s = absurd s
waits_one Form.exec (suc zero) m s = absurd s
waits_one Form.exec (suc (suc zero)) m s = absurd s
waits_one Form.exec (suc (suc (suc zero))) m s = refl
waits_one Form.exec (suc (suc (suc (suc i)))) m s = absurd s
waits_one Form.list i m s = absurd s
waits_one Form.dict i m s = absurd s
waits_one Form.spawn i m s = absurd s
waits_one Form.spawn_exec i m s = absurd s
waits_one Form.ref i m s = absurd s
waits_one Form.len i m s = absurd s
waits_one Form.keys i m s = absurd s
waits_one Form.has i m s = absurd s
waits_one Form.range i m s = absurd s

module _ (o : Form) (p : Place) (es : Exps) (n m r : ℕ) (xs : Exps) where
  pub part_keeps : (k : ℕ) (e : Exp) (ys : Exps) → m ≡ n + 1 → times next_part (k - 1) (m, es) ≡ (r, xs) → xs ≡ Exps.exp e ys → 1 ≤ k
      → IsStep (exp_row (Exp.parts o p es) n k) → k - 1 ≡ keeps (exp_row (Exp.parts o p es) n k)
  part_keeps zero e ys f t g h s = absurd s
  part_keeps (suc i) e ys f t g h s =
      let j : suc i - 1 ≡ i = omega arith in
      let place : times next_part i (n + 1, es) ≡ (r, Exps.exp e ys) = ap (λ z. times next_part i (z, es)) (sym f)
      ∙ ap (λ z. times next_part z (m, es)) (sym j) ∙ t ∙ ap (λ z. (r, z)) g in
      j ∙ sym (ap keeps (there o i (n + 1, es) s) ∙ ap (λ z. keeps (part_row o i (Some z))) place)

  pub all_keep : (k : ℕ) → m ≡ n + 1 → times next_part (k - 1) (m, es) ≡ (r, xs) → xs ≡ Exps.no_exps → 1 ≤ k
      → IsStep (exp_row (Exp.parts o p es) n k) → 1 ≡ keeps (exp_row (Exp.parts o p es) n k)
  all_keep zero f t g h s = absurd s
  all_keep (suc i) f t g h s =
      let j : suc i - 1 ≡ i = omega arith in
      let place : times next_part i (n + 1, es) ≡ (r, Exps.no_exps) = ap (λ z. times next_part i (z, es)) (sym f)
      ∙ ap (λ z. times next_part z (m, es)) (sym j) ∙ t ∙ ap (λ z. (r, z)) g in
      let row : part_row o i (on_by past_part i (n + 1, es)) ≡ part_row o i (Some (r, Exps.no_exps)) = there o i (n + 1, es) s
      ∙ ap (λ z. part_row o i (Some z)) place in
      sym (ap keeps row ∙ waits_one o i r (subst IsStep row s))

-- ---- chains and signs

link_keeps : (x : Option (ℕ × Links)) → IsStep (link_row x) → keeps (link_row x) ≡ 1
link_keeps None s = absurd s
link_keeps (Some (m, Links.no_links)) s = absurd s
link_keeps (Some (m, Links.link o p e ls)) s = refl

and_keeps : (x : Option (ℕ × Ands)) → keeps (and_row x) ≡ 0
and_keeps None = refl
and_keeps (Some (m, Ands.no_ands)) = refl
and_keeps (Some (m, Ands.and p e ls)) = refl

sign_one : (y : Sign) → IsStep (sign_is y) → keeps (sign_is y) ≡ 1
sign_one Sign.star s = refl
sign_one Sign.not s = absurd s
sign_one Sign.minus s = absurd s

sign_keeps : (x : Option (List SignAt)) → IsStep (sign_row x) → keeps (sign_row x) ≡ 1
sign_keeps None s = absurd s
sign_keeps (Some []) s = absurd s
sign_keeps (Some (o ∷ os)) s = sign_one o.sign s

pub parens_keep : (e : Exp) (n k : ℕ) → 0 ≡ keeps (exp_row (Exp.parens e) n k)
parens_keep e n zero = refl
parens_keep e n (suc zero) = refl
parens_keep e n (suc (suc k)) = refl

pub logic_keeps : (j : Junction) (e : Exp) (ls : Ands) (n k : ℕ) → 0 ≡ keeps (exp_row (Exp.logic j e ls) n k)
logic_keeps j e ls n zero = refl
logic_keeps j e ls n (suc zero) = refl
logic_keeps j e ls n (suc (suc i)) = sym (and_keeps (on_by past_and i (n + 1 + nodes e, ls)))

pub first_keeps : (e : Exp) (ls : Links) (n k : ℕ) → k ≡ 1 → 0 ≡ keeps (exp_row (Exp.chain e ls) n k)
first_keeps e ls n k f = rw f refl

pub chain_keeps : (e : Exp) (ls : Links) (n k : ℕ) → k ≢ 1 → IsStep (exp_row (Exp.chain e ls) n k) → 1 ≡ keeps (exp_row (Exp.chain e ls) n k)
chain_keeps e ls n zero f s = absurd s
chain_keeps e ls n (suc zero) f s = absurd (f refl)
chain_keeps e ls n (suc (suc i)) f s = sym (link_keeps (on_by past_link i (n + 1 + nodes e, ls)) s)

pub operand_keeps : (ss : List SignAt) (e : Exp) (n k : ℕ) → k ≡ 1 → 0 ≡ keeps (exp_row (Exp.prefix ss e) n k)
operand_keeps ss e n k f = rw f refl

pub prefix_keeps : (ss : List SignAt) (e : Exp) (n k : ℕ) → k ≢ 1 → IsStep (exp_row (Exp.prefix ss e) n k) → 1 ≡ keeps (exp_row (Exp.prefix ss e) n k)
prefix_keeps ss e n zero f s = absurd s
prefix_keeps ss e n (suc zero) f s = absurd (f refl)
prefix_keeps ss e n (suc (suc i)) f s = sym (sign_keeps (on_by past_sign i (reverse ss)) s)

-- ---- indices and calls

module _ {A : Type 0} (f : A → Option A) where
  then_some : (o : Option A) → option_and_then (λ x. Some x) o ≡ o
  then_some None = refl
  then_some (Some x) = refl

  -- the first step, and then the others
  on_first : (i : ℕ) (x : A) → on_by f (suc i) x ≡ option_and_then (on_by f i) (f x)
  on_first zero x = sym (then_some (f x))
  on_first (suc i) x = ap (option_and_then f) (on_first i x) ∙ go (f x)
    where
      go : (o : Option A) → option_and_then f (option_and_then (on_by f i) o) ≡ option_and_then (on_by f (suc i)) o
      go None = refl
      go (Some y) = refl

none_keeps : (i : ℕ) → keeps (spot_row (on_by past_spot i finished)) ≡ 0
none_keeps zero = refl
none_keeps (suc i) = ap (λ x. keeps (spot_row x)) (on_first past_spot i finished)

call_keeps : (es : Exps) (m before i : ℕ) (p : Place) (ss : Steps)
    → ((r j : ℕ) → keeps (spot_row (on_by past_spot j (spot_of r ss))) ≡ kept_after ss j)
    → keeps (spot_row (on_by past_spot i (in_call m before es p ss))) ≡ kept_in_call before es i (λ j. kept_after ss j)
call_keeps Exps.no_exps m b zero p ss more = refl
call_keeps Exps.no_exps m b (suc i) p ss more = ap (λ x. keeps (spot_row x)) (on_first past_spot i (in_call m b Exps.no_exps p ss)) ∙ more m i
call_keeps (Exps.exp e es) m b zero p ss more = refl
call_keeps (Exps.exp e es) m b (suc i) p ss more =
    ap (λ x. keeps (spot_row x)) (on_first past_spot i (in_call m b (Exps.exp e es) p ss)) ∙ call_keeps es (m + nodes e) (b + 1) i p ss more

spots_keep : (ss : Steps) (m i : ℕ) → keeps (spot_row (on_by past_spot i (spot_of m ss))) ≡ kept_after ss i
spots_keep Steps.no_steps m i = none_keeps i
spots_keep (Steps.index e p ss) m zero = refl
spots_keep (Steps.index e p ss) m (suc i) = ap (λ x. keeps (spot_row x)) (on_first past_spot i (in_index m e p ss)) ∙ spots_keep ss (m + nodes e) i
spots_keep (Steps.call es p ss) m i = call_keeps es m 0 i p ss (λ r j. spots_keep ss r j)

pub value_keeps : (e : Exp) (ss : Steps) (n k : ℕ) → k < 2 → 0 ≡ keeps (exp_row (Exp.postfix e ss) n k)
value_keeps e ss n zero f = refl
value_keeps e ss n (suc zero) f = refl
value_keeps e ss n (suc (suc i)) f = absurd (omega (arith, f))

pub postfix_keeps : (e : Exp) (ss : Steps) (n k v : ℕ) → 2 ≤ k → v ≡ kept_after ss (k - 2) → v ≡ keeps (exp_row (Exp.postfix e ss) n k)
postfix_keeps e ss n zero v f h = absurd (omega (arith, f))
postfix_keeps e ss n (suc zero) v f h = absurd (omega (arith, f))
postfix_keeps e ss n (suc (suc i)) v f h =
    let j : suc (suc i) - 2 ≡ i = omega arith in
    h ∙ ap (kept_after ss) j ∙ sym (spots_keep ss (n + 1 + nodes e) i)

-- at an argument of a call, at its body, and behind it
in_args : (es : List Expr) (b i : ℕ) (more : ℕ → ℕ) → i < length es → kept_in_call b (exps_view es) i more ≡ 1 + (b + i)
in_args [] b i more h = absurd (omega (arith, h))
in_args (e ∷ es) b zero more h = omega arith
in_args (e ∷ es) b (suc i) more h = in_args es (b + 1) i more (omega (arith, h)) ∙ omega arith

in_body : (es : List Expr) (b i : ℕ) (more : ℕ → ℕ) → i ≡ length es → kept_in_call b (exps_view es) i more ≡ 0
in_body [] b zero more h = refl
in_body [] b (suc i) more h = absurd (omega (arith, h))
in_body (e ∷ es) b zero more h = absurd (omega (arith, h))
in_body (e ∷ es) b (suc i) more h = in_body es (b + 1) i more (omega (arith, h))

behind : (es : List Expr) (b i : ℕ) (more : ℕ → ℕ) → length es < i → kept_in_call b (exps_view es) i more ≡ more (i - (length es + 1))
behind [] b zero more h = absurd (omega (arith, h))
behind [] b (suc i) more h = ap more (omega arith)
behind (e ∷ es) b zero more h = absurd (omega (arith, h))
behind (e ∷ es) b (suc i) more h = behind es (b + 1) i more (omega (arith, h)) ∙ ap more (omega arith)

module _ (es : List Expr) (p : Place) (ss : Steps) (i : ℕ) where
  pub arg_keeps : i < length es → kept_after (Steps.call (exps_view es) p ss) i ≡ 1 + i
  arg_keeps h = in_args es 0 i (λ j. kept_after ss j) h ∙ omega arith

  pub body_keeps : i ≡ length es → kept_after (Steps.call (exps_view es) p ss) i ≡ 0
  body_keeps h = in_body es 0 i (λ j. kept_after ss j) h

  pub after_keeps : length es < i → kept_after (Steps.call (exps_view es) p ss) i ≡ kept_after ss (i - (length es + 1))
  after_keeps h = behind es 0 i (λ j. kept_after ss j) h

pub index_keeps : (e : Exp) (p : Place) (ss : Steps) (i : ℕ) → 0 < i → kept_after (Steps.index e p ss) i ≡ kept_after ss (i - 1)
index_keeps e p ss zero h = absurd (omega (arith, h))
index_keeps e p ss (suc i) h = ap (kept_after ss) (omega arith)

-- ---- statements

arm_keeps : (x : Option (ℕ × Arms)) → keeps (arm_row x) ≡ 0
arm_keeps None = refl
arm_keeps (Some (m, Arms.no_arms)) = refl
arm_keeps (Some (m, Arms.arm p e b more)) = refl

ran_keeps : (x : Option (ℕ × Stms)) → keeps (ran_row x) ≡ 0
ran_keeps None = refl
ran_keeps (Some (m, Stms.no_stms)) = refl
ran_keeps (Some (m, Stms.stm a more)) = refl

pub block_keeps : (b : Stms) (n k : ℕ) → 0 ≡ keeps (block_row b n k)
block_keeps b n zero = refl
block_keeps b n (suc i) = sym (ran_keeps (on_by past_stm i (n + 1, b)))

pub put_keeps : (x : List ℕ) (q p : Place) (i e : Exp) (n k : ℕ) → k ≡ 2 → 1 ≡ keeps (stm_row (Stm.put x q p i e) n k)
put_keeps x q p i e n k f = rw f refl

pub put_first : (x : List ℕ) (q p : Place) (i e : Exp) (n k : ℕ) → k ≢ 2 → 0 ≡ keeps (stm_row (Stm.put x q p i e) n k)
put_first x q p i e n zero f = refl
put_first x q p i e n (suc zero) f = refl
put_first x q p i e n (suc (suc zero)) f = absurd (f refl)
put_first x q p i e n (suc (suc (suc k))) f = refl

pub for_keeps : (p : Place) (x : List ℕ) (e : Exp) (b : Stms) (n k : ℕ) → k ≡ 2 → 2 ≡ keeps (stm_row (Stm.for p x e b) n k)
for_keeps p x e b n k f = rw f refl

pub for_first : (p : Place) (x : List ℕ) (e : Exp) (b : Stms) (n k : ℕ) → k ≢ 2 → 0 ≡ keeps (stm_row (Stm.for p x e b) n k)
for_first p x e b n zero f = refl
for_first p x e b n (suc zero) f = refl
for_first p x e b n (suc (suc zero)) f = absurd (f refl)
for_first p x e b n (suc (suc (suc k))) f = refl

-- the other statements
abbrev pub KeepsNone : Stm → Type 0
KeepsNone (Stm.put x q p i e) = ⊥
KeepsNone (Stm.for p x e b) = ⊥
KeepsNone _ = Unit {0}

pub others_keep : (a : Stm) (n k : ℕ) → KeepsNone a → 0 ≡ keeps (stm_row a n k)
others_keep (Stm.put x q p i e) n k h = absurd h
others_keep (Stm.for p x e b) n k h = absurd h
others_keep (Stm.leave p) n k h = refl
others_keep (Stm.cases p arms els) n zero h = refl
others_keep (Stm.cases p arms els) n (suc i) h = sym (arm_keeps (on_by past_arm i (n + 1, arms)))
others_keep (Stm.set x p e) n zero h = refl
others_keep (Stm.set x p e) n (suc zero) h = refl
others_keep (Stm.set x p e) n (suc (suc k)) h = refl
others_keep (Stm.add x q p e) n zero h = refl
others_keep (Stm.add x q p e) n (suc zero) h = refl
others_keep (Stm.add x q p e) n (suc (suc k)) h = refl
others_keep (Stm.return p e) n zero h = refl
others_keep (Stm.return p e) n (suc zero) h = refl
others_keep (Stm.return p e) n (suc (suc k)) h = refl
others_keep (Stm.just p e) n zero h = refl
others_keep (Stm.just p e) n (suc zero) h = refl
others_keep (Stm.just p e) n (suc (suc k)) h = refl
others_keep (Stm.while p e b) n zero h = refl
others_keep (Stm.while p e b) n (suc zero) h = refl
others_keep (Stm.while p e b) n (suc (suc zero)) h = refl
others_keep (Stm.while p e b) n (suc (suc (suc k))) h = refl
others_keep (Stm.repeat p b e) n zero h = refl
others_keep (Stm.repeat p b e) n (suc zero) h = refl
others_keep (Stm.repeat p b e) n (suc (suc zero)) h = refl
others_keep (Stm.repeat p b e) n (suc (suc (suc k))) h = refl

-- ---- the first of some indices and calls

pub at_index : (x : Step) (e : Expr) (l c : ℕ) (rest : List Step) (i : ℕ) → x ≡ Step.Index e l c → kept_after (steps_view (x ∷ rest)) i
    ≡ kept_after (Steps.index (exp_view e) (at l c) (steps_view rest)) i
at_index x e l c rest i f = ap (λ y. kept_after (steps_view (y ∷ rest)) i) f

pub at_call : (x : Step) (args : Exps) (es : List Expr) (l c : ℕ) (rest : List Step) (i : ℕ) → x ≡ Step.Call args l c → exps_view es ≡ args
    → kept_after (steps_view (x ∷ rest)) i ≡ kept_after (Steps.call (exps_view es) (at l c) (steps_view rest)) i
at_call x args es l c rest i f g =
    ap (λ y. kept_after (steps_view (y ∷ rest)) i) f ∙ ap (λ y. kept_after (Steps.call y (at l c) (steps_view rest)) i) (sym g)
