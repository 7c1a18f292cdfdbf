-- A step that there is is at most two further than its node is wide.
use Rattle.std.proofs.Common.{◌≡◌, ◌≤◌, ◌+◌, ℕ, zero, suc, List, [], ◌∷◌, length, reverse, Option, Some, None, option_and_then, refl, arith}
use Rattle.std.proofs.lemmas.List.{length-reverse}
use Rattle.sky_base.specs.Tree.{SignAt, Form, Exp, Exps, Links, Ands, Steps, Stm, Stms, Arms, nodes, stm_nodes, block_nodes}
use Rattle.sky_base_law.specs.Opened.{Node, exp_node, stm_node, block_node}
use Rattle.sky_state.specs.Table.{on_by, past_part, past_link, past_and, past_arm, past_stm, past_sign, Spot, finished, in_index, in_call, spot_of}
use Rattle.sky_state.specs.Table.{past_spot, part_row, link_row, and_row, sign_row, spot_row, exp_row, arm_row, stm_row, ran_row, block_row, row}
use Rattle.sky_state.specs.Table.{IsStep}
use Rattle.sky_machine.specs.Width.{exps_width, links_width, ands_width, steps_width, arms_width, stms_width, width}

-- where each step makes a number less, so many steps make it less by as many
on_less : {A : Type 0} (f : A → Option A) (w : A → ℕ) → ((y r : A) → f y ≡ Some r → suc (w r) ≤ w y) → (i : ℕ) (x r : A) → on_by f i x ≡ Some r
    → i + w r ≤ w x
on_less f w less zero x r e = let same : x ≡ r = cc in let left : w x ≡ w r = (λ j. w (same j)) in omega (arith, left)
on_less {A = A} f w less (suc i) x r e = go (on_by f i x) e (λ y k. on_less f w less i x y k) refl
  where
    go : (o : Option A) → option_and_then f o ≡ Some r → ((y : A) → on_by f i x ≡ Some y → i + w y ≤ w x) → on_by f i x ≡ o → suc i + w r ≤ w x
    go None k before is = absurd cc
    go (Some y) k before is = omega (arith, less y r k, before y is)

abbrev parts_left : ℕ × Exps → ℕ
parts_left p = exps_width p.1

part_less : (y r : ℕ × Exps) → past_part y ≡ Some r → suc (parts_left r) ≤ parts_left y
part_less (m, Exps.no_exps) r e = absurd cc
part_less (m, Exps.exp x es) r e = let same : (m + nodes x, es) ≡ r = cc in let left : exps_width es ≡ exps_width r.1 =
    (λ j. exps_width (same j).1) in omega (arith, left)

abbrev links_left : ℕ × Links → ℕ
links_left p = links_width p.1

link_less : (y r : ℕ × Links) → past_link y ≡ Some r → suc (links_left r) ≤ links_left y
link_less (m, Links.no_links) r e = absurd cc
link_less (m, Links.link o p x ls) r e = let same : (m + nodes x, ls) ≡ r = cc in let left : links_width ls ≡ links_width r.1 =
    (λ j. links_width (same j).1) in omega (arith, left)

abbrev ands_left : ℕ × Ands → ℕ
ands_left p = ands_width p.1

and_less : (y r : ℕ × Ands) → past_and y ≡ Some r → suc (ands_left r) ≤ ands_left y
and_less (m, Ands.no_ands) r e = absurd cc
and_less (m, Ands.and p x ls) r e = let same : (m + nodes x, ls) ≡ r = cc in let left : ands_width ls ≡ ands_width r.1 =
    (λ j. ands_width (same j).1) in omega (arith, left)

abbrev arms_left : ℕ × Arms → ℕ
arms_left p = arms_width p.1

arm_less : (y r : ℕ × Arms) → past_arm y ≡ Some r → suc (arms_left r) ≤ arms_left y
arm_less (m, Arms.no_arms) r e = absurd cc
arm_less (m, Arms.arm p x b arms) r e = let same : (m + nodes x + block_nodes b, arms) ≡ r = cc in let left : arms_width arms ≡ arms_width r.1 =
    (λ j. arms_width (same j).1) in omega (arith, left)

abbrev stms_left : ℕ × Stms → ℕ
stms_left p = stms_width p.1

stm_less : (y r : ℕ × Stms) → past_stm y ≡ Some r → suc (stms_left r) ≤ stms_left y
stm_less (m, Stms.no_stms) r e = absurd cc
stm_less (m, Stms.stm a more) r e = let same : (m + stm_nodes a, more) ≡ r = cc in let left : stms_width more ≡ stms_width r.1 =
    (λ j. stms_width (same j).1) in omega (arith, left)

abbrev signs_left : List SignAt → ℕ
signs_left ss = length ss

sign_less : (y r : List SignAt) → past_sign y ≡ Some r → suc (signs_left r) ≤ signs_left y
sign_less [] r e = absurd cc
sign_less (s ∷ ss) r e = let same : ss ≡ r = cc in let left : length ss ≡ length r = (λ j. length (same j)) in omega (arith, left)

abbrev spots_left : Spot → ℕ
spots_left finished = 0
spots_left (in_index m e p ss) = suc (steps_width ss)
spots_left (in_call m i es p ss) = suc (exps_width es + steps_width ss)

spot_left : (m : ℕ) (ss : Steps) → spots_left (spot_of m ss) ≡ steps_width ss
spot_left m Steps.no_steps = refl
spot_left m (Steps.index e p ss) = refl
spot_left m (Steps.call es p ss) = refl

spot_less : (y r : Spot) → past_spot y ≡ Some r → suc (spots_left r) ≤ spots_left y
spot_less finished r e = absurd cc
spot_less (in_index m x p ss) r e = let same : spot_of (m + nodes x) ss ≡ r = cc in let left : spots_left (spot_of (m + nodes x) ss)
    ≡ spots_left r = (λ j. spots_left (same j)) in omega (arith, left, spot_left (m + nodes x) ss)
spot_less (in_call m i Exps.no_exps p ss) r e = let same : spot_of m ss ≡ r = cc in let left : spots_left (spot_of m ss) ≡ spots_left r =
    (λ j. spots_left (same j)) in omega (arith, left, spot_left m ss)
spot_less (in_call m i (Exps.exp x es) p ss) r e = let same : in_call (m + nodes x) (i + 1) es p ss ≡ r = cc in
    let left : spots_left (in_call (m + nodes x) (i + 1) es p ss) ≡ spots_left r = (λ j. spots_left (same j)) in omega (arith, left)

-- ---- what a row says of how far it is

part_far : (o : Form) (i : ℕ) (x : ℕ × Exps) (r : Option (ℕ × Exps)) → on_by past_part i x ≡ r → IsStep (part_row o i r) → i ≤ parts_left x
part_far o i x None e h = absurd h
part_far o i x (Some r) e h = omega (arith, on_less past_part parts_left part_less i x r e)

link_far : (i : ℕ) (x : ℕ × Links) (r : Option (ℕ × Links)) → on_by past_link i x ≡ r → IsStep (link_row r) → i + 1 ≤ links_left x
link_far i x None e h = absurd h
link_far i x (Some (m, Links.no_links)) e h = absurd h
link_far i x (Some (m, Links.link o p a ls)) e h = omega (arith, on_less past_link links_left link_less i x (m, Links.link o p a ls) e)

and_far : (i : ℕ) (x : ℕ × Ands) (r : Option (ℕ × Ands)) → on_by past_and i x ≡ r → IsStep (and_row r) → i + 1 ≤ ands_left x
and_far i x None e h = absurd h
and_far i x (Some (m, Ands.no_ands)) e h = absurd h
and_far i x (Some (m, Ands.and p a ls)) e h = omega (arith, on_less past_and ands_left and_less i x (m, Ands.and p a ls) e)

sign_far : (i : ℕ) (x : List SignAt) (r : Option (List SignAt)) → on_by past_sign i x ≡ r → IsStep (sign_row r) → i + 1 ≤ length x
sign_far i x None e h = absurd h
sign_far i x (Some []) e h = absurd h
sign_far i x (Some (s ∷ ss)) e h = omega (arith, on_less past_sign signs_left sign_less i x (s ∷ ss) e)

spot_far : (i : ℕ) (x : Spot) (r : Option Spot) → on_by past_spot i x ≡ r → IsStep (spot_row r) → i + 1 ≤ spots_left x
spot_far i x None e h = absurd h
spot_far i x (Some finished) e h = absurd h
spot_far i x (Some (in_index m a p ss)) e h = omega (arith, on_less past_spot spots_left spot_less i x (in_index m a p ss) e)
spot_far i x (Some (in_call m j es p ss)) e h = omega (arith, on_less past_spot spots_left spot_less i x (in_call m j es p ss) e)

arm_far : (i : ℕ) (x : ℕ × Arms) (r : Option (ℕ × Arms)) → on_by past_arm i x ≡ r → IsStep (arm_row r) → i + 1 ≤ arms_left x
arm_far i x None e h = absurd h
arm_far i x (Some (m, Arms.no_arms)) e h = absurd h
arm_far i x (Some (m, Arms.arm p a b arms)) e h = omega (arith, on_less past_arm arms_left arm_less i x (m, Arms.arm p a b arms) e)

stm_far : (i : ℕ) (x : ℕ × Stms) (r : Option (ℕ × Stms)) → on_by past_stm i x ≡ r → IsStep (ran_row r) → i + 1 ≤ stms_left x
stm_far i x None e h = absurd h
stm_far i x (Some (m, Stms.no_stms)) e h = absurd h
stm_far i x (Some (m, Stms.stm a more)) e h = omega (arith, on_less past_stm stms_left stm_less i x (m, Stms.stm a more) e)

exp_within : (e : Exp) (n k : ℕ) → IsStep (exp_row e n k) → k ≤ width (exp_node e) + 2
exp_within (Exp.literal l p) n k h = absurd h
exp_within (Exp.name x p) n k h = absurd h
exp_within (Exp.func x p) n k h = absurd h
exp_within (Exp.parens e) n zero h = absurd h
exp_within (Exp.parens e) n (suc zero) h = omega arith
exp_within (Exp.parens e) n (suc (suc k)) h = absurd h
exp_within (Exp.parts o p es) n zero h = absurd h
exp_within (Exp.parts o p es) n (suc i) h = omega (arith, part_far o i (n + 1, es) (on_by past_part i (n + 1, es)) refl h)
exp_within (Exp.chain e ls) n zero h = absurd h
exp_within (Exp.chain e ls) n (suc zero) h = omega arith
exp_within (Exp.chain e ls) n (suc (suc i)) h = omega (arith, link_far i (n + 1 + nodes e, ls) (on_by past_link i (n + 1 + nodes e, ls)) refl h)
exp_within (Exp.logic j e ls) n zero h = absurd h
exp_within (Exp.logic j e ls) n (suc zero) h = omega arith
exp_within (Exp.logic j e ls) n (suc (suc i)) h = omega (arith, and_far i (n + 1 + nodes e, ls) (on_by past_and i (n + 1 + nodes e, ls)) refl h)
exp_within (Exp.prefix ss e) n zero h = absurd h
exp_within (Exp.prefix ss e) n (suc zero) h = omega arith
exp_within (Exp.prefix ss e) n (suc (suc i)) h = omega (arith, length-reverse ss, sign_far i (reverse ss) (on_by past_sign i (reverse ss)) refl h)
exp_within (Exp.postfix e ss) n zero h = absurd h
exp_within (Exp.postfix e ss) n (suc zero) h = omega arith
exp_within (Exp.postfix e ss) n (suc (suc i)) h =
    omega (
      arith,
      spot_left (n + 1 + nodes e) ss,
      spot_far i (spot_of (n + 1 + nodes e) ss) (on_by past_spot i (spot_of (n + 1 + nodes e) ss)) refl h,
    )

stm_within : (a : Stm) (n k : ℕ) → IsStep (stm_row a n k) → k ≤ width (stm_node a) + 2
stm_within (Stm.cases p arms els) n zero h = absurd h
stm_within (Stm.cases p arms els) n (suc i) h = omega (arith, arm_far i (n + 1, arms) (on_by past_arm i (n + 1, arms)) refl h)
stm_within a n zero h = omega arith
stm_within a n (suc zero) h = omega arith
stm_within a n (suc (suc zero)) h = omega arith
stm_within (Stm.set x p e) n (suc (suc (suc k))) h = absurd h
stm_within (Stm.add x q p e) n (suc (suc (suc k))) h = absurd h
stm_within (Stm.put x q p i e) n (suc (suc (suc k))) h = absurd h
stm_within (Stm.return p e) n (suc (suc (suc k))) h = absurd h
stm_within (Stm.leave p) n (suc (suc (suc k))) h = absurd h
stm_within (Stm.while p e b) n (suc (suc (suc k))) h = absurd h
stm_within (Stm.repeat p b e) n (suc (suc (suc k))) h = absurd h
stm_within (Stm.for p x e b) n (suc (suc (suc k))) h = absurd h
stm_within (Stm.just p e) n (suc (suc (suc k))) h = absurd h

block_within : (b : Stms) (n k : ℕ) → IsStep (block_row b n k) → k ≤ width (block_node b) + 2
block_within b n zero h = omega arith
block_within b n (suc i) h = omega (arith, stm_far i (n + 1, b) (on_by past_stm i (n + 1, b)) refl h)

pub step_within : (t : Node) (n k : ℕ) → IsStep (row (Some t) n k) → k ≤ width t + 2
step_within (exp_node e) n k h = exp_within e n k h
step_within (stm_node a) n k h = stm_within a n k h
step_within (block_node b) n k h = block_within b n k h
