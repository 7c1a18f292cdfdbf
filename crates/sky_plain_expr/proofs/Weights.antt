-- How many nodes the parts of trees have, and how much work may still be opened.
use Rattle.std.proofs.Common.{◌≡◌, ◌≢◌, ℕ, zero, suc, ◌+◌, ◌-◌, ◌<◌, ◌≤◌, List, [], ◌∷◌, length, drop, get_or, refl, ap, arith, Option, Some, None}
use Rattle.sky_base.specs.Tree.{Place, Exps, Links, Ands, Stms, nodes, exps_nodes, links_nodes, ands_nodes, steps_nodes, stm_nodes, stms_nodes}
use Rattle.sky_base.specs.Tree.{arms_nodes, block_nodes}
use Rattle.sky_base.specs.TreeView.{exp_view, exps_view, links_view, ands_view, steps_view, step_nodes, arith_view, at}
use Rattle.sky_base.specs.StmtView.{stm_view, stms_view, arms_view}
use Rattle.sky_base.specs.Val.{no_vals, val, add_val, list}
use Rattle.sky_base.specs.View.{view, vals_of}
use Rattle.sky_base.specs.Kept.{Kept}
use Rattle.sky_base.specs.Eval.{Body, body_of, bind}
use Rattle.sky_base.specs.declared.value.Value.{Value}
use Rattle.sky_base.specs.declared.fault.FaultKind.{FaultKind}
use Rattle.sky_base.proofs.Sums.{size_at, depth_at}
use Rattle.sky_base_known.specs.Walk.{Row}
use Rattle.sky_base_scope.specs.Plain.{Val, Vals, Pairs, Vars, Out, Ground, fails, in_body, body_at, stms}
use Rattle.sky_base_scope.specs.RunView.{KeptVals, code_of}
use Rattle.sky_base.specs.declared.tree.Expr.{Expr}
use Rattle.sky_base.specs.declared.tree.Link.{Link}
use Rattle.sky_base.specs.declared.tree.Join.{Join}
use Rattle.sky_base.specs.declared.tree.Step.{Step}
use Rattle.sky_base.specs.declared.stmt.Stmt.{Stmt}
use Rattle.sky_base.specs.declared.stmt.Arm.{Arm}

pub exp_in : (es : List Expr) (i : ℕ) (x : Expr) → i < length es → x ≡ get_or es i x → nodes (exp_view x) ≤ exps_nodes (exps_view es)
exp_in [] i x h e = absurd (omega arith)
exp_in (y ∷ es) zero x h e = rw e (omega arith)
exp_in (y ∷ es) (suc i) x h e = omega (arith, exp_in es i x (omega arith) e)

pub link_in : (es : List Link) (i : ℕ) (x : Link) → i < length es → x ≡ get_or es i x → nodes (exp_view x.operand) ≤ links_nodes (links_view es)
link_in [] i x h e = absurd (omega arith)
link_in (y ∷ es) zero x h e = rw e (omega arith)
link_in (y ∷ es) (suc i) x h e = omega (arith, link_in es i x (omega arith) e)

pub join_in : (es : List Join) (i : ℕ) (x : Join) → i < length es → x ≡ get_or es i x → nodes (exp_view x.operand) ≤ ands_nodes (ands_view es)
join_in [] i x h e = absurd (omega arith)
join_in (y ∷ es) zero x h e = rw e (omega arith)
join_in (y ∷ es) (suc i) x h e = omega (arith, join_in es i x (omega arith) e)

step_first : (s : Step) (ss : List Step) → steps_nodes (steps_view (s ∷ ss)) ≡ step_nodes s + steps_nodes (steps_view ss)
step_first (Step.Index e l c) ss = refl
step_first (Step.Call es l c) ss = refl

pub step_in : (es : List Step) (i : ℕ) (x : Step) → i < length es → x ≡ get_or es i x → step_nodes x ≤ steps_nodes (steps_view es)
step_in [] i x h e = absurd (omega arith)
step_in (y ∷ es) zero x h e = rw e (omega (arith, step_first y es))
step_in (y ∷ es) (suc i) x h e = omega (arith, step_first y es, step_in es i x (omega arith) e)

pub stm_in : (es : List Stmt) (i : ℕ) (x : Stmt) → i < length es → x ≡ get_or es i x → stm_nodes (stm_view x) ≤ stms_nodes (stms_view es)
stm_in [] i x h e = absurd (omega arith)
stm_in (y ∷ es) zero x h e = rw e (omega arith)
stm_in (y ∷ es) (suc i) x h e = omega (arith, stm_in es i x (omega arith) e)

pub arm_in : (es : List Arm) (i : ℕ) (x : Arm) → i < length es → x ≡ get_or es i x
    → nodes (exp_view x.test) + block_nodes x.body ≤ arms_nodes (arms_view es)
arm_in [] i x h e = absurd (omega arith)
arm_in (y ∷ es) zero x h e = rw e (omega arith)
arm_in (y ∷ es) (suc i) x h e = omega (arith, arm_in es i x (omega arith) e)

-- ---- parts, one at a time

pub exps_at : (es : List Expr) (i : ℕ) (x : Expr) → i < length es → x ≡ get_or es i x → exps_view (drop i es)
    ≡ Exps.exp (exp_view x) (exps_view (drop (i + 1) es))
exps_at [] i x h e = absurd (omega arith)
exps_at (y ∷ es) zero x h e = rw e refl
exps_at (y ∷ es) (suc i) x h e = let n : suc i + 1 ≡ suc (i + 1) = omega arith in rw n (exps_at es i x (omega arith) e)

pub links_at : (es : List Link) (i : ℕ) (x : Link) → i < length es → x ≡ get_or es i x → links_view (drop i es)
    ≡ Links.link (arith_view x.op) (at x.line x.col) (exp_view x.operand) (links_view (drop (i + 1) es))
links_at [] i x h e = absurd (omega arith)
links_at (y ∷ es) zero x h e = rw e refl
links_at (y ∷ es) (suc i) x h e = let n : suc i + 1 ≡ suc (i + 1) = omega arith in rw n (links_at es i x (omega arith) e)

pub ands_at : (es : List Join) (i : ℕ) (x : Join) → i < length es → x ≡ get_or es i x → ands_view (drop i es)
    ≡ Ands.and (at x.line x.col) (exp_view x.operand) (ands_view (drop (i + 1) es))
ands_at [] i x h e = absurd (omega arith)
ands_at (y ∷ es) zero x h e = rw e refl
ands_at (y ∷ es) (suc i) x h e = let n : suc i + 1 ≡ suc (i + 1) = omega arith in rw n (ands_at es i x (omega arith) e)

pub kept_add : (vs : Vals) (v : Val) → KeptVals vs → Kept v → KeptVals (add_val vs v)
kept_add no_vals v h k = (k, tt)
kept_add (val u vs) v h k = (h.0, kept_add vs v h.1 k)

pub kept_item : (vs : List Value) (i : ℕ) (x : Value) → i < length vs → x ≡ get_or vs i x → Kept (list (vals_of vs)) → Kept (view x)
kept_item vs i x h e k = rw e (record { deep = omega (arith, depth_at vs i x h, k.deep); large = omega (arith, size_at vs i x h, k.large) })

-- ---- bodies

pub body_opens : (g : Ground) (d : ℕ) (f : List ℕ) (ca : Pairs) (vs : Vals) (p : Place) (rows : List Row) (n : ℕ) → d ≢ 0
    → body_at g d f ca vs p rows n ≡ in_body g (body_of f g.script) ca vs p rows n (stms g (body_at g (d - 1)))
body_opens g zero f ca vs p rows n h = absurd (h refl)
body_opens g (suc d) f ca vs p rows n h = let e : suc d - 1 ≡ d = omega arith in rw e refl

abbrev pub run_code : Pairs → Vals → Place → List Row → ℕ → (Stms → List Row → Vars → Out) → Option (List (List ℕ) × Stms) → Out
run_code ca vs p rows n go None = fails FaultKind.BadKind p rows
run_code ca vs p rows n go (Some x) = go x.1 rows (record { vars = bind x.0 vs ca; count = n })

pub code_runs : (g : Ground) (q : Option Body) (xs : List (List ℕ)) (b : Stms) (ca : Pairs) (vs : Vals) (p : Place) (rows : List Row) (n : ℕ)
    (go : Stms → List Row → Vars → Out) → code_of q ≡ Some (xs, b) → in_body g q ca vs p rows n go
    ≡ go b rows (record { vars = bind xs vs ca; count = n })
code_runs g None xs b ca vs p rows n go e = ap (run_code ca vs p rows n go) e
code_runs g (Some c) xs b ca vs p rows n go e = ap (run_code ca vs p rows n go) e

pub code_missing : (g : Ground) (q : Option Body) (ca : Pairs) (vs : Vals) (p : Place) (rows : List Row) (n : ℕ)
    (go : Stms → List Row → Vars → Out) → code_of q ≡ None → in_body g q ca vs p rows n go ≡ fails FaultKind.BadKind p rows
code_missing g None ca vs p rows n go e = refl
code_missing g (Some c) ca vs p rows n go e = absurd cc
