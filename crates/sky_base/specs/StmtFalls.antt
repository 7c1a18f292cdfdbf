-- Each statement inside a block is smaller.
use Rattle.std.specs.Prelude.{ℕ, ◌≤◌, List, [], ◌∷◌, Option, Some, None}
use Rattle.std.proofs.Common.{arith}
use denote.Param.Weighed.{most}
use Rattle.sky_base.specs.Tree.{Stms, Arms, stm_weight, stms_weight, arms_weight}
use Rattle.sky_base.specs.StmtView.{stm_view, stms_view, arms_view}
use Rattle.sky_base.specs.declared.tree.Expr.{Expr}
use Rattle.sky_base.specs.declared.stmt.Stmt.{Stmt}
use Rattle.sky_base.specs.declared.stmt.Arm.{Arm}
use Rattle.sky_base.specs.declared.stmt.Arms.TheDeep.{deep-Stmt, deep-Arm}

return_falls : (e : Option Expr) (l c : ℕ) → deep-Stmt (Stmt.Return l c e) ≤ stm_weight (stm_view (Stmt.Return l c e))
return_falls None l c = omega arith
return_falls (Some e) l c = omega arith

if_falls : (arms : Arms) (o : Option Stms) (l c : ℕ) → deep-Stmt (Stmt.If l c arms o) ≤ stm_weight (stm_view (Stmt.If l c arms o))
if_falls arms None l c = omega arith
if_falls arms (Some b) l c = omega arith

pub stm_falls : (s : Stmt) → deep-Stmt s ≤ stm_weight (stm_view s)
stm_falls (Stmt.Set x l c e) = omega arith
stm_falls (Stmt.Add x nl nc l c e) = omega arith
stm_falls (Stmt.Put x nl nc l c i e) = omega arith
stm_falls (Stmt.Return l c e) = return_falls e l c
stm_falls (Stmt.If l c arms o) = if_falls arms o l c
stm_falls (Stmt.While l c e b) = omega arith
stm_falls (Stmt.Do l c b e) = omega arith
stm_falls (Stmt.For l c x e b) = omega arith
stm_falls (Stmt.Just l c e) = omega arith

pub stms_fall : (ss : List Stmt) → most deep-Stmt ss ≤ stms_weight (stms_view ss)
stms_fall [] = omega arith
stms_fall (s ∷ ss) = omega (arith, stm_falls s, stms_fall ss)

pub arms_fall : (arms : List Arm) → most deep-Arm arms ≤ arms_weight (arms_view arms)
arms_fall [] = omega arith
arms_fall (a ∷ arms) = omega (arith, arms_fall arms)
