-- What a statement of the code stands for.
use Rattle.std.specs.Prelude.{List, [], ◌∷◌, Option, Some, None}
use Rattle.sky_base.specs.Tree.{Place, Stm, Stms, Arms, Else}
use Rattle.sky_base.specs.TreeView.{exp_view, at}
use Rattle.sky_base.specs.declared.tree.Expr.{Expr}
use Rattle.sky_base.specs.declared.stmt.Stmt.{Stmt}
use Rattle.sky_base.specs.declared.stmt.Arm.{Arm}

abbrev pub return_view : Option Expr → Place → Stm
return_view None p = Stm.leave p
return_view (Some e) p = Stm.return p (exp_view e)

abbrev pub else_view : Option Stms → Else
else_view None = Else.no_else
else_view (Some b) = Else.otherwise b

abbrev pub stm_view : Stmt → Stm
stm_view (Stmt.Set x l c e) = Stm.set x (at l c) (exp_view e)
stm_view (Stmt.Add x nl nc l c e) = Stm.add x (at nl nc) (at l c) (exp_view e)
stm_view (Stmt.Put x nl nc l c i e) = Stm.put x (at nl nc) (at l c) (exp_view i) (exp_view e)
stm_view (Stmt.Return l c e) = return_view e (at l c)
stm_view (Stmt.If l c arms o) = Stm.cases (at l c) arms (else_view o)
stm_view (Stmt.While l c e b) = Stm.while (at l c) (exp_view e) b
stm_view (Stmt.Do l c b e) = Stm.repeat (at l c) b (exp_view e)
stm_view (Stmt.For l c x e b) = Stm.for (at l c) x (exp_view e) b
stm_view (Stmt.Just l c e) = Stm.just (at l c) (exp_view e)

abbrev pub stms_view : List Stmt → Stms
stms_view [] = Stms.no_stms
stms_view (s ∷ ss) = Stms.stm (stm_view s) (stms_view ss)

abbrev pub arms_view : List Arm → Arms
arms_view [] = Arms.no_arms
arms_view (a ∷ arms) = Arms.arm (at a.line a.col) (exp_view a.test) a.body (arms_view arms)
