-- Each tree inside a tree is smaller.
use Rattle.std.specs.Prelude.{◌≤◌, List, [], ◌∷◌}
use Rattle.std.proofs.Common.{arith}
use denote.Param.Weighed.{most}
use Rattle.sky_base.specs.Tree.{weight, exps_weight, links_weight, ands_weight, steps_weight}
use Rattle.sky_base.specs.TreeView.{exp_view, exps_view, links_view, ands_view, steps_view}
use Rattle.sky_base.specs.declared.tree.Expr.{Expr}
use Rattle.sky_base.specs.declared.tree.Link.{Link}
use Rattle.sky_base.specs.declared.tree.Join.{Join}
use Rattle.sky_base.specs.declared.tree.Step.{Step}
use Rattle.sky_base.specs.declared.tree.Exprs.TheDeep.{deep-Expr, deep-Join, deep-Link, deep-Step}

pub exp_falls : (e : Expr) → deep-Expr e ≤ weight (exp_view e)
exp_falls (Expr.Literal v l c) = omega arith
exp_falls (Expr.Name x l c) = omega arith
exp_falls (Expr.Function x l c) = omega arith
exp_falls (Expr.Parens e) = omega arith
exp_falls (Expr.List es l c) = omega arith
exp_falls (Expr.Dict es l c) = omega arith
exp_falls (Expr.Chain e ls) = omega arith
exp_falls (Expr.Compare a o l c b) = omega arith
exp_falls (Expr.And e ls) = omega arith
exp_falls (Expr.Or e ls) = omega arith
exp_falls (Expr.Prefix ss e) = omega arith
exp_falls (Expr.Postfix e ss) = omega arith
exp_falls (Expr.Spawn f a l c) = omega arith
exp_falls (Expr.SpawnExec x a n l c) = omega arith
exp_falls (Expr.Exec x a n l c) = omega arith
exp_falls (Expr.Ref k l c) = omega arith
exp_falls (Expr.Len v l c) = omega arith
exp_falls (Expr.Keys v l c) = omega arith
exp_falls (Expr.Has d k l c) = omega arith
exp_falls (Expr.Range a b l c) = omega arith

pub exps_fall : (es : List Expr) → most deep-Expr es ≤ exps_weight (exps_view es)
exps_fall [] = omega arith
exps_fall (e ∷ es) = omega (arith, exp_falls e, exps_fall es)

pub links_fall : (ks : List Link) → most deep-Link ks ≤ links_weight (links_view ks)
links_fall [] = omega arith
links_fall (k ∷ ks) = omega (arith, exp_falls k.operand, links_fall ks)

pub ands_fall : (ks : List Join) → most deep-Join ks ≤ ands_weight (ands_view ks)
ands_fall [] = omega arith
ands_fall (k ∷ ks) = omega (arith, exp_falls k.operand, ands_fall ks)

pub steps_fall : (ss : List Step) → most deep-Step ss ≤ steps_weight (steps_view ss)
steps_fall [] = omega arith
steps_fall (Step.Index e l c ∷ ss) = omega (arith, exp_falls e, steps_fall ss)
steps_fall (Step.Call es l c ∷ ss) = omega (arith, steps_fall ss)
