use Rattle.std.proofs.Common.{◌≡◌, ◌+◌, drop}
use Rattle.sky_base.specs.Tree.{funs_nodes}
use Rattle.sky_base.specs.ScriptView.{funs_view}
use Rattle.sky_base.proofs.script.FunDefs.nodes.Given as goal

abbrev pub invariant-loop-fun : goal.invariant-loop-fun
invariant-loop-fun l = l.total + funs_nodes (funs_view (drop l.fun-index l.fun-items)) ≡ funs_nodes l.self
