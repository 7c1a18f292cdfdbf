use Rattle.std.proofs.Common.{◌≡◌, ◌+◌, drop}
use Rattle.sky_base.specs.Tree.{funs_nodes, script_nodes}
use Rattle.sky_base.specs.Eval.{find_body, body_of}
use Rattle.sky_base.specs.ScriptView.{funs_view}
use Rattle.sky_state.proofs.start.find_body.Given as goal

abbrev pub invariant-loop-other : goal.invariant-loop-other
invariant-loop-other l = record {
  found : find_body l.fun (funs_view (drop l.other-index l.other-items)) l.node ≡ body_of l.fun l.script;
  nodes : l.node + funs_nodes (funs_view (drop l.other-index l.other-items)) ≡ script_nodes l.script;
}
