use Rattle.std.proofs.Common.{◌≡◌, ◌+◌, drop}
use Rattle.sky_base.specs.Tree.{exps_nodes, links_nodes, ands_nodes, steps_nodes}
use Rattle.sky_base.specs.TreeView.{exps_view, links_view, ands_view, steps_view}
use Rattle.sky_base.proofs.tree.+nodes.Given as goal

abbrev pub invariant-Exprs::nodes-loop-e : goal.invariant-Exprs::nodes-loop-e
invariant-Exprs::nodes-loop-e l = l.total + exps_nodes (exps_view (drop l.e-index l.e-items)) ≡ exps_nodes l.self

abbrev pub invariant-Joins::nodes-loop-join : goal.invariant-Joins::nodes-loop-join
invariant-Joins::nodes-loop-join l = l.total + ands_nodes (ands_view (drop l.join-index l.join-items)) ≡ ands_nodes l.self

abbrev pub invariant-Links::nodes-loop-link : goal.invariant-Links::nodes-loop-link
invariant-Links::nodes-loop-link l = l.total + links_nodes (links_view (drop l.link-index l.link-items)) ≡ links_nodes l.self

abbrev pub invariant-Steps::nodes-loop-step : goal.invariant-Steps::nodes-loop-step
invariant-Steps::nodes-loop-step l = l.total + steps_nodes (steps_view (drop l.step-index l.step-items)) ≡ steps_nodes l.self
