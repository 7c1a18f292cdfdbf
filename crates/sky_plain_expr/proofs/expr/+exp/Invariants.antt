use Rattle.std.proofs.Common.{◌≡◌, ◌+◌, ◌*◌, ◌-◌, drop}
use Rattle.sky_base.specs.Kept.{Kept}
use Rattle.sky_base.specs.Val.{no_vals}
use Rattle.sky_base.specs.View.{view}
use Rattle.sky_base.specs.Tree.{nodes, exps_nodes, links_nodes, ands_nodes, steps_nodes}
use Rattle.sky_base.specs.TreeView.{at, exp_view, exps_view, links_view, ands_view, steps_view, step_nodes}
use Rattle.sky_base_forms.specs.GroundView.{ground_of}
use Rattle.sky_base_scope.specs.Plain.{values, links, ands, steps, body_at}
use Rattle.sky_base_scope.specs.RunView.{KeptVals, junction}
use Rattle.sky_plain_expr.proofs.expr.+exp.Given as goal

abbrev pub decreases-expr : goal.decreases-expr
decreases-expr g l = 8 * nodes (exp_view l.e.now) + 1

abbrev pub decreases-values : goal.decreases-values
decreases-values g l = 8 * exps_nodes l.es.now + 2

abbrev pub decreases-links : goal.decreases-links
decreases-links g l = 8 * links_nodes (links_view l.rest.now) + 3

abbrev pub decreases-linked : goal.decreases-linked
decreases-linked g l = 8 * nodes (exp_view l.link.now.operand) + 2

abbrev pub decreases-joins : goal.decreases-joins
decreases-joins g l = 8 * ands_nodes (ands_view l.rest.now) + 2

abbrev pub decreases-steps : goal.decreases-steps
decreases-steps g l = 8 * steps_nodes (steps_view l.rest.now) + 4

abbrev pub decreases-stepped : goal.decreases-stepped
decreases-stepped g l = 8 * step_nodes l.step.now + 3

abbrev pub decreases-list_of : goal.decreases-list_of
decreases-list_of g l = 8 * exps_nodes l.items.now + 3

abbrev pub decreases-dict_of : goal.decreases-dict_of
decreases-dict_of g l = 8 * exps_nodes l.items.now + 3

abbrev pub decreases-chain : goal.decreases-chain
decreases-chain g l = 8 * (nodes l.first.now + links_nodes l.rest.now) + 4

abbrev pub decreases-compare : goal.decreases-compare
decreases-compare g l = 8 * (nodes l.left.now + nodes l.right.now) + 2

abbrev pub decreases-logic : goal.decreases-logic
decreases-logic g l = 8 * (nodes l.first.now + ands_nodes l.rest.now) + 3

abbrev pub decreases-prefix : goal.decreases-prefix
decreases-prefix g l = 8 * nodes l.operand.now + 2

abbrev pub decreases-postfix : goal.decreases-postfix
decreases-postfix g l = 8 * (nodes l.first.now + steps_nodes l.rest.now) + 5

abbrev pub decreases-spawn_of : goal.decreases-spawn_of
decreases-spawn_of g l = 8 * (nodes l.fun.now + nodes l.args.now) + 2

abbrev pub decreases-spawn_exec_of : goal.decreases-spawn_exec_of
decreases-spawn_exec_of g l = 8 * (nodes l.executor.now + (nodes l.args.now + nodes l.outputs.now)) + 2

abbrev pub decreases-exec_of : goal.decreases-exec_of
decreases-exec_of g l = 8 * (nodes l.executor.now + (nodes l.args.now + nodes l.outputs.now)) + 2

abbrev pub decreases-ref_of : goal.decreases-ref_of
decreases-ref_of g l = 8 * nodes l.key.now + 2

abbrev pub decreases-len_of : goal.decreases-len_of
decreases-len_of g l = 8 * nodes l.of.now + 2

abbrev pub decreases-keys_of : goal.decreases-keys_of
decreases-keys_of g l = 8 * nodes l.of.now + 2

abbrev pub decreases-has_of : goal.decreases-has_of
decreases-has_of g l = 8 * (nodes l.dict.now + nodes l.key.now) + 2

abbrev pub decreases-range_of : goal.decreases-range_of
decreases-range_of g l = 8 * (nodes l.from.now + nodes l.to.now) + 2

abbrev pub invariant-values-loop-e : goal.invariant-values-loop-e
invariant-values-loop-e g l = record {
  kept : KeptVals l.vs;
  same : values (ground_of l.ground) (body_at (ground_of l.ground) l.bodies) (exps_view l.e-items) no_vals l.fn.rows l.fn.state
      ≡ values (ground_of l.ground) (body_at (ground_of l.ground) l.bodies) (exps_view (drop l.e-index l.e-items)) l.vs l.rows l.state;
}

abbrev pub invariant-links-loop-link : goal.invariant-links-loop-link
invariant-links-loop-link g l = record {
  kept : Kept (view l.v);
  same : links (ground_of l.ground) (body_at (ground_of l.ground) l.bodies) (links_view l.rest) (view l.fn.first) l.fn.rows l.fn.state
      ≡ links (ground_of l.ground) (body_at (ground_of l.ground) l.bodies) (links_view (drop l.link-index l.rest)) (view l.v) l.rows l.state;
}

abbrev pub invariant-joins-loop-join : goal.invariant-joins-loop-join
invariant-joins-loop-join g l = record {
  kept : Kept (view l.v);
  same : ands (ground_of l.ground) (body_at (ground_of l.ground) l.bodies) (ands_view l.rest) (junction l.stop) (at 0 0) (view l.fn.first)
      l.fn.rows l.fn.state ≡ ands (ground_of l.ground) (body_at (ground_of l.ground) l.bodies) (ands_view (drop l.join-index l.rest))
      (junction l.stop) (at l.line l.col) (view l.v) l.rows l.state;
}

abbrev pub invariant-steps-loop-step : goal.invariant-steps-loop-step
invariant-steps-loop-step g l = record {
  kept : Kept (view l.v);
  same : steps (ground_of l.ground) (body_at (ground_of l.ground) l.bodies) (steps_view l.rest) (view l.fn.first) l.fn.rows l.fn.state
      ≡ steps (ground_of l.ground) (body_at (ground_of l.ground) l.bodies) (steps_view (drop l.step-index l.rest)) (view l.v) l.rows l.state;
}
