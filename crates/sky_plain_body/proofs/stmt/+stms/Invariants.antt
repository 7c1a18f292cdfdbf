use Rattle.std.proofs.Common.{◌≡◌, ◌+◌, ◌*◌, ◌-◌, suc, drop}
use Rattle.sky_base.specs.View.{vals_of}
use Rattle.sky_base.specs.Tree.{nodes, stm_nodes, block_nodes, arms_nodes, else_nodes}
use Rattle.sky_base.specs.TreeView.{at, exp_view}
use Rattle.sky_base.specs.StmtView.{stm_view, stms_view, arms_view, else_view}
use Rattle.sky_base.specs.Res.{visits}
use Rattle.sky_base_forms.specs.GroundView.{ground_of}
use Rattle.sky_base_scope.specs.Plain.{exp, stms, arms, other, turns, repeats, each, body_at}
use Rattle.sky_plain_body.proofs.stmt.+stms.Given as goal

abbrev pub decreases-block : goal.decreases-block
decreases-block g l = 8 * block_nodes l.b.now

abbrev pub decreases-stmt : goal.decreases-stmt
decreases-stmt g l = 8 * stm_nodes (stm_view l.s.now) + 1

abbrev pub decreases-arms : goal.decreases-arms
decreases-arms g l = 8 * (arms_nodes (arms_view l.of.now) + else_nodes (else_view l.otherwise.now)) + 2

abbrev pub decreases-while_loop : goal.decreases-while_loop
decreases-while_loop g l = 8 * (nodes (exp_view l.test.now) + block_nodes l.body.now) + 2

abbrev pub decreases-do_loop : goal.decreases-do_loop
decreases-do_loop g l = 8 * (nodes (exp_view l.test.now) + block_nodes l.body.now) + 2

abbrev pub decreases-for_loop : goal.decreases-for_loop
decreases-for_loop g l = 8 * block_nodes l.body.now + 1

abbrev pub invariant-block-loop-s : goal.invariant-block-loop-s
invariant-block-loop-s g l = stms (ground_of l.ground) (body_at (ground_of l.ground) l.bodies) (stms_view l.s-items) l.fn.rows l.fn.state
    ≡ stms (ground_of l.ground) (body_at (ground_of l.ground) l.bodies) (stms_view (drop l.s-index l.s-items)) l.rows l.state

abbrev pub invariant-arms-loop-arm : goal.invariant-arms-loop-arm
invariant-arms-loop-arm g l =
    arms (ground_of l.ground) (body_at (ground_of l.ground) l.bodies) (arms_view l.of)
    (other (ground_of l.ground) (body_at (ground_of l.ground) l.bodies) (else_view l.otherwise)) l.fn.rows l.fn.state
    ≡ arms (ground_of l.ground) (body_at (ground_of l.ground) l.bodies) (arms_view (drop l.arm-index l.of))
    (other (ground_of l.ground) (body_at (ground_of l.ground) l.bodies) (else_view l.otherwise)) l.rows l.state

abbrev pub invariant-while_loop-loop-turn : goal.invariant-while_loop-loop-turn
invariant-while_loop-loop-turn g l =
    turns (suc visits) (at l.line l.col) (exp (ground_of l.ground) (body_at (ground_of l.ground) l.bodies) (exp_view l.test))
    (stms (ground_of l.ground) (body_at (ground_of l.ground) l.bodies) l.body) l.fn.rows l.fn.state
    ≡ turns (suc visits - l._turn) (at l.line l.col) (exp (ground_of l.ground) (body_at (ground_of l.ground) l.bodies) (exp_view l.test))
    (stms (ground_of l.ground) (body_at (ground_of l.ground) l.bodies) l.body) l.rows l.state

abbrev pub invariant-do_loop-loop-turn : goal.invariant-do_loop-loop-turn
invariant-do_loop-loop-turn g l =
    repeats (suc visits) (at l.line l.col) (stms (ground_of l.ground) (body_at (ground_of l.ground) l.bodies) l.body)
    (exp (ground_of l.ground) (body_at (ground_of l.ground) l.bodies) (exp_view l.test)) l.fn.rows l.fn.state
    ≡ repeats (suc visits - l._turn) (at l.line l.col) (stms (ground_of l.ground) (body_at (ground_of l.ground) l.bodies) l.body)
    (exp (ground_of l.ground) (body_at (ground_of l.ground) l.bodies) (exp_view l.test)) l.rows l.state

abbrev pub invariant-for_loop-loop-v : goal.invariant-for_loop-loop-v
invariant-for_loop-loop-v g l =
    each (vals_of l.v-items) (at l.line l.col) l.name (stms (ground_of l.ground) (body_at (ground_of l.ground) l.bodies) l.body) l.fn.rows
    l.fn.state ≡ each (vals_of (drop l.v-index l.v-items)) (at l.line l.col) l.name
    (stms (ground_of l.ground) (body_at (ground_of l.ground) l.bodies) l.body) l.rows l.state
