use Rattle.std.proofs.Common.{◌+◌, ◌*◌, ◌++◌, length}
use Rattle.sky_base.specs.TreeView.{exp_view}
use Rattle.sky_base.specs.StmtView.{stm_view, stms_view, arms_view}
use Rattle.sky_base_law.specs.Nodes.{pre_exp, pre_stm, pre_stms, pre_arms, pre_block}
use Rattle.sky_machine_numbers.specs.Filled.{in_stm}
use Rattle.sky_machine_numbers.proofs.FilledLemmas.{Left}
use Rattle.sky_machine_numbers.proofs.stmts.+stm.Given as goal

abbrev pub decreases-number_block : goal.decreases-number_block
decreases-number_block l = 4 * length (pre_block l.block.now)

abbrev pub decreases-number_stmts : goal.decreases-number_stmts
decreases-number_stmts l = 4 * length (pre_stms (stms_view l.stmts.now)) + 1

abbrev pub decreases-number_stmt : goal.decreases-number_stmt
decreases-number_stmt l = 4 * length (pre_stm (stm_view l.s.now))

abbrev pub decreases-number_in_stmt : goal.decreases-number_in_stmt
decreases-number_in_stmt l = 4 * length (in_stm (stm_view l.s.now)) + 3

abbrev pub decreases-number_arms : goal.decreases-number_arms
decreases-number_arms l = 4 * length (pre_arms (arms_view l.arms.now)) + 2

abbrev pub decreases-number_arm : goal.decreases-number_arm
decreases-number_arm l = 4 * length (pre_exp (exp_view l.arm.now.test) ++ pre_block l.arm.now.body) + 1

-- ---- loops

abbrev pub invariant-number_stmts-loop-stmt : goal.invariant-number_stmts-loop-stmt
invariant-number_stmts-loop-stmt l =
    Left l.fn.ends.items l.ends.items (pre_stms (stms_view l.stmts)) (pre_stms (stms_view l.rest))

abbrev pub decreases-number_stmts-loop-stmt : goal.decreases-number_stmts-loop-stmt
decreases-number_stmts-loop-stmt l = length l.rest

abbrev pub invariant-number_arms-loop-arm : goal.invariant-number_arms-loop-arm
invariant-number_arms-loop-arm l =
    Left l.fn.ends.items l.ends.items (pre_arms (arms_view l.arms)) (pre_arms (arms_view l.rest))

abbrev pub decreases-number_arms-loop-arm : goal.decreases-number_arms-loop-arm
decreases-number_arms-loop-arm l = length l.rest
