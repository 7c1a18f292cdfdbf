use Rattle.std.proofs.Common.{◌+◌, sym, subst}
use Rattle.sky_base.specs.Tree.{arms_nodes}
use Rattle.sky_base.specs.StmtView.{arms_view}
use Rattle.sky_base_law.specs.Opened.{HasArms, HasElse}
use Rattle.sky_base_law.specs.Nodes.{node_at}
use Rattle.sky_machine_entries.specs.Entries.{last_block}
use Rattle.sky_machine_stmts.proofs.arms.got_arm.Goals as goal

pub next_arm-requires-clause-arms : goal.next_arm-requires-clause-arms
next_arm-requires-clause-arms c =
    subst (HasArms (λ i. node_at c.args.code.now i) (arms_view c.args.arm.arms.now)) (sym c.after_block-next.ensures) c.requires.entry.2

pub next_arm-requires-clause-other : goal.next_arm-requires-clause-other
next_arm-requires-clause-other c =
    subst (λ m. HasElse (λ i. node_at c.args.code.now i) (last_block c.args.arm.otherwise) (m + arms_nodes (arms_view c.args.arm.arms.now)))
    (sym c.after_block-next.ensures) c.requires.entry.3
