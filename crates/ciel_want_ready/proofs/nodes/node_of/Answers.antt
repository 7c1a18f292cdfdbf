use Rattle.std.proofs.Common.{sym, subst, ◌<◌, length, IfSome}
use Rattle.ciel_want.proofs.ReachedRows.{task_row_within}
use Rattle.ciel_want_ready.proofs.nodes.node_of.Goals as goal

pub node_after-requires : goal.node_after-requires
node_after-requires g c =
    record {
      held = subst (λ n. IfSome c.task_row-row.result (λ e. e < n)) (sym c.len.ensures.number)
          (subst (λ o. IfSome o (λ e. e < length c.args.table.now.rows)) (sym c.task_row-row.ensures)
          (task_row_within c.args.table.now c.args.task.now));
    }
