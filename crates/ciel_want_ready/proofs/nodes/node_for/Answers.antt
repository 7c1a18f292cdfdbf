use Rattle.std.proofs.Common.{sym, subst, ◌<◌, length, IfSome}
use Rattle.sky_base.specs.declared.object.TaskId.{TaskId}
use Rattle.ciel_want.proofs.ReachedRows.{task_row_within}
use Rattle.ciel_want_ready.proofs.nodes.node_for.Goals as goal

pub node_after-requires : goal.node_after-requires
node_after-requires g c =
    record {
      held = subst (λ n. IfSome c.find_near.result (λ e. e < n)) (sym c.len-rows.ensures.number)
          (subst (λ o. IfSome o (λ e. e < length c.args.table.now.rows)) (sym c.find_near.ensures)
          (task_row_within c.args.table.now (TaskId.Of c.in-Of.name)));
    }
