use Rattle.std.proofs.Common.{◌≡◌, drop, map}
use Rattle.ciel_master_board.specs.Moves.{with_outputs}
use Rattle.ciel_journal.specs.Job.{Each}
use Rattle.ciel_master_bring.specs.Brings.{worker_of}
use Rattle.ciel_task_order.specs.Views.{output_view}
use Rattle.ciel_want_ready.specs.Seen.{with_table}
use Rattle.ciel_table.specs.Seen.{Known}
use Rattle.ciel_table.specs.Sound.{Here}
use Rattle.ciel_task_order.specs.declared.report.Made.{Made}
use Rattle.ciel_master.proofs.placing.place_outputs.Given as goal

abbrev pub invariant-loop-i : goal.invariant-loop-i
invariant-loop-i l =
    record {
      placed : with_table l.ready (with_outputs (map output_view (drop l.i l.made)) l.ready.table)
          ≡ with_table l.fn.ready (with_outputs (map output_view l.made) l.fn.ready.table);
      known : Each (λ (m : Made). Known l.ready.table m.name × Here l.ready.table.gone (worker_of m.place)) (drop l.i l.made);
    }
