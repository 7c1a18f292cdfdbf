use Rattle.std.proofs.Common.{◌≡◌, drop}
use Rattle.ciel_master_board.specs.Moves.{with_copies}
use Rattle.ciel_master_board.specs.Reports.{Copy}
use Rattle.ciel_journal.specs.Job.{Each}
use Rattle.ciel_master_bring.specs.Brings.{worker_of}
use Rattle.ciel_task_order.specs.Views.{P, copies_view}
use Rattle.ciel_want_ready.specs.Seen.{with_table}
use Rattle.ciel_table.specs.Seen.{Known}
use Rattle.ciel_table.specs.Sound.{Here}
use Rattle.ciel_master.proofs.placing.place_copies.Given as goal

abbrev pub invariant-loop-i : goal.invariant-loop-i
invariant-loop-i l =
    record {
      placed : with_table l.ready (with_copies (copies_view (drop l.i l.copied)) l.ready.table)
          ≡ with_table l.fn.ready (with_copies (copies_view l.copied) l.fn.ready.table);
      known : Each (λ (c : Copy P). Known l.ready.table c.name × Here l.ready.table.gone (worker_of c.place)) (copies_view (drop l.i l.copied));
    }
