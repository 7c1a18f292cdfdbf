use Rattle.std.proofs.Common.{map, subst, sym}
use Rattle.ciel_master_board.specs.Reports.{Copy}
use Rattle.ciel_want_ready.specs.Seen.{ReadySeen}
use Rattle.ciel_task_order.specs.Views.{P, copies_view, output_view}
use Rattle.ciel_master.specs.Taking.{CopiesPlace}
use Rattle.ciel_master.proofs.Steps.{can_beside}
use Rattle.ciel_master.proofs.taking.take_made.Goals as goal

pub place_copies-requires : goal.place_copies-requires
place_copies-requires c =
    let t = c.args.ready.now.table in
    record {
      known = subst (λ (r : ReadySeen P). CopiesPlace r.table c.args.copied.now) (sym c.in_ok-place_outputs.ensures.placed)
          (can_beside (λ (x : Copy P). x.name) (λ (x : Copy P). x.place) (map output_view c.args.made.now) t (copies_view c.args.copied.now)
          c.requires.copied);
    }
