use Rattle.std.proofs.Common.{◌≡◌, length}
use Rattle.ciel_table.specs.Changes.{saves_without}
use Rattle.ciel_table.proofs.Partly.{partly}
use Rattle.ciel_table.proofs.table.drop_waits.Given as goal

abbrev pub invariant-loop-i : goal.invariant-loop-i
invariant-loop-i g l =
    record {
      same : length l.saves.items ≡ length l.fn.saves.items;
      done : l.saves.items
          ≡ partly (saves_without g.P.At.at l.worker) l.i l.fn.saves.items;
    }
