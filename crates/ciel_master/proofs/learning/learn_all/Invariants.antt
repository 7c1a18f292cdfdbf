use Rattle.std.proofs.Common.{◌≡◌, drop}
use Rattle.ciel_master_board.specs.Reports.{AllLearned, learned_all}
use Rattle.ciel_want_ready.specs.Seen.{with_table}
use Rattle.ciel_master.specs.Refusals.{FirstStops, learned_before}
use Rattle.ciel_master.specs.declared.stop.Stop.{Stop}
use Rattle.ciel_master.proofs.learning.learn_all.Given as goal

abbrev pub invariant-loop-i : goal.invariant-loop-i
invariant-loop-i g l =
    record {
      learned : with_table l.ready (learned_all (g.N.Namer.digest l.namer) (drop l.i l.spawned) l.ready.table)
          ≡ with_table l.fn.ready (learned_all (g.N.Namer.digest l.namer) l.spawned l.fn.ready.table);
      all : AllLearned (g.N.Namer.digest l.namer) (drop l.i l.spawned) l.ready.table
          → AllLearned (g.N.Namer.digest l.namer) l.spawned l.fn.ready.table;
      stops : (e : Stop) → FirstStops (g.N.Namer.digest l.namer) (drop l.i l.spawned) l.ready.table e
          → FirstStops (g.N.Namer.digest l.namer) l.spawned l.fn.ready.table e;
      before : with_table l.ready (learned_before (g.N.Namer.digest l.namer) (drop l.i l.spawned) l.ready.table)
          ≡ with_table l.fn.ready (learned_before (g.N.Namer.digest l.namer) l.spawned l.fn.ready.table);
    }
