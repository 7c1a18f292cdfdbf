-- The records so far were replayed, and a run can go on.
use Rattle.std.proofs.Common.{◌≡◌, ◌-◌, ℕ, List, None, length}
use Rattle.ciel_log_file.specs.Replays.{ReplaysTo}
use Rattle.ciel_log_file.specs.Sending.{AllTake}
use Rattle.ciel_log_file.specs.Whole.{RecordsTo}
use Rattle.ciel_log_replay.specs.Between.{Between}
use Rattle.ciel_log_file.proofs.replay.replay_records.Given as goal

abbrev pub invariant-records : goal.invariant-records
invariant-records g l =
    record {
      between : Between g.K.Kit.gives g.N.Namer.digest l.shop l.master l.out l.draws;
      takes : AllTake g.K.Kit.gives g.N.Namer.digest l.shop l.out;
      many : length l.out ≡ length l.fn.out;
      plan : l.master.board.plan ≡ l.fn.master.board.plan;
      replays : (records : List (List ℕ)) × RecordsTo l.log l.behind records l.at
          × ReplaysTo (g.N.Namer.digest l.shop.namer) l.shop.shelves l.script
          (record { board = l.fn.master.board; out = l.fn.out; kept = l.fn.kept }) records None
          (record { board = l.master.board; out = l.out; kept = l.kept });
    }

abbrev pub decreases-records : goal.decreases-records
decreases-records g l = length l.log - l.at
