use Rattle.std.proofs.Common.{◌≡◌, List, ◌++◌, true}
use Rattle.ciel_journal.specs.Entries.{Entry}
use Rattle.ciel_log_replay.specs.Between.{job_of}
use Rattle.ciel_log_replay.specs.Next.{MustGoOn}
use Rattle.ciel_log_replay.specs.Steps.{LostBy}
use Rattle.ciel_run_drive.specs.Kept.{Kept, left}
use Rattle.ciel_run_drive.specs.Working.{Working}
use Rattle.ciel_log_replay.proofs.losses.lose_all.Given as goal

abbrev pub invariant-losses : goal.invariant-losses
invariant-losses g l =
    record {
      working : Working g.K.Kit.gives g.N.Namer.digest l.shop true l.master l.out;
      lost : (es : List Entry) × LostBy l.fn.master.board es l.master.board;
      model : Kept g.K.Kit.gives g.N.Namer.digest l.fn.shop true l.fn.master l.fn.out l.fn.state
          → Kept g.K.Kit.gives g.N.Namer.digest l.shop true l.master l.out l.state;
      must : Kept g.K.Kit.gives g.N.Namer.digest l.fn.shop true l.fn.master l.fn.out l.fn.state → (es : List Entry)
          → l.master.board.journal ≡ l.fn.master.board.journal ++ es
          → MustGoOn (job_of g.K.Kit.gives g.N.Namer.digest l.fn.shop) l.fn.master.board.plan l.fn.master.board.journal es;
    }

abbrev pub decreases-losses : goal.decreases-losses
decreases-losses g l = left l.master l.out
