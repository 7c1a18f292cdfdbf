use Rattle.std.proofs.Common.{◌≡◌}
use Rattle.ciel_run_drive.specs.Kept.{Kept, left}
use Rattle.ciel_run_drive.specs.Working.{Working}
use Rattle.ciel_run_drive.specs.Moved.{Does}
use Rattle.ciel_run_drive.specs.Told.{ToldOn}
use Rattle.ciel_run_drive.proofs.drive.drive.Given as goal

abbrev pub invariant-run : goal.invariant-run
invariant-run g l =
    record {
      working : Working g.K.Kit.gives g.N.Namer.digest (g.C.Crew.shop l.crew) (g.C.Crew.is_sound l.crew) l.master (g.C.Crew.out l.crew);
      model : Kept g.K.Kit.gives g.N.Namer.digest (g.C.Crew.shop l.fn.crew) (g.C.Crew.is_sound l.fn.crew) l.fn.master (g.C.Crew.out l.fn.crew) l.fn.seed
          → Kept g.K.Kit.gives g.N.Namer.digest (g.C.Crew.shop l.crew) (g.C.Crew.is_sound l.crew) l.master (g.C.Crew.out l.crew) l.state;
      plan : l.master.board.plan ≡ l.fn.master.board.plan;
      shop : g.C.Crew.shop l.crew ≡ g.C.Crew.shop l.fn.crew;
      stays : g.C.Crew.stays l.crew ≡ g.C.Crew.stays l.fn.crew;
      told : ToldOn l.fn.master.board.journal l.master.board.journal (g.C.Crew.told l.fn.crew) (g.C.Crew.told l.crew);
      does : Does g.K.Kit.gives g.N.Namer.digest (g.C.Crew.shop l.fn.crew)
          (Kept g.K.Kit.gives g.N.Namer.digest (g.C.Crew.shop l.fn.crew) (g.C.Crew.is_sound l.fn.crew) l.fn.master (g.C.Crew.out l.fn.crew) l.fn.seed)
          g.C.Crew.goes (g.C.Crew.record_of l.fn.crew) l.fn.master.board (g.C.Crew.record_of l.crew) l.master.board;
    }

abbrev pub decreases-run : goal.decreases-run
decreases-run g l = left l.master (g.C.Crew.out l.crew)
