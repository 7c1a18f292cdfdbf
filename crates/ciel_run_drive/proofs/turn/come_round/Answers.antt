use Rattle.std.proofs.Common.{refl}
use Rattle.ciel_run_drive.proofs.MovedLemmas.{ends_none}
use Rattle.ciel_run_drive.proofs.Names.{none_runs}
use Rattle.ciel_run_drive.proofs.Over.{comes_round, stops}
use Rattle.ciel_run_drive.proofs.turn.come_round.Goals as goal

pub returns-in-Ok-Some : goal.returns-in-Ok-Some
returns-in-Ok-Some g c =
    let circle = rw c.in-Ok-Some.field-0-is at c.in-Ok-Some.ensures.circle in
    let distinct = rw c.in-Ok-Some.field-0-is at c.in-Ok-Some.ensures.distinct in
    record {
      end = λ k. comes_round k c.requires.working c.requires.none_out c.in-Ok-Some.names circle distinct;
      ends =
          ends_none g.K.Kit.gives g.N.Namer.digest (g.C.Crew.shop c.args.crew.now) _ g.C.Crew.goes (g.C.Crew.record_of c.args.crew.now)
          c.args.master.now.board c.args.master.now.board.journal refl;
    }

pub returns-in-Err : goal.returns-in-Err
returns-in-Err g c = record { end = λ k. stops k; ends = tt }

pub unreachable-requires : goal.unreachable-requires
unreachable-requires g c =
    let some = rw c.in-Ok-None.field-0-is at c.in-Ok-None.ensures.none in
    none_runs c.requires.working c.requires.none_runs some
