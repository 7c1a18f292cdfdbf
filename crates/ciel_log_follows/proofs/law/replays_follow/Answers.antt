use Rattle.ciel_log_follows.proofs.Replayed.{replays_are_ended, replays_are_kept, replays_are_told}
use Rattle.ciel_log_follows.proofs.law.replays_follow.Goals as goal

pub returns : goal.returns
returns g c =
    record {
      told = replays_are_told g.K.Kit.gives g.N.Namer.digest;
      kept = replays_are_kept g.K.Kit.gives g.N.Namer.digest;
      ended = replays_are_ended g.K.Kit.gives g.N.Namer.digest;
    }
