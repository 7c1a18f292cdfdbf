use Rattle.ciel_log_refuses.proofs.Ends.{refused_end_nothing}
use Rattle.ciel_log_refuses.proofs.Refusals.{logs_are_replayed, logs_have_no_bad_place, refused_are_bad, refused_for_cause}
use Rattle.ciel_log_refuses.proofs.law.logs_are_replayed.Goals as goal

pub returns : goal.returns
returns g c =
    record {
      cause = refused_for_cause g.K.Kit.gives g.N.Namer.digest;
      bad = refused_are_bad g.K.Kit.gives g.N.Namer.digest;
      good = logs_have_no_bad_place;
      never = logs_are_replayed g.K.Kit.gives g.N.Namer.digest;
      ends = refused_end_nothing;
    }
