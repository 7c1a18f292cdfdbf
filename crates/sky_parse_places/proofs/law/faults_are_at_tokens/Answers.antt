use Rattle.sky_parse_places.proofs.Faults as faults
use Rattle.sky_parse_places.proofs.law.faults_are_at_tokens.Goals as goal

pub returns : goal.returns
returns c = record {
  seen = λ source keys job around is. faults.seen_at source keys job around is;
  meant = λ source keys job around is. faults.meant_at source keys job around is;
}
