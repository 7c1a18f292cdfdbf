use Rattle.sky_parse_places.proofs.Faults.{place_within}
use Rattle.sky_parse_places.proofs.Tokens.{few_tokens}
use Rattle.sky_parse_places.proofs.law.places_are_within.Goals as goal

pub returns : goal.returns
returns c = record { within = place_within; tokens = few_tokens }
