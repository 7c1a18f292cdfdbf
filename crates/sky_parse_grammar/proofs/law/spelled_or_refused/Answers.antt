-- The law is proved over the definitions alone.
use Rattle.sky_parse_grammar.proofs.Exact as exact
use Rattle.sky_parse_grammar.proofs.law.spelled_or_refused.Goals as goal

pub returns : goal.returns
returns c = exact.spelled_or_refused
