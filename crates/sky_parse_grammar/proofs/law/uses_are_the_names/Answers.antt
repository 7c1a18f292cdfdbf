-- The law is proved over the definitions alone.
use Rattle.sky_parse_grammar.proofs.UsesLaw as law
use Rattle.sky_parse_grammar.proofs.law.uses_are_the_names.Goals as goal

pub returns : goal.returns
returns c = law.uses_has
