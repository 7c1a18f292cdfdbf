-- The law is proved over the definitions alone.
use Rattle.sky_parse_grammar.proofs.UniqueScripts as law
use Rattle.sky_parse_grammar.proofs.law.one_script.Goals as goal

pub returns : goal.returns
returns c = law.one_script
