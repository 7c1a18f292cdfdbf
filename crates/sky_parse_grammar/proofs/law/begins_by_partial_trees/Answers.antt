-- The law is proved over the definitions alone.
use Rattle.sky_parse_grammar.proofs.BeginsLaw as law
use Rattle.sky_parse_grammar.proofs.law.begins_by_partial_trees.Goals as goal

pub returns : goal.returns
returns c = law.begins_by_partial_trees
