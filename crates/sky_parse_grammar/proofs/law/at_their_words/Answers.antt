-- The law is proved over the definitions alone.
use Rattle.sky_parse_grammar.proofs.WordsLaw as law
use Rattle.sky_parse_grammar.proofs.law.at_their_words.Goals as goal

pub returns : goal.returns
returns c = law.at_their_words
