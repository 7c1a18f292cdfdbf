-- The law is proved over the definitions alone.
use Rattle.sky_parse_grammar.proofs.OrderLaw as law
use Rattle.sky_parse_grammar.proofs.law.numbered_in_order.Goals as goal

pub returns : goal.returns
returns c = law.numbered_in_order
