use Rattle.ciel_look_law.proofs.Names.{long_names_fit, short_names_fit}
use Rattle.ciel_look_law.proofs.law.names_fit.Goals as goal

pub returns-clause-short : goal.returns-clause-short
returns-clause-short c = short_names_fit

pub returns-clause-long : goal.returns-clause-long
returns-clause-long c = long_names_fit
