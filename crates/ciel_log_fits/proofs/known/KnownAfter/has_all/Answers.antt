use Rattle.ciel_log_fits.proofs.Learned.{all_known, known_all}
use Rattle.ciel_log_fits.proofs.known.KnownAfter.has_all.Goals as goal

pub returns-clause-yes : goal.returns-clause-yes
returns-clause-yes g c = λ t digest. all_known c.args.self.now digest c.args.names.now (c.in_names.ensures.yes t)

pub returns-clause-no : goal.returns-clause-no
returns-clause-no g c = λ t digest h. c.in_names.ensures.no t (known_all c.args.self.now digest c.args.names.now h)
