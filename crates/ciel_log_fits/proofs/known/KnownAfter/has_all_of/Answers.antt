use Rattle.sky_base.specs.ObjectView.{object_view}
use Rattle.ciel_log_fits.proofs.Learned.{known_object, object_known}
use Rattle.ciel_log_fits.proofs.known.KnownAfter.has_all_of.Goals as goal

pub returns-clause-yes : goal.returns-clause-yes
returns-clause-yes g c = λ t digest. object_known c.args.self.now digest (object_view c.args.object.now) (c.in_object.ensures.yes t)

pub returns-clause-no : goal.returns-clause-no
returns-clause-no g c = λ t digest h. c.in_object.ensures.no t (known_object c.args.self.now digest (object_view c.args.object.now) h)
