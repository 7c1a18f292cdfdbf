use Rattle.std.proofs.Common.{◌∙◌, ap}
use Rattle.sky_base.specs.Names.{is_among}
use Rattle.ciel_log_fits.proofs.Sets.{among_is}
use Rattle.ciel_log_fits.proofs.spellings.Spellings.has.Goals as goal

pub returns : goal.returns
returns c = c.contains.ensures ∙ among_is c.args.bytes c.self.inside.keys.keys ∙ ap (is_among c.args.bytes) c.self.view_is
