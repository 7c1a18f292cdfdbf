use Rattle.std.proofs.Common.{◌∙◌, ◌||◌, ap}
use Rattle.sky_base.specs.Names.{is_among}
use Rattle.sky_base.specs.Val.{same_text}
use Rattle.ciel_log_fits.proofs.Sets.{insert_has}
use Rattle.ciel_log_fits.proofs.spellings.Spellings.put.Goals as goal

pub returns : goal.returns
returns c = λ x.
    ap (is_among x) c.in-Ok.ensures.keys ∙ insert_has x c.args.bytes c.self.inside.keys.keys
    ∙ ap (λ ks. same_text x c.args.bytes || is_among x ks) c.self.view_is
