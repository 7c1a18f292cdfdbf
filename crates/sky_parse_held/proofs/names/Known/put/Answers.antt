use Rattle.std.proofs.Common.{◌∙◌}
use Rattle.sky_base.specs.Eval.{is_one_of}
use Rattle.sky_parse_held.proofs.NamesLaw.{contains_is, was_there}
use Rattle.sky_parse_held.proofs.names.Known.put.Goals as goal

pub returns-clause-was : goal.returns-clause-was
returns-clause-was c = was_there _ _ c.in-Ok.ensures.added ∙ contains_is c.in_ok-share.field-0 c.self.inside.keys.keys
    ∙ (λ i. is_one_of (c.in_ok-share.ensures i) (c.self.view_is i))
