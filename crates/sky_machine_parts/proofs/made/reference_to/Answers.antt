use Rattle.std.proofs.Common.{◌∙◌, ap}
use Rattle.sky_base.specs.Val.{ref, known}
use Rattle.sky_base.specs.Res as logic
use Rattle.sky_base.specs.Res.{Fin}
use Rattle.sky_base.specs.ObjectView.{desc_view}
use Rattle.sky_machine_entries.specs.Config.{rest_in}
use Rattle.sky_machine_parts.specs.Made.{whole}
use Rattle.sky_machine_parts.proofs.Told.{made_in}
use Rattle.sky_machine_parts.proofs.made.reference_to.Goals as goal

pub returns-clause-same : goal.returns-clause-same
returns-clause-same g c = λ w es st h.
    let digest = g.N.Namer.digest c.args.ground.now.namer.now in
    let n = c.in_ok-name.name in
    c.in_ok-name.ensures.whole (rest_in w es (Fin (logic.End.got (ref (known n))) st))
    ∙ ap (whole digest c.args.made.now.items) (made_in w c.args.ground.now.code.now digest es (desc_view c.args.desc) n st h
    c.in_ok-name.ensures.name)
