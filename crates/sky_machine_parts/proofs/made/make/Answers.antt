use Rattle.std.proofs.Common.{◌∷◌, ◌++◌, [], List, ap, ◌∙◌}
use Rattle.sky_base.specs.declared.object.Named.{Named}
use Rattle.sky_machine_parts.specs.Made.{whole}
use Rattle.sky_machine_parts.proofs.Told.{whole_push}
use Rattle.sky_machine_parts.proofs.made.make.Goals as goal

pub returns-clause-whole : goal.returns-clause-whole
returns-clause-whole g c = λ r.
    let digest = g.N.Namer.digest c.args.ground.now.namer.now in
    let n : Named = record { name = c.in_ok-name.name; desc = c.args.desc } in
    let all = c.push_reserved.ensures.items ∙ ap (λ (xs : List Named). xs ++ n ∷ []) c.reserve.ensures.items in
    ap (λ ns. whole digest ns r) all ∙ whole_push digest c.args.made.now.items n r c.in_ok-name.ensures
