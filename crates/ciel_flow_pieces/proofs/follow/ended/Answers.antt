use Rattle.std.proofs.Common.{[], ◌∷◌}
use Rattle.std.specs.Prelude.{replicate}
use Rattle.sky_base.specs.View.{view}
use Rattle.line_kit.specs.Gives.{gives}
use Rattle.line_flow.specs.Told.{Told}
use Rattle.ciel_flow_pieces.specs.Left.{flat}
use Rattle.ciel_flow_pieces.proofs.Leaving.{whole_answer}
use Rattle.ciel_flow_pieces.proofs.follow.ended.Goals as goal

pub invariant_of-result : goal.invariant_of-result
invariant_of-result c =
    let x = c.args.executor in
    let a = view c.args.args in
    let n = c.args.outputs in
    let fed = flat c.args.parts.items ∷ [] in
    let t : Told = record { executor = x; args = a; outputs = n; fed = fed; last = 0; drained = replicate n [] } in
    record { so = whole_answer n c.in-Ok.made (gives x a fed n) (c.in-Ok.ensures t c.requires) }
