use Rattle.std.proofs.Common.{sym, subst}
use Rattle.sky_base_law.specs.Nodes.{node_at}
use Rattle.sky_base_law.specs.Opened.{HasArms}
use Rattle.sky_frozen_fits.proofs.places.statement_at.Goals as goal

pub arm_at-requires : goal.arm_at-requires
arm_at-requires c =
    let has = rw c.in-If.is at c.requires in
    let here = c.inside.ensures.here _ has.0 in
    subst (λ x. HasArms (λ i. node_at c.args.code.now i) x c.inside.result) (sym c.as_slice.ensures)
    (subst (HasArms (λ i. node_at c.args.code.now i) c.in-If.arms) (sym here) has.1)
