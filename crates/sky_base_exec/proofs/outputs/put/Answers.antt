use Rattle.std.proofs.Common.{◌≡◌, Some, false, slice_get, sym, subst}
use Rattle.std.specs.Option.{MatchOption}
use Rattle.sky_base.specs.ObjectView.{desc_view, object_view}
use Rattle.sky_base_known.specs.Walk.{is_held}
use Rattle.sky_base_exec.specs.Outputs.{InRoom}
use Rattle.sky_base_exec.proofs.Tells.{room-with}
use Rattle.sky_base_exec.proofs.outputs.put.Goals as goal

pub returns-clause-room : goal.returns-clause-room
returns-clause-room c =
    let at : slice_get c.args.rows.now c.in-Some.number ≡ Some (desc_view c.args.desc.now) =
    subst (λ o. MatchOption o (is_held (desc_view c.args.desc.now) c.args.rows.now ≡ false)
    (λ k. slice_get c.args.rows.now k ≡ Some (desc_view c.args.desc.now))) c.in-Some.is c.find.ensures in
    subst (InRoom c.args.rows.now c.args.objects.now) (sym c.in_ok-set.ensures.put)
    (room-with c.args.rows.now (desc_view c.args.desc.now) c.in-Some.number (object_view c.args.object) c.args.objects.now at)
