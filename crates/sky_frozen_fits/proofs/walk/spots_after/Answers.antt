use Rattle.std.proofs.Common.{Some, sym, ap, arith}
use Rattle.sky_base.specs.TreeView.{steps_view}
use Rattle.sky_base_law.specs.Nodes.{node_at}
use Rattle.sky_state.specs.Table.{past_spot, spot_of}
use Rattle.sky_frozen_fits.specs.Rows.{spot_view}
use Rattle.sky_frozen_fits.proofs.Walks.{on_more, on_none, first_has, spot_left}
use Rattle.sky_frozen_fits.proofs.walk.spots_after.Goals as goal

pub loop-passed-init : goal.loop-passed-init
loop-passed-init c = record {
  place = ap Some (sym c.enter-spot.ensures.place);
  has = first_has (λ i. node_at c.args.code.now i) c.args.second (steps_view c.args.steps.now) (spot_view c.enter-spot.result)
      c.enter-spot.ensures.place c.requires;
  few = omega (arith, c.enter-spot.ensures.none);
}

pub returns-in_default-clause-place : goal.returns-in_default-clause-place
returns-in_default-clause-place c =
    let l = c.loop-passed in
    on_none past_spot l._passed c.args.count (spot_of c.args.second (steps_view c.args.steps.now)) (spot_view l.spot) l.invariant.place
    c.in_default.ensures.place c.loop-passed-test.true

pub loop-passed-preserved : goal.loop-passed-preserved
loop-passed-preserved c =
    let l = c.loop-passed in
    record {
      place = on_more past_spot l._passed (spot_of c.args.second (steps_view c.args.steps.now)) (spot_view l.spot) (spot_view c.in-Some.next)
          l.invariant.place c.in-Some.ensures.place;
      has = spot_left (λ i. node_at c.args.code.now i) (spot_view l.spot) (spot_view c.in-Some.next) c.in-Some.ensures.place l.invariant.has;
      few = omega (arith, l.invariant.few, c.in-Some.ensures.one);
    }
