use Rattle.std.proofs.Common.{[], ◌∷◌, ◌++◌, ◌≡◌, ◌+◌, ◌≤◌, ap, arith, length, length-append, subst, sym}
use Rattle.ciel_flow_work.specs.Flowing.{done_of}
use Rattle.ciel_flow.proofs.LaneSteps.{back_next, one_long}
use Rattle.ciel_flow.proofs.lanes.done_alone.Goals as goal

pub loop-lane-preserved : goal.loop-lane-preserved
loop-lane-preserved g c =
    let i = c.loop-lane.invariant in
    let s = c.in-Some.ensures.steps.0 in
    let rest = c.next.new.self.rest.items in
    let k = c.in-Some.lane in
    let out = c.in-Some.out in
    record {
      left = back_next c.loop-lane.all.items c.keep_done.new.all.items k out rest (done_of c.args.outs.items)
          (subst (λ r. c.loop-lane.all.items ++ done_of r ≡ done_of c.args.outs.items) s i.left) c.keep_done.ensures.items;
      room = subst (λ n. length c.keep_done.new.all.items + length rest ≤ n) (sym c.keep_done.ensures.capacity)
          (omega (
            arith,
            i.room,
            ap length s,
            ap length c.keep_done.ensures.items,
            length-append c.loop-lane.all.items (done_of ((k, out) ∷ [])),
            one_long k out,
          ));
    }
