use Rattle.sky_base.specs.TreeView.{exp_view}
use Rattle.sky_machine_code.specs.Shapes.{rest_view}
use Rattle.sky_base_law.specs.Nodes.{node_at}
use Rattle.sky_state.specs.Table.{past_part}
use Rattle.sky_machine_open.proofs.Places.{parts_left}
use Rattle.sky_frozen_fits.proofs.Walks.{on_more, on_none, none_part, one_part}
use Rattle.sky_frozen_fits.proofs.walk.parts_after.Goals as goal

pub returns-in_default : goal.returns-in_default
returns-in_default c =
    let l = c.loop-passed in
    on_none past_part l._passed c.args.count (c.args.first, rest_view c.args.parts) (l.next, rest_view l.rest) l.invariant.place
    (none_part l.next (rest_view l.rest) c.in_default.ensures) c.loop-passed-test.true

pub loop-passed-preserved : goal.loop-passed-preserved
loop-passed-preserved c =
    let l = c.loop-passed in
    let o = c.in-Some.part in
    let e = exp_view o.part.now in
    record {
      place = on_more past_part l._passed (c.args.first, rest_view c.args.parts) (l.next, rest_view l.rest)
          (c.after_exp-next.result, rest_view o.rest) l.invariant.place
          (one_part l.next c.after_exp-next.result e (rest_view l.rest) (rest_view o.rest) c.in-Some.ensures c.after_exp-next.ensures);
      has = parts_left (λ i. node_at c.args.code.now i) l.next c.after_exp-next.result e (rest_view l.rest) (rest_view o.rest) c.in-Some.ensures
          c.after_exp-next.ensures l.invariant.has;
    }
