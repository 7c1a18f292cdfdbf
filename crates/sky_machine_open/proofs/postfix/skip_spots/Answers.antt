use Rattle.std.proofs.Common.{sym, ◌∙◌}
use Rattle.sky_base.specs.TreeView.{steps_view}
use Rattle.sky_base_law.specs.Nodes.{node_at}
use Rattle.sky_base_law.specs.Opened.{enter_pos}
use Rattle.sky_machine_open.specs.Spots.{pos_view}
use Rattle.sky_machine_open.proofs.Places.{enters_has, past_has, pos_step, pos_stop}
use Rattle.sky_machine_open.proofs.postfix.skip_spots.Goals as goal

pub loop-passed-init : goal.loop-passed-init
loop-passed-init c = record {
  place = c.enter-spot.ensures;
  has = enters_has (λ i. node_at c.args.code.now i) c.args.second (steps_view c.args.steps.now) (pos_view c.enter-spot.result)
      c.enter-spot.ensures c.requires;
}

pub loop-passed-preserved : goal.loop-passed-preserved
loop-passed-preserved c =
    let l = c.loop-passed in
    record {
      place = pos_step l._passed (enter_pos c.args.second (steps_view c.args.steps.now)) (pos_view l.spot) (pos_view c.past-spot.result)
          l.invariant.place c.past-spot.ensures;
      has = past_has (λ i. node_at c.args.code.now i) (pos_view l.spot) (pos_view c.past-spot.result) c.past-spot.ensures l.invariant.has;
    }

pub returns-then-is_finished-clause-place : goal.returns-then-is_finished-clause-place
returns-then-is_finished-clause-place c =
    let l = c.loop-passed in
    pos_stop l._passed c.args.count (enter_pos c.args.second (steps_view c.args.steps.now)) (pos_view l.spot) l.invariant.place
    (sym c.is_finished.ensures ∙ c.if-is_finished.true) l.auto._passed-end
