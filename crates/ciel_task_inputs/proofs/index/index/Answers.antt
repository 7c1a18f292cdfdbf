use Rattle.ciel_task_inputs.specs.Lies.{held_name}
use Rattle.ciel_task_inputs.proofs.Indexes.{index_next}
use Rattle.ciel_task_inputs.proofs.index.index.Goals as goal

pub loop-place-preserved : goal.loop-place-preserved
loop-place-preserved c =
    index_next held_name c.loop-place.index c.add.new.index c.args.held.now c.loop-place.place c.index-held-place.result c.loop-place-test.true
    c.index-held-place.is c.loop-place.invariant c.in_ok-add.ensures
