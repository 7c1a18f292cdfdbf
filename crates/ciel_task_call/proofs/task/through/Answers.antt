use Rattle.std.proofs.Common.{refl, rules}
use Rattle.sky_state.specs.StateView.{stand_of, spawned_of}
use Rattle.ciel_task_call.proofs.FinderRuns.{all_there, can_bring, finds_sound, passed, went_same}
use Rattle.ciel_task_call.proofs.task.through.Goals as goal

pub run_through-requires-clause-sound : goal.run_through-requires-clause-sound
run_through-requires-clause-sound g c =
    finds_sound c.args.shop.now.shelves c.args.shop.now.job.script c.args.shop.now.job.inputs c.args.order.now c.requires.sound.spots
    c.args.held.now c.requires.list c.numbered-numbered.result.code c.numbered-numbered.ensures.code

pub run_through-requires-clause-found : goal.run_through-requires-clause-found
run_through-requires-clause-found g c =
    all_there c.args.shop.now.shelves c.args.shop.now.job.script c.args.shop.now.job.inputs c.args.order.now c.requires.sound.spots
    c.args.held.now c.requires.list (stand_of c.args.state.now) c.requires.begins

pub run_through-requires-clause-finder : goal.run_through-requires-clause-finder
run_through-requires-clause-finder g c =
    can_bring c.args.shop.now.shelves c.args.shop.now.job.script c.args.shop.now.job.inputs c.args.order.now c.requires.sound.spots
    c.args.held.now c.requires.list c.args.order.now.worker c.requires.sound.worker c.args.eye.now
    c.requires.eye
    c.args.copied.now c.requires.none c.requires.empty

pub returns-clause-went : goal.returns-clause-went
returns-clause-went g c =
    went_same (g.N.Namer.digest c.args.shop.now.namer) c.args.shop.now.shelves c.args.shop.now.job.script c.args.shop.now.job.inputs
    c.args.order.now (stand_of c.args.state.now) (stand_of c.run_through.new.state) (spawned_of c.run_through.new.state)
    c.run_through.new.finder.eye.now _ c.in_ok-went.went c.run_through.new.finder.copied.now.items.items _ (search rules) (search rules)
    (passed (g.N.Namer.digest c.args.shop.now.namer) c.args.shop.now.shelves c.args.shop.now.job.script c.args.shop.now.job.inputs
    c.args.order.now (stand_of c.args.state.now) (stand_of c.run_through.new.state) (spawned_of c.run_through.new.state)
    c.run_through.new.finder.eye.now c.run_through.new.finder.copied.now.items.items
    c.in_ok-went.went c.numbered-numbered.result.code c.numbered-numbered.ensures.code c.args.held.now c.requires.list
    (spawned_of c.args.state.now) c.requires.spawned c.args.copied.now.items.items c.requires.none
    _ _ c.in_ok-went.ensures.stays refl refl refl refl c.in_ok-went.ensures.ready.copied.copies
    c.in_ok-went.ensures.refusal c.in_ok-went.ensures.through c.in_ok-went.ensures.fits c.in_ok-went.ensures.kind c.in_ok-went.ensures.further
    c.in_ok-went.ensures.made c.in_ok-went.ensures.whole c.in_ok-went.ensures.known)
