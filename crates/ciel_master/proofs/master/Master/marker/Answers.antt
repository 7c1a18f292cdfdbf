-- What is kept of the marker is what contracts see of it.
use Rattle.std.proofs.Common.{vec_capacity}
use Rattle.std.specs.Arc.{arc_value}
use Rattle.ciel_master.specs.Seen.{board_of}
use Rattle.ciel_master.proofs.Kept.{marked_seen}
use Rattle.ciel_master.proofs.master.Master.marker.Goals as goal

pub returns : goal.returns
returns g c =
    let i = c.self.inside in
    let n = (arc_value i.shop).namer in
    let b = board_of i.plan (arc_value i.shop).job.script.keys i.main i.ready.table i.orders.items i.starts i.closes i.journal.items i.stopped in
    record {
      marked = marked_seen g.N.Namer.digest c.args.self.now n (arc_value i.shop).shelves (arc_value i.shop).job.script b c.self.view_is i.lost.items
          (vec_capacity i.journal) (vec_capacity i.lost) i.marker i.ready c.self.invariant c.requires.going;
    }
