use Rattle.std.proofs.Common.{None}
use Rattle.ciel_want_ready.specs.Following.{Waits}
use Rattle.ciel_want_ready.proofs.LeastFollower.{looked_all, looked_more}
use Rattle.ciel_want_ready.proofs.follow.look_at_rows.Goals as goal

pub loop-i-preserved : goal.loop-i-preserved
loop-i-preserved g c =
    let m = c.args.marks.now in
    looked_more c.args.table.now c.args.task.now m (λ x v. Waits m x v) c.args.rows.now c.loop-i.i None c.loop-i.all c.look_waiting-all.result
    c.loop-i-test.true c.look_waiting-all.ensures c.loop-i.invariant

pub returns : goal.returns
returns g c =
    let m = c.args.marks.now in
    looked_all c.args.table.now c.args.task.now m (λ x v. Waits m x v) c.args.rows.now c.loop-i.i None c.loop-i.all c.loop-i-test.false
    c.loop-i.invariant
