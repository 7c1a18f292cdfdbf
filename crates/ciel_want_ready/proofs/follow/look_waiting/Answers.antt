use Rattle.std.proofs.Common.{◌≡◌, ℕ, sym, subst, refl}
use Rattle.ciel_journal.specs.Job.{In}
use Rattle.ciel_want_ready.specs.Following.{Waits}
use Rattle.ciel_want_ready.proofs.LeastFollower.{better_fewer, looked_all, looked_more}
use Rattle.ciel_want_ready.proofs.follow.look_waiting.Goals as goal

pub loop-i-preserved : goal.loop-i-preserved
loop-i-preserved g c =
    looked_more c.args.table.now c.args.task.now c.args.marks.now (λ x v. v ≡ x) c.watchers-nodes.result.now c.loop-i.i c.args.best c.loop-i.all
    c.look_at-all.result c.loop-i-test.true c.look_at-all.ensures c.loop-i.invariant

pub returns : goal.returns
returns g c =
    let m = c.args.marks.now in
    let nodes = c.watchers-nodes.result.now in
    better_fewer c.args.table.now c.args.task.now m (λ v. Waits m c.args.row v) (λ v. (x : ℕ) × In x nodes × (v ≡ x)) c.args.best c.loop-i.all
    (λ v h. (v, subst (In v) (sym c.watchers-nodes.ensures.watchers) h.1, refl))
    (looked_all c.args.table.now c.args.task.now m (λ x v. v ≡ x) nodes c.loop-i.i c.args.best c.loop-i.all c.loop-i-test.false
    c.loop-i.invariant)
