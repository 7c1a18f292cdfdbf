use Rattle.std.proofs.Common.{◌≡◌, ℕ, Some, sym, subst}
use Rattle.ciel_journal.specs.Job.{In}
use Rattle.ciel_want_marks.specs.Lists.{entry}
use Rattle.ciel_want_ready.specs.Following.{Runs}
use Rattle.ciel_want_ready.proofs.LeastFollower.{better_fewer, looked_all, looked_more}
use Rattle.ciel_want_ready.proofs.follow.look_at_list.Goals as goal

pub loop-i-preserved : goal.loop-i-preserved
loop-i-preserved g c =
    let m = c.args.marks.now in
    looked_more c.args.table.now c.args.task.now m (λ x v. entry m.makers x ≡ Some v) c.list-list.result.now c.loop-i.i c.args.best c.loop-i.all
    c.look_at_maker-all.result c.loop-i-test.true c.look_at_maker-all.ensures c.loop-i.invariant

pub returns : goal.returns
returns g c =
    let m = c.args.marks.now in
    let list = c.list-list.result.now in
    better_fewer c.args.table.now c.args.task.now m (λ v. Runs m v) (λ v. (x : ℕ) × In x list × (entry m.makers x ≡ Some v)) c.args.best
    c.loop-i.all (λ v h. (h.0, subst (In h.0) (sym c.list-list.ensures.list) h.1, h.2))
    (looked_all c.args.table.now c.args.task.now m (λ x v. entry m.makers x ≡ Some v) list c.loop-i.i c.args.best c.loop-i.all
    c.loop-i-test.false c.loop-i.invariant)
