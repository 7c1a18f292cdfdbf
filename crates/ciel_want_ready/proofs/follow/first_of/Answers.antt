use Rattle.std.proofs.Common.{ℕ, None}
use Rattle.ciel_journal.specs.Job.{In}
use Rattle.ciel_want_ready.specs.Following.{Near, Runs, Waits}
use Rattle.ciel_want_ready.proofs.LeastFollower.{better_both, better_fewer, near_some, near_waits}
use Rattle.ciel_want_ready.proofs.follow.first_of.Goals as goal

pub returns-then-some_live : goal.returns-then-some_live
returns-then-some_live g c =
    let m = c.args.marks.now in
    let rows = c.makes-rows.result.now in
    better_both c.args.table.now c.args.task.now m (λ v. (r : ℕ) × In r rows × Waits m r v) (λ v. Runs m v) (λ v. Near m c.args.node v) None
    c.look_at_rows-best.result c.look_at_list.result (near_some m c.args.node rows c.makes-rows.ensures.makes) c.look_at_rows-best.ensures
    c.look_at_list.ensures

pub returns-else-some_live : goal.returns-else-some_live
returns-else-some_live g c =
    let m = c.args.marks.now in
    let rows = c.makes-rows.result.now in
    better_fewer c.args.table.now c.args.task.now m (λ v. Near m c.args.node v) (λ v. (r : ℕ) × In r rows × Waits m r v) None
    c.look_at_rows-best.result (near_waits m c.args.node rows c.makes-rows.ensures.makes (c.some_live.ensures c.if-some_live.false))
    c.look_at_rows-best.ensures
