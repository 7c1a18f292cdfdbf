use Rattle.std.proofs.Common.{◌∙◌, None, sym}
use Rattle.ciel_want_ready.specs.Following.{MayFollow, Near}
use Rattle.ciel_want_ready.proofs.LeastFollower.{better_fewer, may_near}
use Rattle.ciel_want_ready.proofs.follow.first_row.Goals as goal

pub returns-in-Some : goal.returns-in-Some
returns-in-Some g c =
    let t = c.args.table.now in
    let task = c.args.task.now in
    let m = c.args.marks.now in
    better_fewer t task m (λ v. MayFollow t task m v) (λ v. Near m c.in-Some.node v) None c.first_of.result
    (may_near t task m c.in-Some.node (sym c.node_of.ensures ∙ c.in-Some.is)) c.first_of.ensures
