use Rattle.std.proofs.Common.{sym, subst, add-one, arith}
use Rattle.ciel_journal.specs.Graph.{Picks}
use Rattle.ciel_want.specs.Board.{IsFlagged}
use Rattle.ciel_want.specs.Waited.{tasks_in_order}
use Rattle.ciel_want.proofs.FlaggedTasks.{Listing, list_at, list_end, list_end_without, list_start}
use Rattle.ciel_want.proofs.order.in_order.Goals as goal

pub loop-row-init : goal.loop-row-init
loop-row-init g c =
    subst (λ ts. Listing c.args.table.now c.args.flags.items c.args.root c.args.flags.items ts 0) (sym c.new-tasks.ensures.items)
    (list_start c.args.table.now c.args.flags.items c.args.root c.requires.long)

pub loop-row-preserved : goal.loop-row-preserved
loop-row-preserved g c =
    let t = c.args.table.now in
    let first = c.args.flags.items in
    subst (Listing t first c.args.root c.list.new.flags.items c.list.new.tasks.items) (sym (add-one c.loop-row.row))
    (list_at t first c.args.root c.loop-row.flags.items c.list.new.flags.items c.loop-row.tasks.items c.list.new.tasks.items c.loop-row.row
    c.loop-row.invariant (omega (arith, c.loop-row-test.true, c.len-row-end.ensures.number)) c.in_ok-list.ensures.tasks
    c.in_ok-list.ensures.flags)

pub returns-then-root : goal.returns-then-root
returns-then-root g c =
    let t = c.args.table.now in
    let flags = c.args.flags.items in
    subst (Picks (IsFlagged t flags c.args.root) (tasks_in_order t)) (sym c.in_ok-add.ensures)
    (list_end t flags c.args.root c.loop-row.flags.items c.loop-row.tasks.items c.loop-row.row c.loop-row.invariant
    (omega (arith, c.loop-row-test.false, c.len-row-end.ensures.number)) c.if-root.true)

pub returns : goal.returns
returns g c =
    list_end_without c.args.table.now c.args.flags.items c.args.root c.loop-row.flags.items c.loop-row.tasks.items c.loop-row.row
    c.loop-row.invariant (omega (arith, c.loop-row-test.false, c.len-row-end.ensures.number)) c.if-root.false
