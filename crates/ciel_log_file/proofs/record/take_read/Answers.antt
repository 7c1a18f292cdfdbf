use Rattle.std.proofs.Common.{ap, refl, ◌∙◌}
use Rattle.ciel_log_file.specs.Replays.{At}
use Rattle.ciel_log_file.proofs.Read.{drop_passes, less_long, report_comes, report_ends, drop_refused, report_refused, start_refused, start_taken, started_long}
use Rattle.ciel_log_file.proofs.Steps.{placed_less, placed_of, takes_less, takes_started}
use Rattle.ciel_master.specs.Seen.{MasterSeen}
use Rattle.ciel_master_board.specs.Board.{Board, find_order}
use Rattle.ciel_run_drive.proofs.Names.{none_of}
use Rattle.ciel_task_order.specs.Views.{P}
use Rattle.ciel_log_file.proofs.record.take_read.Goals as goal

pub returns-then-taken-clause-takes_it : goal.returns-then-taken-clause-takes_it
returns-then-taken-clause-takes_it g c _ =
    let t = c.if-taken.true in
    start_taken (g.N.Namer.digest c.args.shop.now.namer) c.args.shop.now.shelves c.args.script.now
    (record { board = c.args.master.now.board; out = c.args.out.now; kept = c.args.kept.now })
    (record { board = c.take_start.new.master.board; out = c.take_start.new.out; kept = c.args.kept.now }) c.args.told.now c.requires.data
    c.in-Start.number c.in-Start.worker c.in-Start.from c.in-Start.task c.in-Start.is (c.in_ok-taken-in-Start.ensures.taken t)
    (c.in_ok-taken-in-Start.ensures.started t) refl

pub returns-then-taken-clause-placed : goal.returns-then-taken-clause-placed
returns-then-taken-clause-placed g c _ = placed_of c.in_ok-taken-in-Start.ensures.between

pub returns-then-taken-clause-takes : goal.returns-then-taken-clause-takes
returns-then-taken-clause-takes g c _ =
    let t = c.if-taken.true in
    takes_started g.K.Kit.gives g.N.Namer.digest c.args.shop.now c.requires.between c.orders_are_safe.ensures.orders c.in-Start.number
    c.in-Start.worker c.in-Start.from c.in-Start.task (c.in_ok-taken-in-Start.ensures.taken t) c.take_start.new.master.board c.take_start.new.out
    (c.in_ok-taken-in-Start.ensures.started t) c.requires.takes

pub returns-then-taken-clause-many : goal.returns-then-taken-clause-many
returns-then-taken-clause-many g c _ =
    started_long c.args.master.now.board c.take_start.new.master.board c.args.out.now c.take_start.new.out c.in-Start.task c.in-Start.worker
    (c.in_ok-taken-in-Start.ensures.started c.if-taken.true)

pub returns-then-taken-clause-plan : goal.returns-then-taken-clause-plan
returns-then-taken-clause-plan g c _ = ap (λ (b : Board P). b.plan) (c.in_ok-taken-in-Start.ensures.started c.if-taken.true).board

pub returns-in_ok-came-in-Report-clause-takes_it : goal.returns-in_ok-came-in-Report-clause-takes_it
returns-in_ok-came-in-Report-clause-takes_it g c goes =
    let n = c.in_ok-came-in-Report.ensures in
    let old : At = record { board = c.args.master.now.board; out = c.args.out.now; kept = c.args.kept.now } in
    report_comes (g.N.Namer.digest c.args.shop.now.namer) c.args.shop.now.shelves c.args.script.now old
    (record { board = c.take_report.new.master.board; out = c.take_report.new.out; kept = c.take_report.new.kept }) c.args.told.now c.requires.data
    c.in-Report.logged c.in-Report.is c.in_ok-came-in-Report.came goes n.passed
    (λ q. let s = n.same q in ap (λ (m : MasterSeen _). record { board = m.board; out = c.take_report.new.out; kept = c.take_report.new.kept }) s.0
    ∙ (ap (λ o. record { board = c.args.master.now.board; out = o; kept = c.take_report.new.kept }) s.1
    ∙ ap (λ k. record { board = c.args.master.now.board; out = c.args.out.now; kept = k }) s.2)) n.taken

pub returns-in_ok-came-in-Report-clause-ends : goal.returns-in_ok-came-in-Report-clause-ends
returns-in_ok-came-in-Report-clause-ends g c e q =
    report_ends (g.N.Namer.digest c.args.shop.now.namer) c.args.shop.now.shelves c.args.script.now
    (record { board = c.args.master.now.board; out = c.args.out.now; kept = c.args.kept.now })
    (record { board = c.take_report.new.master.board; out = c.take_report.new.out; kept = c.take_report.new.kept }) c.args.told.now c.requires.data
    c.in-Report.logged c.in-Report.is e (c.in_ok-came-in-Report.ensures.ends e q)

pub returns-in_ok-came-in-Report-clause-placed : goal.returns-in_ok-came-in-Report-clause-placed
returns-in_ok-came-in-Report-clause-placed g c _ =
    placed_less c.args.out.now c.take_report.new.out (placed_of c.requires.between) c.in_ok-came-in-Report.ensures.less

pub returns-in_ok-came-in-Report-clause-takes : goal.returns-in_ok-came-in-Report-clause-takes
returns-in_ok-came-in-Report-clause-takes g c _ =
    takes_less g.K.Kit.gives g.N.Namer.digest c.args.shop.now c.args.out.now c.take_report.new.out c.requires.takes c.in_ok-came-in-Report.ensures.less

pub returns-in_ok-came-in-Report-clause-many : goal.returns-in_ok-came-in-Report-clause-many
returns-in_ok-came-in-Report-clause-many g c _ = less_long c.args.out.now c.take_report.new.out c.in_ok-came-in-Report.ensures.less

pub returns-else-is_out-clause-takes_it : goal.returns-else-is_out-clause-takes_it
returns-else-is_out-clause-takes_it g c _ =
    drop_passes (g.N.Namer.digest c.args.shop.now.namer) c.args.shop.now.shelves c.args.script.now
    (record { board = c.args.master.now.board; out = c.args.out.now; kept = c.args.kept.now }) c.args.told.now c.requires.data
    c.in-Dropped.number c.in-Dropped.is
    (none_of (find_order c.in-Dropped.number c.args.master.now.board.orders) c.is_out.ensures c.if-is_out.false)

pub returns-else-is_out-clause-placed : goal.returns-else-is_out-clause-placed
returns-else-is_out-clause-placed g c _ = placed_of c.requires.between

pub returns-else-taken-clause-refused : goal.returns-else-taken-clause-refused
returns-else-taken-clause-refused g c _ =
    start_refused (g.N.Namer.digest c.args.shop.now.namer) c.args.shop.now.shelves c.args.script.now
    (record { board = c.args.master.now.board; out = c.args.out.now; kept = c.args.kept.now }) c.args.told.now c.requires.data
    c.in-Start.number c.in-Start.worker c.in-Start.from c.in-Start.task c.in-Start.is (c.in_ok-taken-in-Start.ensures.refused c.if-taken.false)

pub returns-in_ok-came-in-Report-clause-refused : goal.returns-in_ok-came-in-Report-clause-refused
returns-in_ok-came-in-Report-clause-refused g c q =
    report_refused (g.N.Namer.digest c.args.shop.now.namer) c.args.shop.now.shelves c.args.script.now
    (record { board = c.args.master.now.board; out = c.args.out.now; kept = c.args.kept.now }) c.args.told.now c.requires.data
    c.in-Report.logged c.in-Report.is (c.in_ok-came-in-Report.ensures.refused q)

pub returns-then-is_out-clause-refused : goal.returns-then-is_out-clause-refused
returns-then-is_out-clause-refused g c _ =
    drop_refused (g.N.Namer.digest c.args.shop.now.namer) c.args.shop.now.shelves c.args.script.now
    (record { board = c.args.master.now.board; out = c.args.out.now; kept = c.args.kept.now }) c.args.told.now c.requires.data
    c.in-Dropped.number c.in-Dropped.is c.is_out.ensures c.if-is_out.true
