use Rattle.std.proofs.Common.{refl, ◌∙◌}
use Rattle.ciel_log_file.specs.Refused.{no_record}
use Rattle.ciel_log_file.proofs.Read.{ends_behind, lost_long, lost_plan, refused_behind, takes_behind}
use Rattle.ciel_log_file.proofs.Steps.{placed_of, takes_lost}
use Rattle.ciel_log_read.specs.Recorded.{record_bytes}
use Rattle.ciel_log_read.specs.View.{record_view}
use Rattle.ciel_log_file.proofs.record.take_record.Goals as goal

pub take_read-requires-clause-takes : goal.take_read-requires-clause-takes
take_read-requires-clause-takes g c =
    takes_lost g.K.Kit.gives g.N.Namer.digest c.args.shop.now c.lose_due.new.master.board c.args.out.now c.lose_due.new.out c.lose_due.ensures.out
    c.requires.takes

pub returns-clause-takes_it : goal.returns-clause-takes_it
returns-clause-takes_it g c goes =
    let n = c.lose_due.ensures in
    takes_behind (g.N.Namer.digest c.args.shop.now.namer) c.args.shop.now.shelves c.args.script.now
    (record { board = c.args.master.now.board; out = c.args.out.now; kept = c.args.kept.now })
    (record { board = c.lose_due.new.master.board; out = c.lose_due.new.out; kept = c.args.kept.now })
    (record { board = c.take_read.new.master.board; out = c.take_read.new.out; kept = c.take_read.new.kept }) c.args.bytes.now
    (record_bytes (record_view c.in-Ok.record)) c.in-Ok.ensures.record n.lost n.quiet n.out refl (c.in_ok-came.ensures.takes_it goes)

pub returns-clause-ends : goal.returns-clause-ends
returns-clause-ends g c e q =
    let n = c.lose_due.ensures in
    ends_behind (g.N.Namer.digest c.args.shop.now.namer) c.args.shop.now.shelves c.args.script.now
    (record { board = c.args.master.now.board; out = c.args.out.now; kept = c.args.kept.now })
    (record { board = c.lose_due.new.master.board; out = c.lose_due.new.out; kept = c.args.kept.now })
    (record { board = c.take_read.new.master.board; out = c.take_read.new.out; kept = c.take_read.new.kept }) c.args.bytes.now
    (record_bytes (record_view c.in-Ok.record)) c.in-Ok.ensures.record n.lost n.quiet n.out refl e (c.in_ok-came.ensures.ends e q)

pub returns-clause-many : goal.returns-clause-many
returns-clause-many g c told =
    c.in_ok-came.ensures.many told ∙ lost_long c.lose_due.new.master.board c.args.out.now c.lose_due.new.out c.lose_due.ensures.out

pub returns-clause-plan : goal.returns-clause-plan
returns-clause-plan g c told =
    c.in_ok-came.ensures.plan told ∙ lost_plan c.args.master.now.board c.lose_due.new.master.board c.lose_due.ensures.lost

pub returns-in-Err-NotValue-clause-refused : goal.returns-in-Err-NotValue-clause-refused
returns-in-Err-NotValue-clause-refused g c _ =
    let n = c.lose_due.ensures in
    let none = rw c.in-Err-NotValue.field-0-is at c.in-Err-NotValue.ensures.refused in
    refused_behind (g.N.Namer.digest c.args.shop.now.namer) c.args.shop.now.shelves c.args.script.now
    (record { board = c.args.master.now.board; out = c.args.out.now; kept = c.args.kept.now })
    (record { board = c.lose_due.new.master.board; out = c.lose_due.new.out; kept = c.args.kept.now }) c.args.bytes.now c.args.bytes.now refl
    n.lost n.quiet n.out refl (placed_of n.between) (no_record none)

pub returns-clause-refused : goal.returns-clause-refused
returns-clause-refused g c q =
    let n = c.lose_due.ensures in
    refused_behind (g.N.Namer.digest c.args.shop.now.namer) c.args.shop.now.shelves c.args.script.now
    (record { board = c.args.master.now.board; out = c.args.out.now; kept = c.args.kept.now })
    (record { board = c.lose_due.new.master.board; out = c.lose_due.new.out; kept = c.args.kept.now }) c.args.bytes.now
    (record_bytes (record_view c.in-Ok.record)) c.in-Ok.ensures.record n.lost n.quiet n.out refl (placed_of n.between)
    (c.in_ok-came.ensures.refused q)
