use Rattle.ciel_log_report.proofs.Parts.{shown_is}
use Rattle.ciel_log_report.proofs.ends.shown.Goals as goal

pub returns-in_default-clause-refused : goal.returns-in_default-clause-refused
returns-in_default-clause-refused g c p = c.in_default.not-Show p.task

pub returns-in_default-copies-clause-refused : goal.returns-in_default-copies-clause-refused
returns-in_default-copies-clause-refused g c p =
    let no = rw c.in_default-copies.is at c.in_ok-copies.ensures.refused in no p.copies

pub returns-clause-shown : goal.returns-clause-shown
returns-clause-shown g c =
    let copied = rw c.in-Some.is at c.in_ok-copies.ensures.copied in
    shown_is c.args.order.now c.args.shelves.now c.args.script.now c.args.known.now c.args.kept.now c.args.shown c.args.copied.now
    c.in-Some.copied.items c.in-Show.is copied
