use Rattle.ciel_journal.specs.Job.{Each}
use Rattle.ciel_log_objects.specs.Objects.{IsKept}
use Rattle.ciel_log_report.specs.Tests.{CopiesPass}
use Rattle.ciel_log_report.proofs.Parts.{copied_is}
use Rattle.ciel_log_report.proofs.Refused.{none_under}
use Rattle.ciel_log_report.proofs.ends.copies.Goals as goal

pub returns-then-not-distinct-clause-refused : goal.returns-then-not-distinct-clause-refused
returns-then-not-distinct-clause-refused g c p = c.in_ok-distinct.ensures.no c.if-not-distinct.true p.distinct

pub returns-then-not-elsewhere-clause-refused : goal.returns-then-not-elsewhere-clause-refused
returns-then-not-elsewhere-clause-refused g c p = c.in_ok-elsewhere.ensures.no c.if-not-elsewhere.true p.elsewhere

pub returns-clause-copied : goal.returns-clause-copied
returns-clause-copied g c =
    copied_is c.args.order.now c.args.shelves.now c.args.script.now c.args.known.now c.args.kept.now c.args.names.now c.in_ok-put.put
    (c.in_ok-elsewhere.ensures.yes c.if-not-elsewhere.false) (c.in_ok-distinct.ensures.yes c.if-not-distinct.false)
    c.in_ok-put.ensures.copies

pub returns-clause-refused : goal.returns-clause-refused
returns-clause-refused g c =
    none_under (Each (IsKept c.args.script.now c.args.known.now c.args.kept.now) c.args.names.now → ⊥)
    (CopiesPass c.args.order.now c.args.script.now c.args.known.now c.args.kept.now c.args.names.now → ⊥) c.in_ok-put.put
    (λ no p. no p.all_kept) c.in_ok-put.ensures.refused
