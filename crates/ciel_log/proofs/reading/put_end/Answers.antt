-- What was put of an end is what lies at its places.
use Rattle.std.proofs.Common.{arith, refl, subst, sym}
use Rattle.ciel_log_records.specs.Records.{HowEnded}
use Rattle.ciel_log.specs.Logging.{EndedSo}
use Rattle.ciel_log.proofs.Lying.{made_end, stack_end}
use Rattle.ciel_log.proofs.reading.put_end.Goals as goal

pub returns-in_ok-put-in-Made-clause-put : goal.returns-in_ok-put-in-Made-clause-put
returns-in_ok-put-in-Made-clause-put c =
    let r = c.args.report.now in
    made_end c.args.shelves.now r.worker c.requires.places.0 r.task c.args.out.now c.put_outputs.new.out c.args.eye.now c.put_outputs.new.eye
    r.end c.in-Made.made c.as_slice.result.now c.in-Made.is c.as_slice.ensures.value c.requires.places.1 c.in_ok-put-in-Made.put
    c.in_ok-put-in-Made.ensures.put

pub returns-in_ok-put-in-Saved-clause-put : goal.returns-in_ok-put-in-Saved-clause-put
returns-in_ok-put-in-Saved-clause-put c =
    let r = c.args.report.now in
    stack_end c.args.shelves.now r.worker c.requires.places.0 r.task c.args.out.now c.put_stack.new.out c.args.eye.now c.put_stack.new.eye
    r.end c.in-Saved.frozen c.in-Saved.j c.in-Saved.refs c.in-Saved.holds c.in-Saved.mark c.in-Saved.is c.requires.places.1
    c.in_ok-put-in-Saved.put c.in_ok-put-in-Saved.ensures.put

pub returns-in_ok-put_missing-in-Missing-clause-put : goal.returns-in_ok-put_missing-in-Missing-clause-put
returns-in_ok-put_missing-in-Missing-clause-put c =
    let how = HowEnded.missing c.in-Missing.name c.in-Missing.loss.number in
    -- the name is told by read_name, and the number of the loss by its type
    ((how, subst (λ e. EndedSo e how) (sym c.in-Missing.is) refl, (c.read_name.ensures.told, omega arith), c.in_ok-put_missing-in-Missing.ensures), refl)
