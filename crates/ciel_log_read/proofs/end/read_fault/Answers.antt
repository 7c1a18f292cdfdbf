-- Where these bytes are no object's behind the first byte of a fault, they are no fault's.
use Rattle.std.proofs.Common.{◌≡◌, ◌∷◌, append-nil, ap, ◌∙◌}
use Rattle.ciel_name.proofs.DecodeSteps.{refuses_more}
use Rattle.ciel_log_read.proofs.Ends.{failed_refused}
use Rattle.ciel_log_read.proofs.end.read_fault.Goals as goal

pub returns-in-Err-clause-refused : goal.returns-in-Err-clause-refused
returns-in-Err-clause-refused c =
    let whole : c.as_slice-2.result.now ≡ 70 ∷ c.in-Some.bytes = c.as_slice-2.ensures
    ∙ ap (λ b. 70 ∷ b) (append-nil c.copy_from_slice.new.self ∙ c.copy_from_slice.ensures.after ∙ c.as_slice.ensures) in
    refuses_more c.in-Err.refusal (failed_refused c.args.reader.now c.in-Some.bytes c.array.new.self c.as_slice-2.result.now
    c.in-Some.ensures.0 c.in-Some.ensures.1 whole) c.in-Err.ensures.refused
