-- Where one object less stands in front than the count says, no such objects do.
use Rattle.std.proofs.Common.{arith, map}
use Rattle.sky_base.specs.ObjectView.{object_view}
use Rattle.ciel_name.proofs.DecodeSteps.{refuses_more}
use Rattle.ciel_name.specs.Object.{object_bytes}
use Rattle.sky_frozen_bytes.proofs.Codes.{list_none, no_items}
use Rattle.ciel_log_records.specs.Records.{block}
use Rattle.ciel_log_read.specs.Recorded.{IsOutput}
use Rattle.ciel_log_read.proofs.Ends.{objects_free}
use Rattle.ciel_log_read.proofs.end.read_objects.Goals as goal

pub returns-in-Err-clause-refused : goal.returns-in-Err-clause-refused
returns-in-Err-clause-refused c =
    let l = c.loop-one in
    refuses_more c.in-Err.refusal (λ none. no_items (λ o. block (object_bytes o)) IsOutput c.args.reader.now c.in-Some.count c.number.new.self
    c.in-Some.ensures (omega arith) (list_none (λ o. block (object_bytes o)) IsOutput objects_free l._one c.in-Some.count c.number.new.self
    (map object_view l.objects.items) l.reader l.invariant (omega arith) none)) c.in-Err.ensures.refused
