-- Where one description less stands in front than the count says, no such descriptions do.
use Rattle.std.proofs.Common.{arith, map}
use Rattle.sky_base.specs.Name.{canon}
use Rattle.sky_base.specs.ObjectView.{desc_view}
use Rattle.ciel_name.proofs.DecodeSteps.{refuses_more}
use Rattle.sky_frozen_bytes.proofs.Codes.{list_none, no_items}
use Rattle.ciel_log_records.specs.Records.{block}
use Rattle.ciel_log_read.specs.Recorded.{IsSpawned}
use Rattle.ciel_log_read.proofs.Records.{descs_free}
use Rattle.ciel_log_read.proofs.report.read_spawned.Goals as goal

pub returns-in-Err-clause-refused : goal.returns-in-Err-clause-refused
returns-in-Err-clause-refused c =
    let l = c.loop-one in
    refuses_more c.in-Err.refusal (λ none. no_items (λ d. block (canon d)) IsSpawned c.args.reader.now c.in-Some.count c.number.new.self
    c.in-Some.ensures (omega arith) (list_none (λ d. block (canon d)) IsSpawned descs_free l._one c.in-Some.count c.number.new.self
    (map desc_view l.spawned.items) l.reader l.invariant (omega arith) none)) c.in-Err.ensures.refused
