-- What was read so far stands in front.
use Rattle.std.proofs.Common.{map}
use Rattle.sky_base.specs.Name.{canon}
use Rattle.sky_base.specs.ObjectView.{desc_view}
use Rattle.sky_frozen_bytes.specs.Codes.{ListRead}
use Rattle.ciel_log_records.specs.Records.{block}
use Rattle.ciel_log_read.specs.Recorded.{IsSpawned}
use Rattle.ciel_log_read.proofs.report.read_spawned.Given as goal

abbrev pub invariant-loop-one : goal.invariant-loop-one
invariant-loop-one l = ListRead (λ d. block (canon d)) IsSpawned l._one l.initial.reader (map desc_view l.spawned.items) l.reader
