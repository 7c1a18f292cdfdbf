-- What was read so far stands in front.
use Rattle.std.proofs.Common.{map}
use Rattle.sky_base.specs.ObjectView.{object_view}
use Rattle.sky_frozen_bytes.specs.Codes.{ListRead}
use Rattle.ciel_name.specs.Object.{object_bytes}
use Rattle.ciel_log_records.specs.Records.{block}
use Rattle.ciel_log_read.specs.Recorded.{IsOutput}
use Rattle.ciel_log_read.proofs.end.read_objects.Given as goal

abbrev pub invariant-loop-one : goal.invariant-loop-one
invariant-loop-one l = ListRead (λ o. block (object_bytes o)) IsOutput l._one l.initial.reader (map object_view l.objects.items) l.reader
