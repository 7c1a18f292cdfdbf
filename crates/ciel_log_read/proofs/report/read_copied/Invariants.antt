-- What was read so far stands in front.
use Rattle.sky_base.specs.Name.{name_bytes}
use Rattle.sky_frozen_bytes.specs.Codes.{ListRead}
use Rattle.ciel_log_read.specs.Recorded.{IsNamed}
use Rattle.ciel_log_read.proofs.report.read_copied.Given as goal

abbrev pub invariant-loop-one : goal.invariant-loop-one
invariant-loop-one l = ListRead name_bytes IsNamed l._one l.initial.reader l.copied.items l.reader
