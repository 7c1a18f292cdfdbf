-- What was read so far stands in front.
use Rattle.sky_frozen_bytes.specs.Codes.{ListRead}
use Rattle.ciel_log_records.specs.Records.{loss_bytes}
use Rattle.ciel_look_told.specs.Head.{IsLoss}
use Rattle.ciel_look_story.proofs.read_header.read_losses.Given as goal

abbrev pub invariant-loop-one : goal.invariant-loop-one
invariant-loop-one l = ListRead loss_bytes IsLoss l._one l.initial.reader l.losses.items l.reader
