-- What was read so far stands in front.
use Rattle.std.proofs.Common.{map}
use Rattle.sky_frozen_bytes.specs.Codes.{ListRead}
use Rattle.ciel_look_told.specs.Head.{IsInput, input_bytes}
use Rattle.ciel_look_told.specs.View.{input_view}
use Rattle.ciel_look_story.proofs.read_header.read_inputs.Given as goal

abbrev pub invariant-loop-one : goal.invariant-loop-one
invariant-loop-one l = ListRead input_bytes IsInput l._one l.initial.reader (map input_view l.inputs.items) l.reader
