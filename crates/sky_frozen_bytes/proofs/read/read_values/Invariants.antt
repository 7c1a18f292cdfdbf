-- What was read so far stands in front.
use Rattle.sky_state.specs.StandView.{stack_view}
use Rattle.sky_base.specs.Name.{bytes}
use Rattle.sky_frozen_bytes.specs.Codes.{ListRead}
use Rattle.ciel_name.specs.Spelled.{IsData}
use Rattle.sky_frozen_bytes.proofs.read.read_values.Given as goal

abbrev pub invariant-loop-value : goal.invariant-loop-value
invariant-loop-value l = ListRead bytes IsData l._value l.initial.reader (stack_view l.values.items) l.reader
