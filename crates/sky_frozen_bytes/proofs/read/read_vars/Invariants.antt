-- What was read so far stands in front.
use Rattle.sky_frozen_bytes.proofs.Parts.{VarsRead}
use Rattle.sky_frozen_bytes.proofs.read.read_vars.Given as goal

abbrev pub invariant-loop-var : goal.invariant-loop-var
invariant-loop-var l = VarsRead l._var l.initial.reader l.vars l.reader
