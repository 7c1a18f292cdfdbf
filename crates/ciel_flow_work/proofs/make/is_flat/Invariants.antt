use Rattle.std.proofs.Common.{◌≡◌, drop}
use Rattle.ciel_flow_pieces.specs.Left.{flat}
use Rattle.ciel_flow_work.proofs.make.is_flat.Given as goal

abbrev pub invariant-loop-part : goal.invariant-loop-part
invariant-loop-part l = flat (drop l.part-index l.parts) ≡ l.rest → flat l.parts ≡ l.bytes
