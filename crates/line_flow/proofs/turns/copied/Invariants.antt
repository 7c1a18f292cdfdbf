use Rattle.std.proofs.Common.{◌≡◌, map, take}
use Rattle.line_flow.proofs.turns.copied.Given as goal

abbrev pub invariant-loop-out : goal.invariant-loop-out
invariant-loop-out l = l.all.items ≡ map (λ s. s.bytes.items) (take l.out-index l.outs)
