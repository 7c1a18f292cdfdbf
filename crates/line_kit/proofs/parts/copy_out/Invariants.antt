use Rattle.std.proofs.Common.{◌≡◌, ◌*◌, map, take, drop}
use Rattle.std.specs.List.{range_with_len}
use Rattle.line_kit.specs.Lines.{all_lines, joined}
use Rattle.line_kit.specs.Written.{capped, finished}
use Rattle.line_kit.proofs.parts.copy_out.Given as goal

abbrev pub invariant-loop-k : goal.invariant-loop-k
invariant-loop-k l = record {
  cut : map finished l.all.items ≡ map (λ i. capped (joined (take l.part (drop (i * l.part) (all_lines l.inputs))))) (range_with_len 0 l._k);
  left : l.lines ≡ drop (l._k * l.part) (all_lines l.inputs);
}
