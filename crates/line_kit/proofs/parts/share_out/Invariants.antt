use Rattle.std.proofs.Common.{◌≡◌, ◌≤◌, ◌*◌, false, length, map, nat_lt, take, drop}
use Rattle.std.specs.List.{list_any, range_with_len}
use Rattle.line_kit.specs.Lines.{is_open, joined, lines}
use Rattle.line_kit.proofs.parts.share_out.Given as goal

abbrev pub invariant-loop-next : goal.invariant-loop-next
invariant-loop-next l = record {
  cut : l.all.items ≡ map (λ i. joined (take l.part (drop (i * l.part) (lines l.input)))) (range_with_len 0 l._next);
  within : l.from ≤ length l.input;
  left : lines (drop l.from l.input) ≡ drop (l._next * l.part) (lines l.input);
  closed : is_open (drop l.from l.input) ≡ false;
  over : nat_lt 67108864 l.longest ≡ list_any (λ bytes. nat_lt 67108864 (length bytes)) l.all.items;
}
