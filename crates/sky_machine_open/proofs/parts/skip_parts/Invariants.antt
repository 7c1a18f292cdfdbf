use Rattle.std.proofs.Common.{◌≡◌}
use Rattle.sky_base_law.specs.Nodes.{node_at}
use Rattle.sky_base_law.specs.Opened.{HasExps, next_part, times}
use Rattle.sky_machine_code.specs.Shapes.{rest_view}
use Rattle.sky_machine_open.proofs.parts.skip_parts.Given as goal

abbrev pub invariant-loop-passed : goal.invariant-loop-passed
invariant-loop-passed l = record {
  place : times next_part l._passed (l.first, rest_view l.parts) ≡ (l.next, rest_view l.rest);
  has : HasExps (λ i. node_at l.code i) (rest_view l.rest) l.next;
}
