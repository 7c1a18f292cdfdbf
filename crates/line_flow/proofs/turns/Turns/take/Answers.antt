use Rattle.std.proofs.Common.{◌≡◌, ◌+◌, refl, sym, arith}
use Rattle.line_flow.specs.declared.stream.Stream.{Stream}
use Rattle.line_flow.proofs.TurnsLaw.{streams_on, turn_on, turn_round}
use Rattle.line_flow.proofs.turns.Turns.take.Goals as goal

pub returns-then-self-len-2-clause-ok : goal.returns-then-self-len-2-clause-ok
returns-then-self-len-2-clause-ok c n drained ls some h =
    let t = c.args.self.now in
    let before = c.index_mut.result.now in
    let after : Stream = record { bytes = c.put_line.new.bytes; gone = before.gone } in
    let round : t.turn + 1 ≡ n = omega (arith, c.if-self-len-2.true, c.len-2.ensures, h.outs.count) in
    record {
      outs = streams_on n t.turn t.outs.items drained ls c.args.line.now before after h.below h.turn h.outs (sym c.index_mut.ensures.value)
          c.in_ok-put_line.ensures.ok refl;
      below = some;
      turn = turn_round n t.turn ls c.args.line.now round h.turn;
    }

pub returns-else-self-len-2-clause-ok : goal.returns-else-self-len-2-clause-ok
returns-else-self-len-2-clause-ok c n drained ls some h =
    let t = c.args.self.now in
    let before = c.index_mut.result.now in
    let after : Stream = record { bytes = c.put_line.new.bytes; gone = before.gone } in
    record {
      outs = streams_on n t.turn t.outs.items drained ls c.args.line.now before after h.below h.turn h.outs (sym c.index_mut.ensures.value)
          c.in_ok-put_line.ensures.ok refl;
      below = omega (arith, c.if-self-len-2.false, c.len-2.ensures, h.outs.count, h.below);
      turn = turn_on n t.turn ls c.args.line.now h.turn;
    }
