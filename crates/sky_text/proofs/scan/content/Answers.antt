-- A byte of a text, and an escape, is read from the rest and put behind what was read.
use Rattle.std.proofs.Common.{◌+◌, ap, sym, ◌∙◌, arith, length, List, ℕ, ◌∷◌}
use Rattle.sky_text.specs.Lexing.{text_from}
use Rattle.sky_text.proofs.Leaves.{front_escape, front_plain}
use Rattle.sky_text.proofs.scan.content.Goals as goal

pub loop-b-preserved-then-b-eq92 : goal.loop-b-preserved-then-b-eq92
loop-b-preserved-then-b-eq92 c =
    let first = c.in-Some.ensures.cases.0 in
    let second = c.in-Some-split_first.ensures.cases.0 in
    record {
      left = rw (c.in-Ok.ensures.items, c.unescaped.ensures)
          (front_escape c.args.quote c.loop-b.at c.in-Some.b.now c.in-Some-split_first.c.now c.in-Some-split_first.behind.now c.loop-b.rest.now
          c.loop-b.content.items (text_from c.args.quote (c.args.quote + 1) c.args.bytes.now)
          (first ∙ ap (λ (x : List ℕ). c.in-Some.b.now ∷ x) second) c.if-b-eq92.true c.if-c-eq10.false
          (sym c.is_escape.ensures ∙ c.if-not-is_escape.false) c.loop-b.invariant.left);
      count = omega (arith, c.loop-b.invariant.count, ap length first, ap length second);
      past = omega (arith, c.loop-b.invariant.past);
    }

pub loop-b-preserved : goal.loop-b-preserved
loop-b-preserved c =
    let first = c.in-Some.ensures.cases.0 in
    record {
      left = rw c.in-Ok-push.ensures.items (front_plain c.args.quote c.loop-b.at c.in-Some.b.now c.in-Some.after.now c.loop-b.rest.now
          c.loop-b.content.items (text_from c.args.quote (c.args.quote + 1) c.args.bytes.now)
          first c.if-b-eq34.false c.if-b-eq10.false c.if-b-eq92.false c.loop-b.invariant.left);
      count = omega (arith, c.loop-b.invariant.count, ap length first);
      past = omega (arith, c.loop-b.invariant.past);
    }
