-- The piece at the index is put behind those that were put, or a part of it is.
use Rattle.std.proofs.Common.{◌≡◌, ◌<◌, ◌+◌, ◌++◌, ◌∙◌, ℕ, List, [], Bor, length, take, drop, sym, ap, subst, arith}
use Rattle.ciel_io.specs.Tells.{Tells, TellsPart}
use Rattle.ciel_io.proofs.Joined.{joined, joined_next, joined_parts, tells_more, part_more, on_err}
use Rattle.ciel_io.proofs.pieces.put_all.Goals as goal

pub loop-piece-preserved : goal.loop-piece-preserved
loop-piece-preserved g c =
    let l = c.loop-piece in
    let ps = c.args.pieces.now in
    let d : Bor (List ℕ) = record { ref_ptr = (0, 0); now = [] } in
    let below : l.piece-index < length ps = omega arith in
    let whole : joined (take (l.piece-index + 1) ps) ≡ joined (take l.piece-index ps) ++ c.as_bytes.result.now =
    joined_next ps l.piece-index d below ∙ ap (λ y. joined (take l.piece-index ps) ++ y) (sym c.as_bytes.ensures.value) in
    record {
      written = subst (Tells (g.J.Sink.written c.args.sink.now) (g.J.Sink.written c.put.new.self)) (sym whole)
          (tells_more _ _ _ (joined (take l.piece-index ps)) c.as_bytes.result.now l.invariant.written c.in_ok-put.ensures.written);
      never_falls = omega (arith, l.invariant.never_falls, c.in_ok-put.ensures.never_falls);
    }

pub returns-in_err-put-clause-part : goal.returns-in_err-put-clause-part
returns-in_err-put-clause-part g c =
    let l = c.loop-piece in
    let ps = c.args.pieces.now in
    let d : Bor (List ℕ) = record { ref_ptr = (0, 0); now = [] } in
    let below : l.piece-index < length ps = omega arith in
    let rest = joined (drop (l.piece-index + 1) ps) in
    let whole : joined ps ≡ joined (take l.piece-index ps) ++ (c.as_bytes.result.now ++ rest) =
    joined_parts ps l.piece-index d below ∙ ap (λ y. joined (take l.piece-index ps) ++ (y ++ rest)) (sym c.as_bytes.ensures.value) in
    on_err c.from_residual.result
    (subst (TellsPart (g.J.Sink.written c.args.sink.now) (g.J.Sink.written c.put.new.self)) (sym whole)
    (part_more _ _ _ (joined (take l.piece-index ps)) c.as_bytes.result.now rest l.invariant.written c.in_err-put.ensures.part))
