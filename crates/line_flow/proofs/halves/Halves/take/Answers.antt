use Rattle.std.proofs.Common.{◌≡◌, ℤ, pos, int_div, to_z, of_z, w64, [], ◌∷◌, ◌++◌, Some, ap, subst, ◌∙◌, rules}
use Rattle.line_kit.specs.Lines.{joined}
use Rattle.line_kit.specs.Numbers.{signed_number}
use Rattle.line_flow.specs.Kept.{Unread, Caps, half_lines}
use Rattle.line_flow.proofs.Results.{on_ok, when_false, so_false}
use Rattle.line_flow.proofs.ReadLaw.{read_more, unread_now}
use Rattle.line_flow.proofs.HalfLaw.{half_more}
use Rattle.line_flow.proofs.halves.Halves.take.Goals as goal

pub returns-in-Some-clause-ok : goal.returns-in-Some-clause-ok
returns-in-Some-clause-ok c =
    let z = c.in-Some.number in
    let kept : to_z w64 (of_z w64 c.half_of.result) ≡ c.half_of.result = search rules in
    let read_back : to_z w64 (of_z w64 z) ≡ z = search rules in
    let half : to_z w64 (of_z w64 c.half_of.result) ≡ int_div z (pos 2) = kept ∙ c.half_of.ensures ∙ ap (λ (y : ℤ). int_div y (pos 2)) read_back in
    let read : signed_number c.args.line.now ≡ Some z = search rules in
    on_ok c.put.result
    (λ a put ls h.
    let w = when_false (Unread signed_number ls) c.args.self.now.bad c.if-self.false h in
    so_false (Unread signed_number (ls ++ c.args.line.now ∷ [])) c.put.new.self.bad (c.put.ensures.bad ∙ c.if-self.false) (
      w.0 ++ z ∷ [],
      read_more signed_number ls c.args.line.now w.0 z w.1 read,
      subst (Caps c.put.new.self) (half_more w.0 z _ half) (put (joined (half_lines w.0)) w.2),
    ))
    c.put.ensures.ok

pub returns-in-None-clause-ok : goal.returns-in-None-clause-ok
returns-in-None-clause-ok c ls h =
    let w = when_false (Unread signed_number ls) c.args.self.now.bad c.if-self.false h in
    unread_now signed_number ls c.args.line.now w.0 w.1 (search rules)
