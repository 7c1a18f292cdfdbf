use Rattle.std.proofs.Common.{ap, subst, sym, ◌∙◌}
use Rattle.ciel_flow_pieces.specs.Pieces.{AllParts, LawOf, StreamSeen, known}
use Rattle.ciel_flow_pieces.specs.declared.piece.Knows.{Knows}
use Rattle.ciel_flow_pieces.proofs.Pieces.{law_broken}
use Rattle.ciel_flow_pieces.proofs.ends.Producer.give_up.Goals as goal

pub send-requires-clause-may : goal.send-requires-clause-may
send-requires-clause-may g c =
    let k = known c.self.inside.pass in
    let all = subst AllParts (sym (ap (λ (s : StreamSeen). s.pieces) c.self.view_is)) c.requires.may in
    (c.self.invariant.1, law_broken k.source k.put all c.self.invariant.2)

pub invariant_of-self : goal.invariant_of-self
invariant_of-self g c =
    let k = known c.self.inside.pass in
    let all = subst AllParts (sym (ap (λ (s : StreamSeen). s.pieces) c.self.view_is)) c.requires.may in (
      c.send.ensures.seat,
      ap (λ (u : Knows). u.role) c.send.ensures.put ∙ c.self.invariant.1,
      subst (λ (u : Knows). LawOf u.source u.put) (sym c.send.ensures.put) (law_broken k.source k.put all c.self.invariant.2),
    )
