use Rattle.std.proofs.Common.{◌≡◌, [], sym, ap, subst, ◌∙◌}
use Rattle.crossbeam_channel.specs.Claims.{view}
use Rattle.ciel_flow_pieces.specs.Pieces.{LawOf}
use Rattle.ciel_flow_pieces.specs.declared.piece.Knows.{Knows}
use Rattle.crossbeam_channel.specs.Claims.{IsSeatAt}
use Rattle.ciel_flow_pieces.proofs.Pieces.{forks, law_nothing}
use Rattle.ciel_flow_pieces.proofs.ends.stream.Goals as goal

pub another-other-requires-clause-rule : goal.another-other-requires-clause-rule
another-other-requires-clause-rule g c =
    forks g.S.Origin.source c.in_ok-to.pass.id (view c.in_ok-to.pass) (ap (λ (u : Knows). u.role) c.in_ok-to.ensures.3)

pub invariant_of-result : goal.invariant_of-result
invariant_of-result g c = (
  c.another-other.ensures.channel.0,
  ap (λ (u : Knows). u.role) c.another-other.ensures.rule.0,
  subst (λ (u : Knows). LawOf u.source u.put) (sym c.another-other.ensures.rule.0) (law_nothing g.S.Origin.source),
)

pub invariant_of-result-2 : goal.invariant_of-result-2
invariant_of-result-2 g c = (
  subst (λ ring. IsSeatAt ring c.another-other.result) (sym c.in_ok-to.ensures.0) c.another-other.ensures.channel.2,
  ap (λ (u : Knows). u.role) c.another-other.ensures.rule.1,
  subst (λ (u : Knows). LawOf u.source u.taken) (sym c.another-other.ensures.rule.1) (law_nothing g.S.Origin.source),
)
