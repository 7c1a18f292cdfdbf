use Rattle.std.proofs.Common.{◌≡◌, ℕ, [], length, nat_eq, sym, ap, ◌∙◌, arith, append-nil}
use Rattle.std.specs.Prelude.{not}
use Rattle.line_kit.specs.Lines.{same_lines}
use Rattle.line_flow.proofs.Results.{when_true, when_false}
use Rattle.line_flow.proofs.PairLaw.{rest_decides}
use Rattle.line_flow.proofs.pair.Pair.is_same.Goals as goal

pub returns-then-not-self : goal.returns-then-not-self
returns-then-not-self c first second h =
    let p = c.args.self.now in
    let same = when_false _ p.differs c.if-not-self.true h.compared in
    ap (λ (n : ℕ). nat_eq p.at n) (let n : c.len.result ≡ length p.first.items = omega (arith, c.len.ensures) in n)
    ∙ rest_decides p.at p.first.items first second h.within same

pub returns-else-not-self : goal.returns-else-not-self
returns-else-not-self c first second h =
    let p = c.args.self.now in
    ap not c.if-not-self.false ∙ sym (ap (same_lines first) (sym (append-nil second)) ∙ when_true _ p.differs c.if-not-self.false h.compared [])
