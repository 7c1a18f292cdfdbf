use Rattle.std.proofs.Common.{ℕ, List, [], ◌∷◌, ◌++◌, sym, ap, ap₂, ◌∙◌}
use Rattle.line_kit.specs.Totals.{totals}
use Rattle.line_kit.proofs.TotalsLaw.{with_more-totals}
use Rattle.line_flow.proofs.totals.Totals.begin.Goals as goal

pub returns-clause-ok : goal.returns-clause-ok
returns-clause-ok c =
    let line = c.args.line.now in
    let put = c.in_ok-push.ensures.ok ∙ ap₂ (λ (es : List (List ℕ × ℕ)) (n : ℕ). es ++ (line, n) ∷ []) c.make_room.ensures c.from.ensures in
    c.note.ensures ∙ ap totals put ∙ sym (with_more-totals c.args.self.now.entries line c.args.number)
