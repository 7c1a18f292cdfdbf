use Rattle.std.proofs.Common.{◌≡◌, ℕ, List, [], ◌∷◌, ◌++◌, Some, ap, ◌∙◌, rules}
use Rattle.line_kit.specs.Numbers.{counted}
use Rattle.line_kit.specs.Totals.{with_more}
use Rattle.line_kit.proofs.TotalsLaw.{with_more-totals}
use Rattle.line_flow.specs.Kept.{Unread}
use Rattle.line_flow.proofs.Results.{on_ok, when_false, so_false}
use Rattle.line_flow.proofs.ReadLaw.{read_more, unread_now}
use Rattle.line_flow.proofs.sums.Sums.take.Goals as goal

pub returns-in-Some-clause-ok : goal.returns-in-Some-clause-ok
returns-in-Some-clause-ok c =
    let line = c.args.line.now in
    let rest = c.in-Some.rest.now in
    let number = c.in-Some.number in
    let read : counted line ≡ Some (rest, number) = search rules in
    on_ok c.add.result
    (λ a add ls h.
    let w = when_false (Unread counted ls) c.args.self.now.bad c.if-self.false h in
    so_false (Unread counted (ls ++ line ∷ [])) c.args.self.now.bad c.if-self.false (
      w.0 ++ (rest, number) ∷ [],
      read_more counted ls line w.0 (rest, number) w.1 read,
      add ∙ ap (λ (es : List (List ℕ × ℕ)). with_more es rest number) w.2 ∙ with_more-totals w.0 rest number,
    ))
    c.add.ensures.ok

pub returns-in-None-clause-ok : goal.returns-in-None-clause-ok
returns-in-None-clause-ok c ls h =
    let w = when_false (Unread counted ls) c.args.self.now.bad c.if-self.false h in
    unread_now counted ls c.args.line.now w.0 w.1 (search rules)
