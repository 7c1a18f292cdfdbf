use Rattle.std.proofs.Common.{ℕ, List, [], ◌∷◌, map, sym, ap, subst, ◌∙◌}
use Rattle.std.proofs.lemmas.List.{map-append}
use Rattle.line_kit.specs.Table.{lines_of}
use Rattle.line_kit.specs.Totals.{with_more, totals}
use Rattle.line_kit.proofs.TotalsLaw.{with_more-totals}
use Rattle.line_flow.specs.Kept.{KeptLined}
use Rattle.line_flow.specs.declared.lined.Lined.{Lined}
use Rattle.line_flow.proofs.Results.{on_ok, on_err}
use Rattle.line_flow.proofs.lined.Lined.take.Goals as goal

pub returns-in-Head-clause-ok : goal.returns-in-Head-clause-ok
returns-in-Head-clause-ok c =
    on_ok c.take.result
    (λ x take e args n drained ls some h.
    let k = subst (λ (l : Lined). KeptLined l e args n drained ls) c.in-Head.is h in
    (k.0, take (lines_of args) drained ls k.1))
    c.take.ensures.ok

pub returns-in-Head-clause-err : goal.returns-in-Head-clause-err
returns-in-Head-clause-err c =
    on_err c.take.result
    (λ x take e args n drained ls h.
    let k = subst (λ (l : Lined). KeptLined l e args n drained ls) c.in-Head.is h in
    (k.0, take (lines_of args) drained ls k.1))
    c.take.ensures.err

pub returns-in-Deal-clause-ok : goal.returns-in-Deal-clause-ok
returns-in-Deal-clause-ok c =
    on_ok c.take-in-Deal.result
    (λ x take e args n drained ls some h.
    let k = subst (λ (l : Lined). KeptLined l e args n drained ls) c.in-Deal.is h in
    (k.0, take n drained ls some k.1))
    c.take-in-Deal.ensures.ok

pub returns-in-Deal-clause-err : goal.returns-in-Deal-clause-err
returns-in-Deal-clause-err c =
    on_err c.take-in-Deal.result
    (λ x take e args n drained ls h.
    let k = subst (λ (l : Lined). KeptLined l e args n drained ls) c.in-Deal.is h in
    (k.0, take n drained ls k.1))
    c.take-in-Deal.ensures.err

pub returns-in-Tally-clause-ok : goal.returns-in-Tally-clause-ok
returns-in-Tally-clause-ok c =
    let line = c.args.line.now in
    on_ok c.add.result
    (λ x add e args n drained ls some h.
    let k = subst (λ (l : Lined). KeptLined l e args n drained ls) c.in-Tally.is h in
    let ones = map (λ (l : List ℕ). (l, 1)) ls in (
      k.0,
      add ∙ ap (λ (es : List (List ℕ × ℕ)). with_more es line 1) k.1 ∙ with_more-totals ones line 1
          ∙ ap totals (sym (map-append (λ (l : List ℕ). (l, 1)) ls (line ∷ []))),
      k.2,
    ))
    c.add.ensures.ok
