use Rattle.std.proofs.Common.{◌≡◌, ◌-◌, ℕ, List, true, length, take, sym, ap, subst, ◌∙◌}
use Rattle.std.specs.List.{list_any}
use Rattle.line_kit.specs.Table.{lines_of}
use Rattle.line_kit.specs.Parts.{dealt}
use Rattle.line_kit.specs.Gives.{row, one, with_lines}
use Rattle.line_kit.specs.declared.executor.Executor.{Executor}
use Rattle.line_flow.specs.Kept.{KeptLined, is_over}
use Rattle.line_flow.specs.declared.lined.Lined.{Lined}
use Rattle.line_flow.proofs.OverLaw.{one_stays, dealt_stays, take-append}
use Rattle.line_flow.proofs.lined.Lined.is_over.Goals as goal

pub returns-in-Head : goal.returns-in-Head
returns-in-Head c over e args n drained ls inputs more h same =
    let k = subst (λ (l : Lined). KeptLined l e args n drained ls) c.in-Head.is h in
    let count = lines_of args in
    let now : is_over c.in-Head.head.out ≡ true = sym c.is_over-in-Head.ensures ∙ over in
    ap (λ (x : Executor). row x args inputs n) k.0 ∙ ap (λ (xs : List (List ℕ)). one (take count xs)) same ∙ ap one (take-append count ls more)
    ∙ one_stays c.in-Head.head.out drained (take count ls) (take (count - length ls) more) now k.1.out

pub returns-in-Deal : goal.returns-in-Deal
returns-in-Deal c over e args n drained ls inputs more h same =
    let k = subst (λ (l : Lined). KeptLined l e args n drained ls) c.in-Deal.is h in
    let now : list_any is_over c.in-Deal.turns.outs.items ≡ true = ap (list_any is_over) (sym c.as_slice.ensures.value)
    ∙ sym c.is_any_over.ensures ∙ over in
    ap (λ (x : Executor). row x args inputs n) k.0 ∙ ap (λ (xs : List (List ℕ)). with_lines (dealt n xs)) same
    ∙ dealt_stays c.in-Deal.turns.outs.items n drained ls more now k.1.outs
