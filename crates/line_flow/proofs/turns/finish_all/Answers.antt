use Rattle.std.proofs.Common.{◌≡◌, ℕ, List, map, false, sym, ap, subst, ◌∙◌}
use Rattle.line_kit.specs.Lines.{joined}
use Rattle.line_kit.specs.Parts.{dealt}
use Rattle.std.specs.List.{list_any}
use Rattle.line_flow.specs.Drained.{Follows}
use Rattle.line_flow.specs.Kept.{is_over}
use Rattle.line_flow.proofs.TurnsLaw.{streams_over, streams_within, streams_follow}
use Rattle.line_flow.proofs.turns.finish_all.Goals as goal

pub returns-then-is_any_over : goal.returns-then-is_any_over
returns-then-is_any_over c n drained ls a = streams_over c.args.outs.items n drained ls
    (ap (list_any is_over) (sym c.as_slice.ensures.value) ∙ sym c.is_any_over.ensures ∙ c.if-is_any_over.true) a

pub returns : goal.returns
returns c n drained ls a =
    let under : list_any is_over c.args.outs.items ≡ false = ap (list_any is_over) (sym c.as_slice.ensures.value) ∙ sym c.is_any_over.ensures
    ∙ c.if-is_any_over.false in (
      map joined (dealt n ls),
      streams_within c.args.outs.items n drained ls under a,
      subst (λ (more : List (List ℕ)). Follows drained more (map joined (dealt n ls))) (sym c.in_ok-left_of.ensures)
          (streams_follow c.args.outs.items n drained ls a),
    )
