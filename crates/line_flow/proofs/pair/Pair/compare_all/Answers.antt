use Rattle.std.proofs.Common.{ℕ, List, [], ◌∷◌, ◌++◌, sym, ap, subst, ◌∙◌, append_assoc}
use Rattle.std.proofs.lemmas.List.{take_rest}
use Rattle.line_kit.specs.Lines.{lines}
use Rattle.line_flow.specs.Kept.{HasPair}
use Rattle.line_flow.proofs.LinesLaw.{first_cut}
use Rattle.line_flow.proofs.pair.Pair.compare_all.Goals as goal

pub loop-rest-preserved : goal.loop-rest-preserved
loop-rest-preserved c =
    let i = c.loop-rest.invariant in
    let xs = c.loop-rest.rest.now in
    let size = c.first_line-size.result.1 in
    let line = c.first_line-size.result.0.now in (
      i.0 ++ line ∷ [],
      i.1 ∙ ap (λ (ls : List (List ℕ)). i.0 ++ ls)
          (first_cut size xs line c.first_line-size.ensures.line c.first_line-size.ensures.closed
          ∙ ap (λ (ys : List ℕ). line ∷ lines ys) (sym (take_rest xs size)))
          ∙ sym (append_assoc i.0 (line ∷ []) _),
      λ first second h. subst (HasPair c.compare.new.self first) (append_assoc second i.0 (line ∷ []))
          (c.compare.ensures first (second ++ i.0) (i.2 first second h)),
    )
