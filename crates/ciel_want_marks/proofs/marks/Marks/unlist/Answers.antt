use Rattle.std.proofs.Common.{◌∙◌, ap, sym, refl, subst}
use Rattle.ciel_want_marks.specs.Lists.{HasBut}
use Rattle.ciel_want_marks.specs.Marks.{MarksSeen}
use Rattle.ciel_want_marks.specs.Moves.{HasNot}
use Rattle.ciel_want_marks.proofs.marks.Marks.unlist.Goals as goal

pub returns-in-Some : goal.returns-in-Some
returns-in-Some c =
    let new = c.remove.new.self in
    let e = sym c.least.ensures.least ∙ c.in-Some.is in
    let was = ap (λ (x : MarksSeen). x.list) c.self.view_is in (
      new,
      ap (λ (x : MarksSeen). record x { list = new }) c.self.view_is,
      subst (λ o. HasNot o c.args.self.now.list new) (sym e) (subst (λ xs. HasBut c.in-Some.row xs new) was c.remove.ensures),
    )

pub returns-in_default : goal.returns-in_default
returns-in_default c =
    let list = c.args.self.now.list in
    (list, refl, subst (λ o. HasNot o list list) (sym (sym c.least.ensures.least ∙ c.in_default.is)) refl)
