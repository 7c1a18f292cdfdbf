use Rattle.std.proofs.Common.{◌∙◌, ap, sym, refl, subst}
use Rattle.ciel_want_marks.specs.Lists.{HasAlso}
use Rattle.ciel_want_marks.specs.Marks.{MarksSeen}
use Rattle.ciel_want_marks.specs.Moves.{HasSome}
use Rattle.ciel_want_marks.proofs.Slots.{on_ok}
use Rattle.ciel_want_marks.proofs.marks.Marks.list_it.Goals as goal

pub returns-in-Some : goal.returns-in-Some
returns-in-Some c =
    let new = c.insert.new.self in
    let e = sym c.least.ensures.least ∙ c.in-Some.is in
    let was = ap (λ (x : MarksSeen). x.list) c.self.view_is in
    on_ok c.insert.result (λ h. (
      new,
      ap (λ (x : MarksSeen). record x { list = new }) c.self.view_is,
      subst (λ o. HasSome o c.args.self.now.list new) (sym e) (subst (λ xs. HasAlso c.in-Some.row xs new) was h),
    )) c.insert.ensures

pub returns-in-None : goal.returns-in-None
returns-in-None c =
    let list = c.args.self.now.list in
    (list, refl, subst (λ o. HasSome o list list) (sym (sym c.least.ensures.least ∙ c.in-None.is)) refl)
