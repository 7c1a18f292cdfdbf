use Rattle.std.proofs.Common.{◌∙◌, sym}
use Rattle.std.specs.Cmp.Lexicographic.{texts_ties}
use Rattle.ciel_want.specs.Waited.{same_id}
use Rattle.ciel_want_ready.proofs.anew.is_same.Goals as goal

pub returns-in-Of-Of : goal.returns-in-Of-Of
returns-in-Of-Of c =
    c.eq.ensures
    ∙ (texts_ties c.in-Of-Of.n c.in-Of-Of.m
    ∙ ((λ i. same_id (sym c.in-Of-Of.is-0 i) (sym c.in-Of-Of.is-1 i))))
