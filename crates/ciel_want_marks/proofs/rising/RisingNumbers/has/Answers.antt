use Rattle.std.proofs.Common.{◌∙◌, sym, subst}
use Rattle.ciel_journal.specs.Job.{In}
use Rattle.ciel_want_marks.specs.Lists.{Rising}
use Rattle.ciel_want_marks.proofs.Rises.{search_found}
use Rattle.ciel_want_marks.proofs.rising.RisingNumbers.has.Goals as goal

pub returns : goal.returns
returns c =
    let n = c.args.number in
    let s = c.as_slice.ensures.value ∙ c.self.view_is in
    let q = search_found c.as_slice.result.now n c.binary_search.result (subst Rising (sym c.as_slice.ensures.value) c.self.invariant)
    c.binary_search.ensures.position in
    (λ e. subst (In n) s (q.0 (sym c.is_ok.ensures.value ∙ e)), λ h. c.is_ok.ensures.value ∙ q.1 (subst (In n) (sym s) h))
