use Rattle.std.proofs.Common.{◌∙◌, ap, sym}
use Rattle.ciel_want.specs.Board.{blockers_of}
use Rattle.ciel_want.specs.Waited.{first_refs, names_of}
use Rattle.ciel_want.proofs.WaitedRows.{names_known}
use Rattle.ciel_want.proofs.needs.first_blockers.Goals as goal

pub returns-in_ok-rows-in-Exec : goal.returns-in_ok-rows-in-Exec
returns-in_ok-rows-in-Exec g c =
    let t = c.args.table.now in
    let names = c.as_slice.ensures
    ∙ (sym (names_known c.in_ok-refs-in-Exec.refs) ∙ ap names_of c.in_ok-refs-in-Exec.ensures) in
    c.in_ok-rows-in-Exec.ensures
    ∙ (ap (blockers_of t) names ∙ ap (λ d. blockers_of t (first_refs d)) (sym c.in-Exec.is))
