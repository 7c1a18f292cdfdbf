use Rattle.std.proofs.Common.{◌∙◌, ap, sym}
use Rattle.ciel_want.specs.Board.{first_unmet}
use Rattle.ciel_want.specs.Waited.{first_refs, names_of}
use Rattle.ciel_want.proofs.WaitedRows.{names_known}
use Rattle.ciel_want.proofs.follow.first_at_start.Goals as goal

pub returns-in_ok-refs-in-Exec : goal.returns-in_ok-refs-in-Exec
returns-in_ok-refs-in-Exec g c =
    let t = c.args.table.now in
    let names = c.as_slice.ensures
    ∙ (sym (names_known c.in_ok-refs-in-Exec.refs) ∙ ap names_of c.in_ok-refs-in-Exec.ensures) in
    c.first_of.ensures
    ∙ (ap (first_unmet t) names ∙ ap (λ d. first_unmet t (first_refs d)) (sym c.in-Exec.is))
