use Rattle.std.proofs.Common.{◌∙◌, ap, sym}
use Rattle.sky_base.specs.Val.{distinct, same_text}
use Rattle.ciel_master_board.specs.Board.{start_refs}
use Rattle.ciel_want.specs.Waited.{names_of}
use Rattle.ciel_want.proofs.WaitedRows.{names_known}
use Rattle.ciel_master_bring.proofs.bring.start_refs.Goals as goal

pub returns-in_ok-names-in-Call : goal.returns-in_ok-names-in-Call
returns-in_ok-names-in-Call c =
    sym (names_known c.in_ok-names-in-Call.names)
    ∙ (ap names_of (c.in_ok-names-in-Call.ensures ∙ ap (distinct same_text) c.in_ok-values-in-Call.ensures)
    ∙ ap start_refs (sym c.in-Call.is))

pub returns-in_ok-names-in-Exec : goal.returns-in_ok-names-in-Exec
returns-in_ok-names-in-Exec c =
    sym (names_known c.in_ok-names-in-Exec.names) ∙ (ap names_of c.in_ok-names-in-Exec.ensures ∙ ap start_refs (sym c.in-Exec.is))
