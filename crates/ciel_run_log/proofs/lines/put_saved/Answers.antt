-- The pieces of the line, one behind another.
use Rattle.std.proofs.Common.{◌∙◌, ◌++◌, [], append_assoc, codes, sym}
use Rattle.hex.specs.Hex.{encode_lower}
use Rattle.ciel_io.proofs.Joined.{on_err, tells_more}
use Rattle.ciel_run_log.proofs.Cuts.{saved_cut, saved_front}
use Rattle.ciel_run_log.proofs.Puts.{on_err_to, part_at, part_first}
use Rattle.ciel_run_log.proofs.lines.put_saved.Goals as goal

pub returns-in_err-put_all-clause-part : goal.returns-in_err-put_all-clause-part
returns-in_err-put_all-clause-part g c =
    let front = saved_front c.format-number.result.now c.format-wait.result.now in
    let digits = encode_lower c.args.mark.now in
    let whole = saved_cut c.args.number c.args.wait c.args.mark.now _ _ c.format-number.ensures.text c.format-wait.ensures.text in
    on_err c.from_residual.result (part_first _ _ _ front (digits ++ codes "\n") whole c.in_err-put_all.ensures.part)

pub returns-in_err-put_hex-clause-part : goal.returns-in_err-put_hex-clause-part
returns-in_err-put_hex-clause-part g c =
    let front = saved_front c.format-number.result.now c.format-wait.result.now in
    let digits = encode_lower c.args.mark.now in
    let whole = saved_cut c.args.number c.args.wait c.args.mark.now _ _ c.format-number.ensures.text c.format-wait.ensures.text in
    on_err c.from_residual-in_err-put_hex.result
    (part_at _ _ _ _ front digits (codes "\n") whole c.in_ok-put_all.ensures.written c.in_err-put_hex.ensures.part)

pub returns-clause-part : goal.returns-clause-part
returns-clause-part g c =
    let front = saved_front c.format-number.result.now c.format-wait.result.now in
    let digits = encode_lower c.args.mark.now in
    let whole = saved_cut c.args.number c.args.wait c.args.mark.now _ _ c.format-number.ensures.text c.format-wait.ensures.text
    ∙ sym (append_assoc front digits (codes "\n")) in
    on_err_to c.put.result c.put.ensures.part
    (part_at _ _ _ _ (front ++ digits) (codes "\n") [] whole
    (tells_more _ _ _ front digits c.in_ok-put_all.ensures.written c.in_ok-put_hex.ensures.written))
