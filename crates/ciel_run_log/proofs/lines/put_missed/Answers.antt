-- The pieces of the line, one behind another.
use Rattle.std.proofs.Common.{◌∙◌, ◌++◌, [], append_assoc, ap, sym}
use Rattle.std.proofs.lemmas.List.{append-nil}
use Rattle.hex.specs.Hex.{encode_lower}
use Rattle.ciel_io.proofs.Joined.{on_err, tells_more}
use Rattle.ciel_run_log.proofs.Cuts.{missed_cut, missed_front, number_back}
use Rattle.ciel_run_log.proofs.Puts.{on_err_to, part_at, part_first}
use Rattle.ciel_run_log.proofs.lines.put_missed.Goals as goal

pub returns-in_err-put_all-clause-part : goal.returns-in_err-put_all-clause-part
returns-in_err-put_all-clause-part g c =
    let front = missed_front c.format-number.result.now in
    let digits = encode_lower c.args.name.now in
    let back = number_back c.format-lost.result.now in
    let whole = missed_cut c.args.number c.args.name.now c.args.lost _ _ c.format-number.ensures.text c.format-lost.ensures.text in
    on_err c.from_residual.result (part_first _ _ _ front (digits ++ back) whole c.in_err-put_all.ensures.part)

pub returns-in_err-put_hex-clause-part : goal.returns-in_err-put_hex-clause-part
returns-in_err-put_hex-clause-part g c =
    let front = missed_front c.format-number.result.now in
    let digits = encode_lower c.bytes.result.now in
    let back = number_back c.format-lost.result.now in
    let whole = missed_cut c.args.number c.args.name.now c.args.lost _ _ c.format-number.ensures.text c.format-lost.ensures.text
    ∙ ap (λ t. front ++ (encode_lower t ++ back)) (sym c.bytes.ensures.bytes) in
    on_err c.from_residual-in_err-put_hex.result
    (part_at _ _ _ _ front digits back whole c.in_ok-put_all.ensures.written c.in_err-put_hex.ensures.part)

pub returns-clause-part : goal.returns-clause-part
returns-clause-part g c =
    let front = missed_front c.format-number.result.now in
    let digits = encode_lower c.bytes.result.now in
    let back = number_back c.format-lost.result.now in
    let whole = missed_cut c.args.number c.args.name.now c.args.lost _ _ c.format-number.ensures.text c.format-lost.ensures.text
    ∙ ap (λ t. front ++ (encode_lower t ++ back)) (sym c.bytes.ensures.bytes) ∙ sym (append_assoc front digits back)
    ∙ ap (λ t. (front ++ digits) ++ t) (sym (append-nil back)) in
    on_err_to c.put_all-2.result c.put_all-2.ensures.part
    (part_at _ _ _ _ (front ++ digits) back [] whole (tells_more _ _ _ front digits c.in_ok-put_all.ensures.written c.in_ok-put_hex.ensures.written))
