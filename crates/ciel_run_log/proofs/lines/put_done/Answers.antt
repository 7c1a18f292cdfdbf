-- The pieces of the line, one behind another.
use Rattle.std.proofs.Common.{◌∙◌, ◌++◌, [], append_assoc, codes, sym}
use Rattle.ciel_run_log.specs.Text.{copied_texts, made_texts}
use Rattle.ciel_io.proofs.Joined.{on_err, tells_more}
use Rattle.ciel_run_log.proofs.Cuts.{done_cut, done_front}
use Rattle.ciel_run_log.proofs.Puts.{on_err_to, part_at, part_first}
use Rattle.ciel_run_log.proofs.lines.put_done.Goals as goal

pub returns-in_err-put_all-clause-part : goal.returns-in_err-put_all-clause-part
returns-in_err-put_all-clause-part g c =
    let front = done_front c.format-number.result.now in
    let made = made_texts c.args.made.now in
    let copied = copied_texts c.args.copied.now in
    let whole = done_cut c.args.number c.args.made.now c.args.copied.now _ c.format-number.ensures.text in
    on_err c.from_residual.result (part_first _ _ _ front (made ++ (copied ++ codes "\n")) whole c.in_err-put_all.ensures.part)

pub returns-in_err-put_each_made-clause-part : goal.returns-in_err-put_each_made-clause-part
returns-in_err-put_each_made-clause-part g c =
    let front = done_front c.format-number.result.now in
    let made = made_texts c.args.made.now in
    let copied = copied_texts c.args.copied.now in
    let whole = done_cut c.args.number c.args.made.now c.args.copied.now _ c.format-number.ensures.text in
    on_err c.from_residual-in_err-put_each_made.result
    (part_at _ _ _ _ front made (copied ++ codes "\n") whole c.in_ok-put_all.ensures.written c.in_err-put_each_made.ensures.part)

pub returns-in_err-put_each_copied-clause-part : goal.returns-in_err-put_each_copied-clause-part
returns-in_err-put_each_copied-clause-part g c =
    let front = done_front c.format-number.result.now in
    let made = made_texts c.args.made.now in
    let copied = copied_texts c.args.copied.now in
    let whole = done_cut c.args.number c.args.made.now c.args.copied.now _ c.format-number.ensures.text
    ∙ sym (append_assoc front made (copied ++ codes "\n")) in
    on_err c.from_residual-in_err-put_each_copied.result
    (part_at _ _ _ _ (front ++ made) copied (codes "\n") whole
    (tells_more _ _ _ front made c.in_ok-put_all.ensures.written c.in_ok-put_each_made.ensures.written)
    c.in_err-put_each_copied.ensures.part)

pub returns-clause-part : goal.returns-clause-part
returns-clause-part g c =
    let front = done_front c.format-number.result.now in
    let made = made_texts c.args.made.now in
    let copied = copied_texts c.args.copied.now in
    let whole = done_cut c.args.number c.args.made.now c.args.copied.now _ c.format-number.ensures.text
    ∙ sym (append_assoc front made (copied ++ codes "\n")) ∙ sym (append_assoc (front ++ made) copied (codes "\n")) in
    on_err_to c.put.result c.put.ensures.part
    (part_at _ _ _ _ ((front ++ made) ++ copied) (codes "\n") [] whole
    (tells_more _ _ _ (front ++ made) copied (tells_more _ _ _ front made c.in_ok-put_all.ensures.written c.in_ok-put_each_made.ensures.written)
    c.in_ok-put_each_copied.ensures.written))
