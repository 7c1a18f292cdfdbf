-- The pieces of the line, one behind another.
use Rattle.std.proofs.Common.{◌∙◌, ◌++◌, [], append_assoc, ap, sym}
use Rattle.std.proofs.lemmas.List.{append-nil}
use Rattle.ciel_run_log.specs.Text.{task_text}
use Rattle.ciel_io.proofs.Joined.{on_err, tells_more}
use Rattle.ciel_run_log.proofs.Cuts.{number_back, start_cut, start_front}
use Rattle.ciel_run_log.proofs.Puts.{on_err_to, part_at, part_first}
use Rattle.ciel_run_log.proofs.lines.put_start.Goals as goal

pub returns-in_err-put_all-clause-part : goal.returns-in_err-put_all-clause-part
returns-in_err-put_all-clause-part g c =
    let front = start_front c.format-number.result.now c.format-worker.result.now in
    let task = task_text c.args.task.now in
    let back = number_back c.format-from.result.now in
    let whole = start_cut c.args.number c.args.worker c.args.task.now c.args.from _ _ _ c.format-number.ensures.text c.format-worker.ensures.text
    c.format-from.ensures.text in
    on_err c.from_residual.result (part_first _ _ _ front (task ++ back) whole c.in_err-put_all.ensures.part)

pub returns-in_err-put_task-clause-part : goal.returns-in_err-put_task-clause-part
returns-in_err-put_task-clause-part g c =
    let front = start_front c.format-number.result.now c.format-worker.result.now in
    let task = task_text c.args.task.now in
    let back = number_back c.format-from.result.now in
    let whole = start_cut c.args.number c.args.worker c.args.task.now c.args.from _ _ _ c.format-number.ensures.text c.format-worker.ensures.text
    c.format-from.ensures.text in
    on_err c.from_residual-in_err-put_task.result
    (part_at _ _ _ _ front task back whole c.in_ok-put_all.ensures.written c.in_err-put_task.ensures.part)

pub returns-clause-part : goal.returns-clause-part
returns-clause-part g c =
    let front = start_front c.format-number.result.now c.format-worker.result.now in
    let task = task_text c.args.task.now in
    let back = number_back c.format-from.result.now in
    let whole = start_cut c.args.number c.args.worker c.args.task.now c.args.from _ _ _ c.format-number.ensures.text c.format-worker.ensures.text
    c.format-from.ensures.text
    ∙ sym (append_assoc front task back) ∙ ap (λ t. (front ++ task) ++ t) (sym (append-nil back)) in
    on_err_to c.put_all-2.result c.put_all-2.ensures.part
    (part_at _ _ _ _ (front ++ task) back [] whole (tells_more _ _ _ front task c.in_ok-put_all.ensures.written c.in_ok-put_task.ensures.written))
