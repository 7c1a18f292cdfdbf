-- The record is its first byte, the numbers and the task.
use Rattle.std.proofs.Common.{[], ◌∷◌, ◌++◌, ◌∙◌, ap}
use Rattle.sky_base.specs.Name.{big_endian}
use Rattle.ciel_log_records.specs.Records.{task_bytes}
use Rattle.ciel_log_records.proofs.Counted.{inside, three}
use Rattle.ciel_log_records.proofs.start.put_start.Goals as goal

pub returns : goal.returns
returns c =
    let long = big_endian 8 c.args.number in
    let worker = big_endian 4 c.args.worker in
    let from = big_endian 4 c.args.from in
    let task = task_bytes c.args.task.now in
    c.in_ok-put_task.ensures
    ∙ ap (λ y. y ++ task) (c.in_ok-put_numbers.ensures ∙ ap (λ y. y ++ (long ++ (worker ++ from))) c.in_ok-byte.ensures)
    ∙ three c.args.out.now (83 ∷ []) (long ++ (worker ++ from)) task
    ∙ ap (λ y. c.args.out.now ++ (83 ∷ y)) (inside long worker from task)
