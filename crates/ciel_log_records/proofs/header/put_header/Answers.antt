-- The record is its first byte, the plan and the job.
use Rattle.std.proofs.Common.{[], ◌∷◌, ◌++◌, ◌∙◌, ap}
use Rattle.sha1.specs.Sha1.{sha1}
use Rattle.sky_base.specs.Name.{big_endian}
use Rattle.ciel_log_records.specs.Records.{counted, input_bytes, loss_bytes, namer_byte}
use Rattle.ciel_log_records.proofs.Counted.{inside, three}
use Rattle.ciel_log_records.proofs.header.put_header.Goals as goal

pub returns : goal.returns
returns c =
    let workers = big_endian 4 c.args.workers in
    let seed = big_endian 8 c.args.seed in
    let losses = counted loss_bytes c.args.losses.now in
    let job = namer_byte c.args.short ∷ (sha1 c.args.script.now ++ counted input_bytes c.args.inputs.now) in
    c.in_ok-put_job.ensures
    ∙ ap (λ y. y ++ job) (c.in_ok-put_plan.ensures ∙ ap (λ y. y ++ (workers ++ (seed ++ losses))) c.in_ok-byte.ensures)
    ∙ three c.args.out.now (72 ∷ []) (workers ++ (seed ++ losses)) job
    ∙ ap (λ y. c.args.out.now ++ (72 ∷ y)) (inside workers seed losses job)
