-- The number of workers, the seed and the losses stand one behind the other.
use Rattle.std.proofs.Common.{◌++◌, ◌∙◌, ap}
use Rattle.sky_base.specs.Name.{big_endian}
use Rattle.ciel_log_records.specs.Records.{counted, loss_bytes}
use Rattle.ciel_log_records.proofs.Counted.{three}
use Rattle.ciel_log_records.proofs.header.put_plan.Goals as goal

pub returns : goal.returns
returns c =
    c.in_ok-put_losses.ensures
    ∙ ap (λ y. y ++ counted loss_bytes c.args.losses.now)
    (c.in_ok-put_long.ensures ∙ ap (λ y. y ++ big_endian 8 c.args.seed) c.in_ok-number.ensures)
    ∙ three c.args.out.now (big_endian 4 c.args.workers) (big_endian 8 c.args.seed) (counted loss_bytes c.args.losses.now)
