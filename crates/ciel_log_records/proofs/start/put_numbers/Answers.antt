-- The three numbers stand one behind the other.
use Rattle.std.proofs.Common.{◌++◌, ◌∙◌, ap}
use Rattle.sky_base.specs.Name.{big_endian}
use Rattle.ciel_log_records.proofs.Counted.{three}
use Rattle.ciel_log_records.proofs.start.put_numbers.Goals as goal

pub returns : goal.returns
returns c =
    c.in_ok-number-2.ensures
    ∙ ap (λ y. y ++ big_endian 4 c.args.from) (c.in_ok-number.ensures ∙ ap (λ y. y ++ big_endian 4 c.args.worker) c.in_ok-put_long.ensures)
    ∙ three c.args.out.now (big_endian 8 c.args.number) (big_endian 4 c.args.worker) (big_endian 4 c.args.from)
