-- Where the number of the wait is lacking behind what was read, no start stands there.
use Rattle.ciel_log_read.proofs.Records.{start_from}
use Rattle.ciel_log_read.proofs.start.read_start.Goals as goal

pub returns-in_err-from : goal.returns-in_err-from
returns-in_err-from c =
    rw c.from_residual-in_err-from.ensures (start_from c.args.reader.now c.in_ok-number.number c.read_long.new.reader c.in_ok-worker.worker
    c.read_number.new.reader c.in_ok-number.ensures c.in_ok-worker.ensures c.in_err-from.ensures)
