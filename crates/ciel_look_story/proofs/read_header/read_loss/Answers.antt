-- Where one of its numbers is lacking, no loss stands there.
use Rattle.std.proofs.Common.{arith}
use Rattle.ciel_look_story.proofs.Heads.{loss_none, loss_worker}
use Rattle.ciel_look_story.proofs.read_header.read_loss.Goals as goal

pub returns-in_err-after : goal.returns-in_err-after
returns-in_err-after c = rw c.from_residual.ensures (loss_none c.args.reader.now c.in_err-after.ensures)

pub returns-in_err-worker : goal.returns-in_err-worker
returns-in_err-worker c =
    rw c.from_residual-in_err-worker.ensures (loss_worker c.args.reader.now c.in_ok-after.after c.number.new.self c.in_ok-after.ensures (omega arith)
    c.in_err-worker.ensures)
