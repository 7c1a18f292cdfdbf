-- What was taken is less than the cut, so it is all of the reader.
use Rattle.std.proofs.Common.{◌<◌, ◌+◌, arith, length}
use Rattle.ciel_io.proofs.Limits.{all_read}
use Rattle.ciel_io.proofs.host.read_limited.Goals as goal

pub returns-in-Ok-new-clause-found : goal.returns-in-Ok-new-clause-found
returns-in-Ok-new-clause-found g c =
    let few : length c.read_to_end.new.buf.items < c.args.limit + 1 = omega arith in
    let h = c.take.ensures in
    let all =
    all_read (g.R.Read.remaining c.args.reader) (c.args.limit + 1) c.read_to_end.new.buf.items _ c.in-Ok.ensures.items few
    (rw (h.limit, h.inner) at c.in-Ok-read_to_end.ensures.bytes) in
    rw c.in-Ok-new.ensures all
