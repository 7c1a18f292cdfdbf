use Rattle.std.proofs.Common.{◌+◌, ◌*◌}
use Rattle.sky_plain_body.proofs.stmt.+body+fn-body-run.Given as goal

abbrev pub decreases-body : goal.decreases-body
decreases-body l = 2 * l.bodies

abbrev pub decreases-run : goal.decreases-run
decreases-run l = 2 * l.left + 1
