use Rattle.std.proofs.Common.{length, ◌+◌, ◌*◌}
use Rattle.sky_parse.proofs.body.+body.Given as goal

abbrev pub decreases-whole_block : goal.decreases-whole_block
decreases-whole_block l = 2 * length l.ts.now

-- the closure that is handed to expressions reads fewer tokens
abbrev pub decreases-block_by : goal.decreases-block_by
decreases-block_by l = 2 * length l.ts.now + 1
