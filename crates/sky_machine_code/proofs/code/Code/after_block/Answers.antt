use Rattle.sky_base_law.specs.Opened.{block_node}
use Rattle.sky_machine_code.proofs.code.Code.after_block.Goals as goal

pub returns : goal.returns
returns c = c.after.ensures (block_node c.args.block.now) c.requires
