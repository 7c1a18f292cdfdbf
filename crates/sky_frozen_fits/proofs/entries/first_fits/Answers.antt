use Rattle.std.proofs.Common.{subst}
use Rattle.sky_base_law.specs.Nodes.{node_at}
use Rattle.sky_machine_numbers.specs.Filled.{node_view}
use Rattle.sky_machine_numbers.specs.Standing.{HasNode}
use Rattle.sky_frozen_fits.proofs.entries.first_fits.Goals as goal

pub row_at-row-requires : goal.row_at-row-requires
row_at-row-requires c =
    subst (λ s. HasNode (λ i. node_at s i) (node_view c.in-Some.node) c.args.todo.now.node) c.requires c.in-Some.ensures.whole
