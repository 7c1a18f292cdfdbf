use Rattle.std.proofs.Common.{ℕ, subst}
use Rattle.sky_base_law.specs.Nodes.{node_at}
use Rattle.sky_machine_numbers.specs.Filled.{node_view}
use Rattle.sky_machine_numbers.specs.Standing.{HasNode}
use Rattle.sky_machine_numbers.proofs.NodesByNumber.{own_node}
use Rattle.sky_machine_numbers.proofs.nodes.Nodes.at.Goals as goal

pub returns-in-Some-clause-whole : goal.returns-in-Some-clause-whole
returns-in-Some-clause-whole c =
    subst (λ sc. HasNode (λ (i : ℕ). node_at sc i) (node_view c.node_in_block.result) c.args.number) c.self.view_is c.node_in_block.ensures

pub returns-in-Some-clause-node : goal.returns-in-Some-clause-node
returns-in-Some-clause-node c =
    own_node (λ (i : ℕ). node_at c.args.self.now i) (node_view c.node_in_block.result) c.args.number (returns-in-Some-clause-whole c)
