-- What stands at the numbers that follow a node's.
use Rattle.std.specs.Prelude.{◌≡◌, ℕ, ◌+◌, Option, Some}
use Rattle.sky_base.specs.TreeView.{exp_view}
use Rattle.sky_base.specs.declared.tree.Step.{Step}
use Rattle.sky_base_law.specs.Opened.{Node, exp_node, stm_node, block_node, HasExp, HasExps, HasStm, HasStms}

-- the node stands at this number, and all that is in it at the numbers that follow, in order
abbrev pub HasNode : (ℕ → Option Node) → Node → ℕ → Type 0
HasNode at (exp_node e) n = HasExp at e n
HasNode at (stm_node a) n = HasStm at a n
HasNode at (block_node b) n = (at n ≡ Some (block_node b)) × HasStms at b (n + 1)

-- the nodes of an index, or of the arguments of a call, stand at this number and those that follow
abbrev pub HasStep : (ℕ → Option Node) → Step → ℕ → Type 0
HasStep at (Step.Index e l c) n = HasExp at (exp_view e) n
HasStep at (Step.Call es l c) n = HasExps at es n
