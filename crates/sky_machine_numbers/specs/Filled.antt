-- The table of the ends of a script's nodes, while it is filled in their order: for each node the number that comes after all that is in it.
use Rattle.std.specs.Prelude.{◌≡◌, ◌<◌, ◌+◌, ◌^◌, ℕ, List, [], ◌∷◌, ◌++◌, length, set}
use Rattle.sky_base.specs.Tree.{Exp, Stm}
use Rattle.sky_base.specs.TreeView.{exp_view}
use Rattle.sky_base.specs.StmtView.{stm_view}
use Rattle.sky_base.specs.declared.tree.Step.{Step}
use Rattle.sky_base_law.specs.Opened.{Node, exp_node, stm_node, block_node}
use Rattle.sky_base_law.specs.Nodes.{pre_exp, pre_exps, pre_stm}
use Rattle.sky_machine_code.specs.Numbers.{ends_from}
use Rattle.sky_machine_numbers.specs.declared.node.NodeRef.{NodeRef}

-- which node it is
abbrev pub node_view : NodeRef → Node
node_view (NodeRef.Exp e) = exp_node (exp_view e.now)
node_view (NodeRef.Stmt s) = stm_node (stm_view s.now)
node_view (NodeRef.Block b) = block_node b.now

-- a node is begun: its end isn't known yet
abbrev pub begun : List ℕ → List ℕ
begun ends = ends ++ 0 ∷ []

-- the node at this place has ended
abbrev pub ended : List ℕ → ℕ → List ℕ
ended ends at = set ends at (length ends)

-- the table got the ends of these nodes, one after the other
pub record Filled (old new : List ℕ) (ts : List Node) : Type 0 where
  pub ends : new ≡ old ++ ends_from ts (length old)

-- the numbers of these nodes fit
abbrev pub Fits : List ℕ → List Node → Type 0
Fits old ts = length old + length ts < 2 ^ 32

-- all but the first
abbrev pub inner : List Node → List Node
inner [] = []
inner (t ∷ ts) = ts

-- the nodes inside of an expression or a statement
abbrev pub in_exp : Exp → List Node
in_exp e = inner (pre_exp e)

abbrev pub in_stm : Stm → List Node
in_stm a = inner (pre_stm a)

-- the nodes of an index, or of the arguments of a call
abbrev pub in_step : Step → List Node
in_step (Step.Index e l c) = pre_exp (exp_view e)
in_step (Step.Call es l c) = pre_exps es
