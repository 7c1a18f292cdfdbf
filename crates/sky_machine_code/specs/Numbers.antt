-- The numbers of a script's nodes: where each node ends, and where the blocks of functions stand.
use Rattle.std.specs.Prelude.{◌≡◌, ◌≤◌, ◌<◌, ℕ, ◌+◌, List, [], ◌∷◌, Some}
use Rattle.sky_base.specs.Tree.{FunDef, Script, Stms, nodes, stm_nodes, block_nodes}
use Rattle.sky_base_law.specs.Opened.{Node, exp_node, stm_node, block_node, HasStms}
use Rattle.sky_base_law.specs.Nodes.{node_at, pre_script}

-- how many nodes there are in a node, itself included
abbrev pub node_size : Node → ℕ
node_size (exp_node e) = nodes e
node_size (stm_node a) = stm_nodes a
node_size (block_node b) = block_nodes b

-- for each of these nodes, the first of which has this number, the number that comes after all that is in it
abbrev pub ends_from : List Node → ℕ → List ℕ
ends_from [] n = []
ends_from (t ∷ ts) n = (n + node_size t) ∷ ends_from ts (n + 1)

abbrev pub ends_of : Script → List ℕ
ends_of sc = ends_from (pre_script sc) 0

-- the nodes of the blocks of functions, the first of which has this number
abbrev pub starts_from : List FunDef → ℕ → List ℕ
starts_from [] n = []
starts_from (f ∷ fs) n = n ∷ starts_from fs (n + block_nodes f.body)

abbrev pub starts_of : Script → List ℕ
starts_of sc = starts_from sc.funs (block_nodes sc.main)

-- the block stands at the node n with all that is in it, and i is the number of one of these nodes
abbrev pub Holds : Script → Stms → (n i : ℕ) → Type 0
Holds sc b n i =
    (node_at sc n ≡ Some (block_node b)) × HasStms (λ k. node_at sc k) b (n + 1) × (n ≤ i) × (i < n + block_nodes b)
