-- The block of a body stands at the body's node.
use Rattle.std.proofs.Common.{◌≡◌, ℕ, ◌+◌, List, [], ◌∷◌, Bool, true, false, Option, Some, None, subst}
use Rattle.sky_base.specs.Tree.{FunDef, Script, block_nodes}
use Rattle.sky_base.specs.Val.{same_text}
use Rattle.sky_base.specs.Eval.{Body, find_body, find_body_if, body_of}
use Rattle.sky_base_law.specs.Opened.{Node, block_node, HasStms, HasFuns, HasScript}
use Rattle.sky_base_law.specs.Nodes.{node_at}
use Rattle.sky_base_law.proofs.NodesLaw.{has_script}

module _ (at : ℕ → Option Node) where
  abbrev pub HasBody : Option Body → Type 0
  HasBody None = Unit {0}
  HasBody (Some b) = (at b.node ≡ Some (block_node b.block)) × HasStms at b.block (b.node + 1)

  has_found : (b : Bool) (f : FunDef) (i : ℕ) (o : Option Body) → (at i ≡ Some (block_node f.body)) × HasStms at f.body (i + 1) → HasBody o
      → HasBody (find_body_if b f i o)
  has_found true f i o h g = h
  has_found false f i o h g = g

  has_find : (x : List ℕ) (fs : List FunDef) (i : ℕ) → HasFuns at fs i → HasBody (find_body x fs i)
  has_find x [] i h = tt
  has_find x (f ∷ fs) i h =
      has_found (same_text x f.name) f i (find_body x fs (i + block_nodes f.body)) h.0 (has_find x fs (i + block_nodes f.body) h.1)

  pub has_body : (f : List ℕ) (sc : Script) → HasScript at sc → HasBody (body_of f sc)
  has_body [] sc h = h.0
  has_body (x ∷ xs) sc h = has_find (x ∷ xs) sc.funs (block_nodes sc.main) h.1

-- the block of a function stands in the script at the node of its body
pub body_stands : (sc : Script) (f : List ℕ) (b : Body) → body_of f sc ≡ Some b → HasBody (λ i. node_at sc i) (Some b)
body_stands sc f b e = subst (HasBody (λ i. node_at sc i)) e (has_body (λ i. node_at sc i) f sc (has_script sc))
