-- The titles of nodes.
use Rattle.std.specs.Prelude.{ℕ, List, map}
use Rattle.ciel_look_picture.specs.declared.nodes.Node.{Node}

abbrev pub titles : List Node → List (List ℕ)
titles ns = map (λ (n : Node). n.tip) ns
