-- What is found going down to a number.
use Rattle.std.proofs.Common.{◌≡◌, ◌+◌, ℕ, Option, Some, refl}
use Rattle.sky_base.specs.Tree.{Steps, steps_nodes}
use Rattle.sky_base.specs.TreeView.{step_view, step_nodes}
use Rattle.sky_base.specs.declared.tree.Step.{Step}
use Rattle.sky_base_law.specs.Opened.{Node, exp_node, stm_node, block_node, HasSteps}
use Rattle.sky_machine_code.proofs.Bodies.{own_exp, own_stm}
use Rattle.sky_machine_numbers.specs.Standing.{HasNode, HasStep}

pub step_size : (s : Step) (ss : Steps) → steps_nodes (step_view s ss) ≡ step_nodes s + steps_nodes ss
step_size (Step.Index e l c) ss = refl
step_size (Step.Call es l c) ss = refl

module _ (at : ℕ → Option Node) where
  -- a node that stands with all that is in it stands at its number
  pub own_node : (t : Node) (n : ℕ) → HasNode at t n → at n ≡ Some t
  own_node (exp_node e) n h = own_exp at e n h
  own_node (stm_node a) n h = own_stm at a n h
  own_node (block_node b) n h = h.0

  pub step_stands : (s : Step) (ss : Steps) (n : ℕ) → HasSteps at (step_view s ss) n → HasStep at s n × HasSteps at ss (n + step_nodes s)
  step_stands (Step.Index e l c) ss n h = h
  step_stands (Step.Call es l c) ss n h = h
