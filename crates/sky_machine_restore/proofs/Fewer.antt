-- There are no more steps than nodes and indices and calls.
use Rattle.std.proofs.Common.{◌≤◌, ◌+◌, List, [], ◌∷◌, length, arith}
use Rattle.sky_base.specs.Tree.{steps_nodes}
use Rattle.sky_base.specs.TreeView.{steps_view}
use Rattle.sky_base.specs.declared.tree.Step.{Step}
use Rattle.sky_machine_entries.specs.Ready.{steps_left}

pub steps_few : (xs : List Step) → steps_left (steps_view xs) ≤ steps_nodes (steps_view xs) + length xs
steps_few [] = omega arith
steps_few (Step.Index e l c ∷ xs) = omega (arith, steps_few xs)
steps_few (Step.Call es l c ∷ xs) = omega (arith, steps_few xs)
