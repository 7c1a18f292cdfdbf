use Rattle.std.proofs.Common.{◌≡◌, ℕ, List, ◌++◌, length}
use Rattle.line_kit.specs.Lines.{lines}
use Rattle.line_flow.specs.Kept.{HasPair}
use Rattle.line_flow.proofs.pair.Pair.compare_all.Given as goal

abbrev pub invariant-loop-rest : goal.invariant-loop-rest
invariant-loop-rest l =
    (done : List (List ℕ)) × (lines l.block ≡ done ++ lines l.rest)
    × ((first : List (List ℕ)) (second : List (List ℕ)) → HasPair l.fn.self first second → HasPair l.self first (second ++ done))

abbrev pub decreases-loop-rest : goal.decreases-loop-rest
decreases-loop-rest l = length l.rest
