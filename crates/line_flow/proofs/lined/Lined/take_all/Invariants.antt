use Rattle.std.proofs.Common.{◌≡◌, ◌<◌, ◌≤◌, ◌-◌, ℕ, false, List, ◌++◌, length, take}
use Rattle.sky_base.specs.Val.{Pairs}
use Rattle.line_kit.specs.Lines.{lines, is_open}
use Rattle.line_kit.specs.declared.executor.Executor.{Executor}
use Rattle.line_flow.specs.Kept.{KeptLined}
use Rattle.line_flow.proofs.lined.Lined.take_all.Given as goal

abbrev pub invariant-loop-taken : goal.invariant-loop-taken
invariant-loop-taken l = record {
  bound : l.taken ≤ length l.block;
  closed : l.taken < length l.block → is_open (take l.taken l.block) ≡ false;
  keeps : (e : Executor) (args : Pairs (List ℕ)) (n : ℕ) (drained : List (List ℕ)) (ls : List (List ℕ)) → 0 < n
      → KeptLined l.fn.self e args n drained ls
      → KeptLined l.self e args n drained (ls ++ lines (take l.taken l.block));
}

abbrev pub decreases-loop-taken : goal.decreases-loop-taken
decreases-loop-taken l = length l.block - l.taken
