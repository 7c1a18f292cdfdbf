use Rattle.std.proofs.Common.{◌≡◌, ◌≤◌, ◌+◌, ◌-◌, length, take}
use Rattle.std.specs.Prelude.{count_by}
use Rattle.line_kit.specs.Lines.{is_feed}
use Rattle.line_kit.proofs.parts.behind_windows.Given as goal

abbrev pub invariant-loop-at : goal.invariant-loop-at
invariant-loop-at l = record {
  within : l.at ≤ length l.bytes;
  feeds : count_by is_feed (take l.at l.bytes) + l.left ≡ l.count;
  start : l.left ≡ 0 → l.at ≡ 0;
}

abbrev pub decreases-loop-at : goal.decreases-loop-at
decreases-loop-at l = length l.bytes - l.at
