use Rattle.std.proofs.Common.{◌≡◌, ◌≤◌, ◌+◌, false, length, take}
use Rattle.std.specs.Prelude.{count_by}
use Rattle.line_kit.specs.Lines.{is_feed, is_open}
use Rattle.line_kit.proofs.parts.feeds_end.Given as goal

abbrev pub invariant-loop-left : goal.invariant-loop-left
invariant-loop-left l = record {
  within : l.at ≤ length l.bytes;
  feeds : count_by is_feed (take l.at l.bytes) + l.left ≡ count_by is_feed (take l.from l.bytes) + l.feeds;
  closed : l.left ≡ 0 → is_open (take l.at l.bytes) ≡ false;
}

abbrev pub decreases-loop-left : goal.decreases-loop-left
decreases-loop-left l = l.left
