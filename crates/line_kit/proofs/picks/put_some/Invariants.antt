use Rattle.std.proofs.Common.{◌≡◌, take, drop}
use Rattle.line_kit.specs.Lines.{joined}
use Rattle.line_kit.specs.Written.{extended}
use Rattle.line_kit.proofs.picks.put_some.Given as goal

abbrev pub invariant-loop-left : goal.invariant-loop-left
invariant-loop-left l = record {
  out : extended l.out (joined (take l.left l.lines)) ≡ extended l.fn.out (joined (take l.fn.count l.fn.lines));
  lines : drop l.left l.lines ≡ drop l.fn.count l.fn.lines;
}

abbrev pub decreases-loop-left : goal.decreases-loop-left
decreases-loop-left l = l.left
