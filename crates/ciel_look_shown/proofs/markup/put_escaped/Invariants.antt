-- What was put so far.
use Rattle.std.proofs.Common.{◌≡◌, ◌++◌, take}
use Rattle.ciel_look_shown.specs.Markup.{escape}
use Rattle.ciel_look_shown.proofs.markup.put_escaped.Given as goal

abbrev pub invariant-loop-byte : goal.invariant-loop-byte
invariant-loop-byte l = l.out ≡ l.initial.out ++ escape (take l.byte-index l.text)
