-- What was put so far.
use Rattle.std.proofs.Common.{◌≡◌, ◌++◌, take}
use Rattle.ciel_look_shown.specs.Plain.{shown}
use Rattle.ciel_look_shown.proofs.plain.Plain.put.Given as goal

abbrev pub invariant-loop-byte : goal.invariant-loop-byte
invariant-loop-byte l = l.self ≡ l.initial.self ++ shown (take l.byte-index l.bytes)
