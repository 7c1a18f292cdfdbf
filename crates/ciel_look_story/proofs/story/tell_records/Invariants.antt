-- The records up to a place are told; what is left of the file gets shorter.
use Rattle.std.proofs.Common.{◌-◌, length}
use Rattle.ciel_look_story.specs.Inside.{Progress}
use Rattle.ciel_look_story.proofs.story.tell_records.Given as goal

abbrev pub invariant-loop-bytes : goal.invariant-loop-bytes
invariant-loop-bytes l = Progress l.losses l.log l.fn.first l.teller l.told.items l.at

abbrev pub decreases-loop-bytes : goal.decreases-loop-bytes
decreases-loop-bytes l = length l.log - l.at
