use Rattle.std.proofs.Common.{◌≡◌, ◌^◌, ◌-◌, min, take}
use Rattle.sky_base_known.specs.Walk.{number_of}
use Rattle.sky_base_known.proofs.objects.number.Given as goal

abbrev pub invariant-loop-b : goal.invariant-loop-b
invariant-loop-b l = l.number ≡ min (number_of (take l.b-index l.name)) (2 ^ 64 - 1)
