use Rattle.sky_plain.proofs.Lacks.{KnownTo}
use Rattle.sky_plain.proofs.settle.unknown.Given as goal

abbrev pub invariant-loop-name : goal.invariant-loop-name
invariant-loop-name l = record {
  known : KnownTo l.objects l.name-index l.name-items;
}
