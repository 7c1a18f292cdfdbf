-- All are told where those that are left are.
use Rattle.std.proofs.Common.{drop}
use Rattle.sky_base.specs.ObjectView.{desc_view}
use Rattle.sky_base.specs.declared.object.Named.{Named}
use Rattle.sky_base_law.specs.Tasks.{Each}
use Rattle.ciel_name_law.specs.Told.{DescTold}
use Rattle.ciel_name_law.proofs.read.read_all.Given as goal

abbrev pub invariant-loop-named : goal.invariant-loop-named
invariant-loop-named l =
    Each (λ (n : Named). DescTold (desc_view n.desc)) (drop l.named-index l.descs) → Each (λ (n : Named). DescTold (desc_view n.desc)) l.descs
