use Rattle.std.proofs.Common.{◌≡◌, ◌++◌, drop}
use Rattle.std.specs.Option.{option_map}
use Rattle.sky_base.specs.Names.{known_of}
use Rattle.sky_base.specs.View.{vals_of}
use Rattle.sky_base_law.specs.Opened.{descs_of}
use Rattle.sky_machine_open.proofs.parts.names_of.Given as goal

abbrev pub invariant-loop-value : goal.invariant-loop-value
invariant-loop-value l =
    descs_of (vals_of l.values) ≡ option_map (λ ds. known_of l.names ++ ds) (descs_of (vals_of (drop l.value-index l.values)))
