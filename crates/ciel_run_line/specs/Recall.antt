-- What the executors of a line give with the memo that was read for it.
use Rattle.std.specs.Prelude.{Option, option_map}
use Rattle.sky_base.specs.KitView.{Gives}
use Rattle.ciel_run_line.specs.Given.{given_by}
use Rattle.ciel_run_line.specs.declared.recall.Recalled.{Recalled}

abbrev pub gives_with : {R : Type 0} → Option (Recalled R) → Gives
gives_with recalled = given_by (option_map (λ r. r.kit.entries) recalled)
