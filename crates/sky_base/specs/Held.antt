-- What a shared list holds.
use Rattle.std.specs.Prelude.{List, []}
use Rattle.std.specs.Arc.{arc_value}
use Rattle.sky_base.specs.declared.shared.Shared.{Shared}

abbrev pub held : {T : Type 0} → Shared T → List T
held (Shared.Nothing g) = []
held (Shared.Block b) = (arc_value b).items
