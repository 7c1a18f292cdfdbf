-- What the gates of a run tell.
use Rattle.std.specs.Prelude.{ℕ, List, Option, map, take}
use Rattle.sky_base.specs.declared.object.TaskId.{TaskId}
pub use Rattle.ciel_run_drive.specs.Told.{ToldBy}

-- the lists that the gates of so many workers tell
abbrev pub told_of : {G : Type 0} → (G → Option (List TaskId)) → ℕ → List G → List (Option (List TaskId))
told_of entered workers gates = map entered (take workers gates)
