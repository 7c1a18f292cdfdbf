-- What the rows keep from step to step.
use Rattle.std.specs.Prelude.{ℕ, List, Option, Some, None}
use Rattle.sky_base.specs.Tree.{Script}
use Rattle.sky_base.specs.declared.object.Object.{Object}
use Rattle.sky_state.specs.Fits.{Fits}
use Rattle.sky_state.specs.Stand.{Stand}
use Rattle.sky_machine.specs.Onward.{AnswersSound}

-- where the call has no end yet its state fits the script
abbrev pub FitsUnless : {A : Type 0} → Script → Stand (List ℕ) → Option A → Type 0
FitsUnless sc s (Some end) = Unit {0}
FitsUnless sc s None = Fits sc s

-- the objects hold no value that a script could have made
abbrev pub SoundAnywhere : List Object → Type 0
SoundAnywhere os = (sc : Script) → AnswersSound sc os
