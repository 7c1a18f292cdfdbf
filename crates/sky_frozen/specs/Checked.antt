-- Bytes that no state has which fits a script.
use Rattle.std.specs.Prelude.{◌≡◌, ℕ, List}
use Rattle.sky_base.specs.Tree.{Script}
use Rattle.sky_state.specs.Stand.{Stand}
use Rattle.sky_state.specs.Fits.{Fits}
use Rattle.sky_frozen_bytes.specs.Bytes.{frozen_bytes}
use Rattle.sky_frozen_bytes.specs.Spelled.{StandSpelled}

-- of all states that bytes can spell none fits the script and has these
abbrev pub NoneFits : Script → List ℕ → Type 0
NoneFits sc bs = (s : Stand (List ℕ)) → StandSpelled s → Fits sc s → frozen_bytes s ≡ bs → ⊥
