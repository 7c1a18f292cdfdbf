-- What a state of the code stands for, and what it made.
use Rattle.std.specs.Prelude.{ℕ, List, []}
use Rattle.sky_base.specs.Val.{Desc}
use Rattle.sky_base.specs.View.{view}
use Rattle.sky_state.specs.Stand.{Stand}
use Rattle.sky_state.specs.declared.state.State.{State}

abbrev pub stand_of : State → Stand (List ℕ)
stand_of (State.Run r) = Stand.run (record { frames = r.frames; count = r.count; waits = r.waits })
stand_of (State.Show v w) = Stand.show_at (view v) w

abbrev pub spawned_of : State → List (List ℕ × Desc (List ℕ))
spawned_of (State.Run r) = r.spawned
spawned_of (State.Show v w) = []
