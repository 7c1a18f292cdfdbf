-- Which stacks are of a task at a wait.
use Rattle.std.specs.Prelude.{◌≡◌, ℕ, List}
use Rattle.sky_base.specs.Tree.{Script}
use Rattle.sky_base.specs.declared.object.TaskId.{TaskId}
use Rattle.sky_frozen_bytes.specs.Bytes.{frozen_bytes}
use Rattle.sky_frozen_bytes.specs.Spelled.{StandSpelled}
use Rattle.sky_state.specs.Pending.{stand_wait}
use Rattle.sky_state.specs.Stand.{Stand}
use Rattle.ciel_master_safe.specs.Safe.{IsStackOf}
use Rattle.ciel_task_order.specs.Orders.{OfKind}

-- the stack is of this kind of task, at this wait
abbrev pub IsAt : TaskId → ℕ → Stand (List ℕ) → Type 0
IsAt task wait s = OfKind task s × (stand_wait s ≡ wait)

-- of all stacks that bytes can spell none of this task and at this wait has these, whatever it waits for and holds
abbrev pub NoStackOf : Script → TaskId → ℕ → List ℕ → Type 0
NoStackOf sc task wait bytes =
    (s : Stand (List ℕ)) (refs holds : List (List ℕ)) → StandSpelled s → IsStackOf sc task wait refs holds s → frozen_bytes s ≡ bytes → ⊥
