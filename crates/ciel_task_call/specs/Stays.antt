-- What stays of a finder.
use Rattle.std.specs.Prelude.{ℕ, List}
use Rattle.atomic_table.specs.Seated.{TableId}
use Rattle.sky_base.specs.Tree.{Script}
use Rattle.ciel_store.specs.Seen.{ShelvesSeen}
use Rattle.ciel_task_order.specs.declared.block.Held.{Held}
use Rattle.ciel_task_inputs.specs.Fetched.{told_next}

-- which eye it looks through and what it notes in, and of which words that eye is; the shelves and the worker, the script and the inputs of the job,
-- and what the order has
pub record Stays : Type 0 where
  pub eye : ℕ
  pub copied : ℕ
  pub of : TableId
  pub shelves : ShelvesSeen
  pub worker : ℕ
  pub script : Script
  pub inputs : List (List ℕ × List ℕ)
  pub held : List Held

-- what a finder tells: the names of what was copied, for this worker, of what the order has
pub record Tells : Type 0 where
  pub worker : ℕ
  pub held : List Held
  pub names : List (List ℕ)

-- and with one name more
abbrev pub tells_next : Tells → List ℕ → Tells
tells_next t n = record { worker = t.worker; held = t.held; names = told_next t.worker t.held t.names n }
