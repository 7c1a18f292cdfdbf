-- What an order brings along.
use Rattle.std.specs.Prelude.{ℕ, List, Option, None}
use Rattle.sky_base.specs.Res.{Object}
use Rattle.sky_base.specs.Val.{Desc, known}
use Rattle.ciel_task_order.specs.declared.block.Held.{Held}
use Rattle.ciel_task_inputs.specs.Gathers.{lies_of}

-- by its name the object that lies where the order says, where these are the inputs of the job
abbrev pub lies_known : List (List ℕ × List ℕ) → List Held → Desc (List ℕ) → Option (Object (List ℕ))
lies_known inputs held (known n) = lies_of inputs held n
lies_known inputs held d = None
