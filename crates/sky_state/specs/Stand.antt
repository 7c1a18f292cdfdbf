-- What stands of a task at a wait: the stack of a call, or the value of the result at its wave. References are whole descriptions
-- where N is empty, and names where N is lists of bytes.
use Rattle.std.specs.Prelude.{ℕ, List}
use Rattle.sky_base.specs.Val.{Val}
use Rattle.sky_base.specs.Read.{Run}
use Rattle.sky_base.specs.Needed.{State}
use Rattle.sky_base.specs.Name.{low}
use Rattle.sky_base_law.specs.Lower.{low_run}
use Rattle.sky_base_law.specs.NamesLaws.{Tag, no_name}

pub data Stand (N : Type 0) : Type 0 where
  run : Run N → Stand N
  show_at : Val N → ℕ → Stand N

-- the state of a task at a wait, with each description replaced by its name
abbrev pub low_state : Tag → State → Stand (List ℕ)
low_state tag (State.run r) = Stand.run (low_run no_name tag r)
low_state tag (State.show_at v w) = Stand.show_at (low no_name tag v) w
