-- What a task holds where it stands.
use Rattle.std.proofs.Common.{◌≡◌, ℕ, ◌+◌, List, Some, ap, arith}
use Rattle.std.specs.Option.{option_map}
use Rattle.sky_base.specs.Val.{call, out, input, known}
use Rattle.sky_base.specs.See.{Desc, Job, Around}
use Rattle.sky_base.specs.Needed.{Task, State, StandsAt, WaitOf, stands_at}
use Rattle.sky_base_law.specs.Tasks.{HeldAt, In, held, held_at}
use Rattle.sky_base_law.proofs.Lists.{none_some}
use Rattle.sky_base_law.proofs.TaskHeld.{waits_held}
use Rattle.sky_state_law.proofs.MadeSegments.{stands_to, wait_to}

module _ (job : Job) (around : Around) where
  pub held_as : (t : Task) (k j : ℕ) (a : State) → stands_at job around k t j ≡ Some a → held_at job around k t j ≡ Some (held a)
  held_as Task.show k j a e = ap (option_map held) e
  held_as (Task.of (call f c vs)) k j a e = ap (option_map held) e
  held_as (Task.of (out x y m i)) k j a e = absurd (none_some a e)
  held_as (Task.of (input y)) k j a e = absurd (none_some a e)
  held_as (Task.of (known z)) k j a e = absurd z

  pub held_at_is : (t : Task) (j : ℕ) (a : State) → StandsAt job around t j a → HeldAt job around t j (held a)
  held_at_is t j a st = (st.0, held_as t st.0 j a st.1)

  -- what is waited for is held
  pub held_there : (t : Task) (j : ℕ) (ds : List Desc) (a : State) (d : Desc) → WaitOf job around t j ds → StandsAt job around t j a → In d ds
      → In d (held a)
  held_there t j ds a d wt st i =
      let k = wt.0 + st.0 in
      waits_held d job around k t j ds (held a) (wait_to job around wt.0 k t j ds (omega arith) wt.1)
      (held_as t k j a (stands_to job around st.0 k t j a (omega arith) st.1)) i
