-- A state that stands for a task at a wait has the wait's number.
use Rattle.std.proofs.Common.{◌≡◌, ℕ, zero, suc, List, Option, Some, None, ap, sym, ◌∙◌}
use Rattle.sky_base.specs.Val.{call, out, input, known}
use Rattle.sky_base.specs.Needed as n
use Rattle.sky_base.specs.Needed.{StandsAt}
use Rattle.sky_base.specs.Read.{run_of_halt}
use Rattle.sky_base.specs.See as s
use Rattle.sky_base_law.specs.NamesLaws.{Tag}
use Rattle.sky_base_law.proofs.Lists.{some_is, none_some}
use Rattle.sky_state.specs.Pending.{stand_wait}
use Rattle.sky_state.specs.Stand.{Stand, low_state}
use Rattle.sky_state.specs.Stands.{Stands}

module _ (job : s.Job) (around : s.Around) (tag : Tag) where
  abbrev wait_of_state : (a : n.State) → ℕ
  wait_of_state a = stand_wait (low_state tag a)

  halt_waits : (f : List ℕ) (j : ℕ) (x : Option _) (a : n.State) → n.halt_state f j x ≡ Some a → wait_of_state a ≡ j
  halt_waits f j None a e = absurd (none_some a e)
  halt_waits f j (Some h) a e = ap wait_of_state (sym (some_is (n.State.run (run_of_halt f j h)) a e))

  start_waits : (f : List ℕ) (c : s.Pairs) (vs : s.Vals) (x : Option _) (a : n.State) → n.start_frame f c vs x ≡ Some a → wait_of_state a ≡ 0
  start_waits f c vs None a e = absurd (none_some a e)
  start_waits f c vs (Some y) a e = ap wait_of_state (sym (some_is _ a e))

  wave_waits : (j : ℕ) (x : Option s.Val) (a : n.State) → n.wave_state j x ≡ Some a → wait_of_state a ≡ j
  wave_waits j None a e = absurd (none_some a e)
  wave_waits j (Some y) a e = ap wait_of_state (sym (some_is (n.State.show_at y j) a e))

  state_waits : (u : n.Task) (j : ℕ) (a : n.State) → StandsAt job around u j a → wait_of_state a ≡ j
  state_waits n.Task.show j a (k, e) = wave_waits j (s.wave job around k j) a e
  state_waits (n.Task.of (call f c vs)) zero a (k, e) = start_waits f c vs _ a e
  state_waits (n.Task.of (call f c vs)) (suc j) a (k, e) = halt_waits f (suc j) _ a e
  state_waits (n.Task.of (out y z m i)) j a (k, e) = absurd (none_some a e)
  state_waits (n.Task.of (input y)) j a (k, e) = absurd (none_some a e)
  state_waits (n.Task.of (known z)) j a (k, e) = absurd z

  pub stands_wait_is : (q : Stand (List ℕ)) (w : n.Task) (j : ℕ) → Stands job around tag q w j → stand_wait q ≡ j
  stands_wait_is q w j st = ap stand_wait st.2 ∙ state_waits w j st.0 st.1
