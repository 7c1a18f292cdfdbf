-- What the root task comes to from a wave: the answer, or the value of the next wave at which it waits.
use Rattle.std.specs.Prelude.{ℕ, suc, List, [], ◌∷◌, Bool, true, false, nat_lt}
use Rattle.sky_base.specs.Val.{Val, refs, distinct, same_text}
use Rattle.sky_base.specs.View.{view}
use Rattle.sky_base.specs.See.{Answered, most_waves, text_of}
use Rattle.ciel_json.specs.Text.{text_of as writes}
use Rattle.sky_base_known.specs.Data.{data_of}
use Rattle.sky_base_known.specs.Walk.{Obj, Row}
use Rattle.sky_state.specs.declared.shown.Shown.{Shown}
use Rattle.sky_base_waves.specs.Wave.{Turned, last_at, turn_at}
use Rattle.sky_machine_show.specs.Given.{given_for}
use Rattle.sky_machine_show.specs.declared.show.Came.{Came}

pub data Next : Type 0 where
  answers : Answered → Next
  waits : Val (List ℕ) → Next

-- a wave waits for what its value refers to; a value that refers to nothing is the answer
abbrev pub waits_if : List Row → Val (List ℕ) → Next
waits_if [] v = Next.answers (text_of (writes v))
waits_if (d ∷ ds) v = Next.waits v

-- and no wave above the last one waits
abbrev pub wave_if : Bool → Val (List ℕ) → Next
wave_if true v = Next.answers (last_at (refs v) (writes v))
wave_if false v = waits_if (refs v) v

-- what a turn comes to, where w is the number of the next wave
abbrev pub after_turn : Turned → ℕ → Next
after_turn (Turned.ends a) w = Next.answers a
after_turn (Turned.next v) w = wave_if (nat_lt most_waves w) v

-- from wave w, whose value is v, where these objects are given for its references, each reference once and in order
abbrev pub next_of : List Obj → Val (List ℕ) → ℕ → Next
next_of os v w =
    after_turn (turn_at data_of writes (given_for (distinct same_text (refs v)) os) v) (suc w)

-- ---- what the code answers

-- the answer that is shown
abbrev pub shown_view : Shown → Answered
shown_view (Shown.Text b) = Answered.bytes b
shown_view (Shown.Fault f) = Answered.fault f

abbrev pub came_view : Came → Next
came_view (Came.Shown s) = Next.answers (shown_view s)
came_view (Came.Next v) = Next.waits (view v)
