-- Why a run comes to a wait or to its end: what falls at each step.
use Rattle.std.specs.Prelude.{ℕ, suc, ◌+◌, ◌*◌, ◌-◌, ◌<◌, ◌≤◌, List, length}
use Rattle.sky_base.specs.Res.{visits}
use Rattle.sky_machine_entries.specs.declared.control.End.{End}
use Rattle.sky_machine_entries.specs.declared.control.Control.{Control}
use Rattle.sky_machine_entries.specs.declared.entry.Entry as rust

-- What an end weighs; a part that is begun weighs nothing.
abbrev pub weigh : Control → ℕ
weigh (Control.Begin n e) = 0
weigh (Control.Do n s) = 0
weigh (Control.Wait q) = 0
weigh (Control.End End.Goes) = 3
weigh (Control.End (End.Got v)) = 4
weigh (Control.End (End.Returned v)) = 4
weigh (Control.End (End.Failed f)) = 4

-- the forms under way, and what is next
abbrev pub load : List rust.Entry → Control → ℕ
load es c = 2 * length es + weigh c

-- The node that a step from the node n came to; at a fault it counts as one further.
abbrev pub reached : ℕ → Control → ℕ
reached n (Control.Begin m e) = m
reached n (Control.Do m s) = m
reached n (Control.Wait q) = n
reached n (Control.End End.Goes) = n
reached n (Control.End (End.Got v)) = n
reached n (Control.End (End.Returned v)) = n
reached n (Control.End (End.Failed f)) = suc n

-- A fault goes to the end with no visit.
abbrev pub faults : Control → ℕ
faults (Control.Begin n e) = 0
faults (Control.Do n s) = 0
faults (Control.Wait q) = 0
faults (Control.End End.Goes) = 0
faults (Control.End (End.Got v)) = 0
faults (Control.End (End.Returned v)) = 0
faults (Control.End (End.Failed f)) = 1

-- From a node that is begun: to a node inside, to an end with one more visit, or to a fault.
-- First the number of the visits and the forms under way at the start, then those at the end.
abbrev pub GoesIn : (node old : ℕ) → List rust.Entry → ℕ → List rust.Entry → Control → Type 0
GoesIn n old es new fs c =
    (old ≤ new) × (new ≤ visits) × (0 < (new - old) + (reached n c - n)) × (load fs c ≤ 2 * length es + 8)

-- From the end of a part, where its form is off the list: the form begins a part, or ends. A visit pays for one more.
abbrev pub GoesOut : End → ℕ → List rust.Entry → ℕ → List rust.Entry → Control → Type 0
GoesOut e old es new fs c =
    (old ≤ new) × (new ≤ visits) × (faults (Control.End e) ≤ faults c) × (load fs c + old < load es (Control.End e) + 2 + new)

-- nothing is left to do at a wait, nor at an end of the outermost form
abbrev pub to_do : List rust.Entry → Control → ℕ
to_do es (Control.Begin n e) = 1
to_do es (Control.Do n s) = 1
to_do es (Control.Wait q) = 0
to_do es (Control.End e) = length es

module _ (nodes : ℕ) where
  -- The visits that are left; that of a begun node counts as made, and after a fault none is to come.
  abbrev pub left : Control → ℕ → ℕ
  left (Control.Begin n e) count = visits - count
  left (Control.Do n s) count = visits - count
  left (Control.Wait q) count = visits - count
  left (Control.End End.Goes) count = suc (visits - count)
  left (Control.End (End.Got v)) count = suc (visits - count)
  left (Control.End (End.Returned v)) count = suc (visits - count)
  left (Control.End (End.Failed f)) count = visits - count

  -- the nodes from a begun one on
  abbrev pub inner : Control → ℕ
  inner (Control.Begin n e) = nodes - n
  inner (Control.Do n s) = nodes - n
  inner (Control.Wait q) = 0
  inner (Control.End e) = 0

  -- the steps that are left, at most
  abbrev pub work : List rust.Entry → Control → ℕ → ℕ
  work es c count = (10 * nodes + 20) * left c count + (10 * inner c + load es c)
