-- The names so far, and those that are left.
use Rattle.std.proofs.Common.{◌≡◌, ◌++◌, ◌-◌, Some, length}
use Rattle.ciel_look_text.specs.Steps.{named_from}
use Rattle.ciel_look_text.proofs.search.names_from.Given as goal

abbrev pub invariant-loop-step : goal.invariant-loop-step
invariant-loop-step l =
    l.names.items ++ named_from (length l.steps - l._step) l.steps l.at ≡ named_from (length l.steps) l.steps (Some l.place)
