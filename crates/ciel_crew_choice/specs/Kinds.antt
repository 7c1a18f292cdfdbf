-- On what the workers of a run work.
use Rattle.std.specs.Prelude.{◌≡◌, ◌≤◌}
use Rattle.sky_base.specs.KitView.{Gives}
use Rattle.line_kit.specs.Gives.{gives}
use Rattle.ciel_crew_choice.specs.declared.hands.Hands.{Hands}

-- a kit that gives what the executors over lines do
abbrev pub IsOverLines : Gives → Type 0
IsOverLines kit = kit ≡ gives

-- for a kit that gives this: at most 64 threads are shared, and what is begun on while it is still made is of the executors over lines
abbrev pub IsFor : Gives → Hands → Type 0
IsFor kit Hands.Caller = Unit {0}
IsFor kit Hands.Own = Unit {0}
IsFor kit Hands.Streamed = IsOverLines kit
IsFor kit (Hands.Shared threads) = threads ≤ 64
