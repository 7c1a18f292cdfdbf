-- The names so far, and those that are left.
use Rattle.std.proofs.Common.{◌≡◌, ◌++◌}
use Rattle.ciel_look_tasks.specs.ObjectPlaces.{names_where}
use Rattle.ciel_look_tasks.specs.Objects.{takes_from}
use Rattle.ciel_look_tasks.proofs.places.lost_names.Given as goal

abbrev pub invariant-loop-name : goal.invariant-loop-name
invariant-loop-name l =
    l.names.items ++ names_where (takes_from l.worker l.gone) l.name-iterator ≡ names_where (takes_from l.worker l.gone) l.at.entries
