-- What the code's origins stand for.
use Rattle.std.specs.Prelude.{ℕ, List, Bool}
use Rattle.std.specs.BTreeSet.{BTreeSet, contains}
use Rattle.std.specs.Ordering.{nat_cmp, ordering_then}
use Rattle.std.specs.declared.cmp.Ordering.{Ordering}
use Rattle.sky_base.specs.NameOrder.{name_cmp}
use Rattle.sky_base.specs.declared.object.TaskId.{TaskId}
use Rattle.ciel_look_tasks.specs.declared.origins.Origins.{Origins}

-- how names with waits are ordered
abbrev pub origin_cmp : List ℕ × ℕ → List ℕ × ℕ → Ordering
origin_cmp x y = ordering_then (name_cmp x.0 y.0) (nat_cmp x.1 y.1)

-- a task and a wait are there, by the waits of the root task, and by those of the others
abbrev pub is_in : BTreeSet ℕ → BTreeSet (List ℕ × ℕ) → TaskId → ℕ → Bool
is_in show others TaskId.Show w = contains nat_cmp show w
is_in show others (TaskId.Of n) w = contains origin_cmp others (n, w)

abbrev pub has_origin : Origins → TaskId → ℕ → Bool
has_origin o t w = is_in o.show o.others t w
