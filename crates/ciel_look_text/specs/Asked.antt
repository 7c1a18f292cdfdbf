-- Which task is asked for, by the first digits of its name.
use Rattle.std.specs.Prelude.{ℕ, List, [], ◌∷◌, Bool, ◌&&◌, Option, Some, None, codes, cond, flat_map, length, nat_eq, nat_lt}
use Rattle.std.specs.List.{list_any, starts_with}
use Rattle.std.specs.Str.{bytes_eq}
use Rattle.hex.specs.Hex.{encode_lower}
use Rattle.sky_base.specs.declared.object.TaskId.{TaskId}
use Rattle.ciel_look_told.specs.Told.{Told}
use Rattle.ciel_look_tasks.specs.Tasks.{begun}

-- some first part of a text, which isn't empty
abbrev pub begins_with : List ℕ → List ℕ → Bool
begins_with part text = nat_lt 0 (length part) && starts_with nat_eq text part

-- the root task is asked for by `show`, any other by first digits of its name
abbrev pub has_digits : List ℕ → TaskId → Bool
has_digits digits TaskId.Show = bytes_eq digits (codes "show")
has_digits digits (TaskId.Of name) = begins_with digits (encode_lower name)

-- the first of these tasks that is asked for
abbrev pub first_asked : List ℕ → List TaskId → Option TaskId
first_asked digits [] = None
first_asked digits (t ∷ ts) = cond (has_digits digits t) (Some t) (first_asked digits ts)

abbrev pub any_has : List ℕ → List TaskId → Bool
any_has digits tasks = list_any (has_digits digits) tasks

-- some start that is told is of such a task
abbrev pub is_started : List ℕ → List Told → Bool
is_started digits ts = any_has digits (flat_map begun ts)
