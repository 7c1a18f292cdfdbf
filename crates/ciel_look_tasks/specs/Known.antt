-- Descriptions that are known under names.
use Rattle.std.specs.Prelude.{ℕ, List, [], ◌∷◌, ◌++◌, cond, is_some, map, slice_get, Option, Some, None}
use Rattle.sky_base.specs.ObjectView.{desc_view}
use Rattle.sky_base.specs.Val.{Desc, same_text}
use Rattle.sky_base.specs.declared.object.TaskId.{TaskId}
use Rattle.ciel_look_words.specs.declared.known.Known.{Known}
use Rattle.ciel_look_tasks.specs.Tasks.{place_in}

-- a name, and the description whose digest it is
abbrev pub Named : Type 0
Named = List ℕ × Desc (List ℕ)

-- the first description that is known under a name
abbrev pub known_as : List ℕ → List Named → Option (Desc (List ℕ))
known_as n [] = None
known_as n (k ∷ ks) = cond (same_text n k.0) (Some k.1) (known_as n ks)

-- the descriptions with one more, unless its name is known
abbrev pub with_known : List Named → Named → List Named
with_known ks k = cond (is_some (known_as k.0 ks)) ks (ks ++ k ∷ [])

-- the task that makes what a name names
abbrev pub maker_as : List ℕ → List (List ℕ × TaskId) → Option TaskId
maker_as n [] = None
maker_as n (m ∷ ms) = cond (same_text n m.0) (Some m.1) (maker_as n ms)

-- ---- of the code's

abbrev pub known_view : Known → Named
known_view k = (k.name, desc_view k.desc)

abbrev pub knowns : List Known → List Named
knowns ks = map known_view ks

-- a name, and the task that makes what it names
abbrev pub maker_view : Known → List ℕ × TaskId
maker_view k = (k.name, k.task)

abbrev pub makers : List Known → List (List ℕ × TaskId)
makers ks = map maker_view ks

-- the tasks of these names
abbrev pub named_ids : List Known → List TaskId
named_ids ks = map (λ (k : Known). TaskId.Of k.name) ks

-- where a name stands first
abbrev pub place_of : List ℕ → List Known → Option ℕ
place_of n ks = place_in (TaskId.Of n) (named_ids ks)

-- the description at a place, with its name
abbrev pub named_at : List Known → Option ℕ → Option Named
named_at ks None = None
named_at ks (Some i) = slice_get (knowns ks) i
