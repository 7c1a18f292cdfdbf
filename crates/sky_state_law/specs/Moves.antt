-- How a task goes on from a wait, by names: what answers it there, and what it comes to.
use Rattle.std.specs.Prelude.{◌≡◌, ◌<◌, ℕ, suc, List, map, true, Some}
use Rattle.sky_base.specs.Val as v
use Rattle.sky_base.specs.Val.{distinct}
use Rattle.sky_base.specs.Name.{low_desc}
use Rattle.sky_base.specs.Needed.{Task, WaitOf, wait_at}
use Rattle.sky_base.specs.Read.{see_all}
use Rattle.sky_base.specs.Res.{Object}
use Rattle.sky_base.specs.See.{Answered, Around, Desc, Job, Means, Obj, see}
use Rattle.sky_base_law.specs.Lower.{low_obj}
use Rattle.sky_base_law.specs.NamesLaws.{NoClash, Tag, no_name}
use Rattle.sky_base_law.specs.Tasks.{made_between}
use Rattle.sky_state.specs.Stand.{Stand}
use Rattle.sky_state.specs.Stands.{Stands}

-- what a task comes to from a wait: its object, of the root task the answer, or its next wait, with the state there
pub data Stop : Type 0 where
  ended : Object (List ℕ) → Stop
  shown : Answered → Stop
  waits : Stand (List ℕ) → Stop

module _ (tag : Tag) (job : Job) (around : Around) where
  -- d is seen as this object, by names
  abbrev pub SeenAs : Desc → Object (List ℕ) → Type 0
  SeenAs d o = (k : ℕ) × (x : Obj) × (see job around k d ≡ Some x) × (o ≡ low_obj no_name tag x)

  -- the task of a description ends with the object that the description is seen as
  abbrev pub EndsAs : Task → Object (List ℕ) → Type 0
  EndsAs Task.show o = ⊥
  EndsAs (Task.of d) o = SeenAs d o

  -- the root task ends with the job's answer
  abbrev pub ShowsAs : Task → Answered → Type 0
  ShowsAs Task.show a = Means job around a
  ShowsAs (Task.of d) a = ⊥

  module _ (u : Task) where
    -- there is such a wait
    abbrev pub HasWait : ℕ → Type 0
    HasWait j = (ds : List Desc) × WaitOf job around u j ds

    -- there is none after this one
    abbrev pub WaitsNoMore : ℕ → Type 0
    WaitsNoMore j = (i : ℕ) (ds : List Desc) → j < i → WaitOf job around u i ds → ⊥

    -- these are the objects of what the task waits for at its wait j, of each description once, as far as k tells, by names; no two of
    -- what it waits for there have one name
    pub record Answers (k j : ℕ) (os : List (Object (List ℕ))) : Type 0 where
      pub waited : List Desc
      pub objects : List Obj
      pub is_wait : wait_at job around k u j ≡ Some waited
      pub apart : NoClash tag waited
      pub seen : see_all (see job around k) (distinct (λ a b. true) waited) ≡ Some objects
      pub are : os ≡ map (low_obj no_name tag) objects

    -- the task comes from its wait j to its end, with no wait between, or to its next wait, where the state stands for it
    abbrev pub StepsTo : ℕ → Stop → Type 0
    StepsTo j (ended o) = EndsAs u o × WaitsNoMore j
    StepsTo j (shown a) = ShowsAs u a × WaitsNoMore j
    StepsTo j (waits t) = Stands job around tag t u (suc j) × HasWait (suc j)

    -- where this state is that of the task at a wait, 0 being its start, and the objects are those of what it waits for there, it comes to
    -- this, and these are what it makes up to there
    pub record Step (t : Stand (List ℕ)) (os : List (Object (List ℕ))) (ms : List (v.Desc (List ℕ))) (e : Stop) : Type 0 where
      pub steps : (j k : ℕ) → Stands job around tag t u j → Answers k j os → StepsTo j e
      pub makes : (j k : ℕ) → Stands job around tag t u j → Answers k j os → ms ≡ map (low_desc no_name tag) (made_between job around k u j (suc j))
