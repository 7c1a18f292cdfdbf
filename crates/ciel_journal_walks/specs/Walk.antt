-- A walk of a task by names, from the wait of an order on, as far as what the order brings along answers it.
use Rattle.std.specs.Prelude.{◌≡◌, ℕ, List, ◌++◌, map, Option, Some, None, ◌⊎◌}
use Rattle.sky_base.specs.Val as v
use Rattle.sky_base.specs.Val.{same_text}
use Rattle.sky_base.specs.Needed as n
use Rattle.sky_base.specs.Res.{Object}
use Rattle.sky_base.specs.See as s
use Rattle.sky_base_law.specs.NamesLaws.{Tag}
use Rattle.sky_base_law.specs.Tasks.{In}
use Rattle.sky_state_law.specs.Moves.{Step, Stop, ended, shown, waits}
use Rattle.sky_state.specs.Pending.{pending_in}
use Rattle.sky_state.specs.Stand.{Stand}

module _ (tag : Tag) (job : s.Job) (around : s.Around) (u : n.Task) (finds : v.Desc (List ℕ) → Option (Object (List ℕ))) where
  -- these objects are found for what the state waits for, in order
  abbrev pub AreFound : Stand (List ℕ) → List (Object (List ℕ)) → Type 0
  AreFound t os = map finds (pending_in same_text t) ≡ map Some os

  -- something that it waits for isn't found
  abbrev pub Lacks : Stand (List ℕ) → Type 0
  Lacks t = (d : v.Desc (List ℕ)) × In d (pending_in same_text t) × (finds d ≡ None)

  -- it goes no further: it has ended, or lacks something that it waits for
  abbrev pub StopsAt : Stop → Type 0
  StopsAt (ended o) = Unit {0}
  StopsAt (shown a) = Unit {0}
  StopsAt (waits t) = Lacks t

  -- step after step, each with the objects that are found for what is waited for, up to where it goes no further
  pub data Walk : Stand (List ℕ) → List (v.Desc (List ℕ)) → Stop → Type 0 where
    last : (t : Stand (List ℕ)) (os : List (Object (List ℕ))) (ms : List (v.Desc (List ℕ))) (e : Stop)
        → AreFound t os → Step tag job around u t os ms e → StopsAt e → Walk t ms e
    more : (t r : Stand (List ℕ)) (os : List (Object (List ℕ))) (ms rest : List (v.Desc (List ℕ))) (e : Stop)
        → AreFound t os → Step tag job around u t os ms (waits r) → Walk r rest e → Walk t (ms ++ rest) e

  -- one of the states from which it goes on
  abbrev pub PassedIn : (t : Stand (List ℕ)) (ms : List (v.Desc (List ℕ))) (e : Stop) → Walk t ms e → Stand (List ℕ) → Type 0
  PassedIn t ms e (last r os ns x found st stop) q = q ≡ t
  PassedIn t ms e (more r p os ns rest x found st walk) q = (q ≡ t) ⊎ PassedIn p rest x walk q
