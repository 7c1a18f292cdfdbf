-- What is found of what a state waits for, and one turn of going on.
use Rattle.std.specs.Prelude.{◌≡◌, ◌-◌, ◌+◌, ◌<◌, ◌++◌, ℕ, List, map, Bool, true, false, Option, Some, None, IsSome, ◌⊎◌}
use Rattle.sky_base.specs.Val.{Desc, Val, known, out, same_text}
use Rattle.sky_base.specs.Tree.{Script}
use Rattle.sky_base.specs.Res.{Object, visits, object_refs}
use Rattle.sky_base_law.specs.Sound.{SoundObject}
use Rattle.sky_base_law.specs.Tasks.{In, Each}
use Rattle.sky_state.specs.Pending.{all_refs, pending_in}
use Rattle.sky_state.specs.Stand.{Stand}
use Rattle.sky_machine.specs.Comes.{with_name}
use Rattle.sky_machine.specs.Exactly.{gone_of}
use Rattle.sky_machine.specs.Knows.{CameWith, KnowsNames}
use Rattle.sky_machine.specs.Steps.{Spawned, Resumed}
use Rattle.sky_machine.specs.declared.step.Step.{Step}
use Rattle.sky_machine_through.specs.Through.{AreFound, StopsAt}

module _ (finds : Desc (List ℕ) → Option (Object (List ℕ))) where
  -- all of these are found
  abbrev pub AllFound : List (Desc (List ℕ)) → Type 0
  AllFound ds = Each (λ d. IsSome (finds d)) ds

  -- one of them isn't
  abbrev pub OneLacks : List (Desc (List ℕ)) → Type 0
  OneLacks ds = (d : Desc (List ℕ)) × In d ds × (finds d ≡ None)

  -- what a test whether all are found says
  abbrev pub FoundIf : Bool → List (Desc (List ℕ)) → Type 0
  FoundIf true ds = AllFound ds
  FoundIf false ds = OneLacks ds

  -- all that the state waits for is found by its name
  abbrev pub HasAll : Stand (List ℕ) → Type 0
  HasAll s = (n : List ℕ) → In (known n) (pending_in same_text s) → IsSome (finds (known n))

  -- the state had this reference, or an object that is found has it
  abbrev pub CameFrom : Stand (List ℕ) → Desc (List ℕ) → Type 0
  CameFrom old d = In d (all_refs old) ⊎ ((e : Desc (List ℕ)) × (o : Object (List ℕ)) × (finds e ≡ Some o) × In d (object_refs o))

  -- what is found is sound for the script
  abbrev pub FindsSound : Script → Type 0
  FindsSound sc = (d : Desc (List ℕ)) (o : Object (List ℕ)) → finds d ≡ Some o → SoundObject sc o

  -- a turn stops with this step; where there is none it went on to a next wait at which all is found
  abbrev pub Turns : (digest : List ℕ → List ℕ) → Script → Option Step → (old new : Stand (List ℕ)) → (before after : Spawned) → Type 0
  Turns digest sc (Some s) old new before after =
      (os : List (Object (List ℕ))) × AreFound finds old os × Resumed digest sc old new os s before after × StopsAt finds s new
      × KnowsNames digest (CameWith old os) s new before after
  Turns digest sc None old new before after =
      (os : List (Object (List ℕ))) × AreFound finds old os × Resumed digest sc old new os Step.Waits before after × HasAll new
      × KnowsNames digest (CameWith old os) Step.Waits new before after

-- the state of a call stays one, and a call doesn't end with an answer; the root task's stays one, and it doesn't end with an object
abbrev pub SameKind : (old : Stand (List ℕ)) → Step → (new : Stand (List ℕ)) → Type 0
SameKind (Stand.run r) (Step.Ended o) new = Unit {0}
SameKind (Stand.run r) Step.Waits (Stand.run q) = Unit {0}
SameKind (Stand.show_at v w) (Step.Shown s) new = Unit {0}
SameKind (Stand.show_at v w) Step.Waits (Stand.show_at u i) = Unit {0}
SameKind _ _ _ = ⊥

-- where it waits it has come further
abbrev pub Further : (old : Stand (List ℕ)) → Step → (new : Stand (List ℕ)) → Type 0
Further old Step.Waits new = gone_of old < gone_of new
Further old _ new = Unit {0}

-- the step of a turn; without one it went on from a wait
abbrev pub step_or : Option Step → Step
step_or None = Step.Waits
step_or (Some s) = s

-- as many waits or waves may still come
abbrev pub still_to_come : Stand (List ℕ) → ℕ
still_to_come s = visits + 101 - gone_of s

-- each output of an executor's task stands there with all outputs of that task
abbrev pub HasAllOutputs : List (Desc (List ℕ)) → Type 0
HasAllOutputs ds = (x : List ℕ) (a : Val (List ℕ)) (n i : ℕ) → In (out x a n i) ds → (k : ℕ) → k < n → In (out x a n k) ds

-- what was spawned grew by such descriptions, each with its name
pub record GrewWhole (digest : List ℕ → List ℕ) (before after : Spawned) : Type 0 where
  pub made : List (Desc (List ℕ))
  pub grew : after ≡ before ++ map (with_name digest) made
  pub whole : HasAllOutputs made
