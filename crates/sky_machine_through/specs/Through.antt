-- How a task goes on over the waits whose objects are found by their names.
use Rattle.std.specs.Prelude.{◌≡◌, ◌++◌, ℕ, List, map, Option, Some, None, ◌⊎◌}
use Rattle.sky_base.specs.Val.{Desc, same_text}
use Rattle.sky_base.specs.Tree.{Script}
use Rattle.sky_base.specs.Res.{Object}
use Rattle.sky_base_law.specs.Tasks.{In}
use Rattle.sky_state.specs.Pending.{pending_in}
use Rattle.sky_state.specs.Stand.{Stand}
use Rattle.sky_machine.specs.Steps.{Spawned, Resumed}
use Rattle.sky_machine.specs.declared.step.Step.{Step}
use Rattle.sky_machine_through.specs.Asked.{told_after}

module _ (finds : Desc (List ℕ) → Option (Object (List ℕ))) where
  -- these objects are found for what the state waits for, in order
  abbrev pub AreFound : Stand (List ℕ) → List (Object (List ℕ)) → Type 0
  AreFound s os = map finds (pending_in same_text s) ≡ map Some os

  -- something that it waits for isn't found
  abbrev pub Lacks : Stand (List ℕ) → Type 0
  Lacks s = (d : Desc (List ℕ)) × In d (pending_in same_text s) × (finds d ≡ None)

  -- it goes no further: it has ended, or lacks something that it waits for
  abbrev pub StopsAt : Step → Stand (List ℕ) → Type 0
  StopsAt (Step.Ended o) new = Unit {0}
  StopsAt Step.Waits new = Lacks new
  StopsAt (Step.Shown s) new = Unit {0}

  -- from the old state on, step after step, each with the objects that are found for what is waited for, up to where it goes no further
  pub data Through (digest : List ℕ → List ℕ) (sc : Script) : (old new : Stand (List ℕ)) → Step → (before after : Spawned) → Type 0 where
    last : {old new : Stand (List ℕ)} {s : Step} {before after : Spawned} (os : List (Object (List ℕ)))
        → AreFound old os → Resumed digest sc old new os s before after → StopsAt s new → Through digest sc old new s before after
    more : {old mid new : Stand (List ℕ)} {s : Step} {before between after : Spawned} (os : List (Object (List ℕ)))
        → AreFound old os → Resumed digest sc old mid os Step.Waits before between → Through digest sc mid new s between after
        → Through digest sc old new s before after

  -- one of the states from which it goes on
  abbrev pub PassedAt : (digest : List ℕ → List ℕ) (sc : Script) (old new : Stand (List ℕ)) (s : Step) (before after : Spawned)
      → Through digest sc old new s before after → Stand (List ℕ) → Type 0
  PassedAt digest sc old new s before after (last os found r stop) q = q ≡ old
  PassedAt digest sc old new s before after (more os found r rest) q = (q ≡ old) ⊎ PassedAt digest sc _ new s _ after rest q

  -- what is waited for at the states from which it goes on, in order
  abbrev pub asked_in : (digest : List ℕ → List ℕ) (sc : Script) (old new : Stand (List ℕ)) (s : Step) (before after : Spawned)
      → Through digest sc old new s before after → List (Desc (List ℕ))
  asked_in digest sc old new s before after (last os found r stop) = pending_in same_text old
  asked_in digest sc old new s before after (more os found r rest) = pending_in same_text old ++ asked_in digest sc _ new s _ after rest

  -- it goes through so, and what is told is what comes of the names of all that is waited for at the states from which it goes on, in order
  pub record GoesAsking {T : Type 0} (digest : List ℕ → List ℕ) (sc : Script) (notes : T → List ℕ → T) (told after_told : T)
      (old new : Stand (List ℕ)) (s : Step) (before after : Spawned) : Type 0 where
    pub through : Through digest sc old new s before after
    pub tells : after_told ≡ told_after notes told (asked_in digest sc old new s before after through)
