-- What a step of a state comes to, exactly, over names.
use Rattle.std.specs.Prelude.{◌≡◌, ℕ, suc, List, ◌++◌, map, Some}
use Rattle.sky_base.specs.Val.{Val}
use Rattle.sky_base.specs.Tree.{Script}
use Rattle.sky_base.specs.Res.{Object, End, St, Res}
use Rattle.sky_base.specs.Read.{Halt, Run, first_end, first_halt, run_of_halt, segment}
use Rattle.sky_base.specs.ObjectView.{object_view}
use Rattle.sky_base_law.specs.Sound.{SoundObject}
use Rattle.sky_state.specs.Fits.{Fits}
use Rattle.sky_state.specs.Stand.{Stand}
use Rattle.sky_machine_resume.specs.Comes.{with_name, object_at}
use Rattle.sky_machine_show.specs.Shows.{Next, shown_view, next_of}
use Rattle.sky_machine.specs.Rest.{IsRest}
use Rattle.sky_machine.specs.Steps.{Spawned}
use Rattle.sky_machine.specs.declared.step.Step.{Step}

-- how far a task has come: how many waits or waves there were
abbrev pub gone_of : Stand (List ℕ) → ℕ
gone_of (Stand.run r) = r.waits
gone_of (Stand.show_at v w) = w

module _ (digest : List ℕ → List ℕ) (sc : Script) (os : List (Object (List ℕ))) where
  -- a call comes to what the rest of its run does, whatever that is: its end, or its next wait, one wait further; the root task
  -- comes to what its wave does: the answer, or the value of the next wave
  abbrev pub Exactly : (old new : Stand (List ℕ)) → Step → Type 0
  Exactly (Stand.run old) new (Step.Ended o) =
      (f : List ℕ) (r : Res (List ℕ)) → IsRest digest sc old os f r → (s : End (List ℕ) × St (List ℕ)) × (first_end r ≡ Some s)
      × (object_view o ≡ object_at s.0)
  Exactly (Stand.run old) new Step.Waits =
      (f : List ℕ) (r : Res (List ℕ)) → IsRest digest sc old os f r → (h : Halt (List ℕ)) × (first_halt r ≡ Some h)
      × (new ≡ Stand.run (run_of_halt f (suc old.waits) h))
  Exactly (Stand.show_at v w) new (Step.Shown s) = next_of os v w ≡ Next.answers (shown_view s)
  Exactly (Stand.show_at v w) new Step.Waits = (u : Val (List ℕ)) × (next_of os v w ≡ Next.waits u) × (new ≡ Stand.show_at u (suc w))
  Exactly _ new _ = ⊥

  -- what was spawned grew by what the rest of the call's run makes up to there, each with its name; the root task makes nothing
  abbrev pub MakesExactly : Stand (List ℕ) → (before after : Spawned) → Type 0
  MakesExactly (Stand.run old) before after =
      (f : List ℕ) (r : Res (List ℕ)) → IsRest digest sc old os f r → after ≡ before ++ map (with_name digest) (segment r)
  MakesExactly (Stand.show_at v w) before after = after ≡ before

-- where the task ended with an object it is sound, and where it waits its state fits the script
abbrev pub FitsAfter : Script → (new : Stand (List ℕ)) → Step → Type 0
FitsAfter sc new (Step.Ended o) = SoundObject sc (object_view o)
FitsAfter sc new Step.Waits = Fits sc new
FitsAfter sc new (Step.Shown s) = Unit {0}

-- where it waits it has come one wait further
abbrev pub OneFurther : (old new : Stand (List ℕ)) → Step → Type 0
OneFurther old new (Step.Ended o) = Unit {0}
OneFurther old new Step.Waits = gone_of new ≡ suc (gone_of old)
OneFurther old new (Step.Shown s) = Unit {0}
