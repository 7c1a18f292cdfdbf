-- What goes through waits is a walk of whatever task it is of.
use Rattle.std.proofs.Common.{◌≡◌, ◌++◌, ℕ, List, map, Option, ap, ◌∙◌, append_assoc, sym, ◌⊎◌, inl, inr}
use Rattle.std.proofs.lemmas.List.{map-append}
use Rattle.sky_base.specs.Val as v
use Rattle.sky_base.specs.Name.{digested}
use Rattle.sky_base.specs.Tree.{Script}
use Rattle.sky_base.specs.Res.{Object}
use Rattle.sky_base.specs.See.{Job, Around}
use Rattle.sky_base.specs.Needed.{Task}
use Rattle.sky_state.specs.Stand.{Stand}
use Rattle.ciel_task_inputs.specs.Walk as walk
use Rattle.ciel_task_inputs.specs.Walk.{Walk}
use Rattle.sky_machine_through.specs.Comes.{with_name}
use Rattle.sky_machine_through.specs.Steps.{Spawned, stop_of}
use Rattle.sky_machine_through.specs.Step.{Step}
use Rattle.sky_machine_through.specs.Through.{StopsAt, Through, last, more}
use Rattle.ciel_task_call.specs.Walks.{Walked}

module _ (digest : List ℕ → List ℕ) (sc : Script) (finds : v.Desc (List ℕ) → Option (Object (List ℕ))) where
  stops : (job : Job) (around : Around) (t : Task) (s : Step) (new : Stand (List ℕ)) → StopsAt finds s new
      → walk.StopsAt (digested digest) job around t finds (stop_of s new)
  stops job around t (Step.Ended o) new h = tt
  stops job around t Step.Waits new h = h
  stops job around t (Step.Shown a) new h = tt

  pub walked : (old new : Stand (List ℕ)) (s : Step) (before after : Spawned) → (through : Through finds digest sc old new s before after)
      → Walked digest sc finds old new s before after through
  walked old new s before after (last os found r stop) =
      record {
        made = r.made;
        grew = r.grew;
        walk =
            λ job around t is alike writes. walk.last old os r.made (stop_of s new) found (r.moves job around t is alike writes)
            (stops job around t s new stop);
        passes = λ job around t is alike writes q p. p;
      }
  walked old new s before after (more os found r rest) =
      let w = walked _ new s _ after rest in
      record {
        made = r.made ++ w.made;
        grew = w.grew ∙ ap (λ q. q ++ map (with_name digest) w.made) r.grew
            ∙ append_assoc before (map (with_name digest) r.made) (map (with_name digest) w.made)
            ∙ ap (λ q. before ++ q) (sym (map-append (with_name digest) r.made w.made));
        walk = λ job around t is alike writes. walk.more old _ os r.made w.made (stop_of s new) found (r.moves job around t is alike writes)
            (w.walk job around t is alike writes);
        passes = λ job around t is alike writes q p. either p (λ h. w.passes job around t is alike writes q h);
      }
    where
      either : {A B C : Type 0} → A ⊎ B → (B → C) → A ⊎ C
      either (inl a) f = inl a
      either (inr b) f = inr (f b)
