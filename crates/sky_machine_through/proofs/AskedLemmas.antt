-- What is told, turn after turn, of what is asked for.
use Rattle.std.proofs.Common.{◌≡◌, ℕ, List, [], ◌∷◌, ◌++◌, Option, refl, sym, ap, ◌∙◌, ◌⊎◌, inl, inr}
use Rattle.sky_base.specs.Name.{held_name}
use Rattle.sky_base.specs.Val.{Desc, same_text}
use Rattle.sky_base.specs.Tree.{Script}
use Rattle.sky_base.specs.Res.{Object}
use Rattle.sky_base_law.specs.Tasks.{In}
use Rattle.sky_state.specs.Pending.{pending_in}
use Rattle.sky_state.specs.Stand.{Stand}
use Rattle.sky_machine.specs.Steps.{Spawned, Resumed}
use Rattle.sky_machine.specs.declared.step.Step.{Step}
use Rattle.sky_machine_through.specs.Asked.{told_after}
use Rattle.sky_machine_through.specs.Through.{AreFound, GoesAsking, PassedAt, StopsAt, Through, asked_in, last, more}
use Rattle.sky_machine_through.proofs.KnownNames.{in_parts}

told_both : {T : Type 0} (notes : T → List ℕ → T) (t : T) (xs ys : List (Desc (List ℕ)))
    → told_after notes t (xs ++ ys) ≡ told_after notes (told_after notes t xs) ys
told_both notes t [] ys = refl
told_both notes t (x ∷ xs) ys = told_both notes (notes t (held_name x)) xs ys

module _ (finds : Desc (List ℕ) → Option (Object (List ℕ))) (digest : List ℕ → List ℕ) (sc : Script) where
  -- what is asked for on the way is waited for at one of the states from which it goes on
  pub asked_passed : (old new : Stand (List ℕ)) (s : Step) (before after : Spawned) (th : Through finds digest sc old new s before after)
      (d : Desc (List ℕ)) → In d (asked_in finds digest sc old new s before after th)
      → (q : Stand (List ℕ)) × PassedAt finds digest sc old new s before after th q × In d (pending_in same_text q)
  asked_passed old new s before after (last os found r stop) d i = (old, refl, i)
  asked_passed old new s before after (more {mid = mid} {between = between} os found r rest) d i =
      go (in_parts (pending_in same_text old) (asked_in finds digest sc mid new s between after rest) d i)
      (λ j. asked_passed mid new s between after rest d j)
    where
      go : In d (pending_in same_text old) ⊎ In d (asked_in finds digest sc mid new s between after rest)
          → (In d (asked_in finds digest sc mid new s between after rest)
          → (q : Stand (List ℕ)) × PassedAt finds digest sc mid new s between after rest q × In d (pending_in same_text q))
          → (q : Stand (List ℕ)) × ((q ≡ old) ⊎ PassedAt finds digest sc mid new s between after rest q) × In d (pending_in same_text q)
      go (inl j) later = (old, inl refl, j)
      go (inr j) later = let p = later j in (p.0, inr p.1, p.2)

  -- what went through waits up to here goes on as whatever goes through from here, and what is told of all is what comes of the rest
  pub record Before {T : Type 0} (notes : T → List ℕ → T) (told now_told : T) (old mid : Stand (List ℕ)) (before between : Spawned) : Type 0 where
    pub goes : (new : Stand (List ℕ)) (s : Step) (after : Spawned) → Through finds digest sc mid new s between after
        → Through finds digest sc old new s before after
    pub tells : (new : Stand (List ℕ)) (s : Step) (after : Spawned) (th : Through finds digest sc mid new s between after)
        → told_after notes told (asked_in finds digest sc old new s before after (goes new s after th))
        ≡ told_after notes now_told (asked_in finds digest sc mid new s between after th)

  pub before_none : {T : Type 0} (notes : T → List ℕ → T) (told : T) (old : Stand (List ℕ)) (before : Spawned)
      → Before notes told told old old before before
  before_none notes told old before = record { goes = λ new s after th. th; tells = λ new s after th. refl }

  -- one turn more
  pub before_more : {T : Type 0} (notes : T → List ℕ → T) (told mid_told now_told : T) (old mid now : Stand (List ℕ))
      (before between later : Spawned) (os : List (Object (List ℕ)))
      → AreFound finds mid os → Resumed digest sc mid now os Step.Waits between later
      → now_told ≡ told_after notes mid_told (pending_in same_text mid)
      → Before notes told mid_told old mid before between → Before notes told now_told old now before later
  before_more notes told mid_told now_told old mid now before between later os found r noted b =
      record {
        goes = λ new s after th. b.goes new s after (more os found r th);
        tells = λ new s after th. b.tells new s after (more os found r th)
            ∙ (told_both notes mid_told (pending_in same_text mid) (asked_in finds digest sc now new s later after th)
            ∙ ap (λ t. told_after notes t (asked_in finds digest sc now new s later after th)) (sym noted));
      }

  -- the last turn
  pub before_last : {T : Type 0} (notes : T → List ℕ → T) (told mid_told now_told : T) (old mid new : Stand (List ℕ)) (s : Step)
      (before between after : Spawned) (os : List (Object (List ℕ)))
      → AreFound finds mid os → Resumed digest sc mid new os s between after → StopsAt finds s new
      → now_told ≡ told_after notes mid_told (pending_in same_text mid)
      → Before notes told mid_told old mid before between → GoesAsking finds digest sc notes told now_told old new s before after
  before_last notes told mid_told now_told old mid new s before between after os found r stop noted b =
      record {
        through = b.goes new s after (last os found r stop);
        tells = noted ∙ sym (b.tells new s after (last os found r stop));
      }
