-- What an order brings along is found by its name, and is sound.
use Rattle.std.proofs.Common.{◌≡◌, ◌<◌, ℕ, zero, suc, List, [], ◌∷◌, ◌++◌, length, Result, Ok, Err, MatchOption, MatchResult, inl, inr, Option, Some}
use Rattle.std.proofs.Common.{None, IsSome, is_some, true, false, refl, sym, ap, subst, ◌∙◌, arith, slice_get}
use Rattle.std.specs.Option.{option_and_then, option_map}
use Rattle.sky_base.specs.ObjectView.{object_view}
use Rattle.sky_base.specs.Res.{Object}
use Rattle.sky_base.specs.declared.object.Object as rust
use Rattle.sky_base.specs.Tree.{Script}
use Rattle.sky_base.specs.Val.{call, out, input, known}
use Rattle.sky_base_law.specs.Sound.{SoundObject}
use Rattle.sky_base_law.specs.Tasks.{Each, In}
use Rattle.sky_base_law.proofs.Lists.{some_is}
use Rattle.sky_machine_through.specs.Found.{FindsSound}
use Rattle.ciel_store.specs.Seen.{SeatSeen, ShelvesSeen}
use Rattle.ciel_store.specs.declared.shelves.Gone.{Gone}
use Rattle.ciel_table.specs.Named.{found}
use Rattle.ciel_task_order.specs.Orders.{HasObject, SpotSound, names_in}
use Rattle.ciel_task_order.specs.declared.block.Block.{Block}
use Rattle.ciel_task_order.specs.declared.block.Held.{Held}
use Rattle.ciel_task_order.specs.declared.block.Spot.{Spot}
use Rattle.ciel_task_inputs.specs.Gathers.{lies_of}
use Rattle.ciel_task_inputs.specs.Lies.{LostAt, held_name, lies_at, object_in}
use Rattle.ciel_task_call.specs.Finds.{IsLost}
use Rattle.ciel_task_inputs.proofs.GatheredInputs.{each_found, found_some}
use Rattle.ciel_task_inputs.specs.Brought.{lies_known}

in_end : {A : Type 0} (xs : List A) (y : A) → In y (xs ++ y ∷ [])
in_end [] y = inl refl
in_end (x ∷ xs) y = inr (in_end xs y)

none_not : {A : Type 0} {a : A} → None ≡ Some a → ⊥
none_not e = cc

module _ (shelves : ShelvesSeen) (sc : Script) (inputs : List (List ℕ × List ℕ)) where
  there_get : (xs : List (List ℕ × List ℕ)) (i : ℕ) → i < length xs
      → IsSome {T = Object (List ℕ)} (option_map (λ (x : List ℕ × List ℕ). Object.bytes x.1) (slice_get xs i))
  there_get [] i h = absurd (omega (arith, h))
  there_get (x ∷ xs) zero h = refl
  there_get (x ∷ xs) (suc i) h = there_get xs i (omega (arith, h))

  block_there : (b : Block) → HasObject sc b → IsSome (object_in b)
  block_there (Block.Object o) h = refl
  block_there (Block.Frozen s) h = absurd h

  -- something lies at a sound spot
  pub spot_there : (sp : Spot) → SpotSound shelves sc (length inputs) sp → IsSome (lies_at inputs sp)
  spot_there (Spot.Shelf p) h = block_there p.at.value h.1
  spot_there (Spot.Input i) h = there_get inputs i h

  block_sound : (b : Block) (o : Object (List ℕ)) → HasObject sc b → object_in b ≡ Some o → SoundObject sc o
  block_sound (Block.Object x) o h e = subst (SoundObject sc) (some_is (object_view x) o e) h
  block_sound (Block.Frozen s) o h e = absurd h

  input_sound : (x : Option (List ℕ × List ℕ)) (o : Object (List ℕ)) → option_map (λ (y : List ℕ × List ℕ). Object.bytes y.1) x ≡ Some o
      → SoundObject sc o
  input_sound None o e = absurd (none_not e)
  input_sound (Some y) o e = subst (SoundObject sc) (some_is (Object.bytes y.1) o e) tt

  -- and it is sound
  pub spot_sound : (sp : Spot) (o : Object (List ℕ)) → SpotSound shelves sc (length inputs) sp → lies_at inputs sp ≡ Some o → SoundObject sc o
  spot_sound (Spot.Shelf p) o h e = block_sound p.at.value o h.1 e
  spot_sound (Spot.Input i) o h e = input_sound (slice_get inputs i) o e

  module _ (held : List Held) where
    -- what is found lies there
    pub lies_found : (n : List ℕ) (h : Held) → found held_name n held ≡ Some h → lies_of inputs held n ≡ lies_at inputs h.at
    lies_found n h f = ap (λ x. option_and_then (λ (g : Held). lies_at inputs g.at) x) f

    pub lies_none : (n : List ℕ) → found held_name n held ≡ None → lies_of inputs held n ≡ None
    lies_none n f = ap (λ x. option_and_then (λ (g : Held). lies_at inputs g.at) x) f

    some_not : (x : Option (Object (List ℕ))) → x ≡ None → IsSome x → ⊥
    some_not None e h = let q : false ≡ true = h in cc
    some_not (Some o) e h = none_not (sym e)

    pub lies_somewhere : (n : List ℕ) → IsSome (lies_of inputs held n) → found held_name n held ≡ None → ⊥
    lies_somewhere n h f = some_not (lies_of inputs held n) (lies_none n f) h

    module _ (spots : Each (λ (h : Held). SpotSound shelves sc (length inputs) h.at) held) where
      pub spot_of : (n : List ℕ) (h : Held) → found held_name n held ≡ Some h → SpotSound shelves sc (length inputs) h.at
      spot_of n h f = each_found held_name (λ (g : Held). SpotSound shelves sc (length inputs) g.at) n held h spots f

      pub lies_there : (n : List ℕ) (h : Held) → found held_name n held ≡ Some h → IsSome (lies_of inputs held n)
      lies_there n h f = subst IsSome (sym (lies_found n h f)) (spot_there h.at (spot_of n h f))

      -- each name of the order is found
      pub named_there : (n : List ℕ) → In n (names_in held) → IsSome (lies_of inputs held n)
      named_there n i = go (found held_name n held) refl
        where
          go : (x : Option Held) → found held_name n held ≡ x → IsSome (lies_of inputs held n)
          go None e = absurd (found_some held_name n held i e)
          go (Some h) e = lies_there n h e

      pub known_sound : FindsSound (lies_known inputs held) sc
      known_sound (call f c vs) o e = absurd (none_not e)
      known_sound (out x a n i) o e = absurd (none_not e)
      known_sound (input k) o e = absurd (none_not e)
      known_sound (known n) o e = go (found held_name n held) refl
        where
          go : (x : Option Held) → found held_name n held ≡ x → SoundObject sc o
          go None f = absurd (none_not (sym (lies_none n f) ∙ e))
          go (Some h) f = spot_sound h.at o (spot_of n h f) (sym (lies_found n h f) ∙ e)

      -- what was fetched for a name is what lies there, or is lost
      pub fetched_so : (n : List ℕ) (h : Held) (r : Result rust.Object Gone) (old new : SeatSeen) → found held_name n held ≡ Some h
          → MatchResult r (λ o. lies_at inputs h.at ≡ Some (object_view o)) (λ gone. LostAt gone.loss h.at)
          → MatchResult r (λ _. new ≡ old) (λ gone. new.losses ≡ old.losses ++ gone.loss ∷ [])
          → MatchResult r (λ o. lies_of inputs held n ≡ Some (object_view o)) (λ gone. IsLost held n gone.loss new)
      fetched_so n h (Ok o) old new f lies seen = lies_found n h f ∙ lies
      fetched_so n h (Err gone) old new f lost seen =
          record { one = h; found = f; at = lost; seen = subst (In gone.loss) (sym seen) (in_end old.losses gone.loss) }

      -- whether there is one of this name
      pub has_so : {A : Type 0} (now : A → Held) (n : List ℕ) (r : Option A)
          → MatchOption r (found held_name n held ≡ None) (λ h. found held_name n held ≡ Some (now h)) → is_some r
          ≡ is_some (lies_of inputs held n)
      has_so now n None f = ap is_some (sym (lies_none n f))
      has_so now n (Some h) f = sym (lies_there n (now h) f)
