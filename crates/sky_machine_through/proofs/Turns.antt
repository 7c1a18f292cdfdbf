-- Turns, one after the other.
use Rattle.std.proofs.Common.{◌≡◌, ◌<◌, ◌≤◌, ◌+◌, ◌++◌, ℕ, suc, List, [], ◌∷◌, map, Bool, true, false, Option, Some, None, is_some, IsSome, refl, sym}
use Rattle.std.proofs.Common.{ap, ◌∙◌, subst, arith, append_assoc, append-nil, Result, Ok, Err, IfOk, inl, inr}
use Rattle.std.proofs.lemmas.List.{map-append}
use Rattle.sky_base.specs.Names.{known_of}
use Rattle.sky_base.specs.Val.{Desc, known}
use Rattle.sky_base.specs.Tree.{Script}
use Rattle.sky_base.specs.Res.{Object, visits}
use Rattle.sky_base.specs.ObjectView.{object_view}
use Rattle.sky_base.specs.declared.object.Object as rust
use Rattle.sky_base_law.specs.Sound.{SoundDesc}
use Rattle.sky_base_law.specs.Tasks.{In}
use Rattle.sky_base_law.proofs.Lists.{each_both}
use Rattle.sky_base_law.proofs.TaskOutputs.{in_each}
use Rattle.sky_state.specs.Fits.{Fits}
use Rattle.sky_state.specs.Stand.{Stand}
use Rattle.sky_machine.specs.Comes.{with_name}
use Rattle.sky_machine.specs.Exactly.{Exactly, OneFurther, gone_of}
use Rattle.sky_machine.specs.Onward.{AnswersSound, GrewSoundly}
use Rattle.sky_machine.specs.Steps.{Spawned}
use Rattle.sky_machine.specs.declared.step.Step.{Step}
use Rattle.sky_machine.proofs.Rests.{has_rest}
use Rattle.sky_machine_through.specs.Found.{AllFound, FoundIf, FindsSound, Further, SameKind, still_to_come}

-- ---- what is found

module _ (finds : Desc (List ℕ) → Option (Object (List ℕ))) where
  pub found_sound : (sc : Script) (ds : List (Desc (List ℕ))) (os : List rust.Object) → FindsSound finds sc → map finds ds
      ≡ map Some (map object_view os) → AnswersSound sc os
  found_sound sc [] [] sound e = tt
  found_sound sc [] (o ∷ os) sound e = absurd cc
  found_sound sc (d ∷ ds) [] sound e = absurd cc
  found_sound sc (d ∷ ds) (o ∷ os) sound e = (sound d (object_view o) (head_is _ _ _ _ e), found_sound sc ds os sound (tail_is _ _ _ _ e))
    where
      head_is : {A : Type 0} (x y : A) (xs ys : List A) → x ∷ xs ≡ y ∷ ys → x ≡ y
      head_is x y xs ys e = cc

      tail_is : {A : Type 0} (x y : A) (xs ys : List A) → x ∷ xs ≡ y ∷ ys → xs ≡ ys
      tail_is x y xs ys e = cc

  -- where one is there, those of the longer list are as those of the rest
  pub one_more : (d : Desc (List ℕ)) (ds : List (Desc (List ℕ))) (b : Bool) → is_some (finds d) ≡ true → FoundIf finds b ds → FoundIf finds b (d ∷ ds)
  one_more d ds true e h = (e, h)
  one_more d ds false e (x, i, none) = (x, inr i, none)

  -- all are found by their names, or one after the other
  pub found_names : (ns : List (List ℕ)) → ((n : List ℕ) → In (known n) (known_of ns) → IsSome (finds (known n))) → AllFound finds (known_of ns)
  found_names [] h = tt
  found_names (n ∷ ns) h = (h n (inl refl), found_names ns (λ m i. h m (inr i)))

  pub names_found : (ds : List (Desc (List ℕ))) → AllFound finds ds → (n : List ℕ) → In (known n) ds → IsSome (finds (known n))
  names_found ds h n i = in_each (λ d. IsSome (finds d)) ds (known n) h i

  pub none_of : (x : Option (Object (List ℕ))) → is_some x ≡ false → x ≡ None
  none_of None e = refl
  none_of (Some o) e = absurd cc

  -- one more is found
  pub found_more : (d : Desc (List ℕ)) (ds : List (Desc (List ℕ))) (xs : List (Option (Object (List ℕ)))) (os : List rust.Object)
      (o : rust.Object) → finds d ≡ Some (object_view o) → xs ≡ map Some (map object_view os) ++ map finds (d ∷ ds) → xs
      ≡ map Some (map object_view (os ++ o ∷ [])) ++ map finds ds
  found_more d ds xs os o e g =
      g
      ∙ ap (λ x. map Some (map object_view os) ++ x ∷ map finds ds) e
      ∙ sym (append_assoc (map Some (map object_view os)) (Some (object_view o) ∷ []) (map finds ds))
      ∙ ap (λ ys. ys ++ map finds ds)
      (sym (ap (map Some) (map-append object_view os (o ∷ [])) ∙ map-append Some (map object_view os) (object_view o ∷ [])))

-- ---- what was made

pub grew_none : (digest : List ℕ → List ℕ) (sc : Script) (xs : Spawned) → GrewSoundly digest sc xs xs
grew_none digest sc xs = record { made = []; grew = sym (append-nil xs); sound = tt }

pub grew_both : (digest : List ℕ → List ℕ) (sc : Script) (xs ys zs : Spawned) → GrewSoundly digest sc xs ys → GrewSoundly digest sc ys zs
    → GrewSoundly digest sc xs zs
grew_both digest sc xs ys zs a b = record {
  made = a.made ++ b.made;
  grew = b.grew ∙ ap (λ q. q ++ map (with_name digest) b.made) a.grew
      ∙ append_assoc xs (map (with_name digest) a.made) (map (with_name digest) b.made)
      ∙ ap (λ q. xs ++ q) (sym (map-append (with_name digest) a.made b.made));
  sound = each_both (SoundDesc sc) a.made b.made a.sound b.sound;
}

-- ---- fewer waits are still to come

gone_few : (sc : Script) (s : Stand (List ℕ)) → Fits sc s → gone_of s < visits + 101
gone_few sc (Stand.run r) h = omega (arith, h.waits, h.count)
gone_few sc (Stand.show_at v w) h = omega (arith, h.wave)

pub falls : (sc : Script) (old new : Stand (List ℕ)) → Fits sc old → gone_of new ≡ suc (gone_of old) → still_to_come new < still_to_come old
falls sc old new h e = omega (arith, gone_few sc old h, e)

-- one who comes further from further on has come further
pub further_both : (old mid new : Stand (List ℕ)) (s : Step) → gone_of old ≤ gone_of mid → Further mid s new → Further old s new
further_both old mid new (Step.Ended o) h f = tt
further_both old mid new Step.Waits h f = omega (arith, h, f)
further_both old mid new (Step.Shown a) h f = tt

pub further_one : (old new : Stand (List ℕ)) (s : Step) → OneFurther old new s → Further old s new
further_one old new (Step.Ended o) h = tt
further_one old new Step.Waits h = omega (arith, h)
further_one old new (Step.Shown a) h = tt

pub ok_map : {X E : Type 0} {P Q : X → Type 0} (r : Result X E) → ((x : X) → P x → Q x) → IfOk r P → IfOk r Q
ok_map (Ok x) g h = g x h
ok_map (Err e) g h = tt

-- ---- kinds of states

pub kind_self : (s : Stand (List ℕ)) → SameKind s Step.Waits s
kind_self (Stand.run r) = tt
kind_self (Stand.show_at v w) = tt

pub kind_both : (old mid new : Stand (List ℕ)) (s : Step) → SameKind old Step.Waits mid → SameKind mid s new → SameKind old s new
kind_both (Stand.run r) (Stand.run q) new (Step.Ended o) h g = tt
kind_both (Stand.run r) (Stand.run q) (Stand.run p) Step.Waits h g = tt
kind_both (Stand.run r) (Stand.run q) (Stand.show_at u i) Step.Waits h g = absurd g
kind_both (Stand.run r) (Stand.run q) new (Step.Shown a) h g = absurd g
kind_both (Stand.run r) (Stand.show_at u i) new s h g = absurd h
kind_both (Stand.show_at v w) (Stand.run q) new s h g = absurd h
kind_both (Stand.show_at v w) (Stand.show_at u i) new (Step.Ended o) h g = absurd g
kind_both (Stand.show_at v w) (Stand.show_at u i) (Stand.run p) Step.Waits h g = absurd g
kind_both (Stand.show_at v w) (Stand.show_at u i) (Stand.show_at x j) Step.Waits h g = tt
kind_both (Stand.show_at v w) (Stand.show_at u i) new (Step.Shown a) h g = tt

pub kind_of : (digest : List ℕ → List ℕ) (sc : Script) (os : List (Object (List ℕ))) (old new : Stand (List ℕ)) (s : Step) → Fits sc old
    → Exactly digest sc os old new s → SameKind old s new
kind_of digest sc os (Stand.run r) new (Step.Ended o) fits e = tt
kind_of digest sc os (Stand.run r) new Step.Waits fits e =
    let rest = has_rest digest sc r os fits in
    subst (SameKind (Stand.run r) Step.Waits) (sym (e rest.0 rest.1 rest.2).2) tt
kind_of digest sc os (Stand.run r) new (Step.Shown a) fits e = absurd e
kind_of digest sc os (Stand.show_at v w) new (Step.Ended o) fits e = absurd e
kind_of digest sc os (Stand.show_at v w) new Step.Waits fits (u, next, is) = subst (SameKind (Stand.show_at v w) Step.Waits) (sym is) tt
kind_of digest sc os (Stand.show_at v w) new (Step.Shown a) fits e = tt
