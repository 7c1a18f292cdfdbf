-- What is known after one turn and another.
use Rattle.std.proofs.Common.{◌≡◌, ◌++◌, ℕ, List, [], ◌∷◌, map, flat_map, Option, Some, refl, sym, ap, ◌∙◌, subst, ◌⊎◌, inl, inr, append_assoc}
use Rattle.std.proofs.Common.{append-nil}
use Rattle.std.proofs.lemmas.List.{map-append}
use Rattle.sky_base.specs.Val.{Desc, known, same_text}
use Rattle.sky_base.specs.Name.{digested}
use Rattle.sky_base.specs.Res.{Object, object_refs}
use Rattle.sky_base.specs.ObjectView.{object_view}
use Rattle.sky_base_law.specs.Tasks.{In, Each}
use Rattle.sky_base_law.proofs.TaskOutputs.{in_each}
use Rattle.sky_state.specs.Pending.{all_refs, pending_in}
use Rattle.sky_state.specs.Stand.{Stand}
use Rattle.sky_machine.specs.Comes.{with_name}
use Rattle.sky_machine.specs.Knows.{inside_refs, CameWith, Known, LeavesKnown, KnowsNames}
use Rattle.sky_machine.specs.Steps.{Spawned}
use Rattle.sky_machine.specs.declared.step.Step.{Step}
use Rattle.sky_machine.proofs.Knows.{from_each, in_first, in_second}
use Rattle.sky_machine_through.specs.Through.{AreFound}
use Rattle.sky_machine_through.specs.Found.{CameFrom}

-- ---- lists

each_to : {A : Type 0} (P Q : A → Type 0) (xs : List A) → ((x : A) → P x → Q x) → Each P xs → Each Q xs
each_to P Q [] g h = tt
each_to P Q (x ∷ xs) g h = (g x h.0, each_to P Q xs g h.1)

-- a member of two lists is one of the first or one of the second
pub in_parts : {B : Type 0} (ys zs : List B) (y : B) → In y (ys ++ zs) → In y ys ⊎ In y zs
in_parts [] zs y i = inr i
in_parts (x ∷ ys) zs y (inl e) = inl (inl e)
in_parts (x ∷ ys) zs y (inr i) = more (in_parts ys zs y i)
  where
    more : In y ys ⊎ In y zs → In y (x ∷ ys) ⊎ In y zs
    more (inl j) = inl (inr j)
    more (inr j) = inr j

in_flat_of : {A B : Type 0} (g : A → List B) (xs : List A) (y : B) → In y (flat_map g xs) → (x : A) × In x xs × In y (g x)
in_flat_of g [] y i = absurd i
in_flat_of g (x ∷ xs) y i = go (in_parts (g x) (flat_map g xs) y i) (λ j. in_flat_of g xs y j)
  where
    go : In y (g x) ⊎ In y (flat_map g xs) → (In y (flat_map g xs) → (z : _) × In z xs × In y (g z)) → (z : _) × In z (x ∷ xs) × In y (g z)
    go (inl j) f = (x, inl refl, j)
    go (inr j) f = let more = f j in (more.0, inr more.1, more.2)

-- where a member of two lists stands
module _ {A : Type 0} where
  pub data Split (xs ys earlier later : List A) (m : A) : Type 0 where
    in_one : (between : List A) → xs ≡ earlier ++ m ∷ between → Split xs ys earlier later m
    in_two : (first : List A) → earlier ≡ xs ++ first → ys ≡ first ++ m ∷ later → Split xs ys earlier later m

  split : (xs ys earlier later : List A) (m : A) → xs ++ ys ≡ earlier ++ m ∷ later → Split xs ys earlier later m
  split [] ys earlier later m e = in_two earlier refl e
  split (x ∷ xs) ys [] later m e = let is : x ≡ m = cc in in_one xs (ap (λ z. z ∷ xs) is)
  split (x ∷ xs) ys (z ∷ zs) later m e = more (split xs ys zs later m rest)
    where
      first : x ≡ z
      first = cc

      rest : xs ++ ys ≡ zs ++ m ∷ later
      rest = cc

      more : Split xs ys zs later m → Split (x ∷ xs) ys (z ∷ zs) later m
      more (in_one between q) = in_one between (λ i. first i ∷ q i)
      more (in_two f q g) = in_two f (λ i. sym first i ∷ q i) g

module _ (finds : Desc (List ℕ) → Option (Object (List ℕ))) where
  -- an object that answers is found
  found_of : (ds : List (Desc (List ℕ))) (os : List (Object (List ℕ))) (o : Object (List ℕ)) → map finds ds ≡ map Some os → In o os
      → (e : Desc (List ℕ)) × (finds e ≡ Some o)
  found_of [] [] o e i = absurd i
  found_of [] (x ∷ os) o e i = absurd cc
  found_of (d ∷ ds) [] o e i = absurd i
  found_of (d ∷ ds) (x ∷ os) o e (inl q) = (d, let h : finds d ≡ Some x = cc in h ∙ ap Some (sym q))
  found_of (d ∷ ds) (x ∷ os) o e (inr i) = found_of ds os o (let t : map finds ds ≡ map Some os = cc in t) i

  module _ (digest : List ℕ → List ℕ) (old mid new : Stand (List ℕ)) (s : Step) (before between after : Spawned) (os : List (Object (List ℕ)))
      (found : AreFound finds mid os) (a : KnowsNames digest (CameFrom finds old) Step.Waits mid before between)
      (b : KnowsNames digest (CameWith mid os) s new between after) where
    abbrev named : List (Desc (List ℕ)) → List (Desc (List ℕ))
    named ms = map (λ m. known (digested digest m)) ms

    -- what is known from the state between is known from the first one
    lift : (ms : List (Desc (List ℕ))) (d : Desc (List ℕ)) → Known digest (CameWith mid os) ms d → Known digest (CameFrom finds old) (a.made ++ ms) d
    lift ms d (inl (inl i)) = go (in_each (Known digest (CameFrom finds old) a.made) (all_refs mid) d a.leaves i)
      where
        go : Known digest (CameFrom finds old) a.made d → Known digest (CameFrom finds old) (a.made ++ ms) d
        go (inl h) = inl h
        go (inr j) = inr (subst (In d) (sym (map-append (λ m. known (digested digest m)) a.made ms)) (in_first (named a.made) (named ms) d j))
    lift ms d (inl (inr i)) =
        let o = in_flat_of object_refs os d i in
        let e = found_of (pending_in same_text mid) os o.0 found o.1 in
        inl (inr (e.0, o.0, e.1, o.2))
    lift ms d (inr i) = inr (subst (In d) (sym (map-append (λ m. known (digested digest m)) a.made ms)) (in_second (named a.made) (named ms) d i))

    pub known_both : KnowsNames digest (CameFrom finds old) s new before after
    known_both = record {
      made = a.made ++ b.made;
      grew = b.grew ∙ ap (λ q. q ++ map (with_name digest) b.made) a.grew
          ∙ append_assoc before (map (with_name digest) a.made) (map (with_name digest) b.made)
          ∙ ap (λ q. before ++ q) (sym (map-append (with_name digest) a.made b.made));
      within = λ earlier later m e. inside earlier later m (split a.made b.made earlier later m e);
      leaves = left s b.leaves;
    }
      where
        inside : (earlier later : List (Desc (List ℕ))) (m : Desc (List ℕ)) → Split a.made b.made earlier later m
            → Each (Known digest (CameFrom finds old) earlier) (inside_refs m)
        inside earlier later m (in_one more e) = a.within earlier more m e
        inside earlier later m (in_two first e g) =
            subst (λ xs. Each (Known digest (CameFrom finds old) xs) (inside_refs m)) (sym e)
            (each_to (Known digest (CameWith mid os) first) (Known digest (CameFrom finds old) (a.made ++ first)) (inside_refs m)
            (lift first) (b.within first later m g))

        left : (t : Step) → LeavesKnown digest (CameWith mid os) b.made t new → LeavesKnown digest (CameFrom finds old) (a.made ++ b.made) t new
        left (Step.Ended o) h = each_to _ _ (object_refs (object_view o)) (lift b.made) h
        left Step.Waits h = each_to _ _ (all_refs new) (lift b.made) h
        left (Step.Shown x) h = tt

-- nothing made so far
none_made : (earlier later : List (Desc (List ℕ))) (m : Desc (List ℕ)) → [] ≡ earlier ++ m ∷ later → ⊥
none_made [] later m e = cc
none_made (x ∷ xs) later m e = cc

pub known_self : (finds : Desc (List ℕ) → Option (Object (List ℕ))) (digest : List ℕ → List ℕ) (s : Stand (List ℕ)) (spawned : Spawned)
    → KnowsNames digest (CameFrom finds s) Step.Waits s spawned spawned
known_self finds digest s spawned =
    record {
      made = [];
      grew = sym (append-nil spawned);
      within = λ earlier later m e. absurd (none_made earlier later m e);
      leaves =
          from_each (Known digest (CameFrom finds s) []) (all_refs s) (λ d i. inl (inl i));
    }
