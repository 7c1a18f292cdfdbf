-- A wait ends with the objects of what it waits for as with those of each description once.
use Rattle.std.proofs.Common.{◌≡◌, ℕ, Bool, true, false, List, [], ◌∷◌, map, Option, Some, None, inl, inr, refl, sym, ap, ◌∙◌, subst}
use Rattle.sky_base.specs.Val as v
use Rattle.sky_base.specs.Val.{list, refs_to, stands_in, unless_in, distinct_from, distinct}
use Rattle.sky_base.specs.Name.{digested}
use Rattle.sky_base.specs.Res.{Object, End, Wait, one_of, all_of}
use Rattle.sky_base.specs.Eval.{World, exec_end, wait_end}
use Rattle.sky_base.specs.Read.{joined, refs_of, see_all}
use Rattle.sky_base.specs.See.{Desc, Obj}
use Rattle.sky_base.specs.declared.fault.Fault.{Fault}
use Rattle.sky_base_law.specs.Lower.{low_obj, low_ref, low_wait}
use Rattle.sky_base_law.specs.NamesLaws.{Tag, no_name}
use Rattle.sky_base_law.specs.Tasks.{In, Each}
use Rattle.sky_base_law.proofs.Lists.{some_is, none_some}
use Rattle.sky_base_law.proofs.TaskOutputs.{stands_exact, in_each, in_distinct}

-- ---- the first fault

module _ {N : Type 0} where
  abbrev fault_in : List (Object N) → Option Fault
  fault_in [] = None
  fault_in (Object.bytes b ∷ os) = fault_in os
  fault_in (Object.data_of v ∷ os) = fault_in os
  fault_in (Object.fault f ∷ os) = Some f

  abbrev end_by : List (v.Desc N) → Option Fault → End N
  end_by ds None = End.got (list (refs_to ds))
  end_by ds (Some f) = End.failed f

  exec_by : (ds : List (v.Desc N)) (os : List (Object N)) → exec_end ds os ≡ end_by ds (fault_in os)
  exec_by ds [] = refl
  exec_by ds (Object.bytes b ∷ os) = exec_by ds os
  exec_by ds (Object.data_of v ∷ os) = exec_by ds os
  exec_by ds (Object.fault f ∷ os) = refl

fault_low : (tag : Tag) (os : List Obj) → fault_in (map (low_obj no_name tag) os) ≡ fault_in os
fault_low tag [] = refl
fault_low tag (Object.bytes b ∷ os) = fault_low tag os
fault_low tag (Object.data_of v ∷ os) = fault_low tag os
fault_low tag (Object.fault f ∷ os) = refl

module _ (look : Desc → Option Obj) where
  -- the fault that this is seen as, or else that of the others
  abbrev blame_one : Option Obj → Option Fault → Option Fault
  blame_one None rest = rest
  blame_one (Some (Object.bytes b)) rest = rest
  blame_one (Some (Object.data_of v)) rest = rest
  blame_one (Some (Object.fault f)) rest = Some f

  abbrev blame : List Desc → Option Fault
  blame [] = None
  blame (d ∷ ds) = blame_one (look d) (blame ds)

  abbrev Blameless : Desc → Type 0
  Blameless d = (rest : Option Fault) → blame_one (look d) rest ≡ rest

  blame_once : (before ds : List Desc) → Each Blameless before → blame (distinct_from (λ a b. true) before ds) ≡ blame ds
  blame_once before [] h = refl
  blame_once before (d ∷ ds) h = known (λ g. blame_once (d ∷ before) ds (g, h)) (stands_in (λ a b. true) d before) refl
    where
      fresh : (Blameless d → blame (distinct_from (λ a b. true) (d ∷ before) ds) ≡ blame ds) → (o : Option Obj) → look d ≡ o
          → blame_one (look d) (blame (distinct_from (λ a b. true) (d ∷ before) ds)) ≡ blame_one (look d) (blame ds)
      fresh later None e = ap (blame_one (look d)) (later (λ rest. ap (λ o. blame_one o rest) e))
      fresh later (Some (Object.bytes b)) e = ap (blame_one (look d)) (later (λ rest. ap (λ o. blame_one o rest) e))
      fresh later (Some (Object.data_of x)) e = ap (blame_one (look d)) (later (λ rest. ap (λ o. blame_one o rest) e))
      fresh later (Some (Object.fault f)) e = ap (λ o. blame_one o (blame (distinct_from (λ a b. true) (d ∷ before) ds))) e
          ∙ sym (ap (λ o. blame_one o (blame ds)) e)

      known : (Blameless d → blame (distinct_from (λ a b. true) (d ∷ before) ds) ≡ blame ds) → (b : Bool) → stands_in (λ a b. true) d before ≡ b
          → blame (unless_in (λ a b. true) b d (distinct_from (λ a b. true) (d ∷ before) ds)) ≡ blame (d ∷ ds)
      known later true e =
          let good : Blameless d = in_each Blameless before d h (stands_exact (λ a b. true) (λ a b c. absurd a) (λ a. absurd a) d before e) in
          later good ∙ sym (good (blame ds))
      known later false e = fresh later (look d) refl

  seen_blame : (ds : List Desc) (os : List Obj) → see_all look ds ≡ Some os → fault_in os ≡ blame ds
  seen_blame [] os e = ap fault_in (sym (some_is [] os e))
  seen_blame (d ∷ ds) os e = go (λ xs j. seen_blame ds xs j) (look d) refl (see_all look ds) refl e
    where
      go : ((xs : List Obj) → see_all look ds ≡ Some xs → fault_in xs ≡ blame ds) → (x : Option Obj) → look d ≡ x → (y : Option (List Obj))
          → see_all look ds ≡ y → joined x y ≡ Some os → fault_in os ≡ blame_one (look d) (blame ds)
      go more None i y j k = absurd (none_some os k)
      go more (Some o) i None j k = absurd (none_some os k)
      go more (Some o) i (Some xs) j k =
          ap fault_in (sym (some_is (o ∷ xs) os k)) ∙ one o xs ∙ ap (blame_one (Some o)) (more xs j) ∙ ap (λ x. blame_one x (blame ds)) (sym i)
        where
          one : (o : Obj) (xs : List Obj) → fault_in (o ∷ xs) ≡ blame_one (Some o) (fault_in xs)
          one (Object.bytes b) xs = refl
          one (Object.data_of u) xs = refl
          one (Object.fault f) xs = refl

  -- ---- all are seen where each is seen once

  abbrev Seen : Desc → Type 0
  Seen d = (o : Obj) × (look d ≡ Some o)

  seen_each : (ds : List Desc) (os : List Obj) → see_all look ds ≡ Some os → Each Seen ds
  seen_each [] os e = tt
  seen_each (d ∷ ds) os e = go (λ xs j. seen_each ds xs j) (look d) refl (see_all look ds) refl e
    where
      go : ((xs : List Obj) → see_all look ds ≡ Some xs → Each Seen ds) → (x : Option Obj) → look d ≡ x → (y : Option (List Obj))
          → see_all look ds ≡ y → joined x y ≡ Some os → Seen d × Each Seen ds
      go more None i y j k = absurd (none_some os k)
      go more (Some o) i None j k = absurd (none_some os k)
      go more (Some o) i (Some xs) j k = ((o, i), more xs j)

  each_seen : (ds : List Desc) → Each Seen ds → (os : List Obj) × (see_all look ds ≡ Some os)
  each_seen [] h = ([], refl)
  each_seen (d ∷ ds) h =
      let more = each_seen ds h.1 in
      (h.0.0 ∷ more.0, (λ i. joined (h.0.1 i) (more.1 i)))

  from_each : (P : Desc → Type 0) (ds : List Desc) → ((d : Desc) → In d ds → P d) → Each P ds
  from_each P [] h = tt
  from_each P (d ∷ ds) h = (h d (inl refl), from_each P ds (λ e i. h e (inr i)))

  pub see_whole : (ds : List Desc) (os : List Obj) → see_all look (distinct (λ a b. true) ds) ≡ Some os → (xs : List Obj)
      × (see_all look ds ≡ Some xs)
  see_whole ds os e =
      each_seen ds (from_each Seen ds (λ d i. in_each Seen (distinct (λ a b. true) ds) d (seen_each (distinct (λ a b. true) ds) os e)
      (in_distinct (λ a b. true) (λ a b c. absurd a) (λ a. absurd a) ds d i)))

  pub ends_once : (w : World (List ℕ)) (tag : Tag) (q : Wait ⊥) (os xs : List Obj) → see_all look (distinct (λ a b. true) (refs_of q)) ≡ Some os
      → see_all look (refs_of q) ≡ Some xs → wait_end w (low_wait no_name tag q) (map (low_obj no_name tag) os)
      ≡ wait_end w (low_wait no_name tag q) (map (low_obj no_name tag) xs)
  ends_once w tag (one_of p d) os xs e g =
      ap (λ ys. wait_end w (low_wait no_name tag (one_of p d)) (map (low_obj no_name tag) ys)) (some_is os xs (sym e ∙ g))
  ends_once w tag (all_of ds) os xs e g =
      let low = map (low_ref no_name tag) ds in
      exec_by low (map (low_obj no_name tag) os)
      ∙ ap (end_by low) (fault_low tag os ∙ seen_blame (distinct (λ a b. true) ds) os e ∙ blame_once [] ds tt ∙ sym (seen_blame ds xs g)
      ∙ sym (fault_low tag xs))
      ∙ sym (exec_by low (map (low_obj no_name tag) xs))
