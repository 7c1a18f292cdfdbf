-- Looking up by name.
use Rattle.std.proofs.Common.{◌≡◌, ℕ, suc, ◌<◌, List, [], ◌∷◌, ◌++◌, Bool, true, false, cond, map, length, get_or, set, refl, ap, sym, ◌∙◌, subst}
use Rattle.std.proofs.Common.{◌⊎◌, inl, inr, arith, Option, Some, None}
use Rattle.std.specs.List.{AllByRecursion, IsDistinct}
use Rattle.std.specs.Option.{option_map}
use Rattle.std.proofs.lemmas.List.{set-get_or}
use Rattle.sky_base.specs.Val.{same_text}
use Rattle.sky_base.proofs.Exact.{exact_text, self_text}
use Rattle.ciel_table.specs.Named.{found, place_of, changed, IsOnce}
use Rattle.ciel_table.proofs.Lists.{bool_cases}

pub flip_text : (a b : List ℕ) → same_text a b ≡ false → same_text b a ≡ false
flip_text a b h = pick (bool_cases (same_text b a))
  where
    pick : ((same_text b a ≡ true) ⊎ (same_text b a ≡ false)) → same_text b a ≡ false
    pick (inr f) = f
    pick (inl t) = let s : same_text a b ≡ true = subst (λ x. same_text a x ≡ true) (sym (exact_text b a t)) (self_text a) in cc

module _ {X : Type 0} (name : X → List ℕ) where
  -- at the place of a name stands the item
  pub found_at : (n : List ℕ) (xs : List X) (i : ℕ) (d : X) → place_of name n xs ≡ Some i → (i < length xs) × (found name n xs ≡ Some (get_or xs i d))
  found_at n [] i d e = cc
  found_at n (x ∷ xs) i d e = turn (same_text n (name x)) (place_of name n xs) refl e (λ k h. found_at n xs k d h)
    where
      turn : (b : Bool) (o : Option ℕ) → place_of name n xs ≡ o → cond b (Some 0) (option_map suc o) ≡ Some i
          → ((k : ℕ) → place_of name n xs ≡ Some k → (k < length xs) × (found name n xs ≡ Some (get_or xs k d))) → (i < suc (length xs))
          × (cond b (Some x) (found name n xs) ≡ Some (get_or (x ∷ xs) i d))
      turn true o h e r = let z : 0 ≡ i = cc in (omega (arith, z), ap (λ k. Some (get_or (x ∷ xs) k d)) z)
      turn false None h e r = cc
      turn false (Some k) h e r =
          let z : suc k ≡ i = cc in
          let q = r k h in (omega (arith, z, q.0), q.1 ∙ ap (λ j. Some (get_or (x ∷ xs) j d)) z)

  pub place_within : (n : List ℕ) (xs : List X) (i : ℕ) → place_of name n xs ≡ Some i → i < length xs
  place_within n [] i e = cc
  place_within n (x ∷ xs) i e = (found_at n (x ∷ xs) i x e).0

  -- and has the name
  pub name_at : (n : List ℕ) (xs : List X) (i : ℕ) (d : X) → place_of name n xs ≡ Some i → name (get_or xs i d) ≡ n
  name_at n [] i d e = cc
  name_at n (x ∷ xs) i d e = turn (bool_cases (same_text n (name x))) (place_of name n xs) refl (λ k h. name_at n xs k d h)
    where
      turn : ((same_text n (name x) ≡ true) ⊎ (same_text n (name x) ≡ false)) → (o : Option ℕ) → place_of name n xs ≡ o
          → ((k : ℕ) → place_of name n xs ≡ Some k → name (get_or xs k d) ≡ n) → name (get_or (x ∷ xs) i d) ≡ n
      turn (inl t) o h r =
          let s : Some 0 ≡ Some i = sym (ap (λ b. cond b (Some 0) (option_map suc (place_of name n xs))) t) ∙ e in
          let z : 0 ≡ i = cc in ap (λ k. name (get_or (x ∷ xs) k d)) (sym z) ∙ sym (exact_text n (name x) t)
      turn (inr f) None h r =
          let s : None ≡ Some i = sym (ap (λ q. option_map suc q) h)
          ∙ (sym (ap (λ b. cond b (Some 0) (option_map suc (place_of name n xs))) f) ∙ e) in cc
      turn (inr f) (Some k) h r =
          let s : Some (suc k) ≡ Some i = sym (ap (λ q. option_map suc q) h)
          ∙ (sym (ap (λ b. cond b (Some 0) (option_map suc (place_of name n xs))) f) ∙ e) in
          let z : suc k ≡ i = cc in ap (λ j. name (get_or (x ∷ xs) j d)) (sym z) ∙ r k h

  pub found_none : (n : List ℕ) (xs : List X) → place_of name n xs ≡ None → found name n xs ≡ None
  found_none n [] e = refl
  found_none n (x ∷ xs) e = turn (same_text n (name x)) (place_of name n xs) refl e (found_none n xs)
    where
      turn : (b : Bool) (o : Option ℕ) → place_of name n xs ≡ o → cond b (Some 0) (option_map suc o) ≡ None
          → (place_of name n xs ≡ None → found name n xs ≡ None) → cond b (Some x) (found name n xs) ≡ None
      turn true o h e r = cc
      turn false None h e r = r h
      turn false (Some k) h e r = cc

  pub place_new : (n k : List ℕ) (xs : List X) (x : X) → name x ≡ k → same_text n k ≡ true → place_of name n xs ≡ None
      → place_of name n (xs ++ x ∷ []) ≡ Some (length xs)
  place_new n k [] x s t e = ap (λ m. cond (same_text n m) (Some 0) None) s ∙ ap (λ b. cond b (Some 0) None) t
  place_new n k (y ∷ ys) x s t e = turn (same_text n (name y)) (place_of name n ys) refl e (place_new n k ys x s t)
    where
      turn : (b : Bool) (o : Option ℕ) → place_of name n ys ≡ o → cond b (Some 0) (option_map suc o) ≡ None
          → (place_of name n ys ≡ None → place_of name n (ys ++ x ∷ []) ≡ Some (length ys))
          → cond b (Some 0) (option_map suc (place_of name n (ys ++ x ∷ []))) ≡ Some (suc (length ys))
      turn true o h e r = cc
      turn false None h e r = ap (λ q. option_map suc q) (r h)
      turn false (Some i) h e r = cc

  pub place_still : (n k : List ℕ) (xs : List X) (x : X) → name x ≡ k → same_text n k ≡ false → place_of name n (xs ++ x ∷ []) ≡ place_of name n xs
  place_still n k [] x s f = ap (λ m. cond (same_text n m) (Some 0) None) s ∙ ap (λ b. cond b (Some 0) None) f
  place_still n k (y ∷ ys) x s f = ap (λ q. cond (same_text n (name y)) (Some 0) (option_map suc q)) (place_still n k ys x s f)

  apart_push : (y : List ℕ) (xs : List X) (x : X) → AllByRecursion (λ m. same_text y m ≡ false) (map name xs) → same_text y (name x) ≡ false
      → AllByRecursion (λ m. same_text y m ≡ false) (map name (xs ++ x ∷ []))
  apart_push y [] x h k = (k, tt)
  apart_push y (z ∷ zs) x h k = (h.0, apart_push y zs x h.1 k)

  -- a new name stands once
  pub once_push : (xs : List X) (x : X) → IsOnce name xs → place_of name (name x) xs ≡ None → IsOnce name (xs ++ x ∷ [])
  unfolding IsDistinct
  once_push [] x h e = (tt, tt)
  once_push (y ∷ ys) x h e =
      let q = other (same_text (name x) (name y)) refl (place_of name (name x) ys) refl e in
      (apart_push (name y) ys x h.0 (flip_text (name x) (name y) q.0), once_push ys x h.1 q.1)
    where
      other : (b : Bool) → same_text (name x) (name y) ≡ b → (o : Option ℕ) → place_of name (name x) ys ≡ o → cond b (Some 0) (option_map suc o)
          ≡ None → (same_text (name x) (name y) ≡ false) × (place_of name (name x) ys ≡ None)
      other true s o h e = cc
      other false s None h e = (s, h)
      other false s (Some i) h e = cc

  module _ (f : X → X) (keeps : (x : X) → name (f x) ≡ name x) where
    pub names_changed : (n : List ℕ) (xs : List X) → map name (changed name f n xs) ≡ map name xs
    names_changed n [] = refl
    names_changed n (x ∷ xs) = turn (same_text n (name x)) (names_changed n xs)
      where
        turn : (b : Bool) → map name (changed name f n xs) ≡ map name xs → map name (cond b (f x ∷ xs) (x ∷ changed name f n xs)) ≡ name x
            ∷ map name xs
        turn true r = ap (λ m. m ∷ map name xs) (keeps x)
        turn false r = ap (λ ms. name x ∷ ms) r

    pub names_mapped : (xs : List X) → map name (map f xs) ≡ map name xs
    names_mapped [] = refl
    names_mapped (x ∷ xs) = λ i. keeps x i ∷ names_mapped xs i

  place_by_names : (q : List ℕ) (xs : List X) → place_of name q xs ≡ place_of (λ (m : List ℕ). m) q (map name xs)
  place_by_names q [] = refl
  place_by_names q (x ∷ xs) = ap (λ o. cond (same_text q (name x)) (Some 0) (option_map suc o)) (place_by_names q xs)

  -- places depend on the names alone
  pub place_same : (q : List ℕ) (xs ys : List X) → map name ys ≡ map name xs → place_of name q ys ≡ place_of name q xs
  place_same q xs ys e =
      place_by_names q ys ∙ (ap (place_of (λ (m : List ℕ). m) q) e ∙ sym (place_by_names q xs))

  -- the item at the place is changed
  pub changed_at : (f : X → X) (n : List ℕ) (xs : List X) (i : ℕ) (d : X) → place_of name n xs ≡ Some i → changed name f n xs
      ≡ set xs i (f (get_or xs i d))
  changed_at f n [] i d e = cc
  changed_at f n (x ∷ xs) i d e = turn (same_text n (name x)) (place_of name n xs) refl e (λ k h. changed_at f n xs k d h)
    where
      turn : (b : Bool) (o : Option ℕ) → place_of name n xs ≡ o → cond b (Some 0) (option_map suc o) ≡ Some i
          → ((k : ℕ) → place_of name n xs ≡ Some k → changed name f n xs ≡ set xs k (f (get_or xs k d)))
          → cond b (f x ∷ xs) (x ∷ changed name f n xs) ≡ set (x ∷ xs) i (f (get_or (x ∷ xs) i d))
      turn true o h e r = let z : 0 ≡ i = cc in ap (λ k. set (x ∷ xs) k (f (get_or (x ∷ xs) k d))) z
      turn false None h e r = cc
      turn false (Some k) h e r =
          let z : suc k ≡ i = cc in
          ap (λ ys. x ∷ ys) (r k h) ∙ ap (λ j. set (x ∷ xs) j (f (get_or (x ∷ xs) j d))) z

  -- what holds of each item, and of the changed one
  pub all_changed : (P : X → Type 0) (f : X → X) (n : List ℕ) (xs : List X) → ((x : X) → found name n xs ≡ Some x → P x → P (f x))
      → AllByRecursion P xs → AllByRecursion P (changed name f n xs)
  all_changed P f n [] h a = tt
  all_changed P f n (x ∷ xs) h a = turn (same_text n (name x)) refl (λ k. all_changed P f n xs k a.1)
    where
      turn : (b : Bool) → same_text n (name x) ≡ b
          → (((y : X) → found name n xs ≡ Some y → P y → P (f y)) → AllByRecursion P (changed name f n xs))
          → AllByRecursion P (cond b (f x ∷ xs) (x ∷ changed name f n xs))
      turn true e r = (h x (ap (λ b. cond b (Some x) (found name n xs)) e) a.0, a.1)
      turn false e r = (a.0, r (λ y g. h y (ap (λ b. cond b (Some x) (found name n xs)) e ∙ g)))

  -- so many as before
  pub length_changed : (f : X → X) (n : List ℕ) (xs : List X) → length (changed name f n xs) ≡ length xs
  length_changed f n [] = refl
  length_changed f n (x ∷ xs) = turn (same_text n (name x)) (length_changed f n xs)
    where
      turn : (b : Bool) → length (changed name f n xs) ≡ length xs → length (cond b (f x ∷ xs) (x ∷ changed name f n xs)) ≡ suc (length xs)
      turn true r = refl
      turn false r = ap suc r

  -- an item of a place, as it is after a change
  pub one_changed : (f : X → X) (n : List ℕ) (xs : List X) (i : ℕ) (x y : X) → place_of name n xs ≡ Some i → x ≡ get_or xs i x → y ≡ f x
      → set xs i y ≡ changed name f n xs
  one_changed f n xs i x y e s h =
      ap (set xs i) h ∙ (ap (λ z. set xs i (f z)) s ∙ sym (changed_at f n xs i x e))

-- an item that is put where it was
pub none_changed : {X : Type 0} (xs : List X) (i : ℕ) (x y : X) → x ≡ get_or xs i x → y ≡ x → set xs i y ≡ xs
none_changed xs i x y s h = ap (set xs i) (h ∙ s) ∙ set-get_or xs i x
