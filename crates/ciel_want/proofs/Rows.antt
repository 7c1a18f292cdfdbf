-- Rows by their names and by their numbers.
use Rattle.std.proofs.Common.{◌≡◌, ℕ, zero, suc, ◌<◌, List, [], ◌∷◌, Bool, true, false, cond, map, length, slice_get, refl, ap, sym, ◌∙◌, subst, ◌⊎◌}
use Rattle.std.proofs.Common.{inl, inr, arith, Option, Some, None, IsSome}
use Rattle.std.specs.List.{AllByRecursion, IsDistinct}
use Rattle.std.specs.Option.{option_map}
use Rattle.sky_base.specs.Val.{same_text}
use Rattle.sky_base.proofs.Exact.{exact_text, self_text}
use Rattle.ciel_table.specs.Named.{IsOnce, found, place_of}
use Rattle.ciel_table.proofs.ByName.{flip_text}
use Rattle.ciel_table.proofs.Lists.{bool_cases}

module _ {X : Type 0} (name : X → List ℕ) where
  -- an item that stands at a place and has the name
  pub record Item (n : List ℕ) (xs : List X) (i : ℕ) : Type 0 where
    pub item : X
    pub is_found : found name n xs ≡ Some item
    pub there : slice_get xs i ≡ Some item
    pub named : name item ≡ n
    pub within : i < length xs

  pub item_at : (n : List ℕ) (xs : List X) (i : ℕ) → place_of name n xs ≡ Some i → Item n xs i
  item_at n [] i e = cc
  item_at n (x ∷ xs) i e = turn (bool_cases (same_text n (name x))) (place_of name n xs) refl (item_at n xs)
    where
      here : same_text n (name x) ≡ true → 0 ≡ i → Item n (x ∷ xs) i
      here t z =
          subst (Item n (x ∷ xs)) z (record {
            item = x;
            is_found = ap (λ b. cond b (Some x) (found name n xs)) t;
            there = refl;
            named = sym (exact_text n (name x) t);
            within = omega arith;
          })

      after : same_text n (name x) ≡ false → (k : ℕ) → suc k ≡ i → Item n xs k → Item n (x ∷ xs) i
      after f k z q =
          subst (Item n (x ∷ xs)) z (record {
            item = q.item;
            is_found = ap (λ b. cond b (Some x) (found name n xs)) f ∙ q.is_found;
            there = q.there;
            named = q.named;
            within = (let w = q.within in omega (arith, w));
          })

      turn : ((same_text n (name x) ≡ true) ⊎ (same_text n (name x) ≡ false)) → (o : Option ℕ) → place_of name n xs ≡ o
          → ((k : ℕ) → place_of name n xs ≡ Some k → Item n xs k) → Item n (x ∷ xs) i
      turn (inl t) o h r =
          let s : Some 0 ≡ Some i = sym (ap (λ b. cond b (Some 0) (option_map suc (place_of name n xs))) t) ∙ e in
          let z : 0 ≡ i = cc in here t z
      turn (inr f) None h r =
          let s : None ≡ Some i = sym (ap (λ q. option_map suc q) h)
          ∙ (sym (ap (λ b. cond b (Some 0) (option_map suc (place_of name n xs))) f) ∙ e) in cc
      turn (inr f) (Some k) h r =
          let s : Some (suc k) ≡ Some i = sym (ap (λ q. option_map suc q) h)
          ∙ (sym (ap (λ b. cond b (Some 0) (option_map suc (place_of name n xs))) f) ∙ e) in
          let z : suc k ≡ i = cc in after f k z (r k h)

  apart_at : (m : List ℕ) (xs : List X) (i : ℕ) (y : X) → AllByRecursion (λ n. same_text m n ≡ false) (map name xs) → slice_get xs i ≡ Some y
      → same_text m (name y) ≡ false
  apart_at m [] i y a e = cc
  apart_at m (x ∷ xs) zero y a e = let s : x ≡ y = cc in subst (λ z. same_text m (name z) ≡ false) s a.0
  apart_at m (x ∷ xs) (suc i) y a e = apart_at m xs i y a.1 e

  -- an item stands at the place of its name
  pub own_place : (xs : List X) (i : ℕ) (x : X) → IsOnce name xs → slice_get xs i ≡ Some x → place_of name (name x) xs ≡ Some i
  unfolding IsDistinct
  own_place [] i x o e = cc
  own_place (y ∷ ys) zero x o e =
      let s : y ≡ x = cc in
      ap (λ b. cond b (Some 0) (option_map suc (place_of name (name x) ys)))
      (subst (λ z. same_text (name x) (name z) ≡ true) (sym s) (self_text (name x)))
  own_place (y ∷ ys) (suc i) x o e =
      let f : same_text (name x) (name y) ≡ false = flip_text (name y) (name x) (apart_at (name y) ys i x o.0 e) in
      ap (λ b. cond b (Some 0) (option_map suc (place_of name (name x) ys))) f
      ∙ ap (λ q. option_map suc q) (own_place ys i x o.1 e)

  -- and is found by it
  pub own_found : (xs : List X) (i : ℕ) (x : X) → IsOnce name xs → slice_get xs i ≡ Some x → found name (name x) xs ≡ Some x
  own_found xs i x o e =
      let q = item_at (name x) xs i (own_place xs i x o e) in q.is_found ∙ (sym q.there ∙ e)

  -- what has a place has one
  pub some_place : (n : List ℕ) (xs : List X) → IsSome (place_of name n xs) → (i : ℕ) × (place_of name n xs ≡ Some i)
  some_place n xs h = turn (place_of name n xs) refl h
    where
      turn : (o : Option ℕ) → place_of name n xs ≡ o → IsSome o → (i : ℕ) × (place_of name n xs ≡ Some i)
      turn None e k = cc
      turn (Some i) e k = (i, e)

  -- what holds of each item holds of one that is found
  pub all_found : (Q : X → Type 0) (n : List ℕ) (xs : List X) (x : X) → AllByRecursion Q xs → found name n xs ≡ Some x → Q x
  all_found Q n [] x a e = cc
  all_found Q n (y ∷ ys) x a e = turn (same_text n (name y)) e (all_found Q n ys x a.1)
    where
      turn : (b : Bool) → cond b (Some y) (found name n ys) ≡ Some x → (found name n ys ≡ Some x → Q x) → Q x
      turn true h r = let s : y ≡ x = cc in subst Q s a.0
      turn false h r = r h
