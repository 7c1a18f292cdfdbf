-- Slots: what is there after one is set, and how many of them pass a test.
use Rattle.std.proofs.Common.{◌≡◌, ℕ, zero, suc, ◌+◌, ◌≤◌, ◌<◌, List, [], ◌∷◌, length, replicate, Bool, true, false, Option, Some, None, ◌⊎◌, inl}
use Rattle.std.proofs.Common.{inr, refl, ap, sym, ◌∙◌, subst, arith, nat_eq, eqb-true, eq-eqb, slice_get, slice_set}
use Rattle.std.specs.Option.{option_map_or}
use Rattle.ciel_journal.proofs.Members.{bool_cases}
use Rattle.ciel_master_board.specs.Board.{Order}
use Rattle.ciel_master_board.specs.Left.{Has, Slots, busy, count_of, one_if}

pub differ_nat : (a b : ℕ) → (a ≡ b) ⊎ (a ≡ b → ⊥)
differ_nat a b = pick (bool_cases (nat_eq a b))
  where
    pick : ((nat_eq a b ≡ true) ⊎ (nat_eq a b ≡ false)) → (a ≡ b) ⊎ (a ≡ b → ⊥)
    pick (inl t) = inl (eqb-true a b t)
    pick (inr f) = inr (λ e. clash (eq-eqb a b e))
      where
        clash : nat_eq a b ≡ true → ⊥
        clash t = let bad : true ≡ false = sym t ∙ f in cc

module _ {A : Type 0} where
  pub got_below : (xs : List A) (i : ℕ) (x : A) → slice_get xs i ≡ Some x → i < length xs
  got_below [] i x e = cc
  got_below (y ∷ ys) zero x e = omega arith
  got_below (y ∷ ys) (suc i) x e = let l = got_below ys i x e in omega (arith, l)

  pub got_at : (xs : List A) (i : ℕ) → i < length xs → (x : A) × (slice_get xs i ≡ Some x)
  got_at [] i l = absurd (omega (arith, l))
  got_at (y ∷ ys) zero l = (y, refl)
  got_at (y ∷ ys) (suc i) l = got_at ys i (omega (arith, l))

  set_there : (xs : List A) (i : ℕ) (x : A) → i < length xs → slice_get (slice_set xs i x) i ≡ Some x
  set_there [] i x l = absurd (omega (arith, l))
  set_there (y ∷ ys) zero x l = refl
  set_there (y ∷ ys) (suc i) x l = set_there ys i x (omega (arith, l))

  set_other : (xs : List A) (i j : ℕ) (x : A) → (j ≡ i → ⊥) → slice_get (slice_set xs i x) j ≡ slice_get xs j
  set_other [] i j x n = refl
  set_other (y ∷ ys) zero zero x n = absurd (n refl)
  set_other (y ∷ ys) zero (suc j) x n = refl
  set_other (y ∷ ys) (suc i) zero x n = refl
  set_other (y ∷ ys) (suc i) (suc j) x n = set_other ys i j x (λ e. n (ap suc e))

  pub set_long : (xs : List A) (i : ℕ) (x : A) → length (slice_set xs i x) ≡ length xs
  set_long [] i x = refl
  set_long (y ∷ ys) zero x = refl
  set_long (y ∷ ys) (suc i) x = ap suc (set_long ys i x)

  -- what is at a place is what was set there, or it was there before
  pub set_cases : (xs : List A) (i j : ℕ) (x y : A) → slice_get (slice_set xs i x) j ≡ Some y → ((j ≡ i) × (y ≡ x))
      ⊎ ((j ≡ i → ⊥) × (slice_get xs j ≡ Some y))
  set_cases xs i j x y e = pick (differ_nat j i)
    where
      pick : ((j ≡ i) ⊎ (j ≡ i → ⊥)) → ((j ≡ i) × (y ≡ x)) ⊎ ((j ≡ i → ⊥) × (slice_get xs j ≡ Some y))
      pick (inl s) =
          let f : slice_get (slice_set xs i x) i ≡ Some y = subst (λ k. slice_get (slice_set xs i x) k ≡ Some y) s e in
          let l = got_below (slice_set xs i x) i y f in
          let m = set_long xs i x in
          let g : Some x ≡ Some y = sym (set_there xs i x (omega (arith, l, m))) ∙ f in
          let q : x ≡ y = cc in
          inl (s, sym q)
      pick (inr n) = inr (n, sym (set_other xs i j x n) ∙ e)

  pub set_has : (xs : List A) (i : ℕ) (x y : A) → slice_get xs i ≡ Some y → slice_get (slice_set xs i x) i ≡ Some x
  set_has xs i x y e = set_there xs i x (got_below xs i y e)

  pub set_keeps : (xs : List A) (i j : ℕ) (x y : A) → (j ≡ i → ⊥) → slice_get xs j ≡ Some y → slice_get (slice_set xs i x) j ≡ Some y
  set_keeps xs i j x y n e = set_other xs i j x n ∙ e

  pub got_same : (n : ℕ) (x : A) (i : ℕ) (y : A) → slice_get (replicate n x) i ≡ Some y → x ≡ y
  got_same zero x i y e = cc
  got_same (suc n) x zero y e = cc
  got_same (suc n) x (suc i) y e = got_same n x i y e

  pub long_replicate : (n : ℕ) (x : A) → length (replicate n x) ≡ n
  long_replicate zero x = refl
  long_replicate (suc n) x = ap suc (long_replicate n x)

one_most : (b : Bool) → one_if b ≤ 1
one_most true = omega arith
one_most false = omega arith

module _ {P : Type 0} where
  abbrev pub one_of : (Order P → Bool) → Option (Order P) → ℕ
  one_of test o = option_map_or (λ x. one_if (test x)) o 0

  one_of_most : (test : Order P → Bool) (o : Option (Order P)) → one_of test o ≤ 1
  one_of_most test None = omega arith
  one_of_most test (Some x) = one_most (test x)

  pub count_most : (test : Order P → Bool) (slots : Slots P) → count_of test slots ≤ length slots
  count_most test [] = omega arith
  count_most test (o ∷ os) = let a = one_of_most test o in
      let b = count_most test os in omega (arith, a, b)

  -- a slot that is set counts for what was there
  pub count_set : (test : Order P → Bool) (slots : Slots P) (w : ℕ) (old new : Option (Order P)) → slice_get slots w ≡ Some old
      → count_of test (slice_set slots w new) + one_of test old ≡ count_of test slots + one_of test new
  count_set test [] w old new e = cc
  count_set test (o ∷ os) zero old new e =
      let q : o ≡ old = cc in
      let r : one_of test o ≡ one_of test old = ap (one_of test) q in
      sums (one_of test new) (count_of test os) (one_of test old) (one_of test o) r
    where
      sums : (n c d f : ℕ) → f ≡ d → (n + c) + d ≡ (f + c) + n
      sums n c d f r = omega (arith, r)
  count_set test (o ∷ os) (suc w) old new e =
      sums (one_of test o) (count_of test (slice_set os w new)) (one_of test old) (count_of test os) (one_of test new) (count_set test os w old new e)
    where
      sums : (f c d b n : ℕ) → c + d ≡ b + n → (f + c) + d ≡ (f + b) + n
      sums f c d b n r = omega (arith, r)

  -- where no worker has an order there is none
  pub none_busy : (slots : Slots P) → busy slots ≡ 0 → (w : ℕ) (x : Order P) → Has slots w x → ⊥
  none_busy [] e w x h = let bad : None ≡ Some (Some x) = h in cc
  none_busy (o ∷ os) e zero x h =
      let q : o ≡ Some x = cc in
      let r : one_of (λ y. true) o ≡ 1 = ap (one_of (λ y. true)) q in
      sums (one_of (λ y. true) o) (busy os) r e
    where
      sums : (a b : ℕ) → a ≡ 1 → a + b ≡ 0 → ⊥
      sums a b r e = omega (arith, r, e)
  none_busy (o ∷ os) e (suc w) x h = none_busy os (sums (one_of (λ y. true) o) (busy os) e) w x h
    where
      sums : (a b : ℕ) → a + b ≡ 0 → b ≡ 0
      sums a b e = omega (arith, e)
