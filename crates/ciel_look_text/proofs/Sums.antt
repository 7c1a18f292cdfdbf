-- Sums, as far as a number of 64 bits goes, and counts.
use Rattle.std.proofs.Common.{◌≡◌, ◌≤◌, ◌<◌, ◌+◌, ◌-◌, ◌^◌, ℕ, zero, suc, List, [], ◌∷◌, Bool, true, false, cond, length, map, min, get_or, drop}
use Rattle.std.proofs.Common.{arith, refl, ap, sym, ◌∙◌, subst}
use Rattle.std.specs.List.{filter, sum, sum_by}
use Rattle.std.proofs.lemmas.List.Sums.{sum-map, sum_by-cons}
use Rattle.std.proofs.lemmas.Simd.{map-map}
use Rattle.ciel_look_words.proofs.ManyWords.{dropped, dropped_all}
use Rattle.ciel_look_text.specs.Text.{capped, sum_said}

-- a number in a list
pub element_is : (xs : List ℕ) (i : ℕ) → i < length xs → get_or xs i 0 ≡ get_or xs i (get_or xs i 0)
element_is [] i h = absurd (omega (arith, h))
element_is (x ∷ xs) zero h = refl
element_is (x ∷ xs) (suc i) h = element_is xs i (omega (arith, h))

capped_plus : (m a x r : ℕ) → min (min (a + x) m + r) m ≡ min (a + (x + r)) m
capped_plus m a x r = omega arith

capped_zero : (n : ℕ) → capped (0 + n) ≡ capped n
capped_zero n = omega arith

capped_small : (n : ℕ) → n ≤ 2 ^ 64 - 1 → n ≡ capped (n + 0)
capped_small n k = omega (arith, k)

-- what was summed up so far, and what is left
module _ {A : Type 0} (f : A → ℕ) (xs : List A) where
  abbrev pub SumLeft : ℕ → ℕ → Type 0
  SumLeft so_far i = capped (so_far + sum_by f (drop i xs)) ≡ capped (sum_by f xs)

  pub sum_start : SumLeft 0 0
  sum_start = capped_zero (sum_by f xs)

  pub sum_next : (so_far new i : ℕ) (x : A) → i < length xs → x ≡ get_or xs i x → SumLeft so_far i → new ≡ capped (so_far + f x)
      → SumLeft new (i + 1)
  sum_next so_far new i x h e left put =
      ap (λ n. capped (n + sum_by f (drop (i + 1) xs))) put ∙ capped_plus (2 ^ 64 - 1) so_far (f x) (sum_by f (drop (i + 1) xs))
      ∙ ap (λ n. capped (so_far + n)) (sym (sum_by-cons f x (drop (i + 1) xs)))
      ∙ sym (ap (λ ys. capped (so_far + sum_by f ys)) (dropped xs i x h e)) ∙ left

  pub sum_end : (so_far i : ℕ) → length xs ≤ i → so_far ≤ 2 ^ 64 - 1 → SumLeft so_far i → so_far ≡ capped (sum_by f xs)
  sum_end so_far i h small left =
      capped_small so_far small ∙ sym (ap (λ ys. capped (so_far + sum_by f ys)) (dropped_all xs i h)) ∙ left

-- of what the members are seen as
pub sum_seen : {A B : Type 0} (g : B → ℕ) (v : A → B) (xs : List A) → sum (map g (map v xs)) ≡ sum_by (λ x. g (v x)) xs
sum_seen g v xs = ap sum (map-map g v xs) ∙ sum-map (λ x. g (v x)) xs

-- those that pass a test
module _ {A : Type 0} (test : A → Bool) (xs : List A) where
  abbrev pub CountLeft : ℕ → ℕ → Type 0
  CountLeft so_far i = so_far + length (filter test (drop i xs)) ≡ length (filter test xs)

  pub count_start : CountLeft 0 0
  count_start = zero_more (length (filter test xs))
    where
      zero_more : (n : ℕ) → 0 + n ≡ n
      zero_more n = omega arith

  pub count_next : (so_far i : ℕ) (x : A) → i < length xs → x ≡ get_or xs i x → test x ≡ true → CountLeft so_far i → CountLeft (so_far + 1) (i + 1)
  count_next so_far i x h e t left =
      omega (arith, left, ap (λ ys. length (filter test ys)) (dropped xs i x h e), passed)
    where
      passed : length (filter test (x ∷ drop (i + 1) xs)) ≡ suc (length (filter test (drop (i + 1) xs)))
      passed = ap (λ b. length (cond b (x ∷ filter test (drop (i + 1) xs)) (filter test (drop (i + 1) xs)))) t

  pub count_same : (so_far i : ℕ) (x : A) → i < length xs → x ≡ get_or xs i x → test x ≡ false → CountLeft so_far i → CountLeft so_far (i + 1)
  count_same so_far i x h e t left =
      omega (arith, left, ap (λ ys. length (filter test ys)) (dropped xs i x h e), failed)
    where
      failed : length (filter test (x ∷ drop (i + 1) xs)) ≡ length (filter test (drop (i + 1) xs))
      failed = ap (λ b. length (cond b (x ∷ filter test (drop (i + 1) xs)) (filter test (drop (i + 1) xs)))) t

  pub count_step : (so_far new i : ℕ) (x : A) → i < length xs → x ≡ get_or xs i x → CountLeft so_far i → new ≡ so_far + cond (test x) 1 0
      → CountLeft new (i + 1)
  count_step so_far new i x h e left put = go (test x) refl
    where
      none : (n : ℕ) → n + 0 ≡ n
      none n = omega arith

      go : (b : Bool) → test x ≡ b → CountLeft new (i + 1)
      go true t = subst (λ n. CountLeft n (i + 1)) (sym (put ∙ ap (λ b. so_far + cond b 1 0) t)) (count_next so_far i x h e t left)
      go false t =
          subst (λ n. CountLeft n (i + 1)) (sym (put ∙ ap (λ b. so_far + cond b 1 0) t ∙ none so_far)) (count_same so_far i x h e t left)

  pub count_end : (so_far i : ℕ) → length xs ≤ i → CountLeft so_far i → so_far ≡ length (filter test xs)
  count_end so_far i h left = omega (arith, left, ap (λ ys. length (filter test ys)) (dropped_all xs i h))

pub count_seen : {A B : Type 0} (test : B → Bool) (v : A → B) (xs : List A) → length (filter test (map v xs)) ≡ length (filter (λ x. test (v x)) xs)
count_seen test v [] = refl
count_seen test v (x ∷ xs) = go (test (v x)) (count_seen test v xs)
  where
    go : (b : Bool) → length (filter test (map v xs)) ≡ length (filter (λ y. test (v y)) xs)
        → length (cond b (v x ∷ filter test (map v xs)) (filter test (map v xs)))
        ≡ length (cond b (x ∷ filter (λ y. test (v y)) xs) (filter (λ y. test (v y)) xs))
    go true h = ap suc h
    go false h = h

-- the same numbers
pub same_sum : (a b c d e f a_new b_new c_new d_new e_new f_new : ℕ) → a ≡ a_new → b ≡ b_new → c ≡ c_new → d ≡ d_new → e ≡ e_new → f ≡ f_new
    → sum_said a b c d e f ≡ sum_said a_new b_new c_new d_new e_new f_new
same_sum a b c d e f a_new b_new c_new d_new e_new f_new p q r s t u =
    ap (λ x. sum_said x b c d e f) p ∙ ap (λ x. sum_said a_new x c d e f) q ∙ ap (λ x. sum_said a_new b_new x d e f) r
    ∙ ap (λ x. sum_said a_new b_new c_new x e f) s ∙ ap (λ x. sum_said a_new b_new c_new d_new x f) t ∙ ap (λ x. sum_said a_new b_new c_new d_new e_new x) u
