-- The orders of a run by their places.
use Rattle.std.proofs.Common.{◌≡◌, ◌≤◌, ◌+◌, ℕ, zero, suc, List, [], ◌∷◌, ◌++◌, Bool, true, false, ◌||◌, cond, length, map, take, drop, set}
use Rattle.std.proofs.Common.{Option, Some, None, slice_get, nat_eq, arith, refl, ap, sym, ◌∙◌}
use Rattle.std.specs.BTreeMap.{BTreeMap, Updates, get}
use Rattle.std.specs.Ordering.{is_eq, nat_cmp}
use Rattle.std.proofs.lemmas.Bool.Decides.{nat_tests}
use Rattle.ciel_look_told.specs.Told.{Outcome}
use Rattle.ciel_look_tasks.specs.Tasks.{Start}
use Rattle.ciel_look_tasks.specs.Orders as order
use Rattle.ciel_look_tasks.specs.Orders.{Ending, closed, cut, ends, ends_if, has_number, is_out, is_out_at, last_of, or_here}
use Rattle.ciel_look_tasks.proofs.OrderSteps.{closed_none}

-- ---- where the last order of a number stands

or_there : (b c : Bool) (p : ℕ) (o : Option ℕ) → or_here b (cond c (Some p) o) ≡ cond c (Some (suc p)) (or_here b o)
or_there true true p o = refl
or_there false true p o = refl
or_there true false p o = refl
or_there false false p o = refl

pub last_push : (n : ℕ) (ms : List ℕ) (m : ℕ) → last_of n (ms ++ m ∷ []) ≡ cond (nat_eq m n) (Some (length ms)) (last_of n ms)
last_push n [] m = go (nat_eq m n)
  where
    go : (b : Bool) → or_here b None ≡ cond b (Some 0) None
    go true = refl
    go false = refl
last_push n (k ∷ ms) m =
    ap (or_here (nat_eq k n)) (last_push n ms m) ∙ or_there (nat_eq k n) (nat_eq m n) (length ms) (last_of n ms)

pub same_number : (k q : ℕ) → is_eq (nat_cmp k q) ≡ nat_eq k q
same_number k q = go (nat_eq k q) refl
  where
    go : (b : Bool) → nat_eq k q ≡ b → is_eq (nat_cmp k q) ≡ b
    go true e = grind (arith, nat_tests)
    go false e = grind (arith, nat_tests)

-- the map has the place of one more
pub last_next : (old new : BTreeMap ℕ ℕ) (ms : List ℕ) (m p : ℕ) → ((n : ℕ) → get nat_cmp old n ≡ last_of n ms) → p ≡ length ms
    → Updates nat_cmp old new m (Some p) → (n : ℕ) → get nat_cmp new n ≡ last_of n (ms ++ m ∷ [])
last_next old new ms m p h e u n =
    u.0 n ∙ ap (λ b. cond b (Some p) (get nat_cmp old n)) (same_number m n) ∙ ap (cond (nat_eq m n) (Some p)) (h n)
    ∙ ap (λ q. cond (nat_eq m n) (Some q) (last_of n ms)) e ∙ sym (last_push n ms m)

-- ---- the last order of a number ends

abbrev pub number_at : Start × Ending → ℕ
number_at o = o.0.0

last_none : (n : ℕ) (os : List (Start × Ending)) → last_of n (map number_at os) ≡ None → has_number n os ≡ false
last_none n [] h = refl
last_none n (o ∷ os) h = go (nat_eq o.0.0 n) (last_of n (map number_at os)) (last_none n os) h
  where
    go : (b : Bool) (l : Option ℕ) → (l ≡ None → has_number n os ≡ false) → or_here b l ≡ None → (b || has_number n os) ≡ false
    go true (Some p) r k = absurd cc
    go false (Some p) r k = absurd cc
    go true None r k = absurd cc
    go false None r k = r refl

last_some : (n : ℕ) (os : List (Start × Ending)) (p : ℕ) → last_of n (map number_at os) ≡ Some p → has_number n os ≡ true
last_some n [] p h = absurd cc
last_some n (o ∷ os) p h = go (nat_eq o.0.0 n) (last_of n (map number_at os)) (last_some n os) h
  where
    go : (b : Bool) (l : Option ℕ) → ((q : ℕ) → l ≡ Some q → has_number n os ≡ true) → or_here b l ≡ Some p → (b || has_number n os) ≡ true
    go true l r k = refl
    go false (Some q) r k = r q refl
    go false None r k = absurd cc

turned : (a b : ℕ) → nat_eq b a ≡ true → nat_eq a b ≡ true
turned a b e = grind (arith, nat_tests)

here_none : (b : Bool) (l : Option ℕ) → or_here b l ≡ Some 0 → l ≡ None
here_none true None h = refl
here_none false None h = refl
here_none true (Some q) h = absurd cc
here_none false (Some q) h = absurd cc

here_true : (b : Bool) (l : Option ℕ) → or_here b l ≡ Some 0 → b ≡ true
here_true true l h = refl
here_true false None h = absurd cc
here_true false (Some q) h = absurd cc

here_suc : (b : Bool) (l : Option ℕ) (q : ℕ) → or_here b l ≡ Some (suc q) → l ≡ Some q
here_suc true None q h = absurd cc
here_suc false None q h = absurd cc
here_suc true (Some p) q h = cc
here_suc false (Some p) q h = cc

pub the_some : {A : Type 0} (x y : A) → Some x ≡ Some y → x ≡ y
the_some x y h = cc

-- an order stands there
pub last_there : (n : ℕ) (os : List (Start × Ending)) (p : ℕ) → last_of n (map number_at os) ≡ Some p → slice_get os p ≡ None → ⊥
last_there n [] p h k = absurd cc
last_there n (x ∷ os) zero h k = absurd cc
last_there n (x ∷ os) (suc q) h k = last_there n os q (here_suc (nat_eq x.0.0 n) (last_of n (map number_at os)) q h) k

closed_here : (n : ℕ) (how : Outcome) (os : List (Start × Ending)) (p : ℕ) (o : Start × Ending) → last_of n (map number_at os) ≡ Some p
    → slice_get os p ≡ Some o → closed n how os ≡ set os p (ends_if true (order.ended how) o)
closed_here n how [] p o h k = absurd cc
closed_here n how (x ∷ os) zero o h k =
    ap (λ c. cond c (x ∷ closed n how os) (ends_if (nat_eq n x.0.0) (order.ended how) x ∷ os))
    (last_none n os (here_none (nat_eq x.0.0 n) (last_of n (map number_at os)) h))
    ∙ ap (λ c. ends_if c (order.ended how) x ∷ os) (turned n x.0.0 (here_true (nat_eq x.0.0 n) (last_of n (map number_at os)) h))
    ∙ ap (λ y. ends_if true (order.ended how) y ∷ os) (the_some x o k)
closed_here n how (x ∷ os) (suc q) o h k =
    let later : last_of n (map number_at os) ≡ Some q = here_suc (nat_eq x.0.0 n) (last_of n (map number_at os)) q h in
    ap (λ c. cond c (x ∷ closed n how os) (ends_if (nat_eq n x.0.0) (order.ended how) x ∷ os)) (last_some n os q later)
    ∙ ap (λ ys. x ∷ ys) (closed_here n how os q o later k)

pub set_same : {A : Type 0} (xs : List A) (p : ℕ) (x : A) → slice_get xs p ≡ Some x → set xs p x ≡ xs
set_same [] p x h = absurd cc
set_same (y ∷ xs) zero x h = ap (λ z. z ∷ xs) (sym (the_some y x h))
set_same (y ∷ xs) (suc p) x h = ap (λ zs. y ∷ zs) (set_same xs p x h)

ends_over : (e : Ending) (s : Start) (x : Ending) → is_out x ≡ false → ends_if true e (s, x) ≡ (s, x)
ends_over e s order.out h = absurd cc
ends_over e s order.lost h = refl
ends_over e s (order.ended how) h = refl

pub closed_at : (n : ℕ) (os : List (Start × Ending)) (p : ℕ) (s : Start) → last_of n (map number_at os) ≡ Some p
    → slice_get os p ≡ Some (s, order.out) → (how : Outcome) → closed n how os ≡ set os p (s, order.ended how)
closed_at n os p s h k how = closed_here n how os p (s, order.out) h k

pub closed_over : (n : ℕ) (os : List (Start × Ending)) (p : ℕ) (s : Start) (e : Ending) → last_of n (map number_at os) ≡ Some p
    → slice_get os p ≡ Some (s, e) → is_out e ≡ false → (how : Outcome) → closed n how os ≡ os
closed_over n os p s e h k o how =
    closed_here n how os p (s, e) h k ∙ ap (set os p) (ends_over (order.ended how) s e o) ∙ set_same os p (s, e) k

pub closed_nowhere : (n : ℕ) (os : List (Start × Ending)) → last_of n (map number_at os) ≡ None → (how : Outcome) → closed n how os ≡ os
closed_nowhere n os h how = closed_none n how os (last_none n os h)

-- ---- those at a worker end, one place after another

module _ {A : Type 0} (f : A → A) where
  abbrev pub So : ℕ → List A → List A
  So i xs = map f (take i xs) ++ drop i xs

  pub so_get : (xs : List A) (i : ℕ) → slice_get (So i xs) i ≡ slice_get xs i
  so_get [] zero = refl
  so_get [] (suc i) = refl
  so_get (x ∷ xs) zero = refl
  so_get (x ∷ xs) (suc i) = so_get xs i

  so_set : (xs : List A) (i : ℕ) (x : A) → slice_get xs i ≡ Some x → set (So i xs) i (f x) ≡ So (i + 1) xs
  so_set [] i x h = absurd cc
  so_set (y ∷ xs) zero x h = ap (λ z. f z ∷ xs) (sym (the_some y x h))
  so_set (y ∷ xs) (suc i) x h =
      let next : suc i + 1 ≡ suc (i + 1) = omega arith in
      rw next (ap (λ zs. f y ∷ zs) (so_set xs i x h))

  so_same : (xs : List A) (i : ℕ) (x : A) → slice_get xs i ≡ Some x → f x ≡ x → So i xs ≡ So (i + 1) xs
  so_same [] i x h k = absurd cc
  so_same (y ∷ xs) zero x h k = ap (λ z. z ∷ xs) (the_some y x h ∙ sym k ∙ ap f (sym (the_some y x h)))
  so_same (y ∷ xs) (suc i) x h k =
      let next : suc i + 1 ≡ suc (i + 1) = omega arith in
      rw next (ap (λ zs. f y ∷ zs) (so_same xs i x h k))

  so_none : (xs : List A) (i : ℕ) → slice_get xs i ≡ None → So i xs ≡ So (i + 1) xs
  so_none [] zero h = refl
  so_none [] (suc i) h =
      let next : suc i + 1 ≡ suc (i + 1) = omega arith in
      rw next refl
  so_none (y ∷ xs) zero h = absurd cc
  so_none (y ∷ xs) (suc i) h =
      let next : suc i + 1 ≡ suc (i + 1) = omega arith in
      rw next (ap (λ zs. f y ∷ zs) (so_none xs i h))

  pub so_all : (xs : List A) (i : ℕ) → length xs ≤ i → So i xs ≡ map f xs
  so_all [] zero h = refl
  so_all [] (suc i) h = refl
  so_all (x ∷ xs) zero h = absurd (omega (arith, h))
  so_all (x ∷ xs) (suc i) h = ap (λ zs. f x ∷ zs) (so_all xs i (omega (arith, h)))

cut_out : (w : ℕ) (s : Start) (e : Ending) → is_out_at w (Some (s, e)) ≡ true → cut w (s, e) ≡ (s, order.lost)
cut_out w s order.out h = ap (λ b. ends_if b order.lost (s, order.out)) h
cut_out w s order.lost h = absurd cc
cut_out w s (order.ended how) h = absurd cc

cut_kept : (w : ℕ) (o : Start × Ending) → is_out_at w (Some o) ≡ false → cut w o ≡ o
cut_kept w (s, order.out) h = ap (λ b. ends_if b order.lost (s, order.out)) h
cut_kept w (s, order.lost) h = stays (nat_eq w s.1.0)
  where
    stays : (b : Bool) → ends_if b order.lost (s, order.lost) ≡ (s, order.lost)
    stays true = refl
    stays false = refl
cut_kept w (s, order.ended how) h = stays (nat_eq w s.1.0)
  where
    stays : (b : Bool) → ends_if b order.lost (s, order.ended how) ≡ (s, order.ended how)
    stays true = refl
    stays false = refl

module _ (w : ℕ) (olds : List (Start × Ending)) where
  abbrev pub CutSo : List (Start × Ending) → ℕ → Type 0
  CutSo now i = now ≡ So (cut w) i olds

  pub cut_next : (now new : List (Start × Ending)) (i : ℕ) → CutSo now i → is_out_at w (slice_get now i) ≡ true
      → ((s : Start) (e : Ending) → slice_get now i ≡ Some (s, e) → new ≡ set now i (s, order.lost)) → CutSo new (i + 1)
  cut_next now new i so is put = go (slice_get now i) refl is
    where
      go : (o : Option (Start × Ending)) → slice_get now i ≡ o → is_out_at w o ≡ true → CutSo new (i + 1)
      go None e k = absurd cc
      go (Some (s, x)) e k =
          let there : slice_get olds i ≡ Some (s, x) = sym (so_get (cut w) olds i) ∙ ap (λ xs. slice_get xs i) (sym so) ∙ e in
          put s x e ∙ ap (λ xs. set xs i (s, order.lost)) so ∙ ap (set (So (cut w) i olds) i) (sym (cut_out w s x k)) ∙ so_set (cut w) olds i (s, x) there

  pub cut_stays : (now : List (Start × Ending)) (i : ℕ) → CutSo now i → is_out_at w (slice_get now i) ≡ false → CutSo now (i + 1)
  cut_stays now i so is = go (slice_get now i) refl is
    where
      go : (o : Option (Start × Ending)) → slice_get now i ≡ o → is_out_at w o ≡ false → CutSo now (i + 1)
      go None e k = so ∙ so_none (cut w) olds i (sym (so_get (cut w) olds i) ∙ ap (λ xs. slice_get xs i) (sym so) ∙ e)
      go (Some o) e k =
          so ∙ so_same (cut w) olds i o (sym (so_get (cut w) olds i) ∙ ap (λ xs. slice_get xs i) (sym so) ∙ e) (cut_kept w o k)
