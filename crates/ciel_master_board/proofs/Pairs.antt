-- Lists that go together one by one.
use Rattle.std.proofs.Common.{◌≡◌, suc, List, [], ◌∷◌, ◌++◌, Bool, true, false, cond, inl, inr, refl, ap, sym, ◌∙◌, subst, filter, length, map}
use Rattle.std.specs.List.{AllByRecursion}
use Rattle.ciel_journal.specs.Job.{Each, In}
use Rattle.ciel_master_board.specs.Follows.{OneByOne}

module _ {A C : Type 0} (R : A → C → Type 0) where
  pub join : (xs : List A) (ys : List C) (us : List A) (vs : List C) → OneByOne R xs ys → OneByOne R us vs → OneByOne R (xs ++ us) (ys ++ vs)
  join [] [] us vs h k = k
  join [] (y ∷ ys) us vs h k = absurd h
  join (x ∷ xs) [] us vs h k = absurd h
  join (x ∷ xs) (y ∷ ys) us vs h k = (h.0, join xs ys us vs h.1 k)

  pub long : (xs : List A) (ys : List C) → OneByOne R xs ys → length xs ≡ length ys
  long [] [] h = refl
  long [] (y ∷ ys) h = absurd h
  long (x ∷ xs) [] h = absurd h
  long (x ∷ xs) (y ∷ ys) h = ap (λ n. suc n) (long xs ys h.1)

  -- what passes tests that agree
  pub filtered : (p : A → Bool) (q : C → Bool) → ((x : A) (y : C) → R x y → p x ≡ q y) → (xs : List A) (ys : List C) → OneByOne R xs ys
      → OneByOne R (filter p xs) (filter q ys)
  filtered p q e [] [] h = tt
  filtered p q e [] (y ∷ ys) h = absurd h
  filtered p q e (x ∷ xs) [] h = absurd h
  filtered p q e (x ∷ xs) (y ∷ ys) h = pick (p x) (q y) (e x y h.0) (filtered p q e xs ys h.1)
    where
      pick : (b c : Bool) → b ≡ c → OneByOne R (filter p xs) (filter q ys)
          → OneByOne R (cond b (x ∷ filter p xs) (filter p xs)) (cond c (y ∷ filter q ys) (filter q ys))
      pick true true s r = (h.0, r)
      pick true false s r = cc
      pick false true s r = cc
      pick false false s r = r

  -- the partner of one, and back
  pub partner : (xs : List A) (ys : List C) → OneByOne R xs ys → (x : A) → In x xs → (y : C) × In y ys × R x y
  partner [] [] h x i = absurd i
  partner [] (y ∷ ys) h x i = absurd h
  partner (a ∷ as_) [] h x i = absurd h
  partner (a ∷ as_) (y ∷ ys) h x i = pick i (partner as_ ys h.1 x)
    where
      pick : In x (a ∷ as_) → (In x as_ → (c : C) × In c ys × R x c) → (c : C) × In c (y ∷ ys) × R x c
      pick (inl s) r = (y, inl refl, subst (λ z. R z y) (sym s) h.0)
      pick (inr j) r = let q = r j in (q.0, inr q.1, q.2)

  pub back : (xs : List A) (ys : List C) → OneByOne R xs ys → (y : C) → In y ys → (x : A) × In x xs × R x y
  back [] [] h y i = absurd i
  back [] (c ∷ cs) h y i = absurd h
  back (x ∷ xs) [] h y i = absurd h
  back (x ∷ xs) (c ∷ cs) h y i = pick i (back xs cs h.1 y)
    where
      pick : In y (c ∷ cs) → (In y cs → (a : A) × In a xs × R a y) → (a : A) × In a (x ∷ xs) × R a y
      pick (inl s) r = (x, inl refl, subst (λ z. R x z) (sym s) h.0)
      pick (inr j) r = let q = r j in (q.0, inr q.1, q.2)

module _ {A C : Type 0} (R Q : A → C → Type 0) where
  -- what holds of each two more, where the second ones are changed
  pub mapped : (f : C → C) → (xs : List A) (ys : List C) → ((x : A) (y : C) → In x xs → R x y → Q x (f y)) → OneByOne R xs ys
      → OneByOne Q xs (map f ys)
  mapped f [] [] g h = tt
  mapped f [] (y ∷ ys) g h = absurd h
  mapped f (x ∷ xs) [] g h = absurd h
  mapped f (x ∷ xs) (y ∷ ys) g h = (g x y (inl refl) h.0, mapped f xs ys (λ a c i. g a c (inr i)) h.1)

  pub more : (xs : List A) (ys : List C) → ((x : A) (y : C) → In x xs → R x y → Q x y) → OneByOne R xs ys → OneByOne Q xs ys
  more [] [] g h = tt
  more [] (y ∷ ys) g h = absurd h
  more (x ∷ xs) [] g h = absurd h
  more (x ∷ xs) (y ∷ ys) g h = (g x y (inl refl) h.0, more xs ys (λ a c i. g a c (inr i)) h.1)

module _ {A : Type 0} where
  pub all_each : (Q : A → Type 0) (xs : List A) → AllByRecursion Q xs → Each Q xs
  all_each Q [] h = tt
  all_each Q (x ∷ xs) h = (h.0, all_each Q xs h.1)

  pub each_all_of : (Q : A → Type 0) (xs : List A) → Each Q xs → AllByRecursion Q xs
  each_all_of Q [] h = tt
  each_all_of Q (x ∷ xs) h = (h.0, each_all_of Q xs h.1)

  -- two tests, in either order
  pub filter_both : (p q : A → Bool) (xs : List A) → filter p (filter q xs) ≡ filter q (filter p xs)
  filter_both p q [] = refl
  filter_both p q (x ∷ xs) = pick (p x) (q x) refl refl (filter_both p q xs)
    where
      here : (b : Bool) → p x ≡ b → filter p (x ∷ filter q xs) ≡ cond b (x ∷ filter p (filter q xs)) (filter p (filter q xs))
      here b e = ap (λ c. cond c (x ∷ filter p (filter q xs)) (filter p (filter q xs))) e

      there : (b : Bool) → q x ≡ b → filter q (x ∷ filter p xs) ≡ cond b (x ∷ filter q (filter p xs)) (filter q (filter p xs))
      there b e = ap (λ c. cond c (x ∷ filter q (filter p xs)) (filter q (filter p xs))) e

      pick : (b c : Bool) → p x ≡ b → q x ≡ c → filter p (filter q xs) ≡ filter q (filter p xs)
          → filter p (cond c (x ∷ filter q xs) (filter q xs)) ≡ filter q (cond b (x ∷ filter p xs) (filter p xs))
      pick true true e f r = here true e ∙ (ap (λ zs. x ∷ zs) r ∙ sym (there true f))
      pick true false e f r = r ∙ sym (there false f)
      pick false true e f r = here false e ∙ r
      pick false false e f r = r

  pub filter_join : (p : A → Bool) (xs ys : List A) → filter p (xs ++ ys) ≡ filter p xs ++ filter p ys
  filter_join p [] ys = refl
  filter_join p (x ∷ xs) ys = pick (p x) (filter_join p xs ys)
    where
      pick : (b : Bool) → filter p (xs ++ ys) ≡ filter p xs ++ filter p ys → cond b (x ∷ filter p (xs ++ ys)) (filter p (xs ++ ys))
          ≡ cond b (x ∷ filter p xs) (filter p xs) ++ filter p ys
      pick true r = ap (λ zs. x ∷ zs) r
      pick false r = r
