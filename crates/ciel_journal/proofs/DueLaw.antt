-- The first loss that is due among those up to a place.
use Rattle.std.proofs.Common.{◌≡◌, ℕ, zero, suc, ◌+◌, ◌≤◌, ◌<◌, List, [], ◌∷◌, length, true, false, Option, Some, None, IfSome, IfNone, slice_get}
use Rattle.std.proofs.Common.{◌⊎◌, inl, inr, ap, sym, ◌∙◌, subst, arith}
use Rattle.ciel_journal.specs.Turns.{FirstDue, IsDue, NothingDue, due_test}
use Rattle.ciel_journal.proofs.CheckTurns.{is_due, due_is}

module _ (losses : List (ℕ × ℕ)) (closes : ℕ) (gone : List ℕ) where
  abbrev Due : ℕ → ℕ → ℕ → Type 0
  Due i k u = IsDue losses closes gone i k u

  abbrev pub Below : ℕ → Option ℕ → Type 0
  Below n None = (i k u : ℕ) → i < n → Due i k u → ⊥
  Below n (Some j) =
      (j < n) × ((k : ℕ) × (u : ℕ) × Due j k u × ((i l v : ℕ) → i < n → Due i l v → (k < l) ⊎ ((k ≡ l) × (j ≤ i))))

  at_or : (i n : ℕ) → i < suc n → (i < n) ⊎ (i ≡ n)
  at_or i n l = grind arith

  -- a due loss at a place is the loss there
  there : (i k u : ℕ) (x : ℕ × ℕ) → slice_get losses i ≡ Some x → Due i k u → (x.0 ≡ k) × (due_test closes gone x ≡ true)
  there i k u x g d =
      let e : Some x ≡ Some (k, u) = sym g ∙ d.planned in
      let s : x ≡ (k, u) = inj e in
      (ap (λ (z : ℕ × ℕ). z.0) s, subst (λ z. due_test closes gone z ≡ true) (sym s) (due_is closes gone losses i k u d))
    where
      inj : {a b : ℕ × ℕ} → Some a ≡ Some b → a ≡ b
      inj e = cc

  pub below_none : Below 0 None
  below_none i k u l d = absurd (omega (arith, l))

  pub below_skip : (n : ℕ) (o : Option ℕ) (x : ℕ × ℕ) → slice_get losses n ≡ Some x → due_test closes gone x ≡ false → Below n o → Below (suc n) o
  below_skip n None x g f b = none
    where
      none : (i k u : ℕ) → i < suc n → Due i k u → ⊥
      none i k u l d = pick (at_or i n l)
        where
          pick : ((i < n) ⊎ (i ≡ n)) → ⊥
          pick (inl a) = b i k u a d
          pick (inr e) =
              let t = (there i k u x (subst (λ z. slice_get losses z ≡ Some x) (sym e) g) d).1 in let bad : true ≡ false = sym t ∙ f in cc
  below_skip n (Some j) x g f b = let l = b.0 in (omega (arith, l), (b.1.0, b.1.1, b.1.2, least))
    where
      least : (i l v : ℕ) → i < suc n → Due i l v → (b.1.0 < l) ⊎ ((b.1.0 ≡ l) × (j ≤ i))
      least i k u l d = pick (at_or i n l)
        where
          pick : ((i < n) ⊎ (i ≡ n)) → (b.1.0 < k) ⊎ ((b.1.0 ≡ k) × (j ≤ i))
          pick (inl a) = b.1.3 i k u a d
          pick (inr e) =
              let t = (there i k u x (subst (λ z. slice_get losses z ≡ Some x) (sym e) g) d).1 in let bad : true ≡ false = sym t ∙ f in cc

  pub below_first : (n : ℕ) (x : ℕ × ℕ) → slice_get losses n ≡ Some x → due_test closes gone x ≡ true → Below n None → Below (suc n) (Some n)
  below_first n x g f b = (omega arith, (x.0, x.1, is_due closes gone losses n x.0 x.1 g f, least))
    where
      least : (i l v : ℕ) → i < suc n → Due i l v → (x.0 < l) ⊎ ((x.0 ≡ l) × (n ≤ i))
      least i k u l d = pick (at_or i n l)
        where
          pick : ((i < n) ⊎ (i ≡ n)) → (x.0 < k) ⊎ ((x.0 ≡ k) × (n ≤ i))
          pick (inl a) = absurd (b i k u a d)
          pick (inr e) = inr ((there i k u x (subst (λ z. slice_get losses z ≡ Some x) (sym e) g) d).0, omega (arith, e))

  -- the loss at j has its own count
  count_at : (n j : ℕ) (y : ℕ × ℕ) → slice_get losses j ≡ Some y → (b : Below n (Some j)) → y.0 ≡ b.1.0
  count_at n j y g b = (there j b.1.0 b.1.1 y g b.1.2).0

  pub below_better : (n j : ℕ) (x y : ℕ × ℕ) → slice_get losses n ≡ Some x → slice_get losses j ≡ Some y → due_test closes gone x ≡ true
      → x.0 < y.0 → Below n (Some j) → Below (suc n) (Some n)
  below_better n j x y g h f lt b = (omega arith, (x.0, x.1, is_due closes gone losses n x.0 x.1 g f, least))
    where
      least : (i l v : ℕ) → i < suc n → Due i l v → (x.0 < l) ⊎ ((x.0 ≡ l) × (n ≤ i))
      least i k u l d = pick (at_or i n l)
        where
          low : ((b.1.0 < k) ⊎ ((b.1.0 ≡ k) × (j ≤ i))) → x.0 < k
          low (inl a) = let c = count_at n j y h b in omega (arith, a, c, lt)
          low (inr a) = let c = count_at n j y h b in let e = a.0 in omega (arith, e, c, lt)

          pick : ((i < n) ⊎ (i ≡ n)) → (x.0 < k) ⊎ ((x.0 ≡ k) × (n ≤ i))
          pick (inl a) = inl (low (b.1.3 i k u a d))
          pick (inr e) = inr ((there i k u x (subst (λ z. slice_get losses z ≡ Some x) (sym e) g) d).0, omega (arith, e))

  pub below_keep : (n j : ℕ) (x y : ℕ × ℕ) → slice_get losses n ≡ Some x → slice_get losses j ≡ Some y → y.0 ≤ x.0 → Below n (Some j)
      → Below (suc n) (Some j)
  below_keep n j x y g h le b = let l = b.0 in (omega (arith, l), (b.1.0, b.1.1, b.1.2, least))
    where
      least : (i l v : ℕ) → i < suc n → Due i l v → (b.1.0 < l) ⊎ ((b.1.0 ≡ l) × (j ≤ i))
      least i k u l d = pick (at_or i n l)
        where
          cases : (a c : ℕ) → a ≤ c → (a < c) ⊎ (a ≡ c)
          cases a c m = grind arith

          here : x.0 ≡ k → (i ≡ n) → ((b.1.0 < k) ⊎ (b.1.0 ≡ k)) → (b.1.0 < k) ⊎ ((b.1.0 ≡ k) × (j ≤ i))
          here s e (inl a) = inl a
          here s e (inr a) = let q = b.0 in inr (a, omega (arith, q, e))

          pick : ((i < n) ⊎ (i ≡ n)) → (b.1.0 < k) ⊎ ((b.1.0 ≡ k) × (j ≤ i))
          pick (inl a) = b.1.3 i k u a d
          pick (inr e) =
              let s = (there i k u x (subst (λ z. slice_get losses z ≡ Some x) (sym e) g) d).0 in
              let c = count_at n j y h b in here s e (cases b.1.0 k (omega (arith, s, c, le)))

  short : (i k u : ℕ) → Due i k u → i < length losses
  short i k u d = get_short losses i (k, u) d.planned
    where
      get_short : (xs : List (ℕ × ℕ)) (i : ℕ) (x : ℕ × ℕ) → slice_get xs i ≡ Some x → i < length xs
      get_short [] i x h = cc
      get_short (y ∷ ys) zero x h = omega arith
      get_short (y ∷ ys) (suc i) x h = let a = get_short ys i x h in omega (arith, a)

  pub below_all : (j : ℕ) → Below (length losses) (Some j) → (worker : ℕ) × FirstDue losses closes gone j worker
  below_all j b =
      (b.1.1, record { count = b.1.0; due = b.1.2; least = λ i k u d. b.1.3 i k u (short i k u d) d })

  pub below_nothing : Below (length losses) None → NothingDue losses closes gone
  below_nothing b i k u d = b i k u (short i k u d) d

  pub first_some : (n : ℕ) → n ≡ length losses → (o : Option ℕ) → Below n o
      → IfSome o (λ loss. (worker : ℕ) × FirstDue losses closes gone loss worker)
  first_some n e None b = tt
  first_some n e (Some j) b = below_all j (subst (λ m. Below m (Some j)) e b)

  pub first_none : (n : ℕ) → n ≡ length losses → (o : Option ℕ) → Below n o → IfNone o (NothingDue losses closes gone)
  first_none n e None b = below_nothing (subst (λ m. Below m None) e b)
  first_none n e (Some j) b = tt

  pub below_next : (n : ℕ) (o : Option ℕ) → Below (suc n) o → Below (n + 1) o
  below_next n o b = let e : suc n ≡ n + 1 = omega arith in subst (λ m. Below m o) e b
