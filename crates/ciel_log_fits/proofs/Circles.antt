-- Outputs of which each has its next one are all outputs of their tasks.
use Rattle.std.proofs.Common.{◌≡◌, ◌<◌, ◌-◌, ◌+◌, inl, inr, ℕ, zero, suc, List, [], ◌∷◌, map, Bool, true, false, ◌||◌, cond, nat_lt}
use Rattle.std.proofs.Common.{refl, sym, ◌∙◌, subst, arith, ltb-true, ltb-false}
use Rattle.sky_base.specs.Name.{canon}
use Rattle.sky_base.specs.Names.{is_among}
use Rattle.sky_base.specs.Val.{Val, Desc, call, input, known, out, same_text}
use Rattle.sky_base.specs.declared.object.Named.{Named}
use Rattle.sky_base.proofs.Exact.{exact_text, self_text}
use Rattle.ciel_name.specs.Laws.{SpelledDesc}
use Rattle.ciel_name.proofs.Canon.{one_canon}
use Rattle.ciel_journal.specs.Job.{Each, In}
use Rattle.ciel_master_safe.specs.Reports.{StandsWhole}
use Rattle.ciel_master_board.specs.Reports.{named_view}
use Rattle.ciel_log_fits.specs.Whole.{NextStands, is_output_in, next_index, with_output}

abbrev D : Type 0
D = Desc (List ℕ)

-- ---- each of a list

pub of_each : (P : D → Type 0) (ns : List Named) → Each (λ (n : Named). P (named_view n)) ns → (d : D) → In d (map named_view ns) → P d
of_each P [] h d i = absurd i
of_each P (n ∷ ns) h d (inl e) = subst P (sym e) h.0
of_each P (n ∷ ns) h d (inr i) = of_each P ns h.1 d i

pub to_each : (P : D → Type 0) (ns : List Named) → ((d : D) → In d (map named_view ns) → P d) → Each (λ (n : Named). P (named_view n)) ns
to_each P [] h = tt
to_each P (n ∷ ns) h = (h (named_view n) (inl refl), to_each P ns (λ d i. h d (inr i)))

-- ---- the outputs of a list by their canonical bytes

first : (b c : Bool) → b ≡ true → b || c ≡ true
first true c e = refl
first false c e = absurd cc

second : (b c : Bool) → c ≡ true → b || c ≡ true
second true c e = refl
second false c e = e

more : (x : List ℕ) (d : D) (c : Bool) → c ≡ true → with_output x d c ≡ true
more x (call f c vs) b e = e
more x (out y a n i) b e = second (same_text x (canon (out y a n i))) b e
more x (input k) b e = e
more x (known m) b e = e

pub there : (ds : List D) (y : List ℕ) (a : Val (List ℕ)) (n i : ℕ) → In (out y a n i) ds → is_output_in (canon (out y a n i)) ds ≡ true
there [] y a n i h = absurd h
there (d ∷ ds) y a n i (inl e) =
    subst (λ f. with_output (canon (out y a n i)) f (is_output_in (canon (out y a n i)) ds) ≡ true) e
    (first (same_text (canon (out y a n i)) (canon (out y a n i))) (is_output_in (canon (out y a n i)) ds) (self_text (canon (out y a n i))))
there (d ∷ ds) y a n i (inr h) = more (canon (out y a n i)) d (is_output_in (canon (out y a n i)) ds) (there ds y a n i h)

module _ (e : D) (s : SpelledDesc e) where
  pub found : (ds : List D) → ((d : D) → In d ds → SpelledDesc d) → is_output_in (canon e) ds ≡ true → In e ds
  found [] all h = absurd cc
  found (d ∷ ds) all h = go d (all d (inl refl)) h (found ds (λ d i. all d (inr i)))
    where
      one : (f : D) → SpelledDesc f → (b : Bool) → same_text (canon e) (canon f) ≡ b → b || is_output_in (canon e) ds ≡ true
          → (is_output_in (canon e) ds ≡ true → In e ds) → In e (f ∷ ds)
      one f t true same h behind = inl (one_canon e f s t (exact_text (canon e) (canon f) same))
      one f t false same h behind = inr (behind h)

      go : (f : D) → SpelledDesc f → with_output (canon e) f (is_output_in (canon e) ds) ≡ true
          → (is_output_in (canon e) ds ≡ true → In e ds) → In e (f ∷ ds)
      go (call f c vs) t h behind = inr (behind h)
      go (out y a n i) t h behind = one (out y a n i) t (same_text (canon e) (canon (out y a n i))) refl h behind
      go (input k) t h behind = inr (behind h)
      go (known m) t h behind = absurd t

-- ---- the next index

pub next_below : (n i : ℕ) → i < n → next_index n i < n
next_below n i h = go (nat_lt (suc i) n) refl
  where
    go : (b : Bool) → nat_lt (suc i) n ≡ b → cond b (suc i) 0 < n
    go true e = ltb-true (suc i) n e
    go false e = omega (arith, h)

next_up : (n i : ℕ) → suc i < n → next_index n i ≡ suc i
next_up n i h = go (nat_lt (suc i) n) refl
  where
    go : (b : Bool) → nat_lt (suc i) n ≡ b → cond b (suc i) 0 ≡ suc i
    go true e = refl
    go false e = absurd (omega (arith, h, ltb-false (suc i) n e))

next_round : (n i : ℕ) → n ≡ suc i → next_index n i ≡ 0
next_round n i h = go (nat_lt (suc i) n) refl
  where
    go : (b : Bool) → nat_lt (suc i) n ≡ b → cond b (suc i) 0 ≡ 0
    go true e = absurd (omega (arith, h, ltb-true (suc i) n e))
    go false e = refl

-- ---- round the circle

module _ (ds : List D) (y : List ℕ) (a : Val (List ℕ)) (n : ℕ)
    (step : (i : ℕ) → In (out y a n i) ds → (i < n) × In (out y a n (next_index n i)) ds) where
  up : (k i : ℕ) → k + i < n → In (out y a n i) ds → In (out y a n (k + i)) ds
  up zero i h at =
      let is : i ≡ zero + i = omega arith in
      subst (λ j. In (out y a n j) ds) is at
  up (suc k) i h at =
      let next : In (out y a n (suc i)) ds = subst (λ j. In (out y a n j) ds) (next_up n i (omega (arith, h))) (step i at).1 in
      let same : k + suc i ≡ suc k + i = omega arith in
      subst (λ j. In (out y a n j) ds) same (up k (suc i) (omega (arith, h)) next)

  begins : (i : ℕ) → In (out y a n i) ds → In (out y a n 0) ds
  begins i at =
      let below = (step i at).0 in
      let last = n - 1 in
      let is : (last - i) + i ≡ last = omega (arith, below) in
      let end : In (out y a n last) ds =
      subst (λ j. In (out y a n j) ds) is (up (last - i) i (omega (arith, below)) at) in
      subst (λ j. In (out y a n j) ds) (next_round n last (omega (arith, below))) (step last end).1

  pub all_round : (i : ℕ) → In (out y a n i) ds → (k : ℕ) → k < n → In (out y a n k) ds
  all_round i at k h =
      let is : k + 0 ≡ k = omega arith in
      subst (λ j. In (out y a n j) ds) is (up k 0 (omega (arith, h)) (begins i at))

-- ---- both ways

module _ (set : List (List ℕ)) (ns : List Named) (is : (x : List ℕ) → is_among x set ≡ is_output_in x (map named_view ns)) where
  module _ (spelled : Each (λ (n : Named). SpelledDesc (named_view n)) ns) where
    all_spelled : (d : D) → In d (map named_view ns) → SpelledDesc d
    all_spelled = of_each SpelledDesc ns spelled

    steps : Each (λ (n : Named). NextStands set (named_view n)) ns → (y : List ℕ) (a : Val (List ℕ)) (n i : ℕ)
        → In (out y a n i) (map named_view ns) → (i < n) × In (out y a n (next_index n i)) (map named_view ns)
    steps h y a n i at =
        let q = of_each (NextStands set) ns h (out y a n i) at in
        let s = all_spelled (out y a n i) at in
        let below = next_below n i q.0 in
        let t : SpelledDesc (out y a n (next_index n i)) = (s.0, (s.1.0, (s.1.1.0, omega (arith, below, s.1.1.0)))) in
        (q.0, found (out y a n (next_index n i)) t (map named_view ns) all_spelled (sym (is (canon (out y a n (next_index n i)))) ∙ q.1))

    whole_of : Each (λ (n : Named). NextStands set (named_view n)) ns → (d : D) → In d (map named_view ns) → StandsWhole (map named_view ns) d
    whole_of h (call f c vs) i = tt
    whole_of h (out y a n k) i = ((steps h y a n k i).0, all_round (map named_view ns) y a n (steps h y a n) k i)
    whole_of h (input k) i = tt
    whole_of h (known m) i = tt

    pub whole : Each (λ (n : Named). NextStands set (named_view n)) ns
        → Each (λ (n : Named). StandsWhole (map named_view ns) (named_view n)) ns
    whole h = to_each (StandsWhole (map named_view ns)) ns (whole_of h)

  next_of : (d : D) → StandsWhole (map named_view ns) d → NextStands set d
  next_of (call f c vs) h = tt
  next_of (out y a n i) h = (
    h.0,
    is (canon (out y a n (next_index n i))) ∙ there (map named_view ns) y a n (next_index n i) (h.1 (next_index n i) (next_below n i h.0)),
  )
  next_of (input k) h = tt
  next_of (known m) h = tt

  pub next : Each (λ (n : Named). StandsWhole (map named_view ns) (named_view n)) ns
      → Each (λ (n : Named). NextStands set (named_view n)) ns
  next h = to_each (NextStands set) ns (λ d i. next_of d (of_each (StandsWhole (map named_view ns)) ns h d i))
