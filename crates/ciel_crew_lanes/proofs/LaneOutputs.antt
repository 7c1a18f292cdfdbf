-- The outputs of the lanes that were ended.
use Rattle.std.proofs.Common.{◌≡◌, ℕ, ◌+◌, ◌≤◌, List, [], ◌∷◌, ◌++◌, length, sym, refl, ap, ◌∙◌, subst, arith, length-append, true, false}
use Rattle.std.specs.Prelude.{Option, Some, None, IsNone, IsSomeAnd, MatchOption}
use Rattle.std.proofs.lemmas.List.{append-nil}
use Rattle.ciel_crew_lanes.specs.Seen.{LaneSeen, Closes}

not_none : {O : Type 0} (x : O) → IsNone (Some x) → ⊥
not_none x h = let e : true ≡ false = h in cc

module _ {I O : Type 0} (fits : I → O → Type 0) where
  abbrev pub Ends : LaneSeen I → Option O → Type 0
  Ends l r = MatchOption l.out (IsNone r) (λ job. IsSomeAnd r (λ x. fits job x))

  abbrev pub Adds : ℕ → List (ℕ × O) → Option O → List (ℕ × O) → Type 0
  Adds at outs r outs' = MatchOption r (outs' ≡ outs) (λ x. outs' ≡ outs ++ (at, x) ∷ [])

  one : (k at : ℕ) (put : List I) (out : Option I) (r : Option O) (outs : List (ℕ × O)) → at ≡ k → Ends record { put = put; out = out } r
      → Adds at [] r outs → Closes fits k (record { put = put; out = out } ∷ []) outs
  one k at put None None outs e h a = a
  one k at put None (Some x) outs e h a = absurd (not_none x h)
  one k at put (Some j) None outs e h a = absurd h
  one k at put (Some j) (Some x) outs e h a = (x, [], a ∙ ap (λ (n : ℕ). (n, x) ∷ []) e, h, refl)

  -- what is added, alone
  added : (at : ℕ) (outs outs' : List (ℕ × O)) (r : Option O) → Adds at outs r outs' → (more : List (ℕ × O)) × Adds at [] r more
      × (outs' ≡ outs ++ more)
  added at outs outs' None a = ([], refl, a ∙ sym (append-nil outs))
  added at outs outs' (Some x) a = ((at, x) ∷ [], refl, a)

  step : (k : ℕ) (out : Option I) (ls ms : List (LaneSeen I)) (outs more : List (ℕ × O))
      → ((os : List (ℕ × O)) → Closes fits (k + 1) ls os → Closes fits (k + 1) (ls ++ ms) (os ++ more))
      → MatchOption out (Closes fits (k + 1) ls outs)
      (λ job. (output : O) × (rest : List (ℕ × O)) × (outs ≡ (k, output) ∷ rest) × fits job output × Closes fits (k + 1) ls rest)
      → MatchOption out (Closes fits (k + 1) (ls ++ ms) (outs ++ more))
      (λ job. (output : O) × (rest : List (ℕ × O)) × (outs ++ more ≡ (k, output) ∷ rest) × fits job output
      × Closes fits (k + 1) (ls ++ ms) rest)
  step k None ls ms outs more ih h = ih outs h
  step k (Some j) ls ms outs more ih h = (h.0, h.1 ++ more, ap (λ (l : List (ℕ × O)). l ++ more) h.2, h.3, ih h.1 h.4)

  joined : (k : ℕ) (ls ms : List (LaneSeen I)) (outs more : List (ℕ × O)) → Closes fits k ls outs → Closes fits (k + length ls) ms more
      → Closes fits k (ls ++ ms) (outs ++ more)
  joined k [] ms outs more h g = rw h (let e : k + length {A = LaneSeen I} [] ≡ k = omega arith in subst (λ (n : ℕ). Closes fits n ms more) e g)
  joined k (l ∷ ls) ms outs more h g =
      let e : k + length (l ∷ ls) ≡ k + 1 + length ls = omega arith in
      step k l.out ls ms outs more (λ os f. joined (k + 1) ls ms os more f (subst (λ (n : ℕ). Closes fits n ms more) e g)) h

  pub closes : (at : ℕ) (ls : List (LaneSeen I)) (l : LaneSeen I) (outs outs' : List (ℕ × O)) (r : Option O) → Closes fits 0 ls outs → at
      ≡ length ls → Ends l r → Adds at outs r outs' → Closes fits 0 (ls ++ l ∷ []) outs'
  closes at ls l outs outs' r h e ends adds =
      let a = added at outs outs' r adds in
      let g : Closes fits (0 + length ls) (l ∷ []) a.0 = one (0 + length ls) at l.put l.out r a.0 (e ∙ omega arith) ends a.1 in
      subst (λ (x : List (ℕ × O)). Closes fits 0 (ls ++ l ∷ []) x) (sym a.2) (joined 0 ls (l ∷ []) outs a.0 h g)

pub longer : {O : Type 0} (at : ℕ) (outs outs' : List (ℕ × O)) (r : Option O) → MatchOption r (outs' ≡ outs) (λ x. outs' ≡ outs ++ (at, x) ∷ [])
    → length outs' ≤ length outs + 1
longer at outs outs' None a = let n = ap length a in omega arith
longer at outs outs' (Some x) a = let n = ap length a ∙ length-append outs ((at, x) ∷ []) in omega arith
