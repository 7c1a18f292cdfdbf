-- Flags of those that were worked off and pass a test, beside the lists of a search.
use Rattle.std.proofs.Common.{◌≡◌, ℕ, zero, suc, ◌<◌, List, [], ◌∷◌, ◌++◌, length, set, Bool, true, false, Some, ◌⊎◌, inl, inr, ap, sym, ◌∙◌, subst}
use Rattle.std.proofs.Common.{nat_eq, eqb-true, slice_get, replicate}
use Rattle.ciel_want.specs.Search.{Among}
use Rattle.ciel_journal.proofs.Booked.{any_join_cases, any_join_left}
use Rattle.ciel_journal.proofs.Members.{bool_cases}
use Rattle.ciel_want.proofs.SearchInvariants.{among_cases, among_right, nothing}
use Rattle.ciel_want.specs.Marked.{Flagged}
use Rattle.ciel_want.proofs.SeenFlags.{set_here, set_other}

none_flagged : (n e : ℕ) → slice_get (replicate n false) e ≡ Some true → ⊥
none_flagged zero e h = cc
none_flagged (suc n) zero h = cc
none_flagged (suc n) (suc e) h = none_flagged n e h

module _ (test : ℕ → Bool) where
  -- of those that were seen and wait no longer, the flag tells what the test does; and only what was seen is flagged
  pub record Readied (ready : List Bool) (seen todo : List ℕ) : Type 0 where
    pub done : (e : ℕ) → Among e seen → Among e todo ⊎ (slice_get ready e ≡ Some (test e))
    pub only : (e : ℕ) → Flagged ready e → Among e seen

  pub ready_start : (n : ℕ) (seen : List ℕ) → Readied (replicate n false) seen seen
  ready_start n seen =
      record { done = λ e a. inl a; only = λ e f. absurd (none_flagged n e f) }

  pub ready_step : (ready : List Bool) (seen todo rest new : List ℕ) (d : ℕ) → Readied ready seen todo → todo ≡ rest ++ d ∷ [] → d < length ready
      → Among d seen → Readied (set ready d (test d)) (seen ++ new) (rest ++ new)
  ready_step ready seen todo rest new d s split l here = record { done = done; only = only }
    where
      now : (e : ℕ) → nat_eq e d ≡ true → slice_get (set ready d (test d)) e ≡ Some (test e)
      now e h =
          let k = eqb-true e d h in
          ap (slice_get (set ready d (test d))) k ∙ (set_here ready d (test d) l ∙ ap (λ i. Some (test i)) (sym k))

      kept : (e : ℕ) → ((nat_eq e d ≡ true) ⊎ (nat_eq e d ≡ false)) → slice_get ready e ≡ Some (test e) → slice_get (set ready d (test d)) e
          ≡ Some (test e)
      kept e (inl h) k = now e h
      kept e (inr h) k = set_other ready d e (test d) h ∙ k

      worked : (e : ℕ) → (Among e todo ⊎ (slice_get ready e ≡ Some (test e))) → Among e (rest ++ new)
          ⊎ (slice_get (set ready d (test d)) e ≡ Some (test e))
      worked e (inl a) = turn (any_join_cases (nat_eq e) rest d (subst (Among e) split a))
        where
          turn : Among e rest ⊎ (nat_eq e d ≡ true) → Among e (rest ++ new) ⊎ (slice_get (set ready d (test d)) e ≡ Some (test e))
          turn (inl r) = inl (any_join_left (nat_eq e) rest new r)
          turn (inr h) = inr (now e h)
      worked e (inr k) = inr (kept e (bool_cases (nat_eq e d)) k)

      done : (e : ℕ) → Among e (seen ++ new) → Among e (rest ++ new) ⊎ (slice_get (set ready d (test d)) e ≡ Some (test e))
      done e a = turn (among_cases e seen new a)
        where
          turn : Among e seen ⊎ Among e new → Among e (rest ++ new) ⊎ (slice_get (set ready d (test d)) e ≡ Some (test e))
          turn (inl o) = worked e (s.done e o)
          turn (inr n) = inl (among_right e rest new n)

      only : (e : ℕ) → Flagged (set ready d (test d)) e → Among e (seen ++ new)
      only e f = any_join_left (nat_eq e) seen new (turn (bool_cases (nat_eq e d)))
        where
          turn : ((nat_eq e d ≡ true) ⊎ (nat_eq e d ≡ false)) → Among e seen
          turn (inl h) = subst (λ i. Among i seen) (sym (eqb-true e d h)) here
          turn (inr h) = s.only e (sym (set_other ready d e (test d) h) ∙ f)

  pub ready_end : (ready : List Bool) (seen todo : List ℕ) → Readied ready seen todo → length todo ≡ 0 → (e : ℕ) → Among e seen
      → slice_get ready e ≡ Some (test e)
  ready_end ready seen todo s z e a = turn (s.done e a)
    where
      turn : Among e todo ⊎ (slice_get ready e ≡ Some (test e)) → slice_get ready e ≡ Some (test e)
      turn (inl h) = let k = subst (Among e) (nothing todo z) h in cc
      turn (inr k) = k
