-- The next wait of a task for something outside a set is one, and there is none where the task comes to its end.
use Rattle.std.proofs.Common.{◌≡◌, ℕ, ◌<◌, List, ◌⊎◌, inl, inr, sym, subst, arith}
use Rattle.ciel_journal.specs.Job.{Task, Job, IsJob, WaitOf}
use Rattle.ciel_journal.specs.Lawful.{NextEnd, NextWait}
use Rattle.ciel_journal.proofs.Members.{each_of}
use Rattle.ciel_journal.proofs.Starts.{wait_unique}

cases : (m n : ℕ) → (m < n) ⊎ ((n < m) ⊎ (m ≡ n))
cases m n = grind arith

module _ {D : Type 0} (job : Job D) (laws : IsJob job) (S : D → Type 0) (t : Task D) (from : ℕ) where
  pub one_wait : (j i : ℕ) (r q : List D) → NextWait job S t from j r → NextWait job S t from i q → j ≡ i
  one_wait j i r q a b = pick (cases j i)
    where
      pick : ((j < i) ⊎ ((i < j) ⊎ (j ≡ i))) → j ≡ i
      pick (inl h) = absurd (a.unmet.2 (each_of S a.unmet.0 r a.unmet.1 (b.met j r a.later h a.waits)))
      pick (inr (inl h)) = absurd (b.unmet.2 (each_of S b.unmet.0 q b.unmet.1 (a.met i q b.later h b.waits)))
      pick (inr (inr e)) = e

  pub one_list : (j i : ℕ) (r q : List D) → NextWait job S t from j r → NextWait job S t from i q → r ≡ q
  one_list j i r q a b =
      wait_unique job laws t j r q a.waits (subst (λ k. WaitOf job t k q) (sym (one_wait j i r q a b)) b.waits)

  pub not_end : (j : ℕ) (r : List D) → NextEnd job S t from → NextWait job S t from j r → ⊥
  not_end j r a b = b.unmet.2 (each_of S b.unmet.0 r b.unmet.1 (a.met j r b.later b.waits))
