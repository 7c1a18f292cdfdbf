-- A task waits for one list at each of its waits.
use Rattle.std.proofs.Common.{◌≡◌, ℕ, zero, suc, ◌+◌, List, ◌++◌, Some, ap, sym, ◌∙◌, slice_get, add_comm}
use Rattle.ciel_journal.specs.Job.{IsJob, Job, Task, WaitOf, waits_in}
use Rattle.ciel_journal.proofs.Circle.{acts_grow, waits_join, get_front}

module _ {D : Type 0} (job : Job D) (laws : IsJob job) where
  -- what was met stays with more fuel
  wait_more : (k n : ℕ) (t : Task D) (j : ℕ) (ds : List D) → slice_get (waits_in (job.acts n t)) j ≡ Some ds
      → slice_get (waits_in (job.acts (k + n) t)) j ≡ Some ds
  wait_more k n t j ds e =
      let p = acts_grow job laws k n t in
      let a : slice_get (waits_in (job.acts n t) ++ waits_in p.0) j ≡ Some ds = get_front _ _ j ds e in
      sym (ap (λ us. slice_get us j) (sym (waits_join (job.acts n t) p.0) ∙ ap waits_in p.1)) ∙ a

  pub wait_unique : (t : Task D) (j : ℕ) (a b : List D) → WaitOf job t j a → WaitOf job t j b → a ≡ b
  wait_unique t zero a b h k = h ∙ sym k
  wait_unique t (suc j) a b h k =
      let x = wait_more k.0 h.0 t j a h.1 in
      let y = wait_more h.0 k.0 t j b k.1 in
      let z : slice_get (waits_in (job.acts (k.0 + h.0) t)) j ≡ slice_get (waits_in (job.acts (h.0 + k.0) t)) j =
      ap (λ n. slice_get (waits_in (job.acts n t)) j) (add_comm k.0 h.0) in
      let q : Some a ≡ Some b = sym x ∙ (z ∙ y) in
      cc
