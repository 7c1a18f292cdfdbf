-- The outputs of a task of the job: as many as the description of its order says, each allowed by the job; and the tasks that can wait.
use Rattle.std.proofs.Common.{◌≡◌, ◌+◌, ℕ, zero, suc, List, Bool, true, false, Option, Some, None, length, ◌⊎◌, inl, inr, nat_lt, arith}
use Rattle.std.proofs.Common.{refl, sym, ap, ◌∙◌, subst}
use Rattle.sky_base.specs.Eval.{outputs}
use Rattle.sky_base.specs.KitView.{Gives}
use Rattle.sky_base.specs.Needed as n
use Rattle.sky_base.specs.See as s
use Rattle.sky_base.specs.Val.{Val, call, input, known, out}
use Rattle.sky_base.specs.View.{view}
use Rattle.sky_base.specs.declared.object.Desc1.{Desc1}
use Rattle.sky_base_law.specs.Sound.{SoundDesc, SoundTask}
use Rattle.sky_base_law.specs.Tasks as t
use Rattle.sky_base_law.proofs.SoundJobs.{needed_sound}
use Rattle.ciel_journal.specs.Job.{In, Job, Needed, Task, of, show}
use Rattle.ciel_journal_job.proofs.AlikeLaw.{is_one, needed_to}
use Rattle.ciel_journal_job.specs.Real.{back}
use Rattle.ciel_master_board.specs.Follows.{GoesBy}
use Rattle.ciel_master_law.specs.Ends.{IsOrderly}
use Rattle.ciel_master_safe.specs.Reports.{names_from, outputs_of}
use Rattle.ciel_task_order.specs.Named.{frozen_mark, mark_of, name_of}
use Rattle.ciel_log_model.proofs.Books.{J, S}
use Rattle.ciel_log_model.proofs.Spawned.{around, reads}

module _ (digest : List ℕ → List ℕ) where
  names_long : (x : List ℕ) (a : Val (List ℕ)) (n k m : ℕ) → length (names_from digest x a n k m) ≡ m
  names_long x a n k zero = refl
  names_long x a n k (suc m) = ap suc (names_long x a n (suc k) m)

outputs_long : (x : List ℕ) (a : s.Val) (n k m : ℕ) → length (outputs x a n k m) ≡ m
outputs_long x a n k zero = refl
outputs_long x a n k (suc m) = ap suc (outputs_long x a n (suc k) m)

module _ (digest : List ℕ → List ℕ) (job : s.Job) (gives : Gives) (orderly : IsOrderly digest job gives) where
  abbrev the : Job s.Desc
  the = J digest job gives orderly

  Goes : Task s.Desc → Option Desc1 → Type 0
  Goes u e = GoesBy (S digest job gives orderly) u e

  -- an output of an executor whose task is another one's own isn't a task's name
  own_only : (x : List ℕ) (v : s.Val) (m i : ℕ) → (d : s.Desc) → t.maker d ≡ Some (n.Task.of (out x v m (suc i))) → ⊥
  own_only x v m i (call f c vs) e = cc
  own_only x v m i (out y w k j) e = go (nat_lt j k) e
    where
      go : (b : Bool) → n.only_if b (Some (n.Task.of (out y w k 0))) ≡ Some (n.Task.of (out x v m (suc i))) → ⊥
      go true q = cc
      go false q = cc
  own_only x v m i (input y) e = cc
  own_only x v m i (known z) e = absurd z

  is_own : (x : List ℕ) (v : s.Val) (m i : ℕ) → Needed the (of (out x v m (suc i))) → ⊥
  is_own x v m i need = pick (is_one job (around digest job gives orderly) (name_of digest) (mark_of digest) (frozen_mark digest) (of (out x v m (suc i))) need)
    where
      pick : (n.Task.of (out x v m (suc i)) ≡ n.Task.show) ⊎ ((d : s.Desc) × (t.maker d ≡ Some (n.Task.of (out x v m (suc i))))) → ⊥
      pick (inl e) = cc
      pick (inr (d, e)) = own_only x v m i d e

  pub outputs_count : (u : Task s.Desc) → Needed the u → (e : Option Desc1) → GoesBy (S digest job gives orderly) u e
      → length (the.outputs u) ≡ length (outputs_of digest e)
  outputs_count show need None g = refl
  outputs_count show need (Some e) g = absurd g
  outputs_count (of d) need None g = absurd g
  outputs_count (of (call f c vs)) need (Some (Desc1.Call g k ws)) e = refl
  outputs_count (of (call f c vs)) need (Some (Desc1.Exec y a m i)) e = cc
  outputs_count (of (call f c vs)) need (Some (Desc1.Input y)) e = cc
  outputs_count (of (out x v m zero)) need (Some (Desc1.Call g k ws)) e = cc
  outputs_count (of (out x v m zero)) need (Some (Desc1.Exec y a k i)) e =
      let same : m ≡ k = cc in outputs_long x v m 0 m ∙ (same ∙ sym (names_long digest y (view a) k 0 k))
  outputs_count (of (out x v m zero)) need (Some (Desc1.Input y)) e = cc
  outputs_count (of (out x v m (suc i))) need (Some y) e = absurd (is_own x v m i need)
  outputs_count (of (input y)) need (Some (Desc1.Call g k ws)) e = cc
  outputs_count (of (input y)) need (Some (Desc1.Exec z a k i)) e = cc
  outputs_count (of (input y)) need (Some (Desc1.Input z)) e = refl
  outputs_count (of (known z)) need (Some y) e = absurd z

  -- each output of a sound task is sound
  each_out : (x : List ℕ) (v : s.Val) (m i : ℕ) → SoundDesc job.script (out x v m i) → (k c : ℕ) → k + c ≡ m → (d : s.Desc) → In d (outputs x v m k c)
      → SoundDesc job.script d
  each_out x v m i h k zero e d there = absurd there
  each_out x v m i h k (suc c) e d (inl same) =
      subst (SoundDesc job.script) (sym same) (h.0, h.1, h.2, omega (arith, e), h.4)
  each_out x v m i h k (suc c) e d (inr more) = each_out x v m i h (suc k) c (omega (arith, e)) d more

  pub task_sound : (u : Task s.Desc) → Needed the u → SoundTask job.script (back u)
  task_sound u need =
      needed_sound job (around digest job gives orderly) (reads digest job gives orderly) (back u)
      (needed_to job (around digest job gives orderly) (name_of digest) (mark_of digest) (frozen_mark digest) u need)

  pub outputs_sound : (u : Task s.Desc) → Needed the u → (d : s.Desc) → In d (the.outputs u) → SoundDesc job.script d
  outputs_sound u need d i = go u (task_sound u need) d i
    where
      go : (u : Task s.Desc) → SoundTask job.script (back u) → (d : s.Desc) → In d (the.outputs u) → SoundDesc job.script d
      go show h d i = absurd i
      go (of (call f c vs)) h d (inl e) = subst (SoundDesc job.script) (sym e) h
      go (of (call f c vs)) h d (inr w) = absurd w
      go (of (out x v m zero)) h d i = each_out x v m 0 h 0 m (omega arith) d i
      go (of (out x v m (suc j))) h d i = absurd i
      go (of (input y)) h d i = absurd i
      go (of (known z)) h d i = absurd z
