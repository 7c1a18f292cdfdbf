-- How much work a job is, and how often a history starts and loses.
use Rattle.std.specs.Prelude.{◌≡◌, ℕ, suc, ◌+◌, ◌≤◌, ◌<◌, ◌↔◌, List, [], ◌∷◌, Bool, true, ◌&&◌, nat_eq, Some, slice_get}
use Rattle.std.specs.List.{list_any}
use Rattle.ciel_journal.specs.Job.{Task, Job, In, WaitOf, Needed}
use Rattle.ciel_journal.specs.History.{Event, start, done, saved, missed, lost, same_task}

-- a task, and a wait that it is started from
pub record Slot (D : Type 0) : Type 0 where
  pub task : Task D
  pub from : ℕ

module _ {D : Type 0} (job : Job D) where
  abbrev pub same_slot : Slot D → Slot D → Bool
  same_slot s t = same_task job s.task t.task && nat_eq s.from t.from

  -- the losses of a history
  abbrev pub losses_of : List (Event D) → ℕ
  losses_of [] = 0
  losses_of (start k w t from ∷ es) = losses_of es
  losses_of (done k made copied spawned ∷ es) = losses_of es
  losses_of (saved k j mark refs holds spawned ∷ es) = losses_of es
  losses_of (missed k d loss ∷ es) = losses_of es
  losses_of (lost w closes ∷ es) = suc (losses_of es)

  -- the Starts of a history
  abbrev pub starts_of : List (Event D) → ℕ
  starts_of [] = 0
  starts_of (start k w t from ∷ es) = suc (starts_of es)
  starts_of (done k made copied spawned ∷ es) = starts_of es
  starts_of (saved k j mark refs holds spawned ∷ es) = starts_of es
  starts_of (missed k d loss ∷ es) = starts_of es
  starts_of (lost w closes ∷ es) = starts_of es

  -- each needed task stands in the list with each of its waits, the one before its start included
  abbrev pub Covers : List (Slot D) → Type 0
  Covers slots =
      (t : Task D) (j : ℕ) (ds : List D) → Needed job t → WaitOf job t j ds → (s : Slot D) → s.task ≡ t → s.from ≡ j
      → list_any (same_slot s) slots ≡ true

  abbrev pub total : List (Task D × ℕ) → ℕ
  total [] = 0
  total (x ∷ xs) = suc x.1 + total xs

  -- the work of a job: one for each needed task and one for each of its waits
  pub record Work (m : ℕ) : Type 0 where
    pub tasks : List (Task D × ℕ)
    pub apart : (i j : ℕ) (t : Task D) (a b : ℕ) → slice_get tasks i ≡ Some (t, a) → slice_get tasks j ≡ Some (t, b) → i ≡ j
    pub needed : (t : Task D) → Needed job t ↔ ((k : ℕ) × In (t, k) tasks)
    pub waits : (t : Task D) (k : ℕ) → In (t, k) tasks → (j : ℕ) → 0 < j → (j ≤ k) ↔ ((ds : List D) × WaitOf job t j ds)
    pub sum : total tasks ≡ m
