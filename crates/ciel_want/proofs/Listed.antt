-- Each reached task stands in the order of tasks.
use Rattle.std.proofs.Common.{◌≡◌, ℕ, List, [], ◌∷◌, Bool, true, false, cond, ◌||◌, refl, ap, sym, ◌∙◌, subst, ◌⊎◌, inl, inr, Option, Some, None}
use Rattle.std.specs.Option.{option_and_then}
use Rattle.sky_base.specs.Val.{same_text}
use Rattle.sky_base.specs.declared.object.TaskId.{TaskId}
use Rattle.sky_base.proofs.Exact.{exact_text}
use Rattle.ciel_journal.specs.Graph.{Led, root, through}
use Rattle.ciel_journal.specs.Job.{In}
use Rattle.ciel_table.specs.Named.{found}
use Rattle.ciel_table.specs.Seen.{TableSeen, is_input, row_name, row_named}
use Rattle.ciel_table.specs.declared.row.Row.{Row}
use Rattle.ciel_table.proofs.Lists.{bool_cases}
use Rattle.ciel_want.specs.Waited.{graph, is_in, made_by, same_id, tasks_after, tasks_in_order, unless}

pub same_exact : (a b : TaskId) → same_id a b ≡ true → a ≡ b
same_exact TaskId.Show TaskId.Show e = refl
same_exact TaskId.Show (TaskId.Of m) e = cc
same_exact (TaskId.Of n) TaskId.Show e = cc
same_exact (TaskId.Of n) (TaskId.Of m) e = ap (λ k. TaskId.Of k) (exact_text n m e)

unless_in : (b : Bool) (x task : TaskId) (rest : List TaskId) → In x rest → In x (unless b task rest)
unless_in true x task rest i = i
unless_in false x task rest i = inr i

module _ {P : Type 0} where
  root_listed : (before : List TaskId) (rs : List (Row P)) → In TaskId.Show (tasks_after before rs)
  root_listed before [] = inl refl
  root_listed before (r ∷ rs) =
      unless_in (is_in before r.task) TaskId.Show r.task (tasks_after (r.task ∷ before) rs) (root_listed (r.task ∷ before) rs)

  task_listed : (before : List TaskId) (rs : List (Row P)) (n : List ℕ) (r : Row P) → found row_name n rs ≡ Some r → is_in before r.task ≡ false
      → In r.task (tasks_after before rs)
  task_listed before [] n r e f = cc
  task_listed before (x ∷ xs) n r e f =
      turn (same_text n x.name) e (λ h k. task_listed (x.task ∷ before) xs n r h k)
    where
      head : x.task ≡ r.task → In r.task (tasks_after before (x ∷ xs))
      head s =
          subst (λ b. In r.task (unless b x.task (tasks_after (x.task ∷ before) xs))) (sym (ap (is_in before) s ∙ f)) (inl (sym s))

      later : found row_name n xs ≡ Some r → ((same_id r.task x.task ≡ true) ⊎ (same_id r.task x.task ≡ false))
          → (is_in (x.task ∷ before) r.task ≡ false → In r.task (tasks_after (x.task ∷ before) xs)) → In r.task (tasks_after before (x ∷ xs))
      later h (inl s) k = head (sym (same_exact r.task x.task s))
      later h (inr s) k =
          unless_in (is_in before x.task) r.task x.task (tasks_after (x.task ∷ before) xs) (k (ap (λ b. b || is_in before r.task) s ∙ f))

      turn : (b : Bool) → cond b (Some x) (found row_name n xs) ≡ Some r
          → (found row_name n xs ≡ Some r → is_in (x.task ∷ before) r.task ≡ false → In r.task (tasks_after (x.task ∷ before) xs))
          → In r.task (tasks_after before (x ∷ xs))
      turn true h rec = let s : x ≡ r = cc in head (ap (λ (y : Row P). y.task) s)
      turn false h rec = later h (bool_cases (same_id r.task x.task)) (rec h)

  pub led_listed : (main : List ℕ) (t : TableSeen P) (out : List TaskId) (task : TaskId) → Led (graph main t out) task → In task (tasks_in_order t)
  led_listed main t out task (root) = root_listed (TaskId.Show ∷ []) t.rows
  led_listed main t out task (through l o n i v k) = row (row_named n t) refl k
    where
      made : (r : Row P) → row_named n t ≡ Some r → r.task ≡ task → (x : TaskId) → r.task ≡ x → In task (tasks_in_order t)
      made r q s TaskId.Show y =
          subst (λ z. In z (tasks_in_order t)) (sym y ∙ s) (root_listed (TaskId.Show ∷ []) t.rows)
      made r q s (TaskId.Of m) y =
          subst (λ z. In z (tasks_in_order t)) s (task_listed (TaskId.Show ∷ []) t.rows n r q (ap (is_in (TaskId.Show ∷ [])) y))

      input : (r : Row P) → row_named n t ≡ Some r → (b : Bool) → cond b None (Some r.task) ≡ Some task → In task (tasks_in_order t)
      input r q true h = cc
      input r q false h = let s : r.task ≡ task = cc in made r q s r.task refl

      row : (o : Option (Row P)) → row_named n t ≡ o → option_and_then (made_by t) o ≡ Some task → In task (tasks_in_order t)
      row None q h = cc
      row (Some r) q h = input r q (is_input r.desc) h
