-- What the answers of the three calls come to.
use Rattle.std.proofs.Common.{◌≡◌, ℕ, List, [], Bool, true, sym, subst, length, slice_get, Option, Some, IfSome, IfNone}
use Rattle.std.specs.List.{IsDistinct}
use Rattle.sky_base.specs.Val.{same_text}
use Rattle.sky_base.specs.declared.object.TaskId.{TaskId}
use Rattle.ciel_journal.specs.Graph.{Circle, Led, Picks, Runnable}
use Rattle.ciel_want.specs.Search.{IsCircle, LedTo, SomeMet}
use Rattle.ciel_table.specs.Seen.{TableSeen}
use Rattle.ciel_want.specs.Board.{IsFlagged, can_run_test, leads, live_at, names_at, never, row_leads, task_at}
use Rattle.ciel_want.specs.Marked.{Flagged}
use Rattle.ciel_want.specs.Waited.{Whole, graph, tasks_in_order}
use Rattle.ciel_want.proofs.Listed.{led_listed}
use Rattle.ciel_want.proofs.PickedLists.{picks_all, picks_none, picks_same}
use Rattle.ciel_want.proofs.ReachedRows.{flagged_led, led_flagged}
use Rattle.ciel_want.proofs.ReadyRows.{flagged_runs, runs_flagged}
use Rattle.ciel_want.proofs.RowCircles.{met_runs, ring_circle, ring_distinct}
use Rattle.ciel_want.proofs.RunnableTasks.{if_none_more, if_some_all, if_some_more, none_of, some_of}

module _ {P : Type 0} (main : List ℕ) (t : TableSeen P) (whole : Whole main t) where
  module _ (out : List TaskId) (flags : List Bool) (all : (e : ℕ) → LedTo (leads t main out) never e → Flagged flags e)
      (only : (e : ℕ) → Flagged flags e → LedTo (leads t main out) never e) (o : List TaskId) (same : out ≡ o) where
    -- the tasks whose flags are set are those that are reached
    pub wanted_picks : (tasks : List TaskId) → Picks (IsFlagged t flags true) (tasks_in_order t) tasks
        → Picks (Led (graph main t o)) (tasks_in_order t) tasks
    wanted_picks tasks p =
        subst (λ x. Picks (Led (graph main t x)) (tasks_in_order t) tasks) same
        (picks_same (IsFlagged t flags true) (Led (graph main t out)) (flagged_led main t out whole flags all only)
        (led_flagged main t out whole flags all only) (tasks_in_order t) tasks p)

  -- and those of whose rows the flags say that they can run are those that can
  pub ready_picks : (out : List TaskId) (ready : List Bool) (root : Bool)
      → ((e : ℕ) → LedTo (leads t main out) never e → slice_get ready e ≡ Some (can_run_test main t out (task_at t (Some e))))
      → ((e : ℕ) → Flagged ready e → LedTo (leads t main out) never e) → root ≡ can_run_test main t out TaskId.Show → (o : List TaskId) → out ≡ o
      → (tasks : List TaskId) → Picks (IsFlagged t ready root) (tasks_in_order t) tasks
      → Picks (Runnable (graph main t o)) (tasks_in_order t) tasks
  ready_picks out ready root is only at_root o same tasks p =
      subst (λ x. Picks (Runnable (graph main t x)) (tasks_in_order t) tasks) same
      (picks_same (IsFlagged t ready root) (Runnable (graph main t out)) (flagged_runs main t out whole ready root is only at_root)
      (runs_flagged main t out whole ready root is only at_root) (tasks_in_order t) tasks p)

  -- ---- circles

  abbrev IsRing : List (List ℕ) → Type 0
  IsRing ns = (es : List ℕ) × IsCircle (row_leads main t) (live_at t) es × (ns ≡ names_at t es)

  pub ring_is : (names : Option (List (List ℕ))) → IfSome names IsRing → IfSome names (λ ns. Circle (graph main t []) ns)
  ring_is names h =
      if_some_more IsRing (Circle (graph main t [])) (λ ns r. subst (Circle (graph main t [])) (sym r.2) (ring_circle main t r.0 r.1)) names h

  pub ring_apart : (names : Option (List (List ℕ))) → IfSome names IsRing → IfSome names (λ ns. IsDistinct same_text ns)
  ring_apart names h =
      if_some_more IsRing (IsDistinct same_text) (λ ns r. subst (IsDistinct same_text) (sym r.2) (ring_distinct main t r.0 r.1)) names h

  -- where the list of those that can run is empty, none can
  pub none_runs : (ready : List TaskId) → length ready ≡ 0 → Picks (Runnable (graph main t [])) (tasks_in_order t) ready
      → (names : Option (List (List ℕ))) → IfSome names (λ ns. (task : TaskId) → Runnable (graph main t []) task → ⊥)
  none_runs ready e p names =
      if_some_all (λ ns. (task : TaskId) → Runnable (graph main t []) task → ⊥)
      (λ ns task r. picks_none (Runnable (graph main t [])) (tasks_in_order t)
      (subst (Picks (Runnable (graph main t [])) (tasks_in_order t)) (none_of ready e) p) task (led_listed main t [] task r.reached) r) names

  -- and elsewhere one can
  pub one_runs : (ready : List TaskId) → (length ready ≡ 0 → ⊥) → Picks (Runnable (graph main t [])) (tasks_in_order t) ready → (task : TaskId)
      × Runnable (graph main t []) task
  one_runs ready some p =
      some_of (Runnable (graph main t [])) ready some (picks_all (Runnable (graph main t [])) (tasks_in_order t) ready p)

  -- a task that waits for nothing that isn't live
  pub met_is : (names : Option (List (List ℕ))) → IfNone names (SomeMet (row_leads main t) (live_at t))
      → IfNone names ((task : TaskId) × Runnable (graph main t []) task)
  met_is names h = if_none_more (met_runs main t whole) names h
