-- Flags of the rows to which one leads and whose tasks can run are those of the tasks that can run.
use Rattle.std.proofs.Common.{◌≡◌, ℕ, List, [], Bool, true, false, ◌&&◌, cond, not, slice_get, refl, ap, sym, ◌∙◌, subst, ◌⊎◌, inl, inr, Option, Some}
use Rattle.std.proofs.Common.{None}
use Rattle.std.specs.Option.{option_map_or}
use Rattle.sky_base.specs.declared.object.TaskId.{TaskId}
use Rattle.ciel_journal.specs.Graph.{Led, Runnable, root}
use Rattle.ciel_want.specs.Search.{LedTo}
use Rattle.ciel_table.specs.Seen.{TableSeen, find}
use Rattle.ciel_want.specs.Board.{IsFlagged, blockers_of, can_run_test, is_none, is_set, leads, never, task_at, task_row}
use Rattle.ciel_want.specs.Marked.{Flagged}
use Rattle.ciel_want.specs.Waited.{Whole, graph, is_in, needs}
use Rattle.ciel_want.proofs.ReachedRows.{at_own, led_row, row_led}
use Rattle.ciel_want.proofs.RunnableTasks.{runs_test, test_runs}

module _ {P : Type 0} (main : List ℕ) (t : TableSeen P) (out : List TaskId) where
  -- a task can run where it isn't out and leads nowhere
  pub leads_test : (from : Option ℕ) → not (is_in out (task_at t from)) && is_none (leads t main out from) ≡ can_run_test main t out (task_at t from)
  leads_test from = turn (is_in out (task_at t from))
    where
      turn : (b : Bool) → not b && is_none (cond b [] (blockers_of t (needs main t (task_at t from)))) ≡ not b
          && is_none (blockers_of t (needs main t (task_at t from)))
      turn true = refl
      turn false = refl

  module _ (whole : Whole main t) (ready : List Bool) (asked : Bool)
      (is : (e : ℕ) → LedTo (leads t main out) never e → slice_get ready e ≡ Some (can_run_test main t out (task_at t (Some e))))
      (only : (e : ℕ) → Flagged ready e → LedTo (leads t main out) never e) (at_root : asked ≡ can_run_test main t out TaskId.Show) where
    pub flagged_runs : (task : TaskId) → IsFlagged t ready asked task → Runnable (graph main t out) task
    flagged_runs task (inl s) =
        subst (Runnable (graph main t out)) (sym s.0) (test_runs main t whole out TaskId.Show root (sym at_root ∙ s.1))
    flagged_runs TaskId.Show (inr h) = cc
    flagged_runs (TaskId.Of m) (inr h) = turn (find m t) refl h
      where
        flag : (o : Option Bool) → option_map_or (λ b. b) o false ≡ true → o ≡ Some true
        flag None e = cc
        flag (Some true) e = refl
        flag (Some false) e = cc

        same : (b : Bool) → Some b ≡ Some true → b ≡ true
        same b e = cc

        turn : (o : Option ℕ) → find m t ≡ o → is_set ready o ≡ true → Runnable (graph main t out) (TaskId.Of m)
        turn None q k = cc
        turn (Some e) q k =
            let f : Flagged ready e = flag (slice_get ready e) k in
            let l = only e f in
            let s = row_led main t out e l in
            let a : task_at t (Some e) ≡ TaskId.Of m = at_own main t out m e q in
            let led = subst (Led (graph main t out)) (sym (at_own main t out s.task e s.own) ∙ a) s.led in
            test_runs main t whole out (TaskId.Of m) led
            (subst (λ k. can_run_test main t out k ≡ true) a (same (can_run_test main t out (task_at t (Some e))) (sym (is e l) ∙ f)))

    pub runs_flagged : (task : TaskId) → Runnable (graph main t out) task → IsFlagged t ready asked task
    runs_flagged task r = turn (led_row main t out whole task r.reached).own
      where
        passes : can_run_test main t out task ≡ true
        passes = runs_test main t whole out task r

        turn : ((task ≡ TaskId.Show) ⊎ ((e : ℕ) × (m : List ℕ) × ((led_row main t out whole task r.reached).from ≡ Some e) × (task ≡ TaskId.Of m)
            × (find m t ≡ Some e) × LedTo (leads t main out) never e)) → IsFlagged t ready asked task
        turn (inl s) = inl (s, at_root ∙ subst (λ k. can_run_test main t out k ≡ true) s passes)
        turn (inr x) =
            let a = at_own main t out x.1 x.0 x.4 ∙ sym x.3 in
            inr (ap (λ k. is_set ready (task_row t k)) x.3
            ∙ (ap (is_set ready) x.4
            ∙ ap (λ o. option_map_or (λ b. b) o false) (is x.0 x.5 ∙ ap (λ b. Some b) (ap (can_run_test main t out) a ∙ passes))))
