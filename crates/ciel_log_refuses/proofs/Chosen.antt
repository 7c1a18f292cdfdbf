-- What may come next after the history may come next in the master's state: the Start that the draws choose, and a report.
use Rattle.std.proofs.Common.{◌≡◌, ℕ, ◌+◌, ◌*◌, ◌%◌, ◌≤◌, zero, suc, List, [], ◌∷◌, length, map, nat_eq, true, false, Some, slice_get, ◌⊎◌, inl, inr}
use Rattle.std.proofs.Common.{refl, ap, sym, ◌∙◌, subst}
use Rattle.std.proofs.lemmas.List.{length-map}
use Rattle.std.specs.List.{list_any}
use Rattle.sky_base.specs.declared.object.TaskId.{TaskId}
use Rattle.ciel_journal.specs.Graph.{Picks, Runnable}
use Rattle.ciel_journal.specs.History.{Event, Standing, live, needs as needs_after, standing}
use Rattle.ciel_journal.specs.Job.{Each, In, Task}
use Rattle.ciel_journal.specs.Turns.{Chosen, IsReadyList, Reached, Ready, Rests, Undue, draw, idle, tasks_of}
use Rattle.ciel_journal.proofs.Members.{any_in, bool_cases, each_of, in_any}
use Rattle.ciel_journal.proofs.Picked.{picks_unique}
use Rattle.ciel_journal.proofs.Startable.{ready_listed}
use Rattle.ciel_journal_job.proofs.CleanLists.{in_map, map_in}
use Rattle.ciel_master_board.specs.Board.{Board, board_graph, idle_of}
use Rattle.ciel_master_board.specs.Driving.{CanRun, Picked, Quiet, RestsNow, Runs}
use Rattle.ciel_master_board.specs.Follows.{Follows}
use Rattle.ciel_master_board.specs.Setting.{IsSetting, Setting}
use Rattle.ciel_master_board.specs.Sound.{Sound}
use Rattle.ciel_master_board.proofs.FollowsLemmas.{agrees, apart, informed, known, made, rises, table_holds, traced}
use Rattle.ciel_master_board.proofs.SearchResults.{led_reached, picked_has, reached_book, ready_of, runnable_ready}
use Rattle.ciel_master_board.proofs.SoundLemmas.{same_self}
use Rattle.ciel_master_board.proofs.StartsByName.{idle_same}
use Rattle.ciel_table.specs.Seen.{is_live}
use Rattle.ciel_want.specs.History.{task_id}
use Rattle.ciel_want.specs.Waited.{is_in, same_id, tasks_in_order}
use Rattle.ciel_want.proofs.Listed.{same_exact}

-- where it can be told of each, those that have it can be listed
all_picked : {A : Type 0} (Q : A → Type 0) (xs : List A) → ((x : A) → Q x ⊎ (Q x → ⊥)) → (ts : List A) × Picks Q xs ts
all_picked Q [] d = ([], refl)
all_picked Q (x ∷ xs) d = pick (d x) (all_picked Q xs d)
  where
    pick : (Q x ⊎ (Q x → ⊥)) → ((ts : List _) × Picks Q xs ts) → (ts : List _) × Picks Q (x ∷ xs) ts
    pick (inl q) r = (x ∷ r.0, inl (q, (r.0, refl, r.1)))
    pick (inr n) r = (r.0, inr (n, r.1))

-- what stands at a place of a list stands at that of its images
map_got : {A C : Type 0} (f : A → C) (xs : List A) (i : ℕ) (x : A) → slice_get xs i ≡ Some x → slice_get (map f xs) i ≡ Some (f x)
map_got f [] i x e = cc
map_got f (y ∷ ys) zero x e = let same : y ≡ x = cc in ap (λ z. Some (f z)) same
map_got f (y ∷ ys) (suc i) x e = map_got f ys i x e

module _ {D P B : Type 0} (s : Setting D P B) (is : IsSetting s) (h : List (Event D)) (b : Board P) (sound : Sound s.digest s.at b)
    (runs : Runs s h b) where
  abbrev v : Standing D
  v = standing s.job h

  abbrev f : Follows s h b
  f = runs.follows

  abbrev can_run : TaskId → Type 0
  can_run x = Runnable (board_graph b) x

  -- a ready task can run
  runs_of : (u : Task D) → Ready s.job v u → can_run (task_id s.job u)
  runs_of u r =
      record {
        reached = (agrees s is h b sound f).reached u r.reached;
        not_out = (table_holds s is h b sound f).outs u r.reached ∙ r.not_out;
        met = subst (Each (λ n. is_live n b.table ≡ true)) (sym ((table_holds s is h b sound f).waits u r.reached))
            (each_named (needs_after s.job v u) (λ d j. each_of (λ x. In x v.book) d (needs_after s.job v u) j
            (known s is h b sound f u r.reached)) r.met);
      }
    where
      each_named : (ds : List D) → ((d : D) → In d ds → In d v.book) → Each (λ d. live s.job v d ≡ true) ds
          → Each (λ n. is_live n b.table ≡ true) (map s.job.name ds)
      each_named [] g e = tt
      each_named (d ∷ ds) g e =
          ((table_holds s is h b sound f).lives d (g d (inl refl)) ∙ e.0, each_named ds (λ x j. g x (inr j)) e.1)

  -- the ready tasks are those that can run
  listed : (us : List (Task D)) → IsReadyList s.job v us → (ts : List TaskId) × CanRun b ts × (ts ≡ map (task_id s.job) us)
  listed us ready =
      let all = all_picked can_run (tasks_in_order b.table) decide in
      let back = runnable_ready s is h b sound f all.0 all.1 in
      (all.0, all.1, back.2 ∙ ap (map (task_id s.job)) (picks_unique (Ready s.job v) (tasks_of s.job v.book) back.0 us back.1 ready))
    where
      decide : (x : TaskId) → can_run x ⊎ (can_run x → ⊥)
      decide x = pick (bool_cases (is_in (map (task_id s.job) us) x))
        where
          pick : ((is_in (map (task_id s.job) us) x ≡ true) ⊎ (is_in (map (task_id s.job) us) x ≡ false)) → can_run x ⊎ (can_run x → ⊥)
          pick (inl t) =
              let at = map_in (task_id s.job) x us (any_in same_id same_exact x (map (task_id s.job) us) t) in
              inl (subst can_run at.2 (runs_of at.0 (picked_has (Ready s.job v) (tasks_of s.job v.book) us ready at.0 at.1)))
          pick (inr n) = inr (λ r. clash r (led_reached s is h b sound f x r.reached))
            where
              clash : can_run x → ((u : Task D) × (task_id s.job u ≡ x) × Reached s.job v u) → ⊥
              clash r q =
                  let go = ready_of s is h b sound f q.0 (reached_book s is h b sound f q.0 q.2) (subst can_run (sym q.1) r) in
                  let j = ready_listed s.job is.laws s.inner is.knows v (informed s is h b sound f) us ready q.0 go in
                  let i = subst (λ z. In z (map (task_id s.job) us)) q.1 (in_map (task_id s.job) q.0 us j) in
                  let bad : true ≡ false = sym (in_any same_id same_self x (map (task_id s.job) us) i) ∙ n in
                  cc

  idle_are : idle_of b ≡ idle s.job b.plan v
  idle_are =
      idle_same s is v (informed s is h b sound f) (apart s is h b sound f) (made s is h b sound f) (traced s is h b sound f) (rises s is h b sound f) b sound f.stands
      (known s is h b sound f)

  quiet : Undue s.job b.plan v → Quiet b
  quiet q loss count w d =
      q loss count w (record {
        planned = d.planned;
        reached = subst (λ n. count ≤ n) f.stands.closes d.reached;
        here = subst (λ gs. list_any (nat_eq w) gs ≡ false) f.stands.gone d.here;
      })

  -- where nothing can be started after the history, nothing can be now
  pub rests_now : Rests s.job b.plan v → RestsNow b
  rests_now r = (quiet r.0, pick r.1)
    where
      pick : (IsReadyList s.job v [] ⊎ (idle s.job b.plan v ≡ [])) → CanRun b [] ⊎ (idle_of b ≡ [])
      pick (inl k) = let q = listed [] k in inl (subst (CanRun b) q.2 q.1)
      pick (inr e) = inr (idle_are ∙ e)

  -- the draws choose the same Start
  pub picked_now : (w : ℕ) (t : Task D) → Chosen s.job b.plan v w t → Picked b (task_id s.job t) w
  picked_now w t c =
      let q = listed c.tasks c.ready in
      record {
        quiet = quiet c.nothing_due;
        tasks = map (task_id s.job) c.tasks;
        runnable = subst (CanRun b) q.2 q.1;
        task = subst (λ n. slice_get (map (task_id s.job) c.tasks) (draw b.plan.seed (2 * n) % length (map (task_id s.job) c.tasks)) ≡ Some (task_id s.job t))
            (sym f.stands.starts)
            (subst (λ n. slice_get (map (task_id s.job) c.tasks) (draw b.plan.seed (2 * v.starts) % n) ≡ Some (task_id s.job t))
            (sym (length-map c.tasks (task_id s.job)))
            (map_got (task_id s.job) c.tasks (draw b.plan.seed (2 * v.starts) % length c.tasks) t c.task));
        worker = subst (λ ws. slice_get ws (draw b.plan.seed (2 * b.starts + 1) % length ws) ≡ Some w) (sym idle_are)
            (subst (λ n. slice_get (idle s.job b.plan v) (draw b.plan.seed (2 * n + 1) % length (idle s.job b.plan v)) ≡ Some w) (sym f.stands.starts)
            c.worker);
      }
