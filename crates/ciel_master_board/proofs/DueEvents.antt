-- Events that the state follows come in their turns.
use Rattle.std.proofs.Common.{◌≡◌, ℕ, zero, suc, ◌+◌, ◌*◌, ◌%◌, List, [], ◌∷◌, ◌++◌, length, false, map, slice_get, Some, ◌⊎◌, inl, inr, refl, ap}
use Rattle.std.proofs.Common.{sym, ◌∙◌, subst}
use Rattle.std.proofs.lemmas.List.{length-map}
use Rattle.sky_base.specs.declared.object.Named.{Named}
use Rattle.sky_base.specs.declared.object.TaskId.{TaskId}
use Rattle.ciel_journal.specs.Graph.{Runnable}
use Rattle.ciel_journal.specs.History.{Event, OpenStart, Standing, before_all, done, find_open, lost, missed, saved, standing, start}
use Rattle.ciel_journal.specs.Job.{Digest, In, Task}
use Rattle.ciel_journal.specs.Lawful.{Lawful, Step}
use Rattle.ciel_journal.specs.Turns.{Chosen, Driven, FirstDue, IsReadyList, NothingDue, Ready, Rests, Turn, draw, idle, tasks_of}
use Rattle.ciel_journal.proofs.Append.{driven_append, lawful_split}
use Rattle.ciel_journal_job.specs.Report as r
use Rattle.ciel_table.specs.Seen.{last_wait}
use Rattle.ciel_want.specs.History.{task_id}
use Rattle.ciel_want.specs.Waited.{tasks_in_order}
use Rattle.ciel_master_board.specs.Board.{Board, Order, board_graph, find_order, idle_of, wait_number}
use Rattle.ciel_master_board.specs.Driving.{CanRun, Picked, Quiet, RestsNow, Runs, RunsOn}
use Rattle.ciel_master_board.specs.Follows.{Follows, OrderIs}
use Rattle.ciel_master_board.specs.Laws.{LiesUnlessClash, StartedAs, Taken}
use Rattle.ciel_master_board.specs.Moves.{accepted, lost_at, missed_at, started}
use Rattle.ciel_master_board.specs.Reports.{AllLearned, End, report_view}
use Rattle.ciel_master_board.specs.Setting.{IsSetting, Setting}
use Rattle.ciel_master_board.specs.Sound.{MissingFits, Sound}
use Rattle.ciel_master_board.proofs.EventsFollowed.{lost_follows}
use Rattle.ciel_master_board.proofs.FollowsLemmas.{apart, informed, known, made, rises, start_follows, traced}
use Rattle.ciel_master_board.proofs.MissesFollowed.{missed_follows}
use Rattle.ciel_master_board.proofs.SearchResults.{picked_has, reached_book, reached_one, runnable_ready}
use Rattle.ciel_master_board.proofs.StartsByName.{idle_same}
use Rattle.ciel_master_board.proofs.ReportsFollowed.{report_follows}

-- what stands at a place of a list stands in it
pub got_in : {A : Type 0} (xs : List A) (i : ℕ) (x : A) → slice_get xs i ≡ Some x → In x xs
got_in [] i x e = cc
got_in (y ∷ ys) zero x e = let q : y ≡ x = cc in inl (sym q)
got_in (y ∷ ys) (suc i) x e = inr (got_in ys i x e)

-- and is that of what stood there before the change
got_from : {A C : Type 0} (f : A → C) (xs : List A) (i : ℕ) (y : C) → slice_get (map f xs) i ≡ Some y → (x : A) × (slice_get xs i ≡ Some x)
    × (f x ≡ y)
got_from f [] i y e = cc
got_from f (x ∷ xs) zero y e = let q : f x ≡ y = cc in (x, refl, q)
got_from f (x ∷ xs) (suc i) y e = got_from f xs i y e

module _ {D P B : Type 0} (s : Setting D P B) (is : IsSetting s) (h : List (Event D)) (b : Board P) (sound : Sound s.digest s.at b)
    (runs : Runs s h b) where
  abbrev v : Standing D
  v = standing s.job h

  abbrev f : Follows s h b
  f = runs.follows

  -- an event whose turn it is, where the state follows it
  runs_on : (e : Event D) (c : Board P) → c.plan ≡ b.plan → Follows s (h ++ e ∷ []) c → Turn s.job b.plan v e → RunsOn s h c
  runs_on e c p k t =
      let step : Step s.job b.plan v e =
      (lawful_split s.job b.plan (before_all s.job) h (e ∷ []) (subst (λ q. Lawful s.job q (h ++ e ∷ [])) p k.lawful)).1.0 in
      record {
        event = e;
        runs = record {
          follows = k;
          driven = subst (λ q. Driven s.job q (h ++ e ∷ [])) (sym p)
              (driven_append s.job b.plan (before_all s.job) h e runs.driven step t);
        };
      }

  quiet : Quiet b → NothingDue b.plan.losses v.closes v.gone
  quiet q =
      subst (λ n. NothingDue b.plan.losses n v.gone) f.stands.closes (subst (NothingDue b.plan.losses b.closes) f.stands.gone q)

  idle_are : idle_of b ≡ idle s.job b.plan v
  idle_are =
      idle_same s is v (informed s is h b sound f) (apart s is h b sound f) (made s is h b sound f) (traced s is h b sound f) (rises s is h b sound f) b sound f.stands
      (known s is h b sound f)

  rests : RestsNow b → Rests s.job b.plan v
  rests q = (quiet q.0, pick q.1)
    where
      pick : (CanRun b [] ⊎ (idle_of b ≡ [])) → IsReadyList s.job v [] ⊎ (idle s.job b.plan v ≡ [])
      pick (inr e) = inr (sym idle_are ∙ e)
      pick (inl c) =
          let k = runnable_ready s is h b sound f [] c in
          inl (subst (IsReadyList s.job v) (none k.0 k.2) k.1)
        where
          none : (us : List (Task D)) → [] ≡ map (task_id s.job) us → us ≡ []
          none [] e = refl
          none (u ∷ us) e = cc

  pub start_runs : b.stopped ≡ false → (x : TaskId) (w : ℕ) → Picked b x w → RunsOn s h (started s.at b x w)
  start_runs going x w p =
      let run : Runnable (board_graph b) x = picked_has (Runnable (board_graph b)) (tasks_in_order b.table) p.tasks p.runnable x
      (got_in p.tasks (draw b.plan.seed (2 * b.starts) % length p.tasks) x p.task) in
      let a = start_follows s is h b sound f going x w run
      (got_in (idle_of b) (draw b.plan.seed (2 * b.starts + 1) % length (idle_of b)) w p.worker) in
      runs_on (start b.starts w a.task (wait_number (last_wait x b.table))) (started s.at b x w) refl a.follows (turn a)
    where
      turn : (a : StartedAs s h b x w) → Chosen s.job b.plan v w a.task
      turn a =
          let k = runnable_ready s is h b sound f p.tasks p.runnable in
          let long : length p.tasks ≡ length k.0 = ap length k.2 ∙ length-map k.0 (task_id s.job) in
          let at : slice_get (map (task_id s.job) k.0) (draw b.plan.seed (2 * v.starts) % length k.0) ≡ Some x =
          subst (λ ts. slice_get ts (draw b.plan.seed (2 * v.starts) % length k.0) ≡ Some x) k.2
          (subst (λ n. slice_get p.tasks (draw b.plan.seed (2 * v.starts) % n) ≡ Some x) long
          (subst (λ n. slice_get p.tasks (draw b.plan.seed (2 * n) % length p.tasks) ≡ Some x) f.stands.starts p.task)) in
          let q = got_from (task_id s.job) k.0 (draw b.plan.seed (2 * v.starts) % length k.0) x at in
          let ready : Ready s.job v q.0 = picked_has (Ready s.job v) (tasks_of s.job v.book) k.0 k.1 q.0
          (got_in k.0 (draw b.plan.seed (2 * v.starts) % length k.0) q.0 q.1) in
          let same : q.0 ≡ a.task = reached_one s is h b sound f q.0 a.task (reached_book s is h b sound f q.0 ready.reached)
          (reached_book s is h b sound f a.task a.reached) (q.2 ∙ sym a.is) in
          record {
            nothing_due = quiet p.quiet;
            tasks = k.0;
            ready = k.1;
            task = q.1 ∙ ap (λ z. Some z) same;
            worker = subst (λ ws. slice_get ws (draw b.plan.seed (2 * v.starts + 1) % length ws) ≡ Some w) idle_are
                (subst (λ n. slice_get (idle_of b) (draw b.plan.seed (2 * n + 1) % length (idle_of b)) ≡ Some w) f.stands.starts p.worker);
          }

  -- a report comes where nothing can be started
  pub report_runs : b.stopped ≡ false → RestsNow b → (x : Order P) (o : OpenStart D) (k : ℕ) (spawned : List Named) (end : End P)
      → Taken s h b x o k spawned end → (r.IsMissing (report_view k spawned end).end → ⊥) → AllLearned s.digest spawned b.table
      → LiesUnlessClash s h b.plan o k spawned end → RunsOn s h (accepted s.digest s.at b x.out spawned end)
  report_runs going rest x o k spawned end taken none all lies =
      let a = report_follows s is h b sound f x o k spawned end taken going all none lies in
      runs_on a.event (accepted s.digest s.at b x.out spawned end) (plan_same end) a.follows (turn a.event a.tells)
    where
      plan_same : (e : End P) → (accepted s.digest s.at b x.out spawned e).plan ≡ b.plan
      plan_same (End.made ms cs) = refl
      plan_same (End.saved q) = refl
      plan_same (End.missing name loss) = refl

      turn : (e : Event D) → r.report_of s.job s.inner s.lower e ≡ Some (report_view k spawned end) → Turn s.job b.plan v e
      turn (start l w t from) q = cc
      turn (lost w n) q = cc
      turn (done l ms cs sp) q = rests rest
      turn (saved l j m rs hs sp) q = rests rest
      turn (missed l d n) q = rests rest

  pub missed_runs : b.stopped ≡ false → RestsNow b → (x : Order P) (o : OpenStart D) (k : ℕ) → find_order k b.orders ≡ Some x.out
      → find_open s.job k v.orders ≡ Some o → OrderIs s o x → (name : Digest) (loss : ℕ) → MissingFits s.digest s.at b x name loss
      → RunsOn s h (missed_at s.digest b x.out name loss)
  missed_runs going rest x o k is_out is_open order name loss fits =
      let a = missed_follows s is h b sound f x o k is_out is_open order going name loss fits in
      runs_on (missed x.out.number a.what loss) (missed_at s.digest b x.out name loss) refl a.follows (rests rest)

  pub loss_runs : b.stopped ≡ false → (w loss : ℕ) → FirstDue b.plan.losses b.closes b.table.gone loss w → RunsOn s h (lost_at s.at w b)
  loss_runs going w loss d =
      runs_on (lost w b.closes) (lost_at s.at w b) refl
      (lost_follows s is h b sound f going w loss d.count d.due.here d.due.planned d.due.reached) (
        loss,
        subst (λ n. FirstDue b.plan.losses n v.gone loss w) f.stands.closes
            (subst (λ gs. FirstDue b.plan.losses b.closes gs loss w) f.stands.gone d),
      )
