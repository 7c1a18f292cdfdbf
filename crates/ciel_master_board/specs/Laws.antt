-- The laws of the master's state beside a history.
use Rattle.std.specs.Prelude.{◌≡◌, ℕ, ◌≤◌, List, [], ◌∷◌, ◌++◌, false, Some, nat_eq, map, slice_get}
use Rattle.std.specs.List.{list_any}
use Rattle.sky_base.specs.Name.{canon}
use Rattle.sky_base.specs.Val.{no_pairs, no_vals}
use Rattle.sky_base.specs.declared.object.Desc1.{Desc1}
use Rattle.sky_base.specs.declared.object.Named.{Named}
use Rattle.sky_base.specs.declared.object.TaskId.{TaskId}
use Rattle.ciel_journal.specs.Graph.{Circle, Led, Picks, Runnable}
use Rattle.ciel_journal.specs.History.{Event, OpenStart, Plan, after, find_open, lost, missed, order_of, standing, start}
use Rattle.ciel_journal.specs.Job.{Digest, Each, In, Never, Task}
use Rattle.ciel_journal.specs.Journals.{CircleOf}
use Rattle.ciel_journal.specs.Turns.{IsReadyList, Reached}
use Rattle.ciel_journal.specs.Lawful.{Allowed, Copied, NoClash}
use Rattle.ciel_journal.specs.Segment as segment
use Rattle.ciel_journal_job.specs.Report as r
use Rattle.ciel_table.specs.Seen.{last_wait}
use Rattle.ciel_table.specs.declared.refusal.Learn.{Learn}
use Rattle.ciel_want.specs.History.{Holds, task_id}
use Rattle.ciel_want.specs.Waited.{Whole, tasks_in_order}
use Rattle.ciel_master_board.specs.Board.{Board, Order, OrderOut, board_graph, find_order, idle_of, tasks_out, wait_number}
use Rattle.ciel_master_board.specs.Moves.{accepted, lost_at, missed_at, opened, order_for, started}
use Rattle.ciel_master_board.specs.Reports.{AllLearned, Copy, End, FirstRefused, IsNamed, Output, made, missing, named_view, report_view, saved}
use Rattle.ciel_master_board.specs.Sound.{Fits, MissingFits, Sound}
use Rattle.ciel_master_board.specs.Setting.{HasObject, HasState, IsSetting, Setting}
use Rattle.ciel_master_board.specs.Follows.{Follows, OrderIs}

module _ {D P B : Type 0} (s : Setting D P B) where
  -- ---- what a report's places hold

  -- the object of each output lies at the place beside its name, and that of each copy too
  abbrev pub OutputLies : OpenStart D → Output P → Type 0
  OutputLies o m = (d : D) → In d (s.job.outputs o.task) → m.name ≡ s.job.name d → HasObject s m.place d

  abbrev pub CopyLies : OpenStart D → Copy P → Type 0
  CopyLies o c = (d : D) → Copied s.job o d → c.name ≡ s.job.name d → HasObject s c.place d

  abbrev pub Lies : OpenStart D → End P → Type 0
  Lies o (made ms cs) = Each (OutputLies o) ms × Each (CopyLies o) cs
  Lies o (saved q) = HasState s q.place o.task q.j
  Lies o (missing name loss) = Unit {0}

  -- so it is, unless two descriptions share a name
  abbrev pub LiesUnlessClash : List (Event D) → Plan → OpenStart D → ℕ → List Named → End P → Type 0
  LiesUnlessClash h p o k spawned end =
      (e : Event D) → r.report_of s.job s.inner s.lower e ≡ Some (report_view k spawned end) → Allowed s.job p (standing s.job h) e
      → NoClash s.job (after s.job (standing s.job h) e).book → Lies o end

  -- ---- what follows

  -- a task of this name was started, and the master's state follows
  pub record StartedAs (h : List (Event D)) (b : Board P) (x : TaskId) (w : ℕ) : Type 0 where
    pub task : Task D
    pub is : task_id s.job task ≡ x
    pub reached : Reached s.job (standing s.job h) task
    pub follows : Follows s (h ++ start b.starts w task (wait_number (last_wait x b.table)) ∷ []) (started s.at b x w)
    pub order : OrderIs s (order_of s.job (standing s.job h) b.starts w task (wait_number (last_wait x b.table))) (order_for s.at b x w)

  -- an event that the report tells, which the master's state follows
  pub record AcceptedAs (h : List (Event D)) (b : Board P) (x : OrderOut) (k : ℕ) (spawned : List Named) (end : End P) : Type 0 where
    pub event : Event D
    pub tells : r.report_of s.job s.inner s.lower event ≡ Some (report_view k spawned end)
    pub follows : Follows s (h ++ event ∷ []) (accepted s.digest s.at b x spawned end)

  -- what is missing has this name, and the master's state follows
  pub record MissedAs (h : List (Event D)) (b : Board P) (x : OrderOut) (name : Digest) (loss : ℕ) : Type 0 where
    pub what : D
    pub is : s.job.name what ≡ name
    pub follows : Follows s (h ++ missed x.number what loss ∷ []) (missed_at s.digest b x name loss)

  -- two descriptions with these canonical bytes, of which an open Start makes the second next, where the first is known
  pub record ClashIs (h : List (Event D)) (kept given : List ℕ) : Type 0 where
    pub first : D
    pub second : D
    pub is_kept : canon (s.lower first) ≡ kept
    pub is_given : canon (s.lower second) ≡ given
    pub clashes : segment.Clashes s.job (standing s.job h) first second

  -- a description that an open Start makes next, where so many are known
  pub record OverflowIs (h : List (Event D)) (held : ℕ) (given : Named) : Type 0 where
    pub next : D
    pub is_given : s.lower next ≡ named_view given
    pub overflows : segment.Overflows s.job (standing s.job h) held next

  -- ---- the premises of a report

  -- the report of an order that is out, which fits it and says what the job does from the order's open Start on
  pub record Taken (h : List (Event D)) (b : Board P) (x : Order P) (o : OpenStart D) (k : ℕ) (spawned : List Named) (end : End P) : Type 0 where
    pub is_out : find_order k b.orders ≡ Some x.out
    pub is_open : find_open s.job k (standing s.job h).orders ≡ Some o
    pub fits : Fits s.digest s.at b x spawned end
    pub says : r.Says s.job s.inner s.lower o (report_view k spawned end)

module _ (P : Type 0) where
  -- said of every state that is sound, whatever the digest and wherever places are
  abbrev OfSound : ((digest : List ℕ → List ℕ) → (P → ℕ) → Board P → Type 0) → Type 0
  OfSound Q =
      (digest : List ℕ → List ℕ) (at : P → ℕ) (b : Board P) → Sound digest at b → Q digest at b

  -- the state at the beginning is sound, where there is room for the main call
  abbrev pub OpenedIsSound : Type 0
  OpenedIsSound =
      (digest : List ℕ → List ℕ) (at : P → ℕ) (p : Plan) (keys : List (List ℕ)) (main : Named)
      → 1 ≤ p.limit → IsNamed digest main → main.desc ≡ Desc1.Call [] no_pairs no_vals → Sound digest at (opened digest p keys main)

  -- what is asked of a table that is searched holds of its table
  abbrev pub SoundIsWhole : Type 0
  SoundIsWhole = OfSound (λ digest at b. Whole b.main b.table)

  -- it stays so after a start, after a report that fits, and after a loss
  abbrev pub StartIsSound : Type 0
  StartIsSound =
      OfSound (λ digest at b. (x : TaskId) (w : ℕ) → Runnable (board_graph b) x → In w (idle_of b) → Sound digest at (started at b x w))

  abbrev pub ReportIsSound : Type 0
  ReportIsSound =
      OfSound (λ digest at b. (x : Order P) (k : ℕ) → find_order k b.orders ≡ Some x.out
      → (spawned : List Named) (end : End P) → Fits digest at b x spawned end → AllLearned digest spawned b.table
      → Sound digest at (accepted digest at b x.out spawned end))

  abbrev pub LossIsSound : Type 0
  LossIsSound = OfSound (λ digest at b. (w : ℕ) → Sound digest at (lost_at at w b))

module _ (D P B : Type 0) where
  -- said of each setting, of each history, and of each sound state that follows it and hasn't stopped
  abbrev OfFollowed : ((s : Setting D P B) → List (Event D) → Board P → Type 0) → Type 0
  OfFollowed Q =
      (s : Setting D P B) → IsSetting s → (h : List (Event D)) (b : Board P)
      → Sound s.digest s.at b → Follows s h b → b.stopped ≡ false → Q s h b

  -- the state at the beginning follows the empty history
  abbrev pub OpenedFollows : Type 0
  OpenedFollows =
      (s : Setting D P B) → IsSetting s → (p : Plan) (main : Named) → IsNamed s.digest main → s.lower s.job.main ≡ named_view main
      → Follows s [] (opened s.digest p s.keys main)

  -- the table holds what stands
  abbrev pub TableHolds : Type 0
  TableHolds = OfFollowed (λ s h b. Holds s.job (standing s.job h) b.main b.table (tasks_out b.orders))

  -- a task that can run, started at an idle worker, is started
  abbrev pub StartFollows : Type 0
  StartFollows =
      OfFollowed (λ s h b. (x : TaskId) (w : ℕ) → Runnable (board_graph b) x → In w (idle_of b) → StartedAs s h b x w)

  -- a report that is learned whole is that of an event
  abbrev pub ReportFollows : Type 0
  ReportFollows =
      OfFollowed (λ s h b. (x : Order P) (o : OpenStart D) (k : ℕ) (spawned : List Named) (end : End P)
      → Taken s h b x o k spawned end → (r.IsMissing (report_view k spawned end).end → ⊥)
      → AllLearned s.digest spawned b.table → LiesUnlessClash s h b.plan o k spawned end
      → AcceptedAs s h b x.out k spawned end)

  -- one that is missing is too, where it fits
  abbrev pub MissedFollows : Type 0
  MissedFollows =
      OfFollowed (λ s h b. (x : Order P) (o : OpenStart D) (k : ℕ) → find_order k b.orders ≡ Some x.out
      → find_open s.job k (standing s.job h).orders ≡ Some o → OrderIs s o x
      → (name : Digest) (loss : ℕ) → MissingFits s.digest s.at b x name loss → MissedAs s h b x.out name loss)

  -- a clash is one of the job's
  abbrev pub ClashFollows : Type 0
  ClashFollows =
      OfFollowed (λ s h b. (x : Order P) (o : OpenStart D) (k : ℕ) (spawned : List Named) (end : End P)
      → Taken s h b x o k spawned end
      → (given : Named) (kept bytes : List ℕ) → FirstRefused s.digest spawned b.table given (Learn.Clash kept bytes)
      → ClashIs s h kept bytes)

  -- a description for which there is no room is one too many of the job's
  abbrev pub OverflowFollows : Type 0
  OverflowFollows =
      OfFollowed (λ s h b. (x : Order P) (o : OpenStart D) (k : ℕ) (spawned : List Named) (end : End P)
      → Taken s h b x o k spawned end
      → (given : Named) (held : ℕ) → FirstRefused s.digest spawned b.table given (Learn.Full held)
      → (held ≡ b.plan.limit) × OverflowIs s h held given)

  -- ---- what can go on

  -- the tasks that can run are the ready ones, in their order
  abbrev pub RunnableIsReady : Type 0
  RunnableIsReady =
      OfFollowed (λ s h b. (ts : List TaskId) → Picks (Runnable (board_graph b)) (tasks_in_order b.table) ts
      → (us : List (Task D)) × IsReadyList s.job (standing s.job h) us × (ts ≡ map (task_id s.job) us))

  -- what is reached is reached after the history, so a task that follows another one is
  abbrev pub LedIsReached : Type 0
  LedIsReached =
      OfFollowed (λ s h b. (x : TaskId) → Led (board_graph b) x → (u : Task D) × (task_id s.job u ≡ x) × Reached s.job (standing s.job h) u)

  -- where nothing is out, a circle of the table is one of the journal, which means that the job has no answer
  abbrev pub CircleFollows : Type 0
  CircleFollows =
      OfFollowed (λ s h b. b.orders ≡ [] → (ns : List Digest) → Circle (board_graph b) ns
      → CircleOf s.job b.plan b.journal ns × Never s.job)

  -- a loss that is planned and due
  abbrev pub LostFollows : Type 0
  LostFollows =
      OfFollowed (λ s h b. (w loss count : ℕ) → list_any (nat_eq w) b.table.gone ≡ false
      → slice_get b.plan.losses loss ≡ Some (count, w) → count ≤ b.closes
      → Follows s (h ++ lost w b.closes ∷ []) (lost_at s.at w b))
