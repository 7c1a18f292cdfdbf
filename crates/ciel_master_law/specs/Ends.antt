-- What the turns and the ends of a shop's run say of the job that its script means.
use Rattle.std.specs.Prelude.{◌≡◌, ℕ, ◌≤◌, List, length, false, true, Option, Some, nat_eq, slice_get, ◌⊎◌}
use Rattle.std.specs.List.{list_any}
use Rattle.sky_base.specs.KitView.{Gives}
use Rattle.sky_base.specs.Needed as n
use Rattle.sky_base.specs.See as s
use Rattle.sky_base.specs.declared.object.TaskId.{TaskId}
use Rattle.sky_base_law.specs.Tasks as t
use Rattle.sky_parse_law.specs.Orderly.{Orderly}
use Rattle.sky_machine_show.specs.Shows.{shown_view}
use Rattle.sky_state.specs.declared.shown.Shown.{Shown}
use Rattle.ciel_journal.specs.Entries.{Entry}
use Rattle.ciel_journal.specs.History.{Event, Plan}
use Rattle.ciel_journal.specs.Job.{Digest, In}
use Rattle.ciel_journal.specs.Journals.{CircleOf}
use Rattle.ciel_json.specs.Around.{json_around}
use Rattle.ciel_master_board.specs.Board.{Board}
use Rattle.ciel_master_board.specs.Driving.{RestsNow, Runs}
use Rattle.ciel_master_board.specs.Moves.{accepted}
use Rattle.ciel_master_board.specs.Reports.{AllLearned}
use Rattle.ciel_master_board.specs.Setting.{IsSetting}
use Rattle.ciel_master_board.specs.Sound.{MissingFits, Sound}
use Rattle.ciel_store.specs.Seen.{SeatSeen}
use Rattle.ciel_store.specs.declared.loss.Loss.{Loss}
use Rattle.ciel_task_order.specs.Named.{name_of}
use Rattle.ciel_task_order.specs.Performs.{HasRows, IsMissed, IsMissing, Performs, the_shop}
use Rattle.ciel_task_order.specs.Views.{P, order_view, report_end}
use Rattle.ciel_task_order.specs.declared.order.Order.{Order}
use Rattle.ciel_task_order.specs.declared.report.End.{End}
use Rattle.ciel_task_order.specs.declared.report.Report.{Report}
use Rattle.ciel_master_board.specs.Ends.{Modest}
use Rattle.ciel_master_board.specs.TurnsLaws.{IsOut, Promised, RunEnded}

-- the worker of a place
abbrev pub worker_of : P → ℕ
worker_of p = p.worker

-- something is missing, whatever was reported before, where the plan has that loss and its worker is lost
abbrev pub MissedFits : (List ℕ → List ℕ) → Type 0
MissedFits digest =
    (b : Board P) (order : Order) → order.main ≡ b.main → (name : Digest) (loss : Loss) (seen : Option SeatSeen)
    → IsMissed digest order name loss seen → (count : ℕ) → slice_get b.plan.losses loss.number ≡ Some (count, loss.worker)
    → list_any (nat_eq loss.worker) b.table.gone ≡ true → MissingFits digest worker_of b (order_view order) name loss.number

module _ (digest : List ℕ → List ℕ) (job : s.Job) (gives : Gives) where
  -- the functions of the job's script are orderly
  abbrev pub IsOrderly : Type 0
  IsOrderly = t.Each Orderly job.script.funs

  -- the main call, or made by a needed task
  abbrev pub MadeBy : s.Desc → Type 0
  MadeBy d =
      (d ≡ s.main_call)
      ⊎ ((u : n.Task) × n.Needed job (json_around gives) u × (k : ℕ) × t.In d (t.made_in (t.acts_of job (json_around gives) k u)))

  -- the job means an answer, and the main call and what its needed tasks make are no more descriptions than so many, no two of which
  -- share a name
  pub record IsModest (limit : ℕ) : Type 0 where
    pub answer : s.Answered
    pub means : s.Means job (json_around gives) answer
    pub all : List s.Desc
    pub made : (d : s.Desc) → MadeBy d → In d all
    pub few : length all ≤ limit
    pub apart : (d e : s.Desc) → In d all → In e all → name_of digest d ≡ name_of digest e → d ≡ e

  -- ---- the laws

  -- the job of a shop is all that the master's laws ask of a job
  abbrev pub ShopIsSetting : Type 0
  ShopIsSetting = IsOrderly → IsSetting (the_shop digest job gives)

  -- said of each run of it, of each sound state after it that hasn't stopped, and of each order that is out and whose rows it has
  abbrev pub OfOrder : (List (Event s.Desc) → Board P → Order → Type 0) → Type 0
  OfOrder Q =
      IsOrderly → (h : List (Event s.Desc)) (b : Board P) → b.stopped ≡ false → Sound digest worker_of b → Runs (the_shop digest job gives) h b
      → (order : Order) → IsOut (the_shop digest job gives) h b (order_view order) → HasRows digest b.table order → Q h b order

  -- what a worker promises of its report is what is asked of a report that comes to the master
  abbrev pub PerformsPromises : Type 0
  PerformsPromises =
      OfOrder (λ h b order. (r : Report) → Performs digest job gives order r → (IsMissing r.end → ⊥)
      → Promised (the_shop digest job gives) h b (order_view order) r.spawned.items (report_end r))

  -- the run ends with this report
  abbrev pub EndsWith : List (Event s.Desc) → Board P → Order → Report → Type 0
  EndsWith h b order r =
      RunEnded (the_shop digest job gives) h (order_view order) r.spawned.items (report_end r)
      (accepted digest worker_of b (order_view order).out r.spawned.items (report_end r))

  -- with what is shown the run ends, and the job means it
  abbrev pub ShownIsMeant : Type 0
  ShownIsMeant =
      OfOrder (λ h b order. RestsNow b → order.task ≡ TaskId.Show → (r : Report) → Performs digest job gives order r
      → (shown : Shown) → r.end ≡ End.Shown shown → AllLearned digest r.spawned.items b.table
      → s.Means job (json_around gives) (shown_view shown) × EndsWith h b order r)

  -- a circle of the journal means that the job has no answer
  abbrev pub CircleIsNever : Type 0
  CircleIsNever =
      IsOrderly → (p : Plan) (J : List Entry) (names : List Digest) → CircleOf (the_shop digest job gives).job p J names
      → s.Never job (json_around gives)

  -- a job that is modest in the meaning's words is so to the master
  abbrev pub ModestAlike : Type 0
  ModestAlike = IsOrderly → (limit : ℕ) → IsModest limit → Modest (the_shop digest job gives) limit
