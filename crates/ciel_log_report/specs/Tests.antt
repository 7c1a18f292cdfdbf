-- The tests that a report's record passes where it fits the order that it is of. Nothing is said of what lies on shelves.
use Rattle.std.specs.Prelude.{◌≡◌, ◌<◌, ◌⊎◌, ℕ, List, [], length, map, nat_eq, true, Option, Some}
use Rattle.std.specs.BTreeMap.{BTreeMap}
use Rattle.std.specs.List.{IsDistinct, list_any}
use Rattle.sky_base.specs.ObjectView.{object_view}
use Rattle.sky_base.specs.Tree.{Script}
use Rattle.sky_base.specs.Val.{same_text}
use Rattle.sky_base.specs.declared.object.Named.{Named}
use Rattle.sky_base.specs.declared.object.Object.{Object}
use Rattle.sky_base.specs.declared.object.TaskId.{TaskId}
use Rattle.sky_base_law.specs.Sound.{SoundDesc}
use Rattle.sky_frozen_bytes.specs.Bytes.{frozen_bytes}
use Rattle.sky_frozen_bytes.specs.Spelled.{StandSpelled}
use Rattle.sky_state.specs.Stand.{Stand}
use Rattle.ciel_journal.specs.Job.{Digest, Each}
use Rattle.ciel_master.specs.Marked.{IsPlanned}
use Rattle.ciel_master_board.specs.Board.{Board, start_refs}
use Rattle.ciel_master_board.specs.Driving.{RestsNow}
use Rattle.ciel_master_board.specs.Reports.{IsNamed, learned_all, named_view}
use Rattle.ciel_master_safe.specs.Reports.{CanWait, StandsWhole, outputs_of}
use Rattle.ciel_master_safe.specs.Safe.{IsStackOf}
use Rattle.ciel_store.specs.declared.loss.Loss.{Loss}
use Rattle.ciel_task_crew.specs.Crews.{order_at}
use Rattle.ciel_task_order.specs.Views.{P}
use Rattle.ciel_task_order.specs.declared.order.Order.{Order}
use Rattle.ciel_want.specs.Waited.{AllKnown}
use Rattle.ciel_log_fits.specs.Given.{IsElsewhere, IsGivenAt}
use Rattle.ciel_log_fits.specs.Known.{AfterSeen}
use Rattle.ciel_log_fits.specs.Named.{desc_of}
use Rattle.ciel_log_read.specs.declared.record.LoggedEnd.{LoggedEnd}
use Rattle.ciel_log_read.specs.declared.record.LoggedReport.{LoggedReport}
use Rattle.ciel_log_objects.specs.Objects.{IsKept, Passes}

module _ (order : Order) where
  -- ---- something that was missing

  -- nothing was spawned or copied; what was missing the order gives at the worker of this loss of the plan, which was carried out
  pub record MissedPasses (digest : List ℕ → List ℕ) (b : Board P) (spawned : ℕ) (copied : List Digest) (name : Digest) (number : ℕ) : Type 0 where
    pub nothing : spawned ≡ 0
    pub none : copied ≡ []
    pub loss : Loss
    pub is_loss : loss.number ≡ number
    pub planned : IsPlanned b.plan.losses loss
    pub lost : list_any (nat_eq loss.worker) b.table.gone ≡ true
    pub given : IsGivenAt digest order name loss.worker

  -- of a script, with a table and what is to be learned in it
  module _ (sc : Script) (after : AfterSeen P) where
    -- ---- a stack

    -- nothing was copied; the bytes spell a stack of the order's task, which may wait, at this wait, a later one than the order's; all its
    -- names have rows then
    pub record StackPasses (copied : List Digest) (j : ℕ) (bytes : List ℕ) : Type 0 where
      pub none : copied ≡ []
      pub later : order.from < j
      pub can : CanWait order.task order.desc
      pub stack : Stand (List ℕ)
      pub refs : List Digest
      pub holds : List Digest
      pub is_stack : IsStackOf sc order.task j refs holds stack
      pub spelled : StandSpelled stack
      pub bytes_of : frozen_bytes stack ≡ bytes
      pub refs_known : (digest : List ℕ → List ℕ) → AllKnown (learned_all digest after.spawned after.table) refs
      pub holds_known : (digest : List ℕ → List ℕ) → AllKnown (learned_all digest after.spawned after.table) holds

    -- with the objects that are kept
    module _ (kept : BTreeMap Digest Object) where
      -- ---- what was copied

      -- the order gives each of these a place at another worker; no name stands twice; an object is kept of each, which passes
      pub record CopiesPass (copied : List Digest) : Type 0 where
        pub elsewhere : Each (IsElsewhere order) copied
        pub distinct : IsDistinct same_text copied
        pub all_kept : Each (IsKept sc after kept) copied

      -- ---- the end of a task

      -- the root task shows something
      pub record ShownPasses (copied : List Digest) : Type 0 where
        pub task : order.task ≡ TaskId.Show
        pub copies : CopiesPass copied

      -- another one made as many objects as it has outputs, each of which passes
      pub record OutputsPass (digest : List ℕ → List ℕ) (copied : List Digest) (objects : List Object) : Type 0 where
        pub task : (name : Digest) × (order.task ≡ TaskId.Of name)
        pub many : length objects ≡ length (outputs_of digest order.desc)
        pub copies : CopiesPass copied
        pub each : Each (λ (o : Object). Passes sc after (object_view o)) objects

      -- the end that a record tells, with the names of what was copied
      abbrev pub EndPasses : (List ℕ → List ℕ) → Board P → List Digest → LoggedEnd → Type 0
      EndPasses digest b copied (LoggedEnd.Made objects) = OutputsPass digest copied objects.items
      EndPasses digest b copied (LoggedEnd.Saved j bytes) = StackPasses copied j bytes
      EndPasses digest b copied (LoggedEnd.Answer bytes) = ShownPasses copied
      EndPasses digest b copied (LoggedEnd.Fault fault) = ShownPasses copied
      EndPasses digest b copied (LoggedEnd.Missing name number) = MissedPasses digest b (length after.spawned) copied name number

-- nothing was missing
abbrev pub HasCome : LoggedEnd → Type 0
HasCome (LoggedEnd.Missing name number) = ⊥
HasCome _ = Unit {0}

module _ (digest : List ℕ → List ℕ) (sc : Script) (b : Board P) (kept : BTreeMap Digest Object) (order : Order) where
  -- what was spawned is allowed by the job, stands with all outputs of its tasks, and has inside it only what has rows once it is learned;
  -- and the end passes
  pub record AllPass (spawned : List Named) (copied : List Digest) (end : LoggedEnd) : Type 0 where
    pub sound : HasCome end → Each (λ (n : Named). SoundDesc sc (named_view n)) spawned
    pub whole : HasCome end → Each (λ (n : Named). StandsWhole (map named_view spawned) (named_view n)) spawned
    pub inside : HasCome end → Each (λ (n : Named). AllKnown (learned_all digest spawned b.table) (start_refs n.desc)) spawned
    pub ends : EndPasses order sc (record { table = b.table; spawned = spawned }) kept digest b copied end

  -- all that the record tells of the order passes, with what it says was spawned by its names
  pub record ReportPasses (logged : LoggedReport) : Type 0 where
    pub spawned : List Named
    pub descs : map desc_of spawned ≡ logged.spawned.items
    pub named : Each (IsNamed digest) spawned
    pub passes : AllPass spawned logged.copied.items logged.end

-- no report comes of the record: an order of its number is in the list, but a Start or a loss comes first, or it doesn't pass
pub record ReportRefused (digest : List ℕ → List ℕ) (sc : Script) (b : Board P) (out : List (Option Order)) (kept : BTreeMap Digest Object)
    (logged : LoggedReport) : Type 0 where
  pub worker : ℕ
  pub order : Order
  pub there : order_at out worker ≡ Some order
  pub number : order.number ≡ logged.number
  pub cause : (RestsNow b → ⊥) ⊎ (ReportPasses digest sc b kept order logged → ⊥)
