-- What a report's record tells of an order, and the report that it is: what is so where it fits the order.
use Rattle.std.specs.Prelude.{◌≡◌, ◌<◌, ℕ, List, [], None, Vec, length, map, nat_eq, true}
use Rattle.std.specs.BTreeMap.{BTreeMap}
use Rattle.std.specs.Global.{Global}
use Rattle.std.specs.List.{IsDistinct, list_any}
use Rattle.sha1.specs.Sha1.{sha1}
use Rattle.sky_base.specs.Tree.{Script}
use Rattle.sky_base.specs.Val.{same_text}
use Rattle.sky_base.specs.declared.object.Named.{Named}
use Rattle.sky_base.specs.declared.object.Object.{Object}
use Rattle.sky_base_law.specs.Sound.{SoundDesc}
use Rattle.sky_frozen_bytes.specs.Bytes.{frozen_bytes}
use Rattle.sky_frozen_bytes.specs.Spelled.{StandSpelled}
use Rattle.sky_state.specs.declared.shown.Shown.{Shown}
use Rattle.ciel_journal.specs.Job.{Digest, Each}
use Rattle.ciel_master.specs.Marked.{IsPlanned}
use Rattle.ciel_master_board.specs.Board.{Board}
use Rattle.ciel_master_board.specs.Reports.{IsNamed, learned_all, named_view}
use Rattle.ciel_master_safe.specs.Reports.{CanWait, outputs_of}
use Rattle.ciel_master_safe.specs.Safe.{IsStackOf}
use Rattle.ciel_store.specs.Seen.{IsPlaceOf, ShelvesSeen}
use Rattle.ciel_store.specs.declared.loss.Loss.{Loss}
use Rattle.ciel_task_order.specs.Orders.{HasStack}
use Rattle.ciel_task_order.specs.Performs.{IsMissing, OfTask}
use Rattle.ciel_task_order.specs.Views.{P}
use Rattle.ciel_task_order.specs.declared.block.Held.{Held}
use Rattle.ciel_task_order.specs.declared.order.Order.{Order}
use Rattle.ciel_task_order.specs.declared.report.End.{End}
use Rattle.ciel_task_order.specs.declared.report.Made.{Made}
use Rattle.ciel_task_order.specs.declared.report.Report.{Report}
use Rattle.ciel_want.specs.Waited.{AllKnown}
use Rattle.ciel_log_fits.specs.Given.{IsElsewhere, IsGivenAt}
use Rattle.ciel_log_fits.specs.Known.{AfterSeen}
use Rattle.ciel_log_fits.specs.Named.{desc_of}
use Rattle.ciel_log_fits.specs.Read.{SpawnedPass}
use Rattle.ciel_log_read.specs.declared.record.LoggedEnd.{LoggedEnd}
use Rattle.ciel_log_read.specs.declared.record.LoggedReport.{LoggedReport}
use Rattle.ciel_log_objects.specs.Objects.{AreCopies, AreMade}

module _ (order : Order) where
  -- ---- something that was missing

  -- nothing was spawned or copied; what was missing the order gives at the worker of this loss of the plan, which was carried out
  pub record IsMissedOf (digest : List ℕ → List ℕ) (b : Board P) (spawned : ℕ) (name : Digest) (number : ℕ) (names : List Digest)
      (hs : List Held) (end : End) : Type 0 where
    pub loss : Loss
    pub is : end ≡ End.Missing name loss None
    pub is_loss : loss.number ≡ number
    pub no_names : names ≡ []
    pub none : hs ≡ []
    pub nothing : spawned ≡ 0
    pub given : IsGivenAt digest order name loss.worker
    pub planned : IsPlanned b.plan.losses loss
    pub lost : list_any (nat_eq loss.worker) b.table.gone ≡ true

  -- of the shelves and a script, with a table and what is to be learned in it
  module _ (shelves : ShelvesSeen) (sc : Script) (after : AfterSeen P) where
    -- ---- a stack

    -- the stack that these bytes spell, of the order's task, which may wait, at a later wait than the order's; all its names have rows then
    pub record SavedSo (j : ℕ) (bytes : List ℕ) (p : P) (refs holds : List Digest) : Type 0 where
      pub can : CanWait order.task order.desc
      pub later : order.from < j
      pub place : IsPlaceOf shelves p
      pub here : p.worker ≡ order.worker
      pub stack : HasStack (λ s. IsStackOf sc order.task j refs holds s × (frozen_bytes s ≡ bytes) × StandSpelled s) p.at.value
      pub refs_known : (digest : List ℕ → List ℕ) → AllKnown (learned_all digest after.spawned after.table) refs
      pub holds_known : (digest : List ℕ → List ℕ) → AllKnown (learned_all digest after.spawned after.table) holds

    -- nothing was copied, and the stack was put
    pub record IsSavedOf (j : ℕ) (bytes : List ℕ) (names : List Digest) (hs : List Held) (end : End) : Type 0 where
      pub place : P
      pub refs : List Digest
      pub holds : List Digest
      pub is : end ≡ End.Saved place j refs holds (sha1 bytes)
      pub no_names : names ≡ []
      pub none : hs ≡ []
      pub saved : SavedSo j bytes place refs holds

    -- with the objects that are kept
    module _ (kept : BTreeMap Digest Object) where
      -- ---- what was copied

      -- copies of these, each of which the order gives a place at another worker; no name stands twice
      pub record CopiedSo (names : List Digest) (hs : List Held) : Type 0 where
        pub copies : AreCopies shelves order.worker sc after kept names hs
        pub elsewhere : Each (IsElsewhere order) names
        pub distinct : IsDistinct same_text names

      -- ---- the end of a task

      -- the root task shows this
      pub record IsShownOf (shown : Shown) (names : List Digest) (hs : List Held) (end : End) : Type 0 where
        pub is : end ≡ End.Shown shown
        pub kind : OfTask order.task (End.Shown shown)
        pub copied : CopiedSo names hs

      -- as many objects as the task has outputs, each put under its output's name
      pub record IsMadeOf (digest : List ℕ → List ℕ) (objects : List Object) (names : List Digest) (hs : List Held) (end : End) : Type 0 where
        pub outputs : Vec Made Global
        pub is : end ≡ End.Made outputs
        pub kind : OfTask order.task (End.Made outputs)
        pub copied : CopiedSo names hs
        pub made : AreMade shelves order.worker sc after (outputs_of digest order.desc) objects outputs.items

      -- the end that a record tells, with the names of what was copied, is this one, with these copies
      abbrev pub IsEndOf : (List ℕ → List ℕ) → Board P → LoggedEnd → List Digest → List Held → End → Type 0
      IsEndOf digest b (LoggedEnd.Made objects) = IsMadeOf digest objects.items
      IsEndOf digest b (LoggedEnd.Saved j bytes) = IsSavedOf j bytes
      IsEndOf digest b (LoggedEnd.Answer bytes) = IsShownOf (Shown.Text bytes)
      IsEndOf digest b (LoggedEnd.Fault fault) = IsShownOf (Shown.Fault fault)
      IsEndOf digest b (LoggedEnd.Missing name number) = IsMissedOf digest b (length after.spawned) name number

-- the report that a record tells of an order which it fits
pub record IsReportOf (digest : List ℕ → List ℕ) (shelves : ShelvesSeen) (sc : Script) (b : Board P) (kept : BTreeMap Digest Object) (order : Order)
    (logged : LoggedReport) (r : Report) : Type 0 where
  pub number : r.number ≡ order.number
  pub worker : r.worker ≡ order.worker
  pub task : r.task ≡ order.task
  pub spawned : map desc_of r.spawned.items ≡ logged.spawned.items
  pub named : Each (IsNamed digest) r.spawned.items
  pub sound : (IsMissing r.end → ⊥) → Each (λ (n : Named). SoundDesc sc (named_view n)) r.spawned.items
  pub passed : (IsMissing r.end → ⊥) → SpawnedPass digest sc b.table r.spawned.items
  pub end : IsEndOf order shelves sc (record { table = b.table; spawned = r.spawned.items }) kept digest b logged.end logged.copied.items r.copied.items r.end
