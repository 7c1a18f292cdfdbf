-- What is so of a file that a replay refuses.
use Rattle.std.specs.Prelude.{ℕ, List, ◌∷◌, take}
use Rattle.sky_base.specs.JobView.{job_view}
use Rattle.sky_base.specs.KitView.{Gives}
use Rattle.sky_base.specs.See as s
use Rattle.sky_base.specs.Tree.{Script}
use Rattle.ciel_journal.specs.History.{Plan}
use Rattle.ciel_log_file.specs.Refused.{IsRefused, RefusedBehind}
use Rattle.ciel_log_file.specs.Replays.{At, EndsBy}
use Rattle.ciel_log_file.specs.Sending.{nobody}
use Rattle.ciel_log_file.specs.Whole.{RecordsTo}
use Rattle.ciel_log_follows.specs.Begins.{BeginsLog}
use Rattle.ciel_log_follows.specs.Follows.{IsAtFirst}
use Rattle.ciel_log_read.specs.File.{RecordAt}
use Rattle.ciel_master.specs.Seen.{MasterSeen}
use Rattle.ciel_master.specs.declared.stop.RunEnd.{RunEnd}
use Rattle.ciel_store.specs.Seen.{ShelvesSeen}
use Rattle.ciel_task_order.specs.declared.shop.Shop.{Shop}

-- Behind the header and other records a whole record begins at this place, and the records up to and with that one begin no log of a journal
pub record IsBadAt (digest : List ℕ → List ℕ) (job : s.Job) (gives : Gives) (p : Plan) (header log : List ℕ) (at : ℕ) : Type 0 where
  pub records : List (List ℕ)
  pub stand : RecordsTo log 0 (header ∷ records) at
  pub bytes : List ℕ
  pub next : ℕ
  pub here : RecordAt log at bytes next
  pub cause : BeginsLog digest job gives p header (take next log) → ⊥

-- for each kit what it gives, and for each namer its digest
module _ {K N : Type 0} (gives : K → Gives) (digest : N → List ℕ → List ℕ) where
  -- said of each shop, and of each file that is refused at a place where nothing had happened before the replay
  abbrev OfRefusals : ((shop : Shop K N) (log header : List ℕ) (m : MasterSeen N) (at : ℕ)
      → IsRefused (digest shop.namer) (job_view shop.job).script shop.shelves log header at m.board (nobody m.board.plan.workers) → Type 0) → Type 0
  OfRefusals Q =
      (shop : Shop K N) (log header : List ℕ) (m : MasterSeen N) (at : ℕ) → IsAtFirst gives digest shop m
      → (r : IsRefused (digest shop.namer) (job_view shop.job).script shop.shelves log header at m.board (nobody m.board.plan.workers))
      → Q shop log header m at r

  -- the records up to and with that one begin no log of a journal
  abbrev pub RefusedForCause : Type 0
  RefusedForCause =
      OfRefusals (λ shop log header m at r.
      BeginsLog (digest shop.namer) (job_view shop.job) (gives shop.kit) m.board.plan header (take r.next log) → ⊥)

  -- so such a place is bad, of the bytes alone
  abbrev pub RefusedAreBad : Type 0
  RefusedAreBad =
      OfRefusals (λ shop log header m at r.
      IsBadAt (digest shop.namer) (job_view shop.job) (gives shop.kit) m.board.plan header log at)

  -- so no file is refused that begins a log of a journal
  abbrev pub LogsAreReplayed : Type 0
  LogsAreReplayed =
      OfRefusals (λ shop log header m at r.
      BeginsLog (digest shop.namer) (job_view shop.job) (gives shop.kit) m.board.plan header log → ⊥)

-- a record that is refused while the run goes on is no report with which the run ends: none that fits its order, and which the master refuses
-- then since a name clashes or there is no room for a description
abbrev pub RefusedEndNothing : Type 0
RefusedEndNothing =
    (digest : List ℕ → List ℕ) (shelves : ShelvesSeen) (sc : Script) (a : At) (bytes : List ℕ) → RefusedBehind digest sc a bytes
    → (end : RunEnd) (c : At) → EndsBy digest shelves sc a bytes end c → ⊥

-- a file that begins a log of a journal has no bad place
abbrev pub LogsHaveNoBadPlace : Type 0
LogsHaveNoBadPlace =
    (digest : List ℕ → List ℕ) (job : s.Job) (gives : Gives) (p : Plan) (header log : List ℕ) (at : ℕ) → IsBadAt digest job gives p header log at
    → BeginsLog digest job gives p header log → ⊥
