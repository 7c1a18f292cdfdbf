-- What the file of a run's log tells of the run's journal.
use Rattle.std.specs.Prelude.{◌≡◌, ℕ, List, [], Bool, Option, Some, IfSome, length}
use Rattle.sky_base.specs.JobView.{job_view}
use Rattle.sky_base.specs.KitView.{Gives}
use Rattle.sky_base.specs.See as s
use Rattle.ciel_io.specs.HeldFiles.{bytes_at}
use Rattle.ciel_io.specs.Kept.{Files}
use Rattle.ciel_journal.specs.Entries.{Entry}
use Rattle.ciel_journal.specs.History.{Plan}
use Rattle.ciel_journal.specs.Journals.{DrivenJournal}
use Rattle.ciel_log.specs.Logging.{CrewLog, GoesOn}
use Rattle.ciel_log.specs.Logs.{FullAt, HasDropped, LogWritten, Logs, WrittenPart}
use Rattle.ciel_log.specs.declared.state.LogState.{LogState}
use Rattle.ciel_run_drive.specs.Seen.{MasterSeen}
use Rattle.ciel_run_drive.specs.Kept.{Kept}
use Rattle.ciel_run_drive.specs.Moved.{DoesAll}
use Rattle.ciel_task_crew.specs.Calls.{Call}
use Rattle.ciel_task_order.specs.Performs.{the_shop}
use Rattle.ciel_task_order.specs.declared.order.Order.{Order}
use Rattle.ciel_task_order.specs.declared.shop.Shop.{Shop}

-- For each kit what it gives, for each namer its digest, and what a call makes of what a crew tells. A run from a master with no journal, by
-- calls of the crew that keeps a log, to a state with this driven journal: the log's file tells the journal
abbrev pub LogTellsJournal : {K N R : Type 0} → (K → Gives) → (N → List ℕ → List ℕ) → (R → Call → R → Type 0) → Type 0
LogTellsJournal {K} {N} {R} gives digest goes =
    (shop : Shop K N) (unbroken : Bool) (m : MasterSeen N) (out : List (Option Order)) (draw : ℕ) → Kept gives digest shop unbroken m out draw
    → m.board.journal ≡ [] → (before after : CrewLog R) → before.log.state ≡ LogState.Whole → (journal : List Entry)
    → DrivenJournal (the_shop (digest shop.namer) (job_view shop.job) (gives shop.kit)).job m.board.plan journal
    → DoesAll gives digest shop (Kept gives digest shop unbroken m out draw) (GoesOn goes) before m.board after journal
    → LogWritten (digest shop.namer) (job_view shop.job) (gives shop.kit) m.board.plan before.log.path before.log.held before.log.files
    after.log.files journal after.log.state

-- the job of a script over its inputs, with executors that give so, and the digest that gives the names
module _ (digest : List ℕ → List ℕ) (job : s.Job) (gives : Gives) where
  -- Where the file at the path was a log of a journal, of so many bytes, and is told afterwards: with no dropped record in it, it begins a log
  -- of the later journal; it is a whole one where the log stands whole; and where the log is full, the next record had no room
  abbrev pub LogContinued : Plan → (path : List ℕ) → (held : ℕ) → (before after : Option Files) → (told journal : List Entry) → LogState → Type 0
  LogContinued p path held before after told journal state =
      (header : List ℕ) (was : Files) → before ≡ Some was → Logs digest job gives p header told (bytes_at was path)
      → IfSome after (λ files. (HasDropped (bytes_at files path) → ⊥)
      → WrittenPart digest job gives p header journal (state ≡ LogState.Failed) (bytes_at files path)
      × (state ≡ LogState.Whole → Logs digest job gives p header journal (bytes_at files path))
      × ((has : ℕ) → state ≡ LogState.Full has → held ≡ length (bytes_at was path)
      → FullAt digest job gives p header journal has (bytes_at files path)))

-- So it is too where the master has a journal already, and the log's file was a log of it
abbrev pub LogContinues : {K N R : Type 0} → (K → Gives) → (N → List ℕ → List ℕ) → (R → Call → R → Type 0) → Type 0
LogContinues {K} {N} {R} gives digest goes =
    (shop : Shop K N) (unbroken : Bool) (m : MasterSeen N) (out : List (Option Order)) (draw : ℕ) → Kept gives digest shop unbroken m out draw
    → (before after : CrewLog R) → before.log.state ≡ LogState.Whole → (journal : List Entry)
    → DrivenJournal (the_shop (digest shop.namer) (job_view shop.job) (gives shop.kit)).job m.board.plan journal
    → DoesAll gives digest shop (Kept gives digest shop unbroken m out draw) (GoesOn goes) before m.board after journal
    → LogContinued (digest shop.namer) (job_view shop.job) (gives shop.kit) m.board.plan before.log.path before.log.held before.log.files
    after.log.files m.board.journal journal after.log.state
