-- What a report tells of a run's history: one that is taken an event more, and one that is thrown away nothing.
use Rattle.std.specs.Prelude.{◌≡◌, ◌<◌, ◌^◌, ℕ, false, List, [], ◌∷◌, ◌++◌, Some, None, map}
use Rattle.sky_base.specs.JobView.{job_view}
use Rattle.sky_base.specs.KitView.{Gives}
use Rattle.sky_base.specs.See as s
use Rattle.ciel_journal.specs.Entries.{journal_of}
use Rattle.ciel_journal.specs.History.{Event, OpenStart, find_open, standing}
use Rattle.ciel_journal.specs.Lawful.{Lawful}
use Rattle.ciel_journal_job.specs.Report.{report_of}
use Rattle.ciel_master_board.specs.Board.{Board}
use Rattle.ciel_master_board.specs.Laws.{Lies}
use Rattle.ciel_master_board.specs.Reports.{named_view, report_view}
use Rattle.ciel_master_board.specs.BaseLawSound.{SoundDesc}
use Rattle.ciel_master_board.specs.Tasks.{Each}
use Rattle.ciel_master_board.specs.Setting.{Setting}
use Rattle.ciel_task_order.specs.Performs.{AnswerIs, OfTask, the_shop}
use Rattle.ciel_task_order.specs.Places.{PlacesSound}
use Rattle.ciel_task_order.specs.Shop.{Block}
use Rattle.ciel_task_order.specs.Views.{P, report_end}
use Rattle.ciel_task_order.specs.declared.report.Report.{Report}
use Rattle.ciel_task_order.specs.declared.shop.Shop.{Shop}
use Rattle.ciel_want.specs.History.{task_id}

-- for each kit what it gives, and for each namer its digest
module _ {K N : Type 0} (gives : K → Gives) (digest : N → List ℕ → List ℕ) (shop : Shop K N) where
  abbrev S : Setting s.Desc P Block
  S = the_shop (digest shop.namer) (job_view shop.job) (gives shop.kit)

  -- The report was taken, and the master's state was the first before and is the second after. It tells an event that the history of the
  -- first has more in the second; what lies at its places are the blocks of the job, and what it shows is the job's answer
  pub record TakenAs (before after : Board P) (r : Report) : Type 0 where
    pub history : List (Event s.Desc)
    pub event : Event s.Desc
    pub lawful : Lawful S.job before.plan (history ++ event ∷ [])
    pub was : journal_of S.job history ≡ before.journal
    pub now : journal_of S.job (history ++ event ∷ []) ≡ after.journal
    pub tells : report_of S.job S.inner S.lower event ≡ Some (report_view r.number r.spawned.items (report_end r))
    -- of the open Start with its number
    pub start : OpenStart s.Desc
    pub is_open : find_open S.job r.number (standing S.job history).orders ≡ Some start
    pub task : r.task ≡ task_id S.job start.task
    pub kind : OfTask r.task r.end
    pub lies : Lies S start (report_end r)
    pub shows : AnswerIs (digest shop.namer) (job_view shop.job) (gives shop.kit) r.end
    pub places : PlacesSound shop.shelves r.worker (job_view shop.job).script r

  -- the report was thrown away in this state of the master: its number is that of no open Start, and the run goes on
  pub record ThrownAs (b : Board P) (r : Report) : Type 0 where
    pub history : List (Event s.Desc)
    pub lawful : Lawful S.job b.plan history
    pub journal : journal_of S.job history ≡ b.journal
    pub closed : find_open S.job r.number (standing S.job history).orders ≡ None
    pub number : r.number < 2 ^ 64
    pub going : (standing S.job history).over ≡ false
    -- what it spawned, and what lies at its places, is sound for the script
    pub spawned : Each (SoundDesc (job_view shop.job).script) (map named_view r.spawned.items)
    pub places : PlacesSound shop.shelves r.worker (job_view shop.job).script r
