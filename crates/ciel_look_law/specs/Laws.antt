-- What is told of a log of a journal is the journal's own.
use Rattle.std.specs.Prelude.{◌≡◌, ◌≤◌, ◌⊎◌, ℕ, List, [], ◌++◌, Bool, map, length}
use Rattle.sha1.specs.Sha1.{sha1}
use Rattle.sky_base.specs.KitView.{Gives}
use Rattle.sky_base.specs.See as s
use Rattle.sky_frozen_bytes.specs.Codes.{Fits32}
use Rattle.ciel_journal.specs.Entries.{Entry, journal_of}
use Rattle.ciel_journal.specs.History.{Event, Plan, lost, standing}
use Rattle.ciel_journal.specs.Job.{Each, IsPrefix, Job}
use Rattle.ciel_journal.specs.Turns.{Driven}
use Rattle.ciel_log.specs.Logging.{most}
use Rattle.ciel_log.specs.Logs.{AllFit, Logs}
use Rattle.ciel_log_records.specs.Records.{header_record}
use Rattle.ciel_log_read.specs.Recorded.{FitsBlock, IsNamed}
use Rattle.ciel_look_law.specs.Events.{AllTold, DueThere}
use Rattle.ciel_look_law.specs.Journal.{IsJournal}
use Rattle.ciel_look_story.specs.Story.{Tells}
use Rattle.ciel_look_told.specs.Head.{Head, IsHead, head_bytes, losses}
use Rattle.ciel_look_told.specs.Told.{Told}
use Rattle.ciel_task_order.specs.Named.{shop_job}

-- ---- what is asked

-- the digest gives names of 20 or of 32 bytes
abbrev pub NamesFit : (List ℕ → List ℕ) → Type 0
NamesFit digest = (bytes : List ℕ) → IsNamed (digest bytes)

-- the number of a wait has 32 bits
abbrev pub WaitFits : Entry → Type 0
WaitFits (Entry.Saved number j mark) = Fits32 j
WaitFits _ = Unit {0}

-- the header has the plan's workers and losses
abbrev pub HasPlan : Head → Plan → Type 0
HasPlan head p = (head.0 ≡ p.workers) × (losses head ≡ p.losses)

-- what the header of a run tells, of a script of these bytes and these inputs
abbrev pub head_of : (workers seed : ℕ) → List (ℕ × ℕ) → (short : Bool) → (script : List ℕ) → List (List ℕ × List ℕ) → Head
head_of workers seed planned short script inputs =
    (workers, (seed, (planned, (short, (sha1 script, map (λ (input : List ℕ × List ℕ). (input.0, sha1 input.1)) inputs)))))

-- the job of a script over its inputs, with executors that give so, and the digest that gives the names
module _ (digest : List ℕ → List ℕ) (job : s.Job) (gives : Gives) where
  abbrev J : Job s.Desc
  J = shop_job digest job gives

  -- ---- what is so then

  -- a driven history has the journal; it is told, and behind it the losses that are due
  pub record Own (p : Plan) (journal : List Entry) (ts : List Told) : Type 0 where
    pub history : List (Event s.Desc)
    pub driven : Driven J p history
    pub entries : journal_of J history ≡ journal
    pub due : List ℕ
    pub there : DueThere p (standing J history) due
    pub told : AllTold digest job gives [] (history ++ map (λ w. lost w (standing J history).closes) due) ts
    pub own : IsJournal ts (journal ++ map (λ w. Entry.Lost w (standing J history).closes) due)

-- ---- the laws

-- of a whole log
abbrev pub LogTellsOwn : Type 0
LogTellsOwn =
    (digest : List ℕ → List ℕ) → NamesFit digest → (job : s.Job) (gives : Gives) (p : Plan) (header : List ℕ) (journal : List Entry)
    (bytes : List ℕ) → Logs digest job gives p header journal bytes → length bytes ≤ most → Each WaitFits journal
    → (head : Head) (ts : List Told) → Tells bytes head ts
    → (header ≡ head_bytes head) × (HasPlan head p → Own digest job gives p journal ts)

-- of its beginning, where that has the header: a first part of the journal, behind which no loss is due where it isn't all of it
abbrev pub CutLogTellsOwn : Type 0
CutLogTellsOwn =
    (digest : List ℕ → List ℕ) → NamesFit digest → (job : s.Job) (gives : Gives) (p : Plan) (header : List ℕ) (journal : List Entry)
    (all : List ℕ) (log : Logs digest job gives p header journal all) → FitsBlock header → AllFit digest job gives log.records
    → Each WaitFits journal → (bytes : List ℕ) → IsPrefix bytes all → length bytes ≤ most
    → (head : Head) (ts : List Told) → Tells bytes head ts
    → (header ≡ head_bytes head)
    × (HasPlan head p → (front rest : List Entry) × (front ++ rest ≡ journal) × (own : Own digest job gives p front ts)
    × ((rest ≡ []) ⊎ (own.due ≡ [])))

-- what is told of a header is what was written
abbrev pub HeaderTold : Type 0
HeaderTold =
    (workers seed : ℕ) (planned : List (ℕ × ℕ)) (short : Bool) (script : List ℕ) (inputs : List (List ℕ × List ℕ)) (head : Head)
    → IsHead (head_of workers seed planned short script inputs) → IsHead head
    → header_record workers seed planned short script inputs ≡ head_bytes head → head ≡ head_of workers seed planned short script inputs
