-- The run of a line's job on the engine, as its journal tells it.
use Rattle.std.specs.Prelude.{◌≡◌, ◌≤◌, ◌+◌, ◌*◌, ℕ, List, ◌∷◌, ◌++◌, [], ◌⊎◌, Option, Some, None}
use Rattle.sha1.specs.Sha1.{sha1}
use Rattle.sha2.specs.Sha256.{sha256}
use Rattle.sky_base.specs.KitView.{Gives}
use Rattle.sky_base.specs.See as s
use Rattle.ciel_master_board.specs.Setting.{Setting}
use Rattle.ciel_run_logged.specs.Ends.{IsModest}
use Rattle.ciel_journal.specs.Entries.{Entry, journal_of}
use Rattle.ciel_journal.specs.History.{Event, Plan, done, saved, start}
use Rattle.ciel_journal.specs.Job.{Digest, In, Job, Task, show}
use Rattle.ciel_journal.specs.Journals.{DrivenJournal}
use Rattle.ciel_journal.specs.Laws.{Publishes, ShowDone}
use Rattle.ciel_journal.specs.Live.{Live}
use Rattle.ciel_journal.specs.Turns.{Driven}
use Rattle.ciel_run_load.specs.Line.{Input, keys_of}
use Rattle.ciel_master.specs.Seen.{most_descriptions}
use Rattle.ciel_journal_job.specs.Real.{back}
use Rattle.ciel_task_order.specs.Performs.{the_shop}
use Rattle.ciel_task_order.specs.Shop as shop
use Rattle.ciel_task_order.specs.Views.{P}
use Rattle.ciel_words.specs.declared.words.NameKind.{NameKind}
use Rattle.ciel_words.specs.declared.words.Words.{Words}
use Rattle.sky_base.specs.Needed as n
use Rattle.ciel_journal.specs.Work.{losses_of, starts_of}
use Rattle.sky_base.specs.Tree.{Script}
use Rattle.sky_parse.specs.Source.{IsScript}
use Rattle.ciel_run_line.specs.Source.{OfJob, around, job_of}

-- the digest that names are made by
abbrev pub digest_of : NameKind → List ℕ → List ℕ
digest_of NameKind.Sha1 = λ bytes. sha1 bytes
digest_of NameKind.Sha256 = λ bytes. sha256 bytes

-- the plan of a line: its workers, its seed number and its losses
abbrev pub plan_of : Words → Plan
plan_of w = record { workers = w.workers; seed = w.seed; losses = w.losses; limit = most_descriptions }

-- the path of the log of its run, whether that is begun or gone on from
abbrev pub log_at : (log resume : Option (List ℕ)) → Option (List ℕ)
log_at None resume = resume
log_at (Some path) resume = Some path

abbrev pub log_path : Words → Option (List ℕ)
log_path w = log_at w.log w.resume

-- a job with the names that a line asks for and what executors give, as its journal tells it
abbrev pub run_of : Gives → Words → s.Job → Setting s.Desc P shop.Block
run_of g w job = the_shop (digest_of w.names) job g

abbrev pub told_of : Gives → Words → s.Job → Job s.Desc
told_of g w job = (run_of g w job).job

-- the root task of the job came to its end, by a driven history with this journal
abbrev pub RootEnds : Gives → Words → List Entry → s.Job → Type 0
RootEnds g w J job =
    (h : List (Event s.Desc)) × Driven (told_of g w job) (plan_of w) h × (journal_of (told_of g w job) h ≡ J) × ShowDone (told_of g w job) h

module _ (g : Gives) (w : Words) (source : List ℕ) (inputs : List Input) (J : List Entry) where
  -- this is so of each driven history with this journal, of the job that the bytes mean; there is one at most
  abbrev pub EachRun : ((job : s.Job) → List (Event s.Desc) → Type 0) → Type 0
  EachRun P =
      (script : Script) → IsScript source (keys_of inputs) script → (h : List (Event s.Desc))
      → Driven (told_of g w (job_of script inputs)) (plan_of w) h → journal_of (told_of g w (job_of script inputs)) h ≡ J → P (job_of script inputs) h

  -- a driven history has this journal, or it is empty, where none began
  abbrev pub IsDriven : Type 0
  IsDriven = (J ≡ []) ⊎ OfJob source inputs (λ job. DrivenJournal (told_of g w job) (plan_of w) J)

  -- and ends with the Done of the root task
  abbrev pub EndsShown : Type 0
  EndsShown = OfJob source inputs (λ job. RootEnds g w J job)

  -- each task that was started is needed
  abbrev pub StartsNeeded : Type 0
  StartsNeeded =
      EachRun (λ job h. (k worker : ℕ) (t : Task s.Desc) (from : ℕ) → In (start k worker t from) h → n.Needed job (around g) (back t))

  -- none was started whose outputs were all live: the root task has none
  abbrev pub StartsMissing : Type 0
  StartsMissing =
      EachRun (λ job h. (before rest : List (Event s.Desc)) (k worker : ℕ) (t : Task s.Desc) (from : ℕ)
      → h ≡ before ++ start k worker t from ∷ rest
      → (t ≡ show) ⊎ ((d : s.Desc) × In d ((told_of g w job).outputs t) × (Live (told_of g w job) before d → ⊥)))

  -- where the job means an answer, there are no more Starts than its work, once for each loss and once more
  abbrev pub StartsFew : Type 0
  StartsFew =
      EachRun (λ job h. (a : s.Answered) → s.Means job (around g) a
      → (m : ℕ) × n.Work job (around g) m × (starts_of (told_of g w job) h ≤ (losses_of (told_of g w job) h + 1) * m))

  -- each name that was made is that of one description, beside the mark of the one object as which that is seen
  abbrev pub NamesHaveOne : Type 0
  NamesHaveOne =
      EachRun (λ job h. (k : ℕ) (made : List (s.Desc × Digest)) (copied spawned : List s.Desc) (d : s.Desc) (mark : Digest)
      → In (done k made copied spawned) h → In (d, mark) made → Publishes (told_of g w job) h d mark)

  -- no wait of a task was saved with two marks
  abbrev pub WaitsHaveOne : Type 0
  WaitsHaveOne =
      EachRun (λ job h. (k l worker other : ℕ) (t : Task s.Desc) (from since : ℕ) → In (start k worker t from) h → In (start l other t since) h
      → (j : ℕ) (a b : Digest) (refs holds spawned more keeps makes : List s.Desc) → In (saved k j a refs holds spawned) h
      → In (saved l j b more keeps makes) h → a ≡ b)

-- the job means an answer, and its needed tasks make no more descriptions than there may be, no two of which share a name
abbrev pub IsModestFor : Gives → Words → List ℕ → List Input → Type 0
IsModestFor g w source inputs = OfJob source inputs (λ job. IsModest (digest_of w.names) job g most_descriptions)
