-- What a line of the command names: a script with its inputs, read from files or generated, the memo that it reads, and the log that it goes on
-- from.
use Rattle.std.specs.Prelude.{◌≡◌, ◌≤◌, ℕ, List, [], ◌∷◌, ◌++◌, Bool, false, Option, Some, None, length}
use Rattle.sky_base.specs.KitView.{Gives}
use Rattle.sky_base.specs.Tree.{Script}
use Rattle.sky_parse.specs.Source.{IsScript}
use Rattle.ciel_run_load.specs.Found.{Fits, Holds, limit}
use Rattle.ciel_run_load.specs.Generated.{generated_inputs, generator}
use Rattle.ciel_run_load.specs.Line as files
use Rattle.ciel_run_load.specs.Line.{Input, keys_of}
use Rattle.ciel_run_line.specs.Given.{GivesOf}
use Rattle.ciel_run_line.specs.Resuming.{IsWrittenLog}
use Rattle.ciel_run_line.specs.Runs.{log_path}
use Rattle.ciel_run_line.specs.Source.{job_of}
use Rattle.ciel_words.specs.Line.{line_of}
use Rattle.ciel_words.specs.declared.words.Words.{Words}

-- the files of a line that names a script
abbrev pub files_named : Option (List ℕ) → List (List ℕ × List ℕ) → Option files.Line
files_named None inputs = None
files_named (Some path) inputs = Some (record { script = path; inputs = inputs })

abbrev pub files_of : Words → Option files.Line
files_of w = files_named w.script w.inputs

-- the paths that a line names, the script's first; a job that is generated has none
abbrev pub paths_in : Option files.Line → List (List ℕ)
paths_in None = []
paths_in (Some f) = files.paths_of f

-- the path, where there is one
abbrev pub named : Option (List ℕ) → List (List ℕ)
named None = []
named (Some path) = path ∷ []

-- behind them the memo's that it reads, and the log's that it goes on from
abbrev pub behind_job : Words → List (List ℕ)
behind_job w = named w.memo ++ named w.resume

abbrev pub paths_of : Words → List (List ℕ)
paths_of w = paths_in (files_of w) ++ behind_job w

abbrev pub paths : Option Words → List (List ℕ)
paths None = []
paths (Some w) = paths_of w

-- those of the job's files, and those behind
abbrev pub job_paths : Option Words → List (List ℕ)
job_paths None = []
job_paths (Some w) = paths_in (files_of w)

abbrev pub last_paths : Option Words → List (List ℕ)
last_paths None = []
last_paths (Some w) = behind_job w

-- ---- what stands there

-- what stands at the paths, where files tell it all, or what is generated
abbrev pub StandsIn : (List ℕ → Option (List ℕ)) → Option files.Line → (generate : Option ℕ) → List ℕ → List Input → Type 0
StandsIn content (Some f) g source inputs = Holds content f source inputs
StandsIn content None (Some lines) source inputs = (source ≡ generator) × (inputs ≡ generated_inputs lines)
StandsIn content None None source inputs = ⊥

abbrev pub SourceIn : (List ℕ → Option (List ℕ)) → Option files.Line → (generate : Option ℕ) → List ℕ → Type 0
SourceIn content (Some f) g source = content f.script ≡ Some source
SourceIn content None (Some lines) source = source ≡ generator
SourceIn content None None source = ⊥

-- what is read from files is within the limits
abbrev pub FitsIn : Option files.Line → List ℕ → List Input → Type 0
FitsIn None source inputs = Unit {0}
FitsIn (Some f) source inputs = Fits source inputs

abbrev pub SourceFits : Option files.Line → List ℕ → Type 0
SourceFits None source = Unit {0}
SourceFits (Some f) source = length source ≤ limit

-- one fact where a run begins itself, and another where it goes on from a log
abbrev pub SurelyAt : (resume : Option (List ℕ)) → (alone onward : Type 0) → Type 0
SurelyAt None alone onward = alone
SurelyAt (Some path) alone onward = onward

module _ (content : List ℕ → Option (List ℕ)) (w : Words) where
  -- the fact, of the script and the inputs of this line, where files tell them all, whatever the log is
  abbrev pub OfJobFiles : (List ℕ → List Input → Type 0) → Type 0
  OfJobFiles P = (source : List ℕ) (inputs : List Input) → StandsIn content (files_of w) w.generate source inputs → P source inputs

  -- the fact, of its script, where files tell it
  abbrev pub OfSource : (List ℕ → Type 0) → Type 0
  OfSource P = (source : List ℕ) → SourceIn content (files_of w) w.generate source → P source

-- ---- where the executors of the line give this

module _ (g : Gives) (content : List ℕ → Option (List ℕ)) (w : Words) where
  -- where the line goes on from a log, and what it reads is within the limits and is a script: the log's file is told, and it begins a log of a
  -- run of this job
  abbrev pub LogIsOwn : List ℕ → List Input → Type 0
  LogIsOwn source inputs =
      (path : List ℕ) → w.resume ≡ Some path → FitsIn (files_of w) source inputs → (script : Script) → IsScript source (keys_of inputs) script
      → (bytes : List ℕ) × (content path ≡ Some bytes) × IsWrittenLog g w source inputs (job_of script inputs) bytes

  -- files tell the script and the inputs of this line, and the log that it goes on from is its own
  pub record Stands (source : List ℕ) (inputs : List Input) : Type 0 where
    pub there : StandsIn content (files_of w) w.generate source inputs
    pub own : LogIsOwn source inputs

module _ (content : List ℕ → Option (List ℕ)) (w : Words) where
  -- the fact, of what executors give to this line, and of its script and its inputs, where files tell them all, and the memo that it reads, and
  -- the log that it goes on from is its own
  abbrev pub OfLine : (Gives → List ℕ → List Input → Type 0) → Type 0
  OfLine P = (g : Gives) → GivesOf content w g → (source : List ℕ) (inputs : List Input) → Stands g content w source inputs → P g source inputs

  -- the fact of a run of this line, which needs no premise where the run begins itself
  abbrev pub Surely : Type 0 → Type 0
  Surely P = SurelyAt w.resume P (OfLine (λ g source inputs. P))

module _ (content : List ℕ → Option (List ℕ)) (words : List (List ℕ)) where
  -- the fact, of the line that the words are
  abbrev pub OverLine : (Words → Type 0) → Type 0
  OverLine P = (w : Words) → line_of words ≡ Some w → P w

  -- of what executors give to it, its script and its inputs, where files tell them all
  abbrev pub OverFiles : (Gives → Words → List ℕ → List Input → Type 0) → Type 0
  OverFiles P = OverLine (λ w. OfLine content w (λ g. P g w))

  -- of its script, where files tell it
  abbrev pub OverScript : (Words → List ℕ → Type 0) → Type 0
  OverScript P = OverLine (λ w. OfSource content w (P w))

-- whether the line asks for the journal's text, and for the sequential interpreter
abbrev pub is_traced : Option Words → Bool
is_traced None = false
is_traced (Some w) = w.trace

abbrev pub is_plain : Option Words → Bool
is_plain None = false
is_plain (Some w) = w.plain

-- the path of the log of its run
abbrev pub log_of : Option Words → Option (List ℕ)
log_of None = None
log_of (Some w) = log_path w

-- the path of the log that it goes on from
abbrev pub resume_of : Option Words → Option (List ℕ)
resume_of None = None
resume_of (Some w) = w.resume

-- how many workers it asks for
abbrev pub workers_of : Option Words → ℕ
workers_of None = 0
workers_of (Some w) = w.workers
