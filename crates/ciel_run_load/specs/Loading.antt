-- What the script and the inputs of a line come to: a job, or why there is none.
use Rattle.std.specs.Prelude.{◌≡◌, ◌≤◌, ◌⊎◌, ◌+◌, ℕ, List, [], ◌∷◌, Option, Some, IfSome, Contains, length, map, slice_get, take}
use Rattle.sky_base.specs.Tree.{Script}
use Rattle.sky_base.specs.See.{Job}
use Rattle.sky_parse.specs.Source.{IsScript}
use Rattle.ciel_io.specs.Tells.{Tells, TellsPart}
use Rattle.ciel_run_load.specs.Line.{Input, Line, keys_of, name_in, path_in, paths_of}
use Rattle.ciel_run_load.specs.Found.{Fits, Holds, IsOver, IsTooLong, limit}
use Rattle.ciel_run_load.specs.Reading.{AsksUpTo, FitIfTold}
use Rattle.ciel_run_load.specs.Syntax.{IsSyntaxFault}
use Rattle.ciel_run_load.specs.declared.read.Unread.{Unread}
use Rattle.ciel_run_load.specs.declared.load.NoJob.{NoJob}
use Rattle.ciel_run_load.specs.declared.script.NoScript.{NoScript}

abbrev pub unread : Unread → NoJob
unread (Unread.Failed path) = NoJob.Failed path
unread (Unread.TooLong path at) = NoJob.TooLong path at
unread Unread.Memory = NoJob.Memory

-- bytes are no script
abbrev pub RefusedSo : List ℕ → NoScript → Type 0
RefusedSo source (NoScript.Syntax kind line col) = IsSyntaxFault source kind line col
RefusedSo source NoScript.Memory = Unit {0}

-- the script is that of these bytes, not too many, over inputs of these names, and so are the job's inputs
pub record IsReadJob (names : List (List ℕ)) (source : List ℕ) (job : Job) : Type 0 where
  pub is : IsScript source names job.script
  pub within : length source ≤ limit
  pub named : keys_of job.inputs ≡ names

-- the job is that of the script that these bytes are, over these inputs
abbrev pub IsOf : List ℕ → List Input → Job → Type 0
IsOf source inputs job = IsScript source (keys_of inputs) job.script × (job.inputs ≡ inputs)

module _ (content : List ℕ → Option (List ℕ)) (line : Line) where
  -- the job is that of the script with these bytes and of the inputs that stand where the line says, where files tell them
  pub record IsLoaded (source : List ℕ) (job : Job) : Type 0 where
    pub read : IsReadJob (map name_in line.inputs) source job
    pub found : IfSome (content line.script) (λ file. source ≡ file)
    pub stands : (file : List ℕ) (inputs : List Input) → Holds content line file inputs → Fits file inputs × IsOf file inputs job

  -- the line names no job that can be run
  abbrev pub NotLoaded : Type 0 → NoJob → Type 0
  NotLoaded risen (NoJob.Syntax kind l c) =
      (source : List ℕ) → content line.script ≡ Some source → (length source ≤ limit) × IsSyntaxFault source kind l c
  NotLoaded risen (NoJob.Failed path) = Contains (paths_of line) path × risen
  NotLoaded risen (NoJob.TooLong path at) =
      IsOver content line path at
      × ((source : List ℕ) (inputs : List Input) → Holds content line source inputs → IsTooLong line source inputs path at)
  NotLoaded risen NoJob.Memory = Unit {0}

-- which paths were asked where there is none: that of the script where it is none, those up to the one that could not be read, or for want
-- of memory some of the first
abbrev pub AsksJob : NoJob → List (List ℕ) → Option (List (List ℕ)) → Option (List (List ℕ)) → Type 0
AsksJob (NoJob.Syntax kind l c) paths before now = Tells before now (take 1 paths)
AsksJob (NoJob.Failed path) paths before now = AsksUpTo path paths before now
AsksJob (NoJob.TooLong path at) paths before now = AsksUpTo path paths before now
AsksJob NoJob.Memory paths before now = TellsPart before now paths

-- ---- in which order

module _ (content : List ℕ → Option (List ℕ)) (line : Line) where
  -- the script's bytes are within the limit and are a script, where files tell them
  abbrev pub HasScript : Type 0
  HasScript = IfSome (content line.script)
      (λ source. (length source ≤ limit) × ((script : Script) × IsScript source (map name_in line.inputs) script))

  -- and each input has no more bytes than its limit, where files tell it
  abbrev pub AllRead : Type 0
  AllRead = HasScript × FitIfTold content line.inputs

  -- the file at this path is the last one asked: it is the script's, or the script is one and each input before this one fits
  abbrev pub StopsAt : List ℕ → Option (List (List ℕ)) → Option (List (List ℕ)) → Type 0
  StopsAt path before now =
      ((path ≡ line.script) × Tells before now (path ∷ []))
      ⊎ (HasScript
      × ((k : ℕ) × (slice_get (map path_in line.inputs) k ≡ Some path) × FitIfTold content (take k line.inputs)
      × Tells before now (line.script ∷ take (k + 1) (map path_in line.inputs))))

  -- so it is where a file wasn't read, but for want of memory
  abbrev pub StopsJob : Option (List (List ℕ)) → Option (List (List ℕ)) → NoJob → Type 0
  StopsJob before now (NoJob.Failed path) = StopsAt path before now
  StopsJob before now (NoJob.TooLong path at) = StopsAt path before now
  StopsJob before now _ = Unit {0}
