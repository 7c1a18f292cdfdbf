-- What the program's run of a job asks for, and what its parts come to.
use Rattle.std.specs.Prelude.{◌≡◌, ◌⊎◌, ◌<◌, ◌^◌, ℕ, List, Option, Some, None, Result, Ok, Err, length}
use Rattle.ciel_io.specs.Tells.{Tells, TellsPart}
use Rattle.ciel_log.specs.Logging.{most}
use Rattle.ciel_memo_file.specs.File.{BadAt, most_of_a_file}
use Rattle.ciel_run_load.specs.Found.{PassesIfTold}
use Rattle.ciel_run_resumed.specs.declared.run.NotResumed.{NotResumed}
use Rattle.sky_base.specs.KitView.{Gives}
use Rattle.sky_base.specs.See as s
use Rattle.sky_base.specs.See.{Answered}
use Rattle.ciel_run_load.specs.Loading.{IsReadJob}
use Rattle.ciel_run_load.specs.declared.load.NoJob.{NoJob}
use Rattle.ciel_run_load.specs.declared.script.NoScript.{NoScript}
use Rattle.ciel_master.specs.declared.stop.RunEnd.{RunEnd}
use Rattle.sky_plain.specs.Needs.{Chain, MakesMany}
use Rattle.ciel_run_line.specs.Source.{around}
use Rattle.ciel_run_log.specs.declared.why.Why.{Why}

-- its script was read, over inputs of these names, not too many
abbrev pub CanRunJob : s.Job → Type 0
CanRunJob job = (names : List (List ℕ)) × (source : List ℕ) × IsReadJob names source job × (length names < 2 ^ 32)

-- why the sequential interpreter has no bytes
abbrev pub PlainCause : Gives → s.Job → Why → Type 0
PlainCause g job (Why.Fault fault) = s.Means job (around g) (Answered.fault fault)
PlainCause g job (Why.TooMany held None) = (held ≡ 65536) × MakesMany job (around g) 65537
PlainCause g job (Why.TooDeepPlain depth) = (depth ≡ 4096) × ((d : s.Desc) × Chain job (around g) 4096 d)
PlainCause g job Why.Memory = Unit {0}
PlainCause g job _ = ⊥

-- the end of a run, as what comes of it
abbrev pub end_view : RunEnd → Result (List ℕ) Why
end_view (RunEnd.Answer bytes) = Ok bytes
end_view (RunEnd.Fault fault) = Err (Why.Fault fault)
end_view (RunEnd.Endless names) = Err (Why.Endless names)
end_view (RunEnd.TooMany held given) = Err (Why.TooMany held (Some given))
end_view RunEnd.AllLost = Err Why.AllLost
end_view (RunEnd.NameClash kept given) = Err (Why.NameClash kept given)
end_view RunEnd.Memory = Err Why.Memory

-- why there is no job, as what ends a call
abbrev pub no_job_view : NoJob → Why
no_job_view (NoJob.Syntax kind line col) = Why.Syntax kind line col
no_job_view (NoJob.Failed path) = Why.ReadFault path
no_job_view (NoJob.TooLong path at) = Why.TooLongInput path at
no_job_view NoJob.Memory = Why.Memory

abbrev pub no_script_view : NoScript → Why
no_script_view (NoScript.Syntax kind line col) = Why.Syntax kind line col
no_script_view NoScript.Memory = Why.Memory

-- why a job didn't go on from the log at this path, as what ends a call
abbrev pub WhyNot : NotResumed → (path : List ℕ) → Why → Type 0
WhyNot NotResumed.OtherJob path why = (why ≡ Why.OtherJob path) ⊎ (why ≡ Why.Memory)
WhyNot (NotResumed.BadLog at) path why = (why ≡ Why.BadLog path at) ⊎ (why ≡ Why.Memory)
WhyNot NotResumed.Failed path why = (why ≡ Why.KeepFault path) ⊎ (why ≡ Why.Memory)
WhyNot NotResumed.Memory path why = why ≡ Why.Memory

-- why a file wasn't read that stands behind those of the job, of at most so many bytes
abbrev pub Unread : (List ℕ → Option (List ℕ)) → (named : Option (List ℕ)) → (limit : ℕ) → (risen : Type 0) → Why → Type 0
Unread content named limit risen (Why.ReadFault path) = (named ≡ Some path) × risen
Unread content named limit risen (Why.TooLongInput path at) = (named ≡ Some path) × (at ≡ limit) × PassesIfTold (content path) limit
Unread content named limit risen Why.Memory = Unit {0}
Unread content named limit risen _ = ⊥

-- why the log wasn't read that a line goes on from
abbrev pub NoLogBy : (List ℕ → Option (List ℕ)) → (resume : Option (List ℕ)) → (risen : Type 0) → Why → Type 0
NoLogBy content resume risen why = Unread content resume most risen why

-- why there is no memo that a line reads
abbrev pub NoMemoBy : (List ℕ → Option (List ℕ)) → (memo : Option (List ℕ)) → (risen : Type 0) → Why → Type 0
NoMemoBy content memo risen (Why.BadMemo path at) =
    (memo ≡ Some path) × ((bytes : List ℕ) → content path ≡ Some bytes → BadAt bytes at)
NoMemoBy content memo risen why = Unread content memo most_of_a_file risen why

-- which paths were asked then
abbrev pub AsksLast : Why → List (List ℕ) → Option (List (List ℕ)) → Option (List (List ℕ)) → Type 0
AsksLast Why.Memory paths before now = TellsPart before now paths
AsksLast _ paths before now = Tells before now paths

-- a file at this path is no memo's, as this says of the place; or want of memory
abbrev pub IfBadHere : Option (List ℕ) → (ℕ → Type 0) → Why → Type 0
IfBadHere named P (Why.BadMemo path at) = (named ≡ Some path) × P at
IfBadHere named P Why.Memory = Unit {0}
IfBadHere named P _ = ⊥

-- the job came to its bytes or to a fault
abbrev pub HasEnd : Result (List ℕ) Why → Type 0
HasEnd (Ok bytes) = Unit {0}
HasEnd (Err (Why.Fault fault)) = Unit {0}
HasEnd (Err _) = ⊥
