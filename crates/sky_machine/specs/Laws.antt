-- The laws, each said of every script.
use Rattle.std.specs.Prelude.{◌<◌, ◌^◌, ℕ, List, length}
use Rattle.sky_base.specs.Tree.{Script}
use Rattle.sky_base.specs.Res.{others, Object}
use Rattle.sky_base.specs.Read.{Halt, Run, rest_of, segment}
use Rattle.sky_base.specs.ObjectView.{object_view}
use Rattle.sky_base_law.specs.Sound.{SoundDesc, SoundObject}
use Rattle.sky_base_law.specs.Tasks.{Each}
use Rattle.sky_state.specs.Fits.{FitsRun}
use Rattle.sky_parse.specs.Source.{IsScript}
use Rattle.sky_machine_resume.specs.Comes.{StepsFit, over_names, LeftAt, Comes}
use Rattle.sky_machine_resume.specs.declared.on.Came.{Came}

-- each step of a script that bytes are has a number that a saved stack can hold
abbrev pub StepsOfScriptsFit : Type 0
StepsOfScriptsFit =
    (source : List ℕ) (keys : List (List ℕ)) (script : Script) → IsScript source keys script → length source < 2 ^ 31 → StepsFit script

-- each stack that waits and fits the script is that of a call at a wait
abbrev pub StacksAreLeft : Type 0
StacksAreLeft =
    (sc : Script) (r : Run (List ℕ)) → FitsRun sc r → 0 < r.waits → (f : List ℕ) × (h : Halt (List ℕ)) × LeftAt sc f h r

-- the stack waits and fits the script, and sound objects answer it
pub record Answered (sc : Script) (r : Run (List ℕ)) (os : List (Object (List ℕ))) : Type 0 where
  pub waits : 0 < r.waits
  pub fits : FitsRun sc r
  pub objects : Each (SoundObject sc) os

-- what `go_on` says that the call has come to
abbrev pub CameTo : (digest : List ℕ → List ℕ) → Script → Run (List ℕ) → List (Object (List ℕ)) → Came → Run (List ℕ) → Type 0
CameTo digest sc r os came new =
    (f : List ℕ) (h : Halt (List ℕ)) → LeftAt sc f h r → Comes f r.waits (rest_of (over_names digest sc) others h os) came new

-- where the call ends its object is sound, and where it waits next its stack fits the script
abbrev pub Stays : Script → Came → Run (List ℕ) → Type 0
Stays sc (Came.Ended o) new = SoundObject sc (object_view o)
Stays sc Came.Waits new = FitsRun sc new

abbrev pub CallsStaySound : Type 0
CallsStaySound =
    (digest : List ℕ → List ℕ) (sc : Script) (r new : Run (List ℕ)) (os : List (Object (List ℕ))) (came : Came) → Answered sc r os
    → CameTo digest sc r os came new → Stays sc came new

-- what the call makes up to there is sound
abbrev pub CallsMakeSound : Type 0
CallsMakeSound =
    (digest : List ℕ → List ℕ) (sc : Script) (f : List ℕ) (h : Halt (List ℕ)) (r : Run (List ℕ)) (os : List (Object (List ℕ))) → Answered sc r os
    → LeftAt sc f h r → Each (SoundDesc sc) (segment (rest_of (over_names digest sc) others h os))
