-- What a call that goes on asks for, and what it comes to.
use Rattle.std.specs.Prelude.{◌≡◌, ◌<◌, ◌^◌, ℕ, List, ◌++◌, map, length}
use Rattle.sky_base.specs.Val.{Desc}
use Rattle.sky_base.specs.Tree.{Script}
use Rattle.sky_base.specs.Res.{Res}
use Rattle.sky_base.specs.Read.{Run, segment}
use Rattle.sky_base.specs.ObjectView.{object_view}
use Rattle.sky_base.specs.declared.object.Object.{Object}
use Rattle.sky_base_law.specs.Sound.{SoundDesc, SoundObject}
use Rattle.sky_base_law.specs.Tasks.{Each}
use Rattle.sky_parse.specs.Source.{IsScript}
use Rattle.sky_machine_resume.specs.Comes.{with_name, Comes}
use Rattle.sky_machine_resume.specs.declared.on.Came.{Came}
use Rattle.sky_machine.specs.Rest.{IsRest}

-- the script is one that bytes are, fewer than 2,147,483,648 of them
abbrev pub IsRead : Script → Type 0
IsRead sc = (source : List ℕ) × (keys : List (List ℕ)) × IsScript source keys sc × (length source < 2 ^ 31)

-- the value of each object, if it has one, is sound: it keeps the limits, and its functions are of the script
abbrev pub AnswersSound : Script → List Object → Type 0
AnswersSound sc os = Each (SoundObject sc) (map object_view os)

module _ (digest : List ℕ → List ℕ) (sc : Script) (stack : Run (List ℕ)) (answers : List Object) where
  -- whatever rest the stack has, the call came to its next wait or its end
  abbrev pub ComesOf : Came → Run (List ℕ) → Type 0
  ComesOf came new =
      (f : List ℕ) (r : Res (List ℕ)) → IsRest digest sc stack (map object_view answers) f r → Comes f stack.waits r came new

  -- and what was spawned grew by what the rest makes up to there, each with its name
  abbrev pub MakesOf : (old new : List (List ℕ × Desc (List ℕ))) → Type 0
  MakesOf old new =
      (f : List ℕ) (r : Res (List ℕ)) → IsRest digest sc stack (map object_view answers) f r → new ≡ old ++ map (with_name digest) (segment r)

-- what was spawned grew by sound descriptions alone, each with its name
pub record GrewSoundly (digest : List ℕ → List ℕ) (sc : Script) (old new : List (List ℕ × Desc (List ℕ))) : Type 0 where
  pub made : List (Desc (List ℕ))
  pub grew : new ≡ old ++ map (with_name digest) made
  pub sound : Each (SoundDesc sc) made
