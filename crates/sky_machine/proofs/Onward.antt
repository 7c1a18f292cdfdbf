-- A call goes on soundly, since its stack does.
use Rattle.std.proofs.Common.{◌≡◌, ◌≤◌, ◌<◌, ◌+◌, ◌^◌, ℕ, List, length, sym, subst, arith}
use Rattle.sky_base.specs.Val.{null}
use Rattle.sky_base.specs.Tree.{Script}
use Rattle.sky_base.specs.Res.{others, Object, End}
use Rattle.sky_base.specs.Read.{Halt, Run, rest_of, segment, first_end, run_of_halt}
use Rattle.sky_base_law.specs.Sound.{Sound, SoundDesc, SoundObject}
use Rattle.sky_base_law.specs.Tasks.{Each}
use Rattle.sky_state.specs.Fits.{FitsRun}
use Rattle.ciel_json.proofs.ReadLaw.{reads_sound}
use Rattle.sky_parse.specs.Source.{IsScript}
use Rattle.sky_machine.specs.Width.{width}
use Rattle.sky_machine.proofs.Narrows.{script_narrow}
use Rattle.sky_machine.proofs.NarrowSteps.{step_within}
use Rattle.sky_machine_waits.specs.RefitsLaws.{Saved}
use Rattle.sky_machine_waits.specs.Sounds.{SoundWorld, SoundEnd, EndsSound}
use Rattle.sky_machine_waits.proofs.Again.{fits_answered, makes_answered}
use Rattle.sky_machine_resume.specs.Comes.{StepsFit, over_names, LeftAt, object_at, Comes}
use Rattle.sky_machine_resume.specs.declared.on.Came.{Came}
use Rattle.sky_machine.specs.Laws.{Answered, CameTo, Stays}
use Rattle.sky_machine.proofs.InnermostWaits.{stack_left}

pub steps_fit : (source : List ℕ) (keys : List (List ℕ)) (script : Script) → IsScript source keys script → length source < 2 ^ 31 → StepsFit script
steps_fit source keys script is few t n k step at =
    let small : width t + 2 < 4294967296 = script_narrow source keys script is few n t at in
    let le : k ≤ width t + 2 = step_within t n k step in
    let lt : k < 4294967296 = omega (arith, small, le) in
    lt

module _ (digest : List ℕ → List ℕ) (sc : Script) where
  pub sound_world : SoundWorld (over_names digest sc)
  sound_world = record { reads = λ b v e. reads_sound (λ n. Unit {0}) sc b v e; make = λ d h. tt }

  null_sound : Sound {N = List ℕ} sc null
  null_sound = (record { deep = omega arith; large = omega arith }, tt)

  pub sound_at : (e : End (List ℕ)) → SoundEnd sc e → SoundObject sc (object_at e)
  sound_at End.goes h = null_sound
  sound_at (End.got v) h = h
  sound_at (End.returned v) h = h
  sound_at (End.failed f) h = tt

  module _ (r : Run (List ℕ)) (os : List (Object (List ℕ))) (a : Answered sc r os) where
    module _ (f : List ℕ) (h : Halt (List ℕ)) (l : LeftAt sc f h r) where
      same : run_of_halt f r.waits h ≡ r
      same = λ i. record { frames = l.frames i; count = l.count i; waits = r.waits }

      saved : Saved (over_names digest sc) f r.waits h
      saved = record { waits = a.waits; fits = subst (FitsRun sc) (sym same) a.fits; follow = l.follow; all_opened = l.opened }

      both : Each (SoundDesc sc) (segment (rest_of (over_names digest sc) others h os))
          × EndsSound sc (first_end (rest_of (over_names digest sc) others h os))
      both = makes_answered (over_names digest sc) sound_world f r.waits h saved os l.wait a.objects

      pub makes_next : Each (SoundDesc sc) (segment (rest_of (over_names digest sc) others h os))
      makes_next = both.0

      stays_so : (came : Came) (new : Run (List ℕ)) → Comes f r.waits (rest_of (over_names digest sc) others h os) came new → Stays sc came new
      stays_so (Came.Ended o) new (s, is, e) =
          subst (SoundObject sc) (sym e) (sound_at s.0 (subst (EndsSound sc) is both.1))
      stays_so Came.Waits new (g, is, e) =
          subst (FitsRun sc) (sym e) (fits_answered (over_names digest sc) sound_world f r.waits h saved os l.wait a.objects g is)

    pub stays : (came : Came) (new : Run (List ℕ)) → CameTo digest sc r os came new → Stays sc came new
    stays came new comes = let left = stack_left sc r a.fits a.waits in stays_so left.0 left.1 left.2 came new (comes left.0 left.1 left.2)
