-- The laws, each said of every run over names.
use Rattle.std.specs.Prelude.{◌≡◌, ◌<◌, ℕ, suc, List, Some}
use Rattle.sky_base.specs.Val.{Vals, Pairs}
use Rattle.sky_base.specs.Tree.{nowhere}
use Rattle.sky_base.specs.Res.{others, bodies, Object, End, Fin, Wait}
use Rattle.sky_base.specs.Eval.{World, plug, wait_end, body_at}
use Rattle.sky_base.specs.Read.{Halt, Run, run_of_halt, segment, first_end, first_halt, rest_of}
use Rattle.sky_base.specs.See.{start_st}
use Rattle.sky_base_law.specs.Nodes.{node_at}
use Rattle.sky_base_law.specs.Sound.{Sound, SoundDesc, SoundObject}
use Rattle.sky_base_law.specs.Tasks.{Each}
use Rattle.sky_state.specs.Chained.{AllOpened}
use Rattle.sky_state.specs.Fits.{FitsRun}
use Rattle.sky_state.specs.Stand.{Stand}
use Rattle.sky_state.specs.Start.{StartsCall}
use Rattle.sky_machine_waits.specs.RestsLaws.{Follow}
use Rattle.sky_machine_waits.specs.Waits.{wait_in}
use Rattle.sky_machine_waits.specs.Sounds.{SoundWorld, SoundEnd, EndsSound, asked}

-- sound objects that are waited for give a sound end of the wait
abbrev pub AnswersAreSound : Type 0
AnswersAreSound =
    (w : World (List ℕ)) (q : Wait (List ℕ)) (os : List (Object (List ℕ))) → SoundWorld w → Sound w.script (asked q)
    → Each (SoundObject w.script) os → SoundEnd w.script (wait_end w q os)

-- the stack at a wait fits the script, and its forms follow each other, each opened by what is saved of it
pub record Saved (w : World (List ℕ)) (f : List ℕ) (j : ℕ) (h : Halt (List ℕ)) : Type 0 where
  pub waits : 0 < j
  pub fits : FitsRun w.script (run_of_halt f j h)
  pub follow : Follow w f h.forms
  pub all_opened : AllOpened (λ i. node_at w.script i) h.forms

-- where such a stack goes on from a sound end of its innermost form, the stack at the next wait fits the script
abbrev pub StackFitsAgain : Type 0
StackFitsAgain =
    (w : World (List ℕ)) (f : List ℕ) (j : ℕ) (h g : Halt (List ℕ)) (e : End (List ℕ)) → SoundWorld w → Saved w f j h → SoundEnd w.script e
    → first_halt (plug w others h.forms (Fin e h.st)) ≡ Some g → FitsRun w.script (run_of_halt f (suc j) g)

-- what it makes up to there is sound, and so is its end where it waits no more
abbrev pub StackMakesSound : Type 0
StackMakesSound =
    (w : World (List ℕ)) (f : List ℕ) (j : ℕ) (h : Halt (List ℕ)) (e : End (List ℕ)) → SoundWorld w → Saved w f j h → SoundEnd w.script e
    → Each (SoundDesc w.script) (segment (plug w others h.forms (Fin e h.st)))
    × EndsSound w.script (first_end (plug w others h.forms (Fin e h.st)))

-- where such a stack waits for what its forms wait for, and sound objects answer it, the stack at the next wait fits the script
abbrev pub AnsweredFitsAgain : Type 0
AnsweredFitsAgain =
    (w : World (List ℕ)) (f : List ℕ) (j : ℕ) (h g : Halt (List ℕ)) (os : List (Object (List ℕ))) → SoundWorld w → Saved w f j h
    → wait_in w.script h.forms ≡ Some h.wait → Each (SoundObject w.script) os → first_halt (rest_of w others h os) ≡ Some g
    → FitsRun w.script (run_of_halt f (suc j) g)

-- and what it makes up to there is sound, and so is its end where it waits no more
abbrev pub AnsweredMakesSound : Type 0
AnsweredMakesSound =
    (w : World (List ℕ)) (f : List ℕ) (j : ℕ) (h : Halt (List ℕ)) (os : List (Object (List ℕ))) → SoundWorld w → Saved w f j h
    → wait_in w.script h.forms ≡ Some h.wait → Each (SoundObject w.script) os → Each (SoundDesc w.script) (segment (rest_of w others h os))
    × EndsSound w.script (first_end (rest_of w others h os))

-- where a call begins from a state that fits, the stack at its first wait fits the script
abbrev pub StartFitsAgain : Type 0
StartFitsAgain =
    (w : World (List ℕ)) (r : Run (List ℕ)) (f : List ℕ) (c : Pairs (List ℕ)) (vs : Vals (List ℕ)) (g : Halt (List ℕ)) → SoundWorld w
    → FitsRun w.script r → StartsCall w.script f c vs (Stand.run r) → first_halt (body_at w bodies f c vs nowhere start_st) ≡ Some g
    → FitsRun w.script (run_of_halt f 1 g)

-- what it makes up to there is sound, and so is its end where it doesn't wait
abbrev pub StartMakesSound : Type 0
StartMakesSound =
    (w : World (List ℕ)) (r : Run (List ℕ)) (f : List ℕ) (c : Pairs (List ℕ)) (vs : Vals (List ℕ)) → SoundWorld w → FitsRun w.script r
    → StartsCall w.script f c vs (Stand.run r) → Each (SoundDesc w.script) (segment (body_at w bodies f c vs nowhere start_st))
    × EndsSound w.script (first_end (body_at w bodies f c vs nowhere start_st))
