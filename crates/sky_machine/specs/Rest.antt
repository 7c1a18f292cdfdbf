-- The rest of a call's run over names, from its stack on.
use Rattle.std.specs.Prelude.{◌≡◌, ◌<◌, ℕ, List, ◌⊎◌}
use Rattle.sky_base.specs.Val.{Pairs, Vals}
use Rattle.sky_base.specs.Tree.{Script, nowhere}
use Rattle.sky_base.specs.Res.{others, bodies, Object, Res}
use Rattle.sky_base.specs.Eval.{body_at}
use Rattle.sky_base.specs.Read.{Halt, Run, rest_of}
use Rattle.sky_base.specs.See.{start_st}
use Rattle.sky_state.specs.Fits.{FitsRun}
use Rattle.sky_state.specs.Stand.{Stand}
use Rattle.sky_state.specs.Start.{StartsCall}
use Rattle.sky_machine_resume.specs.Comes.{over_names, LeftAt}

module _ (digest : List ℕ → List ℕ) (sc : Script) (stack : Run (List ℕ)) where
  -- the stack is the start of a call of this function, and the rest is its whole run
  pub record IsWhole (f : List ℕ) (r : Res (List ℕ)) : Type 0 where
    pub caught : Pairs (List ℕ)
    pub args : Vals (List ℕ)
    pub start : StartsCall sc f caught args (Stand.run stack)
    pub is : r ≡ body_at (over_names digest sc) bodies f caught args nowhere start_st

  -- the stack is that of a call of this function at a wait, and the rest is what comes where these objects answer the wait
  pub record IsLeft (os : List (Object (List ℕ))) (f : List ℕ) (r : Res (List ℕ)) : Type 0 where
    pub waits : 0 < stack.waits
    pub halt : Halt (List ℕ)
    pub left : LeftAt sc f halt stack
    pub is : r ≡ rest_of (over_names digest sc) others halt os

  -- the rest of the run of a call of this function
  abbrev pub IsRest : List (Object (List ℕ)) → List ℕ → Res (List ℕ) → Type 0
  IsRest os f r = IsWhole f r ⊎ IsLeft os f r

-- each stack that fits has a rest, whatever answers
abbrev pub StacksHaveARest : Type 0
StacksHaveARest =
    (digest : List ℕ → List ℕ) (sc : Script) (stack : Run (List ℕ)) (os : List (Object (List ℕ))) → FitsRun sc stack → (f : List ℕ)
    × (r : Res (List ℕ)) × IsRest digest sc stack os f r
