-- The start of a call, and of the root task.
use Rattle.std.specs.Prelude.{◌≡◌, ℕ, List, [], ◌∷◌, Option, Some, None, ◌⊎◌}
use Rattle.sky_base.specs.Val.{Vals, Pairs, no_vals, val}
use Rattle.sky_base.specs.Tree.{Script}
use Rattle.sky_base.specs.Eval.{Body, bind, body_of, find_fun}
use Rattle.sky_base_law.specs.Sound.{IsMain, CallsIf, Sound, SoundVars}
use Rattle.sky_state.specs.Stand.{Stand}

module _ {N : Type 0} where
  -- one frame, one entry at step 0 of the body's block, an empty stack, the captured pairs and the parameters as variables
  abbrev pub start_in : List ℕ → Pairs N → Vals N → Body → Stand N
  start_in f c vs b =
      Stand.run (record {
        frames = record { fun = f; vars = bind b.params vs c; stack = []; todo = record { node = b.node; step = 0 } ∷ [] }
            ∷ [];
        count = 0;
        waits = 0;
      })

  -- the state is the start of this body, if there is one
  abbrev pub StartsIn : Option Body → List ℕ → Pairs N → Vals N → Stand N → Type 0
  StartsIn None f c vs s = ⊥
  StartsIn (Some b) f c vs s = s ≡ start_in f c vs b

  abbrev pub StartsCall : Script → List ℕ → Pairs N → Vals N → Stand N → Type 0
  StartsCall sc f c vs s = StartsIn (body_of f sc) f c vs s

  abbrev pub SoundVals : Script → Vals N → Type 0
  SoundVals sc no_vals = Unit {0}
  SoundVals sc (val v vs) = Sound sc v × SoundVals sc vs

  -- a call that may be started: that of `main`, with no name, nothing captured and no arguments, or that of a function of the
  -- script with as many arguments as it has parameters, which captured only what it uses; its values keep the limits, and each
  -- function in them is one of the script
  pub record CanStart (sc : Script) (f : List ℕ) (c : Pairs N) (vs : Vals N) : Type 0 where
    pub call : IsMain f c vs ⊎ CallsIf (find_fun f sc.funs) c vs
    pub caught : SoundVars sc c
    pub args : SoundVals sc vs
