-- Values that keep the limits of depth and size and name functions of the script alone, with all that they refer to.
use Rattle.sky_base.specs.See as see
use Rattle.std.specs.Prelude.{◌≡◌, ℕ, ◌≤◌, ◌<◌, List, [], true, Option, Some, None, Ok, Err, IsSome, ◌⊎◌, length}
use Rattle.sky_base.specs.Val.{Val, Vals, Pairs, Desc, null, truth, num, text, list, dict, fun, ref, no_vals, val, no_pairs, pair, call, out, input}
use Rattle.sky_base.specs.Val.{known, count}
use Rattle.sky_base.specs.Op.{Answer}
use Rattle.sky_base.specs.Tree.{FunDef, Script}
use Rattle.sky_base.specs.Eval.{find_fun, is_one_of, most_outputs}
use Rattle.sky_base.specs.Res.{Object}
use Rattle.sky_base.specs.Read.{Frame}
use Rattle.sky_base.specs.Needed.{Task, State}
use Rattle.sky_base_law.specs.Tasks.{Each}
use Rattle.sky_base.specs.Kept.{Kept}

-- a script has a function of this name
abbrev pub IsFun : Script → List ℕ → Type 0
IsFun sc f = IsSome (find_fun f sc.funs)

-- the keys of the pairs are among these names
abbrev pub AllUsed : {N : Type 0} → List (List ℕ) → Pairs N → Type 0
AllUsed us no_pairs = Unit {0}
AllUsed us (pair k v ps) = (is_one_of k us ≡ true) × AllUsed us ps

-- there is a function, and the keys of the pairs are names that it uses
abbrev pub TakesIf : {N : Type 0} → Option FunDef → Pairs N → Type 0
TakesIf None c = ⊥
TakesIf (Some f) c = AllUsed f.uses c

-- and it has so many parameters
abbrev pub CallsIf : {N : Type 0} → Option FunDef → Pairs N → Vals N → Type 0
CallsIf None c vs = ⊥
CallsIf (Some f) c vs = AllUsed f.uses c × (length f.params ≡ count vs)

-- the call of `main`
abbrev pub IsMain : {N : Type 0} → List ℕ → Pairs N → Vals N → Type 0
IsMain f c vs = (f ≡ []) × (c ≡ no_pairs) × (vs ≡ no_vals)

-- K says which names may stand inside
module _ {N : Type 0} (K : N → Type 0) (sc : Script) where
  -- each function in a value is of the script and captured only what it uses, and each description that it refers to is
  -- sound; one is sound where its arguments, and its function with what it captured, keep the limits and are so too, a call is
  -- that of `main` or one of such a function with as many arguments as it has parameters, the index of an output is below the
  -- number of outputs, of which there are not too many, and an input is one of the script's, by a name that keeps the limits
  abbrev mutual
    pub RefsOver : Val N → Type 0
    RefsOver null = Unit {0}
    RefsOver (truth b) = Unit {0}
    RefsOver (num z) = Unit {0}
    RefsOver (text t) = Unit {0}
    RefsOver (list vs) = ValsOver vs
    RefsOver (dict ps) = PairsOver ps
    RefsOver (fun f c) = TakesIf (find_fun f sc.funs) c × PairsOver c
    RefsOver (ref d) = DescOver d

    pub ValsOver : Vals N → Type 0
    ValsOver no_vals = Unit {0}
    ValsOver (val v vs) = RefsOver v × ValsOver vs

    pub PairsOver : Pairs N → Type 0
    PairsOver no_pairs = Unit {0}
    PairsOver (pair k v ps) = RefsOver v × PairsOver ps

    pub DescOver : Desc N → Type 0
    DescOver (call f c vs) = Kept (list vs) × Kept (fun f c) × ValsOver vs × PairsOver c × (IsMain f c vs ⊎ CallsIf (find_fun f sc.funs) c vs)
    DescOver (out x v n i) = Kept {N = N} (text x) × Kept v × RefsOver v × (i < n) × (n ≤ most_outputs)
    DescOver (input k) = Kept {N = N} (text k) × (is_one_of k sc.keys ≡ true)
    DescOver (known b) = K b

  -- a value that keeps the limits, and whose descriptions are sound
  abbrev pub SoundOver : Val N → Type 0
  SoundOver v = Kept v × RefsOver v

-- the same where any name may stand inside
module _ {N : Type 0} (sc : Script) where
  abbrev pub RefsSound : Val N → Type 0
  RefsSound v = RefsOver (λ b. Unit {0}) sc v

  abbrev pub ValsSound : Vals N → Type 0
  ValsSound vs = ValsOver (λ b. Unit {0}) sc vs

  abbrev pub PairsSound : Pairs N → Type 0
  PairsSound ps = PairsOver (λ b. Unit {0}) sc ps

  abbrev pub SoundDesc : Desc N → Type 0
  SoundDesc d = DescOver (λ b. Unit {0}) sc d

  abbrev pub Sound : Val N → Type 0
  Sound v = SoundOver (λ b. Unit {0}) sc v

  -- an object whose value, if it has one, is sound
  abbrev pub SoundObject : Object N → Type 0
  SoundObject (Object.bytes b) = Unit {0}
  SoundObject (Object.data_of v) = Sound v
  SoundObject (Object.fault f) = Unit {0}

  -- each variable is sound
  abbrev pub SoundVars : Pairs N → Type 0
  SoundVars no_pairs = Unit {0}
  SoundVars (pair k v ps) = Sound v × SoundVars ps

  abbrev pub SoundFrame : Frame N → Type 0
  SoundFrame f = SoundVars f.vars × Each Sound f.stack × ((f.fun ≡ []) ⊎ IsFun sc f.fun)

module _ (sc : Script) where
  abbrev pub SoundState : State → Type 0
  SoundState (State.run r) = Each (SoundFrame sc) r.frames
  SoundState (State.show_at v j) = Sound sc v

  abbrev pub SoundTask : Task → Type 0
  SoundTask Task.show = Unit {0}
  SoundTask (Task.of d) = SoundDesc sc d

  abbrev pub SoundRead : Answer ⊥ → Type 0
  SoundRead (Ok v) = Sound sc v
  SoundRead (Err k) = Unit {0}

  -- what is read as data is sound
  abbrev pub SoundReads : see.Around → Type 0
  SoundReads around = (b : List ℕ) → SoundRead (around.reads b)
