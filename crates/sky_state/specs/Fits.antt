-- When a state fits a script.
use Rattle.std.specs.Prelude.{◌≡◌, ℕ, ◌≤◌, ◌<◌, List, [], ◌∷◌, map, length, take, drop, sum_by, Option, Some, None, true, pos, ◌⊎◌, ◌↔◌}
use Rattle.sky_base.specs.Val.{Val, Vals, Pairs, num, list, ref, no_vals, val, no_pairs, pair, count, refs}
use Rattle.sky_base.specs.Tree.{FunDef, Script}
use Rattle.sky_base.specs.Res.{visits, bodies}
use Rattle.sky_base.specs.Eval.{find_fun, is_one_of, Body, body_of}
use Rattle.sky_base.specs.Read.{Todo, Frame, Run}
use Rattle.sky_base.specs.See.{most_waves}
use Rattle.sky_base_law.specs.Nodes.{node_at}
use Rattle.sky_base_law.specs.Tasks.{In, Each}
use Rattle.sky_base_law.specs.Sound.{IsFun, Sound, SoundVars}
use Rattle.sky_state.specs.Stand.{Stand}
use Rattle.sky_state.specs.Table.{Row, turn, star, outputs, row, keeps, places, IsStep, IsOpenCall, IsWaiting}

-- ---- the values that an entry keeps

module _ {N : Type 0} where
  abbrev pub IsList : Val N → Type 0
  IsList (list us) = Unit {0}
  IsList _ = ⊥

  abbrev pub IsNumber : Val N → Type 0
  IsNumber (num z) = Unit {0}
  IsNumber _ = ⊥

  abbrev pub IsReference : Val N → Type 0
  IsReference (ref d) = Unit {0}
  IsReference _ = ⊥

  abbrev pub AllReferences : Vals N → Type 0
  AllReferences no_vals = Unit {0}
  AllReferences (val v vs) = IsReference v × AllReferences vs

  abbrev pub IsListOfReferences : Val N → Type 0
  IsListOfReferences (list us) = AllReferences us
  IsListOfReferences _ = ⊥

  -- there is one value, with this property
  abbrev pub One : (Val N → Type 0) → List (Val N) → Type 0
  One P (v ∷ []) = P v
  One P _ = ⊥

  -- there are two, which are so
  abbrev pub Two : (Val N → Val N → Type 0) → List (Val N) → Type 0
  Two P (v ∷ u ∷ []) = P v u
  Two P _ = ⊥

  -- these are of the kinds that the row names
  abbrev pub OfKinds : Row → List (Val N) → Type 0
  OfKinds (turn m) vs = Two (λ v u. IsList v × IsNumber u) vs
  OfKinds star vs = One IsReference vs
  OfKinds outputs vs = One IsListOfReferences vs
  OfKinds _ vs = Unit {0}

  -- the number is from 0 to the length
  abbrev pub UpTo : ℕ → Val N → Type 0
  UpTo n (num (pos t)) = t ≤ n
  UpTo n _ = ⊥

  abbrev pub UpToLength : Val N → Val N → Type 0
  UpToLength (list us) u = UpTo (count us) u
  UpToLength _ u = ⊥

  -- the number of a `for` is from 0 to its list's length
  abbrev pub TakenFrom : Row → List (Val N) → Type 0
  TakenFrom (turn m) vs = Two UpToLength vs
  TakenFrom _ vs = Unit {0}

  -- the values of the stack that belong to each entry, the deepest first
  abbrev pub shares : List Row → List (Val N) → List (Row × List (Val N))
  shares [] vs = []
  shares (r ∷ rs) vs = (r, take (keeps r) vs) ∷ shares rs (drop (keeps r) vs)

-- the property of the last of them; there is one
abbrev pub Last : {A : Type 0} → (A → Type 0) → List A → Type 0
Last P [] = ⊥
Last P (x ∷ []) = P x
Last P (x ∷ y ∷ ys) = Last P (y ∷ ys)

-- and the property of all before it
abbrev pub Before : {A : Type 0} → (A → Type 0) → List A → Type 0
Before P [] = Unit {0}
Before P (x ∷ []) = Unit {0}
Before P (x ∷ y ∷ ys) = P x × Before P (y ∷ ys)

-- one entry, at step 0
abbrev pub AtStart : List Todo → Type 0
AtStart (t ∷ []) = t.step ≡ 0
AtStart _ = ⊥

-- ---- variables at the start of a body

abbrev pub uses_of : Option FunDef → List (List ℕ)
uses_of None = []
uses_of (Some f) = f.uses

module _ {N : Type 0} where
  -- each variable is a parameter or a name that the function uses
  abbrev pub KeysFrom : (params uses : List (List ℕ)) → Pairs N → Type 0
  KeysFrom xs us no_pairs = Unit {0}
  KeysFrom xs us (pair k v ps) = (In k xs ⊎ (is_one_of k us ≡ true)) × KeysFrom xs us ps

  abbrev pub HasKey : Pairs N → List ℕ → Type 0
  HasKey no_pairs x = ⊥
  HasKey (pair k v ps) x = (x ≡ k) ⊎ HasKey ps x

module _ (sc : Script) where
  -- what the table says of a saved entry
  abbrev pub row_of : Todo → Row
  row_of t = row (node_at sc t.node) t.node t.step

  -- the bottom entry is the body's block
  abbrev pub OnBody : Option Body → List Todo → Type 0
  OnBody (Some b) (t ∷ ts) = t.node ≡ b.node
  OnBody _ _ = ⊥

  -- each further entry is a part that is pending or running at the entry below
  abbrev pub Parts : List Todo → Type 0
  Parts [] = Unit {0}
  Parts (t ∷ []) = Unit {0}
  Parts (t ∷ u ∷ us) = In u.node (places (row_of t)) × Parts (u ∷ us)

  abbrev pub kept_in_all : List Todo → ℕ
  kept_in_all ts = sum_by (λ t. keeps (row_of t)) ts

  module _ {N : Type 0} where
    pub record FitsFrame (f : Frame N) : Type 0 where
      pub bottom : OnBody (body_of f.fun sc) f.todo
      pub steps : Each (λ t. IsStep (row_of t)) f.todo
      pub parts : Parts f.todo
      -- as many values as the entries keep
      pub as_many : length f.stack ≡ kept_in_all f.todo
      pub kinds : Each (λ s. OfKinds s.0 s.1) (shares (map row_of f.todo) f.stack)
      pub taken : Each (λ s. TakenFrom s.0 s.1) (shares (map row_of f.todo) f.stack)
      -- each value keeps the limits, and each function value is one of the script that captured only what it uses
      pub vars : SoundVars sc f.vars
      pub values : Each (Sound sc) f.stack

    -- each frame's function is in the script; that of the bottom frame alone may be `main`, which has the empty name
    abbrev pub FunsOf : List (Frame N) → Type 0
    FunsOf [] = Unit {0}
    FunsOf (f ∷ fs) = ((f.fun ≡ []) ⊎ IsFun sc f.fun) × Each (λ g. IsFun sc g.fun) fs

    -- the variables are exactly the parameters and captured pairs
    abbrev pub StartVars : Option Body → List (List ℕ) → Pairs N → Type 0
    StartVars None us ps = ⊥
    StartVars (Some b) us ps = KeysFrom b.params us ps × Each (HasKey ps) b.params

    pub record StartFrame (f : Frame N) : Type 0 where
      pub bottom : OnBody (body_of f.fun sc) f.todo
      pub at_start : AtStart f.todo
      pub stack : f.stack ≡ []
      pub vars : StartVars (body_of f.fun sc) (uses_of (find_fun f.fun sc.funs)) f.vars

    abbrev pub OneFrame : List (Frame N) → Type 0
    OneFrame (f ∷ []) = StartFrame f
    OneFrame _ = ⊥

    pub record IsStart (r : Run N) : Type 0 where
      pub frame : OneFrame r.frames
      pub count : r.count ≡ 0
      pub waits : r.waits ≡ 0

    pub record FitsRun (r : Run N) : Type 0 where
      pub some_frame : 0 < length r.frames
      pub few_frames : length r.frames ≤ bodies
      pub count : r.count ≤ visits
      pub waits : r.waits ≤ r.count
      pub functions : FunsOf r.frames
      pub frames : Each FitsFrame r.frames
      -- in each frame but the top one the last entry is an open call
      pub calls : Before (λ f. Last (λ t. IsOpenCall (row_of t)) f.todo) r.frames
      -- in the top frame the last entry is a waiting one, or the state is a start
      pub top : Last (λ f. Last (λ t. IsWaiting (row_of t)) f.todo) r.frames ⊎ IsStart r
      pub started : (0 < r.waits) ↔ (IsStart r → ⊥)

    pub record FitsShow (v : Val N) (w : ℕ) : Type 0 where
      pub wave : w ≤ most_waves
      pub value : Sound sc v
      pub refers : 0 < length (refs v)

    abbrev pub Fits : Stand N → Type 0
    Fits (Stand.run r) = FitsRun r
    Fits (Stand.show_at v w) = FitsShow v w
