-- What types of 64-bit numbers, of texts and of ordered maps keep of a value, with all that it refers to.
use Rattle.std.specs.Prelude.{FitsSigned, ℕ, List, Ok, Err}
use Rattle.std.specs.Int.{w64}
use Rattle.std.specs.Str.{IsUtf8}
use Rattle.sky_base.specs.Val.{Val, Vals, Pairs, Desc, null, truth, num, text, list, dict, fun, ref, no_vals, val, no_pairs, pair, call, out, input}
use Rattle.sky_base.specs.Val.{known, Rising}
use Rattle.sky_base.specs.Op.{Answer}
use Rattle.sky_base.specs.Tree.{Lit, Script}
use Rattle.sky_base.specs.Res.{Object}
use Rattle.sky_base.specs.Read.{Frame}
use Rattle.sky_base.specs.See as see
use Rattle.sky_base.specs.Needed.{Task, State}
use Rattle.sky_base_law.specs.Tasks.{Each}
use Rattle.sky_base_law.specs.Sound.{SoundReads}
use Rattle.sky_base_law.specs.Written.{Written}

-- K says which names may stand inside
module _ {N : Type 0} (K : N → Type 0) where
  -- numbers have 64 bits; texts, keys and names are UTF-8; the keys of a dictionary, and of what a function captured, rise;
  -- each description referred to is so too
  abbrev mutual
    pub TypedOver : Val N → Type 0
    TypedOver null = Unit {0}
    TypedOver (truth b) = Unit {0}
    TypedOver (num z) = FitsSigned w64 z
    TypedOver (text t) = IsUtf8 t
    TypedOver (list vs) = ValsTyped vs
    TypedOver (dict ps) = EachTyped ps × Rising ps
    TypedOver (fun f c) = IsUtf8 f × EachTyped c × Rising c
    TypedOver (ref d) = DescTypedOver d

    pub ValsTyped : Vals N → Type 0
    ValsTyped no_vals = Unit {0}
    ValsTyped (val v vs) = TypedOver v × ValsTyped vs

    pub EachTyped : Pairs N → Type 0
    EachTyped no_pairs = Unit {0}
    EachTyped (pair k v ps) = IsUtf8 k × TypedOver v × EachTyped ps

    pub DescTypedOver : Desc N → Type 0
    DescTypedOver (call f c vs) = IsUtf8 f × EachTyped c × Rising c × ValsTyped vs
    DescTypedOver (out x v n i) = IsUtf8 x × TypedOver v
    DescTypedOver (input k) = IsUtf8 k
    DescTypedOver (known b) = K b

-- the same where any name may stand inside
module _ {N : Type 0} where
  abbrev pub Typed : Val N → Type 0
  Typed v = TypedOver (λ b. Unit {0}) v

  abbrev pub TypedDesc : Desc N → Type 0
  TypedDesc d = DescTypedOver (λ b. Unit {0}) d

  -- an object whose value, if it has one, is typed
  abbrev pub TypedObject : Object N → Type 0
  TypedObject (Object.bytes b) = Unit {0}
  TypedObject (Object.data_of v) = Typed v
  TypedObject (Object.fault f) = Unit {0}

  -- the names of variables rise, and are UTF-8 as their function's
  abbrev pub TypedVars : Pairs N → Type 0
  TypedVars ps = EachTyped (λ b. Unit {0}) ps × Rising ps

  abbrev pub TypedFrame : Frame N → Type 0
  TypedFrame f = IsUtf8 f.fun × TypedVars f.vars × Each Typed f.stack

abbrev pub TypedState : State → Type 0
TypedState (State.run r) = Each TypedFrame r.frames
TypedState (State.show_at v j) = Typed v

abbrev pub TypedTask : Task → Type 0
TypedTask Task.show = Unit {0}
TypedTask (Task.of d) = TypedDesc d

abbrev pub TypedRead : Answer ⊥ → Type 0
TypedRead (Ok v) = Typed v
TypedRead (Err k) = Unit {0}

-- what is read as data is typed
abbrev pub TypedReads : see.Around → Type 0
TypedReads around = (b : List ℕ) → TypedRead (around.reads b)

-- ---- what a script brings in

abbrev pub TypedLit : Lit → Type 0
TypedLit Lit.null = Unit {0}
TypedLit (Lit.truth b) = Unit {0}
TypedLit (Lit.num z) = FitsSigned w64 z
TypedLit (Lit.text t) = IsUtf8 t

-- each literal of the script is a number of 64 bits or UTF-8, and each of its names is UTF-8
abbrev pub TypedScript : Script → Type 0
TypedScript sc = Written TypedLit IsUtf8 sc

-- what a job begins with is typed: its script, and what is read as data, which is sound too
pub record TypedJob (job : see.Job) (around : see.Around) : Type 0 where
  pub script : TypedScript job.script
  pub reads : TypedReads around
  pub sound : SoundReads job.script around
