-- A function's parameters, and what it captures.
use Rattle.std.specs.Prelude.{◌≡◌, ◌≢◌, ℕ, List, [], true}
use Rattle.sky_base.specs.Eval.{is_one_of}
use Rattle.sky_base.specs.Tree.{FunDef, Script}
use Rattle.sky_base_law.specs.Tasks.{Apart, Each, In}
use Rattle.sky_parse.specs.Source.{IsScript}

-- it has a name, its parameters are distinct, and none of them is captured
pub record Orderly (f : FunDef) : Type 0 where
  pub named : f.name ≢ []
  pub apart : Apart f.params
  pub captured : (x : List ℕ) → is_one_of x f.uses ≡ true → In x f.params → ⊥

-- so is each function of a script that bytes are
abbrev pub FunctionsAreOrderly : Type 0
FunctionsAreOrderly =
    (source : List ℕ) (keys : List (List ℕ)) (script : Script) → IsScript source keys script → Each Orderly script.funs
