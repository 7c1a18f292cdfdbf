-- What has a row once descriptions are learned.
use Rattle.std.specs.Prelude.{◌≡◌, ℕ, List, [], ◌∷◌, Bool, true, false, ◌||◌, is_some}
use Rattle.sky_base.specs.Name.{held_name}
use Rattle.sky_base.specs.Val.{Val, Vals, Pairs, null, truth, num, text, list, dict, fun, ref, no_vals, val, no_pairs, pair, same_text}
use Rattle.sky_base.specs.Res.{Object}
use Rattle.sky_base.specs.View.{view}
use Rattle.sky_base.specs.declared.object.Desc1.{Desc1}
use Rattle.sky_base.specs.declared.object.Named.{Named}
use Rattle.ciel_table.specs.Seen.{TableSeen, find}

-- a table, and what is to be learned in it
pub record AfterSeen (P : Type 0) : Type 0 where
  pub table : TableSeen P
  pub spawned : List Named

-- one of these has the name
abbrev pub is_named : List ℕ → List Named → Bool
is_named n [] = false
is_named n (m ∷ ms) = same_text n m.name || is_named n ms

-- a row has it, or what is to be learned
abbrev pub knows : {P : Type 0} → AfterSeen P → List ℕ → Bool
knows a n = is_some (find n a.table) || is_named n a.spawned

-- each name in a value has this property
module _ (p : List ℕ → Bool) where
  abbrev mutual
    pub NamesIn : Val (List ℕ) → Type 0
    NamesIn null = Unit {0}
    NamesIn (truth b) = Unit {0}
    NamesIn (num z) = Unit {0}
    NamesIn (text t) = Unit {0}
    NamesIn (list vs) = NamesInVals vs
    NamesIn (dict ps) = NamesInPairs ps
    NamesIn (fun f c) = NamesInPairs c
    NamesIn (ref d) = p (held_name d) ≡ true

    pub NamesInVals : Vals (List ℕ) → Type 0
    NamesInVals no_vals = Unit {0}
    NamesInVals (val v vs) = NamesIn v × NamesInVals vs

    pub NamesInPairs : Pairs (List ℕ) → Type 0
    NamesInPairs no_pairs = Unit {0}
    NamesInPairs (pair k v ps) = NamesIn v × NamesInPairs ps

  -- each that stands inside a description
  abbrev pub NamesInDesc : Desc1 → Type 0
  NamesInDesc (Desc1.Call f c vs) = NamesInPairs c × NamesInVals vs
  NamesInDesc (Desc1.Exec x a n i) = NamesIn (view a)
  NamesInDesc (Desc1.Input k) = Unit {0}

  abbrev pub NamesInObject : Object (List ℕ) → Type 0
  NamesInObject (Object.bytes b) = Unit {0}
  NamesInObject (Object.data_of v) = NamesIn v
  NamesInObject (Object.fault f) = Unit {0}
