-- Where all that is looked up is seen, all of it is gathered.
use Rattle.std.proofs.Common.{◌≡◌, ◌≢◌, List, [], ◌∷◌, Option, Some, None, Result, Ok, Err, refl, ap, ◌∙◌, sym}
use Rattle.sky_base.specs.Val as v
use Rattle.sky_base.specs.Res.{Object}
use Rattle.sky_base.specs.Read.{joined, see_all}
use Rattle.sky_base.specs.See.{Desc, Obj, Gathered, not_yet, faulty, all, gather_on, gather_one, gather}
use Rattle.sky_base.specs.declared.fault.Fault.{Fault}
use Rattle.sky_base_law.specs.Tasks.{Each}

some_not : {A : Type 0} (a : A) → Some a ≢ None
some_not a e = cc

module _ {N : Type 0} (see : v.Desc N → Option (Object N)) where
  joined_some : (x : Option (Object N)) (y : Option (List (Object N))) → x ≢ None → y ≢ None → joined x y ≢ None
  joined_some None y f g = absurd (f refl)
  joined_some (Some o) None f g = absurd (g refl)
  joined_some (Some o) (Some os) f g = some_not (o ∷ os)

  pub all_there : (ds : List (v.Desc N)) → Each (λ d. see d ≢ None) ds → see_all see ds ≢ None
  all_there [] h = some_not []
  all_there (d ∷ ds) h = joined_some (see d) (see_all see ds) h.0 (all_there ds h.1)

module _ {A : Type 0} (turn_to : Obj → Result A Fault) (look : Desc → Option Obj) where
  on_there : (r : Result A Fault) (rest : Gathered A) → rest ≢ not_yet → gather_on r rest ≢ not_yet
  on_there r not_yet h = absurd (h refl)
  on_there (Ok a) (faulty f) h = λ e. cc
  on_there (Ok a) (all rest) h = λ e. cc
  on_there (Err f) (faulty g) h = λ e. cc
  on_there (Err f) (all rest) h = λ e. cc

  one_there : (x : Option Obj) (rest : Gathered A) → x ≢ None → rest ≢ not_yet → gather_one x turn_to rest ≢ not_yet
  one_there None rest h g = absurd (h refl)
  one_there (Some o) rest h g = on_there (turn_to o) rest g

  pub gathered : (ds : List Desc) → Each (λ d. look d ≢ None) ds → gather look turn_to ds ≢ not_yet
  gathered [] h = λ e. cc
  gathered (d ∷ ds) h = one_there (look d) (gather look turn_to ds) h.0 (gathered ds h.1)
