use Rattle.std.proofs.Common.{◌≡◌, Some, sym, ap, ◌∙◌, subst, arith, ltb-false, length, get_or, slice_get}
use Rattle.sky_base.specs.Eval.{find_fun}
use Rattle.sky_base_scope.specs.FunPlace.{fun_place}
use Rattle.sky_base_scope.proofs.FunPlaces.{place_none, place_some, place_within}
use Rattle.sky_frozen.specs.Keys.{UsesAre}
use Rattle.sky_frozen.proofs.KeysLaw.{uses_at, uses_length}
use Rattle.sky_frozen.proofs.captures.Captures.uses.Goals as goal

pub returns-in_default : goal.returns-in_default
returns-in_default c =
    let x = c.args.fun.now in
    ap (λ sc. find_fun x sc.funs) (sym c.self.view_is) ∙ place_none x c.self.inside.program.now.funs (sym c.place.ensures ∙ c.in_default.is)

pub returns-in-Some-get : goal.returns-in-Some-get
returns-in-Some-get c =
    let x = c.args.fun.now in
    let fs = c.self.inside.program.now.funs in
    let k = c.in-Some.place in
    let keys = c.in-Some-get.keys.now in
    let at : fun_place x fs ≡ Some k = sym c.place.ensures ∙ c.in-Some.is in
    let found : find_fun x c.args.self.now.funs ≡ slice_get fs k = ap (λ sc. find_fun x sc.funs) (sym c.self.view_is) ∙ place_some x fs k at in
    let index = c.self.inside.uses.items in
    let here : keys ≡ get_or index k keys = c.in-Some-get.ensures.lookup.1 ∙ ap (λ xs. get_or xs k keys) c.deref.ensures.value in
    subst (UsesAre keys) (sym found) (uses_at index fs k keys c.self.invariant
    (omega (arith, place_within x fs k at, uses_length index fs c.self.invariant)) here)

pub returns-in-None : goal.returns-in-None
returns-in-None c =
    let x = c.args.fun.now in
    let fs = c.self.inside.program.now.funs in
    let k = c.in-Some.place in
    let at : fun_place x fs ≡ Some k = sym c.place.ensures ∙ c.in-Some.is in
    let same = ap length c.deref.ensures.value in
    absurd (omega (
      arith,
      ltb-false k (length c.deref.result.now) (sym c.in-None.ensures.lookup.0),
      same,
      place_within x fs k at,
      uses_length c.self.inside.uses.items fs c.self.invariant,
    ))
