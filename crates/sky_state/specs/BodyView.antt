-- What the body of a function is found as.
use Rattle.std.specs.Prelude.{◌≡◌, Option, Some, None}
use Rattle.sky_base.specs.Eval as logic
use Rattle.sky_state.specs.declared.start.Body.{Body}

-- its parameters and its node; nothing is said where there is no such body
abbrev pub IsBody : Body → Option logic.Body → Type 0
IsBody b None = Unit {0}
IsBody b (Some x) = (b.params.now ≡ x.params) × (b.node ≡ x.node)
