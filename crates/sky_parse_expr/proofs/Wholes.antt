-- Parts of which the last is taken away.
use Rattle.std.proofs.Common.{◌≡◌, suc, List, [], ◌∷◌, ◌++◌, length, length-append, refl, arith}
use Rattle.sky_base.specs.declared.tree.Expr.{Expr}

pub none_left : (xs : List Expr) → length xs ≡ 0 → xs ≡ []
none_left [] h = refl
none_left (x ∷ xs) h = absurd (omega (arith, h))

pub ruleset wholes = (none_left, length-append)
