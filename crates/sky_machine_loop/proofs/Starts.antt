-- A call at its start.
use Rattle.std.proofs.Common.{◌≡◌, ℕ, suc, List, None, refl}
use Rattle.sky_base.specs.Val.{Vals}
use Rattle.sky_base.specs.Tree.{Place, Script}
use Rattle.sky_base.specs.Res.{fails}
use Rattle.sky_base.specs.Eval.{World, body_of, body_at}
use Rattle.sky_base.specs.declared.fault.FaultKind.{FaultKind}
use Rattle.sky_base_scope.specs.Plain.{Pairs, Vars}

-- there is no such function
pub no_start : (w : World (List ℕ)) (sc : Script) (d : ℕ) (f : List ℕ) (c : Pairs) (vs : Vals (List ℕ)) (p : Place) (s : Vars) → w.script ≡ sc
    → body_of f sc ≡ None → fails FaultKind.BadKind p s ≡ body_at w (suc d) f c vs p s
no_start w sc d f c vs p s h o = rw (h, o) refl
