-- What a sign makes of a value.
use Rattle.std.specs.Prelude.{◌≡◌, ℕ, List, Result, Ok, Err}
use Rattle.sky_base.specs.Kept.{Kept}
use Rattle.sky_base.specs.View.{view}
use Rattle.sky_base.specs.Tree.{Place}
use Rattle.sky_base.specs.Tree as tree
use Rattle.sky_base.specs.TreeView.{sign_view}
use Rattle.sky_base.specs.Res.{fails}
use Rattle.sky_base.specs.Eval.{World, signed}
use Rattle.sky_base.specs.declared.fault.FaultKind.{FaultKind}
use Rattle.sky_base.specs.declared.tree.SignOp.{SignOp}
use Rattle.sky_base.specs.declared.value.Value.{Value}
use Rattle.sky_base_scope.specs.Plain.{Val, Vars}
use Rattle.sky_machine_entries.specs.Config.{Run}
use Rattle.sky_machine_exprs.specs.declared.signs.Applied.{Applied}

-- the value, within the limits, or the fault
abbrev pub MadeSo : Applied → Result Value FaultKind → Type 0
MadeSo (Applied.Made u) a = Kept (view u) × (a ≡ Ok u)
MadeSo (Applied.Failed e) a = a ≡ Err e
MadeSo Applied.Star a = ⊥

-- a `*` makes nothing at once; another sign goes on with its value, or ends with its fault
abbrev pub AppliedSo : Applied → SignOp → Val → Type 0
AppliedSo (Applied.Made u) o v =
    Kept (view u) × ((w : World (List ℕ)) (n k : ℕ) (ss : List tree.SignAt) (p : Place) (st : Vars) (go : Val → Vars → Run)
    → signed w (sign_view o) v n k ss p st go ≡ go (view u) st)
AppliedSo (Applied.Failed e) o v =
    (w : World (List ℕ)) (n k : ℕ) (ss : List tree.SignAt) (p : Place) (st : Vars) (go : Val → Vars → Run)
    → signed w (sign_view o) v n k ss p st go ≡ fails e p st
AppliedSo Applied.Star o v = o ≡ SignOp.Star
