-- What a run of a body by a callee says.
use Rattle.std.specs.Prelude.{ℕ, List, Result, IfOk}
use Rattle.std.specs.Borrow.{Bor, MutBor}
use Rattle.sky_base.specs.TreeView.{at}
use Rattle.sky_base_known.specs.Walk.{Row}
use Rattle.sky_base_scope.specs.Plain.{Vals, Pairs, Vars}
use Rattle.sky_base_forms.specs.GroundView.{body_on}
use Rattle.sky_base_forms.specs.declared.ground.Ground.{Ground}
use Rattle.sky_base_scope.specs.RunView.{Flows, KeptVals, KeptPairs, KeptFlow}
use Rattle.sky_base_scope.specs.declared.cut.Cut.{Cut}
use Rattle.sky_base_scope.specs.declared.cut.Flow.{Flow}

-- it may be run on what a function captured and on arguments within the limits
abbrev pub CanRun : (MutBor (List Row) → MutBor Vars → Bor (List ℕ) → Bor Pairs → Bor Vals → ℕ → ℕ → Type 0) → Type 0
CanRun pre = (rows : MutBor (List Row)) (state : MutBor Vars) (name : Bor (List ℕ)) (caught : Bor Pairs) (args : Bor Vals) (line col : ℕ)
    → KeptPairs caught.now → KeptVals args.now → pre rows state name caught args line col

-- it runs a body where so many may still be opened
abbrev pub RunsBody : (MutBor (List Row) → MutBor Vars → Bor (List ℕ) → Bor Pairs → Bor Vals → ℕ → ℕ → Result Flow Cut → MutBor (List Row)
    → MutBor Vars → Type 0) → Ground → ℕ → Type 0
RunsBody post g bodies = (rows : MutBor (List Row)) (state : MutBor Vars) (name : Bor (List ℕ)) (caught : Bor Pairs) (args : Bor Vals)
    (line col : ℕ) (r : Result Flow Cut) (after : MutBor (List Row)) (last : MutBor Vars)
    → post rows state name caught args line col r after last
    → Flows r after.now last.now (body_on g bodies name.now caught.now args.now (at line col) rows.now state.now.count) × IfOk r KeptFlow
