-- How a call's run stops.
use Rattle.std.specs.Prelude.{◌≡◌, ℕ, List, ◌++◌, Option}
use Rattle.sky_base.specs.Val.{Vals, Pairs}
use Rattle.sky_base.specs.Op.{Answer}
use Rattle.sky_base.specs.Tree.{Script}
use Rattle.sky_base.specs.Res.{Object}
use Rattle.sky_base.specs.ObjectView.{object_view}
use Rattle.sky_base_known.specs.Walk.{Row}
use Rattle.sky_base_known.specs.Known.{KeptObject}
use Rattle.sky_plain_body.specs.Stops.{Runs, EndsAs, WaitsFor, IsFull}
use Rattle.sky_plain_body.specs.declared.run.Ran.{Ran}

-- the first list begins the second
abbrev pub Begins : List Row → List Row → Type 0
Begins rows after = (more : List Row) × (after ≡ rows ++ more)

abbrev pub RanSo : Script → (List ℕ → Answer (List ℕ)) → List (Option (Object (List ℕ))) → List Row → List ℕ → Pairs (List ℕ) → Vals (List ℕ)
    → List Row → Ran → Type 0
RanSo script reads objects rows f c vs after (Ran.Object o) = Runs script reads objects rows f c vs after (EndsAs (object_view o))
RanSo script reads objects rows f c vs after (Ran.Waits n) = Runs script reads objects rows f c vs after (WaitsFor n)
RanSo script reads objects rows f c vs after Ran.Full = Runs script reads objects rows f c vs after IsFull

abbrev pub KeptRan : Ran → Type 0
KeptRan (Ran.Object o) = KeptObject (object_view o)
KeptRan (Ran.Waits n) = Unit {0}
KeptRan Ran.Full = Unit {0}
