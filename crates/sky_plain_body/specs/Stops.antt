-- How the run of a call stops.
use Rattle.std.specs.Prelude.{◌≡◌, ℕ, List, Option}
use Rattle.sky_base.specs.Val.{Vals, Pairs, null, known}
use Rattle.sky_base.specs.Tree.{nowhere, Script}
use Rattle.sky_base.specs.Op.{Answer}
use Rattle.sky_base.specs.Res.{bodies, Object, End}
use Rattle.sky_base.specs.Eval.{World, body_at}
use Rattle.sky_base.specs.See.{start_st}
use Rattle.sky_base_known.specs.Walk.{Row, Stop, walk, stops, known_of, Numbers}

-- the object of a call, by how its body ends
abbrev pub end_object : {N : Type 0} → End N → Object N
end_object End.goes = Object.data_of null
end_object (End.got v) = Object.data_of v
end_object (End.returned v) = Object.data_of v
end_object (End.failed f) = Object.fault f

-- a call's run from these descriptions on ends with those, and stops as S says
abbrev pub Runs : Script → (List ℕ → Answer (List ℕ)) → List (Option (Object (List ℕ))) → List Row → List ℕ → Pairs (List ℕ) → Vals (List ℕ)
    → List Row → (Stop → Type 0) → Type 0
Runs script reads objects rows f c vs after S =
    (w : World (List ℕ)) → w.script ≡ script → w.reads ≡ reads → Numbers after w.make → (s : Stop)
    × (walk (known_of objects) rows (body_at w bodies f c vs nowhere start_st) ≡ stops after s) × S s

-- it ends, and this is its object
abbrev pub EndsAs : Object (List ℕ) → Stop → Type 0
EndsAs o (Stop.ended e st) = end_object e ≡ o
EndsAs o (Stop.waits d) = ⊥
EndsAs o (Stop.full d) = ⊥

-- it waits for the description of this name
abbrev pub WaitsFor : List ℕ → Stop → Type 0
WaitsFor n s = s ≡ Stop.waits (known n)

-- it makes one description too many
abbrev pub IsFull : Stop → Type 0
IsFull (Stop.ended e st) = ⊥
IsFull (Stop.waits d) = ⊥
IsFull (Stop.full d) = Unit {0}
