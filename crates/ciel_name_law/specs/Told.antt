-- What the types of the code tell of values and descriptions over names.
use Rattle.std.specs.Prelude.{◌<◌, ◌^◌, ℕ, List}
use Rattle.sky_base.specs.Res.{Object}
use Rattle.sky_base.specs.Val.{Desc, Pairs, Val, Vals, pairs_refs, vals_refs}
use Rattle.sky_base.specs.declared.fault.Fault.{Fault}
use Rattle.sky_base_law.specs.Tasks.{Each}
use Rattle.sky_base_law.specs.Typed.{EachTyped, Typed, TypedDesc, ValsTyped}
use Rattle.ciel_name.specs.Spelled.{IsName}
use Rattle.ciel_name_law.specs.Typed.{DescOverNames, OverNames}

-- numbers have 64 bits; texts, keys and names of functions are UTF-8; keys rise; and all that is referred to are names
abbrev pub Told : Val (List ℕ) → Type 0
Told v = Typed v × OverNames v

abbrev pub ValsTold : Vals (List ℕ) → Type 0
ValsTold vs = ValsTyped (λ b. Unit {0}) vs × Each IsName (vals_refs vs)

abbrev pub PairsTold : Pairs (List ℕ) → Type 0
PairsTold ps = EachTyped (λ b. Unit {0}) ps × Each IsName (pairs_refs ps)

-- the place of a fault has numbers of 32 bits
abbrev pub FaultTold : Fault → Type 0
FaultTold f = (f.line < 2 ^ 32) × (f.col < 2 ^ 32)

abbrev pub ObjectTold : Object (List ℕ) → Type 0
ObjectTold (Object.bytes b) = Unit {0}
ObjectTold (Object.data_of v) = Told v
ObjectTold (Object.fault f) = FaultTold f

abbrev pub DescTold : Desc (List ℕ) → Type 0
DescTold d = TypedDesc d × DescOverNames d
