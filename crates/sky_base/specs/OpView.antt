-- What an operator of the code answers.
use Rattle.std.specs.Prelude.{◌≡◌, List, ℕ, Bool, Result, Ok, Err}
use Rattle.sky_base.specs.Val.{Val, Vals, Pairs, truth, list, dict}
use Rattle.sky_base.specs.Op.{Answer, ordered}
use Rattle.std.specs.declared.cmp.Ordering.{Ordering}
use Rattle.sky_base.specs.View.{view}
use Rattle.sky_base.specs.declared.value.Value.{Value}
use Rattle.sky_base.specs.declared.fault.FaultKind.{FaultKind}
use Rattle.sky_base.specs.declared.op.OpRefusal.{OpRefusal}

-- the answer, or want of memory
abbrev pub Answers : Result Value OpRefusal → Answer (List ℕ) → Type 0
Answers (Ok v) a = a ≡ Ok (view v)
Answers (Err (OpRefusal.Refused k)) a = a ≡ Err k
Answers (Err OpRefusal.Memory) a = Unit {0}

-- the answer, of an operator that takes no memory
abbrev pub Exactly : Result Value FaultKind → Answer (List ℕ) → Type 0
Exactly (Ok v) a = a ≡ Ok (view v)
Exactly (Err k) a = a ≡ Err k

-- the truth value, of a comparison
abbrev pub Tells : Result Bool FaultKind → Answer (List ℕ) → Type 0
Tells (Ok b) a = a ≡ Ok (truth b)
Tells (Err k) a = a ≡ Err k

-- how two values are ordered, whatever is asked of that
abbrev pub Ranks : Result Ordering FaultKind → Val (List ℕ) → Val (List ℕ) → Type 0
Ranks (Ok o) a b = (t : Ordering → Bool) → ordered t a b ≡ Ok (truth (t o))
Ranks (Err k) a b = (t : Ordering → Bool) → ordered t a b ≡ Err k

-- the list becomes the answer's, and a refusal leaves it
abbrev pub Changes : {T : Type 0} → Result T OpRefusal → Answer (List ℕ) → Vals (List ℕ) → Vals (List ℕ) → Type 0
Changes (Ok u) a old new = a ≡ Ok (list new)
Changes (Err (OpRefusal.Refused k)) a old new = (a ≡ Err k) × (new ≡ old)
Changes (Err OpRefusal.Memory) a old new = new ≡ old

-- the value becomes the answer, and a refusal leaves it
abbrev pub Becomes : {T : Type 0} → Result T OpRefusal → Answer (List ℕ) → Value → Value → Type 0
Becomes (Ok u) a old new = a ≡ Ok (view new)
Becomes (Err (OpRefusal.Refused k)) a old new = (a ≡ Err k) × (new ≡ old)
Becomes (Err OpRefusal.Memory) a old new = new ≡ old

-- the dictionary becomes the answer's, and a refusal leaves it
abbrev pub ChangesPairs : {T : Type 0} → Result T OpRefusal → Answer (List ℕ) → Pairs (List ℕ) → Pairs (List ℕ) → Type 0
ChangesPairs (Ok u) a old new = a ≡ Ok (dict new)
ChangesPairs (Err (OpRefusal.Refused k)) a old new = (a ≡ Err k) × (new ≡ old)
ChangesPairs (Err OpRefusal.Memory) a old new = new ≡ old
