-- What the interpreter's answers say.
use Rattle.std.specs.Prelude.{◌≡◌, ◌≢◌, ℕ, List, Bool, true, false, Option, Some, None, Result, Ok, Err, pos, nat_lt, ◌&&◌}
use Rattle.sky_base.specs.Eval.{Body, truth_of}
use Rattle.sky_base.specs.Val.{truth, num, list, known, refs_to, no_pairs, pair, no_vals, val}
use Rattle.sky_base.specs.Tree.{Place, Junction, Stms}
use Rattle.sky_base.specs.Res.{Object, fault_at}
use Rattle.sky_base.specs.declared.fault.Fault.{Fault}
use Rattle.sky_base.specs.Kept.{Kept}
use Rattle.sky_base.specs.View.{view}
use Rattle.sky_base.specs.declared.fault.FaultKind.{FaultKind}
use Rattle.sky_base.specs.declared.op.OpRefusal.{OpRefusal}
use Rattle.sky_base.specs.declared.value.Value.{Value}
use Rattle.sky_base.specs.Names.{known_of}
use Rattle.sky_base.specs.See.{slot}
use Rattle.sky_base_known.specs.Walk.{Row, learn_to}
use Rattle.sky_base_known.specs.Number.{index_of}
use Rattle.sky_base_scope.specs.Plain.{Val, Vals, Pairs, Vars, Answer, Cutoff, Out, answer, decide, visit, outputs_count}
use Rattle.sky_base_known.specs.Walk.{Obj}
use Rattle.sky_base_scope.specs.declared.cut.Cut.{Cut}
use Rattle.sky_base_scope.specs.declared.cut.Flow.{Flow}

-- what an operator's refusal is at a place
abbrev pub raised : OpRefusal → Place → Cut
raised (OpRefusal.Refused k) p = Cut.Fault (fault_at k p)
raised OpRefusal.Memory p = Cut.Memory

-- what a stop of the code stands for; want of memory for none
abbrev pub cut_of : Cut → Cutoff
cut_of (Cut.Fault f) = Cutoff.fault f
cut_of (Cut.Waits n) = Cutoff.waits (known n)
cut_of Cut.Full = Cutoff.full
cut_of Cut.Memory = Cutoff.full

-- what an expression comes to, but for want of memory
abbrev pub Comes : Result Value Cut → List Row → Vars → Out → Type 0
Comes (Ok v) rows st o = o ≡ Out.got (view v) rows st
Comes (Err c) rows st o = c ≢ Cut.Memory → o ≡ Out.cut (cut_of c) rows

-- what changes variables only comes to, but for want of memory
abbrev pub Changes : {T : Type 0} → Result T Cut → List Row → Vars → Out → Type 0
Changes (Ok u) rows st o = o ≡ Out.goes rows st
Changes (Err c) rows st o = c ≢ Cut.Memory → o ≡ Out.cut (cut_of c) rows

-- the value becomes the answer, but for want of memory
abbrev pub Grows : {T : Type 0} → Result T OpRefusal → Answer → Value → Type 0
Grows (Ok u) a new = a ≡ Ok (view new)
Grows (Err (OpRefusal.Refused k)) a new = a ≡ Err k
Grows (Err OpRefusal.Memory) a new = Unit {0}

abbrev pub is_list : Val → Bool
is_list (list vs) = true
is_list _ = false

-- what a statement comes to, but for want of memory
abbrev pub Flows : Result Flow Cut → List Row → Vars → Out → Type 0
Flows (Ok Flow.Goes) rows st o = o ≡ Out.goes rows st
Flows (Ok (Flow.Returned v)) rows st o = o ≡ Out.returned (view v) rows st
Flows (Err c) rows st o = c ≢ Cut.Memory → o ≡ Out.cut (cut_of c) rows

-- what several expressions come to, but for want of memory
abbrev pub Lists : Result Vals Cut → List Row → Vars → Out → Type 0
Lists (Ok vs) rows st o = o ≡ Out.listed vs rows st
Lists (Err c) rows st o = c ≢ Cut.Memory → o ≡ Out.cut (cut_of c) rows

-- a truth value, or BadKind
abbrev pub Decides : Result Bool FaultKind → Val → Type 0
Decides (Ok b) v = v ≡ truth b
Decides (Err k) v = (truth_of v ≡ Err FaultKind.BadKind) × (k ≡ FaultKind.BadKind)

-- by a truth value, or BadKind at this place
abbrev pub DecidesAt : Result Bool Cut → Val → Place → Type 0
DecidesAt (Ok b) v p = v ≡ truth b
DecidesAt (Err c) v p = (rows : List Row) (on off : Out) → decide v p rows on off ≡ Out.cut (cut_of c) rows

-- a value that comes with a visit at this place
abbrev pub given : Answer → Place → List Row → Vars → Out
given a p rows st = visit p rows st (λ s. answer a p rows (λ u. Out.got u rows s))

-- the name of a description that is held now, but for want of memory
abbrev pub Learns : Result (List ℕ) Cut → List Row → List Row → Row → Type 0
Learns (Ok n) old new d = (learn_to old d ≡ Some new) × (slot (index_of d new) ≡ n)
Learns (Err c) old new d = c ≢ Cut.Memory → (c ≡ Cut.Full) × (learn_to old d ≡ None) × (new ≡ old)

-- the names of descriptions that are all held now, but for want of memory
abbrev pub LearnsAll : Result (List (List ℕ)) Cut → List Row → ((List Row → List Row → Out) → Out) → Type 0
LearnsAll (Ok names) new o = (k : List Row → List Row → Out) → o k ≡ k (known_of names) new
LearnsAll (Err c) new o = c ≢ Cut.Memory → (k : List Row → List Row → Out) → o k ≡ Out.cut (cut_of c) new

-- how many outputs are asked for
abbrev pub Wanted : Result ℕ Cut → Val → Place → Type 0
Wanted (Ok n) v p = (v ≡ num (pos n)) × (nat_lt 0 n && nat_lt n 65 ≡ true)
Wanted (Err c) v p = (x : List ℕ) (a : Val) (rows : List Row) (k : List Row → List Row → Out) → outputs_count x a v p rows k ≡ Out.cut (cut_of c) rows

-- the first fault, of those met before and an object
abbrev pub fault_first : Option Fault → Obj → Option Fault
fault_first (Some f) o = Some f
fault_first None (Object.bytes b) = None
fault_first None (Object.data_of v) = None
fault_first None (Object.fault f) = Some f

-- all of these are known and none is a fault, or it stops
abbrev pub WaitsForAll : {T : Type 0} → Result T Cut → List Row → List Row → Vars → Out → Type 0
WaitsForAll (Ok u) ds rows st o = o ≡ Out.got (list (refs_to ds)) rows st
WaitsForAll (Err c) ds rows st o = o ≡ Out.cut (cut_of c) rows

-- it goes on from the value, or stops, but for want of memory
abbrev pub GoesOn : Result Value Cut → (List Row → (Val → Out) → Out) → Type 0
GoesOn (Ok v) o = (rows : List Row) (k : Val → Out) → o rows k ≡ k (view v)
GoesOn (Err c) o = c ≢ Cut.Memory → (rows : List Row) (k : Val → Out) → o rows k ≡ Out.cut (cut_of c) rows

-- it goes on from the value with these variables, or stops, but for want of memory
abbrev pub SignsOn : Result Value Cut → Vars → (List Row → (Vars → Val → Out) → Out) → Type 0
SignsOn (Ok v) st o = (rows : List Row) (k : Vars → Val → Out) → o rows k ≡ k st (view v)
SignsOn (Err c) st o = c ≢ Cut.Memory → (rows : List Row) (k : Vars → Val → Out) → o rows k ≡ Out.cut (cut_of c) rows

abbrev pub three_vals : Val → Val → Val → Vals
three_vals a b c = val a (val b (val c no_vals))

-- each value of these keeps the limits
abbrev pub KeptVals : Vals → Type 0
KeptVals no_vals = Unit {0}
KeptVals (val v vs) = Kept v × KeptVals vs

abbrev pub KeptPairs : Pairs → Type 0
KeptPairs no_pairs = Unit {0}
KeptPairs (pair k v ps) = Kept v × KeptPairs ps

-- `&&` stops at false, and `||` at true
abbrev pub junction : Bool → Junction
junction false = Junction.both
junction true = Junction.either

-- the parameters and the block of a body
abbrev pub code_of : Option Body → Option (List (List ℕ) × Stms)
code_of None = None
code_of (Some b) = Some (b.params, b.block)

abbrev pub KeptFlow : Flow → Type 0
KeptFlow Flow.Goes = Unit {0}
KeptFlow (Flow.Returned v) = Kept (view v)
