-- What a description is seen as, and what a job answers.
use Rattle.sky_base.specs.Val as v
use Rattle.std.specs.Prelude.{◌≡◌, ◌≢◌, ℕ, zero, suc, ◌+◌, List, [], ◌∷◌, ◌++◌, length, Bool, true, false, Option, Some, None, Result, Ok, Err}
use Rattle.std.specs.Prelude.{nat_lt, replicate}
use Rattle.std.specs.Str.{is_utf8}
use Rattle.sky_base.specs.Val.{null, truth, num, text, list, dict, fun, ref, no_vals, val, no_pairs, pair, call, out, input, known, depth, size}
use Rattle.sky_base.specs.Val.{most_depth, most_size, refs, same_text}
use Rattle.sky_base.specs.Op.{Answer}
use Rattle.sky_base.specs.Name.{big_endian}
use Rattle.sky_base.specs.Tree.{nowhere, Script}
use Rattle.sky_base.specs.Res.{bodies, Object, End, St, Res, fault_at}
use Rattle.sky_base.specs.Eval.{World, body_at}
use Rattle.sky_base.specs.Read.{Outcome, ended, no_fuel, outcome}
use Rattle.sky_base.specs.declared.fault.FaultKind.{FaultKind}
use Rattle.sky_base.specs.declared.fault.Fault.{Fault}

-- values and descriptions in which no name stands
abbrev pub Val : Type 0
Val = v.Val ⊥

abbrev pub Vals : Type 0
Vals = v.Vals ⊥

abbrev pub Pairs : Type 0
Pairs = v.Pairs ⊥

abbrev pub Desc : Type 0
Desc = v.Desc ⊥

abbrev pub Obj : Type 0
Obj = Object ⊥

pub record Job : Type 0 where
  pub script : Script
  -- the inputs by their names
  pub inputs : List (List ℕ × List ℕ)

-- what lies around a job: the executors, and the reading and the writing of data
pub record Around : Type 0 where
  -- `gives`: the executor, its arguments with slots for references, the inputs, the number of outputs
  pub runs : List ℕ → v.Val (List ℕ) → List (List ℕ) → ℕ → Result (List (List ℕ)) FaultKind
  -- `to_value`
  pub reads : List ℕ → Answer ⊥
  -- `to_text`
  pub writes : Val → Option (List ℕ)

-- a fault that has no place in the script
abbrev pub no_place : FaultKind → Fault
no_place k = fault_at k nowhere

abbrev pub input_bytes_if : Bool → List ℕ → List ℕ → List ℕ
input_bytes_if true b rest = b
input_bytes_if false b rest = rest

abbrev pub input_bytes : List ℕ → List (List ℕ × List ℕ) → List ℕ
input_bytes k [] = []
input_bytes k (i ∷ is) = input_bytes_if (same_text k i.0) i.1 (input_bytes k is)

abbrev pub slot : ℕ → List ℕ
slot k = replicate 16 0 ++ big_endian 4 k

-- the value with the reference that occurs k-th, counted from i, replaced by what f gives for k and it
module _ {N M : Type 0} (f : ℕ → v.Desc N → v.Val M) where
  abbrev mutual
    pub replaced : ℕ → v.Val N → v.Val M
    replaced i null = null
    replaced i (truth b) = truth b
    replaced i (num z) = num z
    replaced i (text t) = text t
    replaced i (list vs) = list (vals_replaced i vs)
    replaced i (dict ps) = dict (pairs_replaced i ps)
    replaced i (fun g c) = fun g (pairs_replaced i c)
    replaced i (ref d) = f i d

    pub vals_replaced : ℕ → v.Vals N → v.Vals M
    vals_replaced i no_vals = no_vals
    vals_replaced i (val v vs) = val (replaced i v) (vals_replaced (i + length (refs v)) vs)

    pub pairs_replaced : ℕ → v.Pairs N → v.Pairs M
    pairs_replaced i no_pairs = no_pairs
    pairs_replaced i (pair k v ps) = pair k (replaced i v) (pairs_replaced (i + length (refs v)) ps)

-- what was seen of several descriptions, in order: one has not enough fuel, or the first fault, or all
pub data Gathered (A : Type 0) : Type 0 where
  not_yet : Gathered A
  faulty : Fault → Gathered A
  all : List A → Gathered A

module _ {A : Type 0} where
  abbrev pub gather_on : Result A Fault → Gathered A → Gathered A
  gather_on r not_yet = not_yet
  gather_on (Ok a) (faulty f) = faulty f
  gather_on (Ok a) (all rest) = all (a ∷ rest)
  gather_on (Err f) (faulty g) = faulty f
  gather_on (Err f) (all rest) = faulty f

  abbrev pub gather_one : Option Obj → (Obj → Result A Fault) → Gathered A → Gathered A
  gather_one None turn rest = not_yet
  gather_one (Some o) turn rest = gather_on (turn o) rest

  abbrev pub gather : (Desc → Option Obj) → (Obj → Result A Fault) → List Desc → Gathered A
  gather see turn [] = all []
  gather see turn (d ∷ ds) = gather_one (see d) turn (gather see turn ds)

-- an object as an executor's input
abbrev pub written : Option (List ℕ) → Result (List ℕ) Fault
written None = Err (no_place FaultKind.NotText)
written (Some t) = Ok (t ++ 10 ∷ [])

abbrev pub as_bytes : Around → Obj → Result (List ℕ) Fault
as_bytes around (Object.bytes b) = Ok b
as_bytes around (Object.data_of v) = written (around.writes v)
as_bytes around (Object.fault f) = Err f

-- output i; where an executor gives too few, the missing ones are empty
abbrev pub output_at : List (List ℕ) → ℕ → Obj
output_at [] i = Object.bytes []
output_at (b ∷ bs) zero = Object.bytes b
output_at (b ∷ bs) (suc i) = output_at bs i

abbrev pub run_output : Result (List (List ℕ)) FaultKind → ℕ → Obj
run_output (Ok bs) i = output_at bs i
run_output (Err k) i = Object.fault (no_place k)

abbrev pub executed_on : Around → List ℕ → Val → ℕ → ℕ → Gathered (List ℕ) → Option Obj
executed_on around x v m i not_yet = None
executed_on around x v m i (faulty f) = Some (Object.fault f)
executed_on around x v m i (all bs) =
    Some (run_output (around.runs x (replaced (λ k d. ref (known (slot k))) 0 v) bs m) i)

-- the object of a call, by how its body ends
abbrev pub object_of : Outcome ⊥ → Option Obj
object_of (ended End.goes st) = Some (Object.data_of null)
object_of (ended (End.got v) st) = Some (Object.data_of v)
object_of (ended (End.returned v) st) = Some (Object.data_of v)
object_of (ended (End.failed f) st) = Some (Object.fault f)
object_of no_fuel = None

-- a reference holds its whole description
abbrev pub world_of : Script → Around → World ⊥
world_of script around = record { make = λ d. d; reads = around.reads; script = script }

abbrev pub start_st : {N : Type 0} → St N
start_st = record { vars = no_pairs; count = 0 }

module _ (job : Job) (around : Around) where
  -- the run of a call
  abbrev pub run_of : List ℕ → Pairs → Vals → Res ⊥
  run_of f c vs = body_at (world_of job.script around) bodies f c vs nowhere start_st

  -- what is seen of a description where tasks see others at most so deep
  unfoldable pub see : ℕ → Desc → Option Obj
  see zero d = None
  see (suc n) (call f c vs) = object_of (outcome (λ d. see n d) (run_of f c vs))
  see (suc n) (out x v m i) = executed_on around x v m i (gather (λ d. see n d) (as_bytes around) (refs v))
  see (suc n) (input k) = Some (Object.bytes (input_bytes k job.inputs))
  see (suc n) (known b) = absurd b

-- what a job answers
pub data Answered : Type 0 where
  not_yet : Answered
  bytes : List ℕ → Answered
  fault : Fault → Answered

-- a bytes object in a result: data, else a text, else NotText
abbrev pub text_if : Bool → List ℕ → Result Val Fault
text_if true b = Ok (text b)
text_if false b = Err (no_place FaultKind.NotText)

abbrev pub read_or_text : Answer ⊥ → List ℕ → Result Val Fault
read_or_text (Ok v) b = Ok v
read_or_text (Err k) b = text_if (is_utf8 b) b

abbrev pub as_value : Around → Obj → Result Val Fault
as_value around (Object.bytes b) = read_or_text (around.reads b) b
as_value around (Object.data_of v) = Ok v
as_value around (Object.fault f) = Err f

abbrev pub val_of : List Val → ℕ → Val
val_of [] k = null
val_of (v ∷ vs) zero = v
val_of (v ∷ vs) (suc k) = val_of vs k

abbrev pub main_call : Desc
main_call = call [] no_pairs no_vals

-- how many waves the result may have after the first wait
abbrev pub most_waves : ℕ
most_waves = 100

-- what a wave of the result comes to: the answer, or the value at the next wave
pub data Turn : Type 0 where
  ends : Answered → Turn
  next : Val → Turn

abbrev pub text_of : Option (List ℕ) → Answered
text_of None = Answered.fault (no_place FaultKind.NotText)
text_of (Some t) = Answered.bytes (t ++ 10 ∷ [])

abbrev pub next_if : Bool → Bool → Val → Turn
next_if true large v = Turn.ends (Answered.fault (no_place FaultKind.TooDeep))
next_if false true v = Turn.ends (Answered.fault (no_place FaultKind.TooLarge))
next_if false false v = Turn.next v

abbrev pub next_within : Val → Turn
next_within v = next_if (nat_lt most_depth (depth v)) (nat_lt most_size (size v)) v

abbrev pub next_value : Gathered Val → Val → Turn
next_value Gathered.not_yet v = Turn.ends Answered.not_yet
next_value (Gathered.faulty f) v = Turn.ends (Answered.fault f)
next_value (Gathered.all us) v = next_within (replaced (λ k d. val_of us k) 0 v)

-- where the whole value is one reference: to bytes, or else as any value
abbrev pub lone : Option Obj → Turn → Turn
lone None t = t
lone (Some (Object.bytes b)) t = Turn.ends (Answered.bytes b)
lone (Some (Object.data_of v)) t = t
lone (Some (Object.fault f)) t = t

abbrev pub last_turn : List Desc → Option (List ℕ) → Answered
last_turn [] t = text_of t
last_turn (d ∷ ds) t = Answered.fault (no_place FaultKind.TooDeep)

module _ (job : Job) (around : Around) (n : ℕ) where
  abbrev pub turn_all : Val → Turn
  turn_all v = next_value (gather (see job around n) (as_value around) (refs v)) v

  abbrev pub turn_refs : List Desc → Val → Turn
  turn_refs [] v = Turn.ends (text_of (around.writes v))
  turn_refs (d ∷ ds) (ref e) = lone (see job around n e) (turn_all (ref e))
  turn_refs (d ∷ ds) v = turn_all v

  -- a wave up to the last one
  abbrev pub turn : Val → Turn
  turn v = turn_refs (refs v) v

  abbrev pub on_turn : Turn → (Val → Answered) → Answered
  on_turn (Turn.ends a) go = a
  on_turn (Turn.next v) go = go v

  -- the waves of the result, of which so many are left before the one after the last
  unfoldable pub round : ℕ → Val → Answered
  round zero v = last_turn (refs v) (around.writes v)
  round (suc k) v = on_turn (turn v) (λ u. round k u)

  abbrev pub wave_on : Option Turn → Option Val
  wave_on None = None
  wave_on (Some (Turn.ends a)) = None
  wave_on (Some (Turn.next v)) = Some v

  abbrev pub turn_of : Option Val → Option Turn
  turn_of None = None
  turn_of (Some v) = Some (turn v)

  -- the value at a wave, up to the one after the last, where the result comes to it
  unfoldable pub wave : ℕ → Option Val
  wave zero = Some (ref main_call)
  wave (suc k) = wave_on (turn_of (wave k))

unfoldable pub job_answer : Job → Around → ℕ → Answered
job_answer job around n = round job around n (suc most_waves) (ref main_call)

abbrev pub Means : Job → Around → Answered → Type 0
Means job around a = (n : ℕ) × (job_answer job around n ≡ a) × (a ≢ Answered.not_yet)

abbrev pub Never : Job → Around → Type 0
Never job around = (n : ℕ) → job_answer job around n ≡ Answered.not_yet
