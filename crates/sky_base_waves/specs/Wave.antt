-- What a wave of the result comes to, over numbers: the answer, or the value at the next wave.
use Rattle.std.specs.Prelude.{ℕ, List, [], ◌∷◌, Bool, true, false, Option, Some, None, Result, Ok, Err, nat_lt}
use Rattle.std.specs.Str.{is_utf8}
use Rattle.sky_base.specs.Val.{Val, Vals, Pairs, Desc, null, truth, num, text, list, dict, fun, ref, no_vals, val, no_pairs, pair, depth, size, refs}
use Rattle.sky_base.specs.Op.{Answer}
use Rattle.sky_base.specs.Res.{Object}
use Rattle.sky_base.specs.See.{Answered, no_place, text_of}
use Rattle.sky_base.specs.declared.fault.FaultKind.{FaultKind}
use Rattle.sky_base.specs.declared.fault.Fault.{Fault}
use Rattle.sky_base_known.specs.Walk.{Row}

-- ---- an object as a value

module _ {N : Type 0} where
  abbrev pub text_if : Bool → List ℕ → Result (Val N) Fault
  text_if true b = Ok (text b)
  text_if false b = Err (no_place FaultKind.NotText)

  -- bytes are data, else a text, else NotText
  abbrev pub data_or_text : Answer N → List ℕ → Result (Val N) Fault
  data_or_text (Ok v) b = Ok v
  data_or_text (Err k) b = text_if (is_utf8 b) b

  abbrev pub value_of : (List ℕ → Answer N) → Object N → Result (Val N) Fault
  value_of reads (Object.bytes b) = data_or_text (reads b) b
  value_of reads (Object.data_of v) = Ok v
  value_of reads (Object.fault f) = Err f

  abbrev pub value_seen : (List ℕ → Answer N) → Option (Object N) → Result (Val N) Fault
  value_seen reads None = Err (no_place FaultKind.NotText)
  value_seen reads (Some o) = value_of reads o

  -- ---- a value with each reference replaced, or the first fault in order

  abbrev pub on_list : Result (Vals N) Fault → Result (Val N) Fault
  on_list (Ok vs) = Ok (list vs)
  on_list (Err f) = Err f

  abbrev pub on_dict : Result (Pairs N) Fault → Result (Val N) Fault
  on_dict (Ok ps) = Ok (dict ps)
  on_dict (Err f) = Err f

  abbrev pub on_fun : List ℕ → Result (Pairs N) Fault → Result (Val N) Fault
  on_fun f (Ok c) = Ok (fun f c)
  on_fun f (Err e) = Err e

  abbrev pub on_val : Result (Val N) Fault → Result (Vals N) Fault → Result (Vals N) Fault
  on_val (Err f) rest = Err f
  on_val (Ok v) (Err f) = Err f
  on_val (Ok v) (Ok vs) = Ok (val v vs)

  abbrev pub on_pair : List ℕ → Result (Val N) Fault → Result (Pairs N) Fault → Result (Pairs N) Fault
  on_pair k (Err f) rest = Err f
  on_pair k (Ok v) (Err f) = Err f
  on_pair k (Ok v) (Ok ps) = Ok (pair k v ps)

  module _ (g : Desc N → Result (Val N) Fault) where
    abbrev mutual
      pub fill : Val N → Result (Val N) Fault
      fill null = Ok null
      fill (truth b) = Ok (truth b)
      fill (num z) = Ok (num z)
      fill (text t) = Ok (text t)
      fill (list vs) = on_list (fill_vals vs)
      fill (dict ps) = on_dict (fill_pairs ps)
      fill (fun f c) = on_fun f (fill_pairs c)
      fill (ref d) = g d

      pub fill_vals : Vals N → Result (Vals N) Fault
      fill_vals no_vals = Ok no_vals
      fill_vals (val v vs) = on_val (fill v) (fill_vals vs)

      pub fill_pairs : Pairs N → Result (Pairs N) Fault
      fill_pairs no_pairs = Ok no_pairs
      fill_pairs (pair k v ps) = on_pair k (fill v) (fill_pairs ps)

-- ---- a wave

pub data Turned : Type 0 where
  ends : Answered → Turned
  next : Val (List ℕ) → Turned

abbrev pub next_if : Bool → Bool → Val (List ℕ) → Turned
next_if true large v = Turned.ends (Answered.fault (no_place FaultKind.TooDeep))
next_if false true v = Turned.ends (Answered.fault (no_place FaultKind.TooLarge))
next_if false false v = Turned.next v

abbrev pub next_of : Result (Val (List ℕ)) Fault → Turned
next_of (Err f) = Turned.ends (Answered.fault f)
next_of (Ok v) = next_if (nat_lt 100 (depth v)) (nat_lt 262144 (size v)) v

abbrev pub lone : Option (Object (List ℕ)) → Turned → Turned
lone None t = t
lone (Some (Object.bytes b)) t = Turned.ends (Answered.bytes b)
lone (Some (Object.data_of v)) t = t
lone (Some (Object.fault f)) t = t

module _ (reads : List ℕ → Answer (List ℕ)) (writes : Val (List ℕ) → Option (List ℕ)) (knows : Row → Option (Object (List ℕ))) where
  abbrev pub turn_all : Val (List ℕ) → Turned
  turn_all v = next_of (fill (λ d. value_seen reads (knows d)) v)

  abbrev pub turn_refs : List Row → Val (List ℕ) → Turned
  turn_refs [] v = Turned.ends (text_of (writes v))
  turn_refs (d ∷ ds) (ref e) = lone (knows e) (turn_all (ref e))
  turn_refs (d ∷ ds) v = turn_all v

  -- a wave up to 100, where each reference is known
  abbrev pub turn_at : Val (List ℕ) → Turned
  turn_at v = turn_refs (refs v) v

-- the wave above 100
abbrev pub last_at : List Row → Option (List ℕ) → Answered
last_at [] t = text_of t
last_at (d ∷ ds) t = Answered.fault (no_place FaultKind.TooDeep)
