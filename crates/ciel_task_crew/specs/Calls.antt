-- What calls of a crew did, one after another.
use Rattle.std.specs.Prelude.{◌≡◌, List, [], ◌∷◌, Result, Ok, Err}
use Rattle.ciel_master_safe.specs.Order.{Order}
use Rattle.ciel_master_safe.specs.Report.{Report}

-- an order was sent, or wasn't for want of memory; a report was given, or none was for want of memory
pub data Call : Type 0 where
  sent : Order → Call
  unsent : Order → Call
  given : Report → Call
  ungiven : Call

abbrev pub send_call : {A E : Type 0} → Order → Result A E → Call
send_call order (Ok x) = sent order
send_call order (Err x) = unsent order

abbrev pub next_call : {E : Type 0} → Result Report E → Call
next_call (Ok r) = given r
next_call (Err x) = ungiven

-- from one record to another by these calls, in order, where a call makes this of a record
module _ {S : Type 0} (goes : S → Call → S → Type 0) where
  abbrev pub Went : S → List Call → S → Type 0
  Went a [] b = a ≡ b
  Went a (x ∷ xs) b = (s : S) × goes a x s × Went s xs b
