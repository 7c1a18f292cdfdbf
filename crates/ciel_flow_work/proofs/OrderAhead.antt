-- What is said of an executor's call, said of an order that has it.
use Rattle.std.proofs.Common.{◌≡◌, ◌<◌, ◌^◌, ℕ, suc, List, [], ◌∷◌, length, Option, Some, Result, Ok, Err, refl, sym, ap, subst, ◌∙◌, arith}
use Rattle.std.specs.Prelude.{IfOk, IsSomeAnd}
use Rattle.ciel_json.specs.Text.{text_of as writes}
use Rattle.sky_base.specs.Kept.{Kept}
use Rattle.sky_base.specs.Res.{Object}
use Rattle.sky_base.specs.Val.{Desc, Val, refs}
use Rattle.sky_base.specs.View.{view}
use Rattle.sky_base.specs.declared.fault.Fault.{Fault}
use Rattle.sky_base.specs.declared.object.Desc1.{Desc1}
use Rattle.sky_base.specs.declared.value.Value.{Value}
use Rattle.sky_base_exec.specs.Perform.{all_bytes, bytes_seen, collect, one_more, slots}
use Rattle.sky_base_exec.proofs.RefSlots.{few-kept}
use Rattle.ciel_task_inputs.specs.Brought.{lies_known}
use Rattle.ciel_task_order.specs.declared.order.Order.{Order}
use Rattle.ciel_flow_pieces.specs.Pieces.{StreamSeen}
use Rattle.ciel_flow_pieces.specs.declared.follow.Left.{Left}
use Rattle.ciel_flow_work.specs.Ahead.{IsAheadOf, IsOfCall}
use Rattle.ciel_flow_work.specs.Flowing.{IsLedBy, IsLedOf}
use Rattle.ciel_flow_work.proofs.AheadLaw.{bytes_in, on_some}

pub order_ahead : (inputs : List (List ℕ × List ℕ)) (order : Order) (x : List ℕ) (a : Value) (n : ℕ) (found : Result (List (List ℕ)) Fault)
    (ahead : Option Left) → order.desc ≡ Some (Desc1.Exec x a n 0)
    → found ≡ all_bytes writes (lies_known inputs order.inputs.items) (refs (view a)) → IsSomeAnd ahead (IsOfCall x (slots (view a)) n found)
    → IsSomeAnd ahead (IsAheadOf inputs order)
order_ahead inputs order x a n found ahead desc is h =
    on_some ahead
    (λ left call. record { executor = x; args = a; outputs = n; desc = desc; call = subst (λ r. IsOfCall x (slots (view a)) n r left) is call }) h

-- ---- the parts of an executor's description

abbrev name_in : Option Desc1 → List ℕ
name_in (Some (Desc1.Exec x a n i)) = x
name_in _ = []

abbrev args_in : Option Desc1 → Value
args_in (Some (Desc1.Exec x a n i)) = a
args_in _ = Value.Null

abbrev count_in : Option Desc1 → ℕ
count_in (Some (Desc1.Exec x a n i)) = n
count_in _ = 0

pub led_by : (inputs : List (List ℕ × List ℕ)) (order : Order) (x : List ℕ) (a : Value) (n i : ℕ) (p : StreamSeen)
    → order.desc ≡ Some (Desc1.Exec x a n 0) → IsLedOf inputs order i p → IsLedBy inputs order.inputs.items x a n i p
led_by inputs order x a n i p desc l =
    let same : Some (Desc1.Exec l.executor l.args l.outputs 0) ≡ Some (Desc1.Exec x a n 0) = sym l.desc ∙ desc in
    subst (λ (y : List ℕ). IsLedBy inputs order.inputs.items y a n i p) (ap name_in same)
    (subst (λ (b : Value). IsLedBy inputs order.inputs.items l.executor b n i p) (ap args_in same)
    (subst (λ (m : ℕ). IsLedBy inputs order.inputs.items l.executor l.args m i p) (ap count_in same) l.led))

-- ---- there are no more inputs than 32 bits can number

one_more_long : (r : Result (List ℕ) Fault) (rest : Result (List (List ℕ)) Fault) (bs : List (List ℕ)) → one_more r rest ≡ Ok bs
    → (more : List (List ℕ)) × (rest ≡ Ok more) × (length bs ≡ suc (length more))
one_more_long (Err f) rest bs e = absurd cc
one_more_long (Ok b) (Err f) bs e = absurd cc
one_more_long (Ok b) (Ok ms) bs e = (ms, refl, sym (ap length (ap bytes_in e)))

collect_long : (g : Desc (List ℕ) → Result (List ℕ) Fault) (ds : List (Desc (List ℕ))) (bs : List (List ℕ)) → collect g ds ≡ Ok bs
    → length bs ≡ length ds
collect_long g [] bs e = sym (ap length (ap bytes_in e))
collect_long g (d ∷ ds) bs e = let o = one_more_long (g d) (collect g ds) bs e in o.2 ∙ ap suc (collect_long g ds o.0 o.1)

pub few_found : (knows : Desc (List ℕ) → Option (Object (List ℕ))) (v : Val (List ℕ)) (found : Result (List (List ℕ)) Fault) → Kept v
    → found ≡ all_bytes writes knows (refs v) → IfOk found (λ bs. length bs < 2 ^ 32)
few_found knows v (Err f) kept e = tt
few_found knows v (Ok bs) kept e =
    let n = collect_long (λ d. bytes_seen writes (knows d)) (refs v) bs (sym e) in
    omega (arith, n, few-kept v kept)
