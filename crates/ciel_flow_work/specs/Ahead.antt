-- When what was computed ahead may take the place of a run.
use Rattle.std.specs.Prelude.{◌≡◌, ℕ, List, [], ◌∷◌, Some, Result, Ok}
use Rattle.ciel_json.specs.Text.{text_of as writes}
use Rattle.sky_base.specs.Val.{Val, refs}
use Rattle.sky_base.specs.View.{view}
use Rattle.sky_base.specs.declared.fault.Fault.{Fault}
use Rattle.sky_base.specs.declared.object.Desc1.{Desc1}
use Rattle.sky_base.specs.declared.value.Value.{Value}
use Rattle.sky_base_exec.specs.Perform.{all_bytes, slots}
use Rattle.ciel_task_inputs.specs.Brought.{lies_known}
use Rattle.ciel_task_order.specs.declared.order.Order.{Order}
use Rattle.ciel_flow_pieces.specs.Left.{flat}
use Rattle.ciel_flow_pieces.specs.declared.follow.Left.{Left}

-- it is of this call of an executor, for arguments with slots, and of these inputs: of one, whose bytes are those that were fed
pub record IsOfCall (x : List ℕ) (a : Val (List ℕ)) (n : ℕ) (inputs : Result (List (List ℕ)) Fault) (left : Left) : Type 0 where
  pub executor : left.executor ≡ x
  pub args : view left.args ≡ a
  pub outputs : left.outputs ≡ n
  pub fed : inputs ≡ Ok (flat left.parts.items ∷ [])

-- it is of the call of the order's executor, and of the bytes that the order's own fetch gives
pub record IsAheadOf (inputs : List (List ℕ × List ℕ)) (order : Order) (left : Left) : Type 0 where
  pub executor : List ℕ
  pub args : Value
  pub outputs : ℕ
  pub desc : order.desc ≡ Some (Desc1.Exec executor args outputs 0)
  pub call : IsOfCall executor (slots (view args)) outputs (all_bytes writes (lies_known inputs order.inputs.items) (refs (view args))) left
