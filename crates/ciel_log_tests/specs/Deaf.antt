-- What a crew keeps that takes orders and gives no report.
use Rattle.std.specs.Prelude.{List, [], ◌∷◌, Option, Some, None}
use Rattle.ciel_task_order.specs.declared.order.Order.{Order}

-- the order that its worker has, by what it is of what was sent
abbrev pub order_in : {A : Type 0} → (A → Order) → Option A → Option Order
order_in of None = None
order_in of (Some sent) = Some (of sent)

abbrev pub out_of : {A : Type 0} → (A → Order) → Option A → List (Option Order)
out_of of sent = order_in of sent ∷ []
