-- What an order gives: places of what it brings along, and of its stack.
use Rattle.std.specs.Prelude.{◌≡◌, ◌⊎◌, ℕ, List, Option, Some}
use Rattle.ciel_journal.specs.Job.{Digest}
use Rattle.ciel_master_board.specs.Board.{Spot, shelf, spot_of}
use Rattle.ciel_master_board.specs.Sound.{own_name}
use Rattle.ciel_task_order.specs.Views.{P, order_view}
use Rattle.ciel_task_order.specs.declared.order.Order.{Order}

-- it is no place
abbrev pub IsNowhere : Option (Spot P) → Type 0
IsNowhere o = (p : P) → o ≡ Some (shelf p) → ⊥

-- the order gives the name a place at another worker
abbrev pub IsElsewhere : Order → Digest → Type 0
IsElsewhere order name =
    (from : P) × (spot_of name (order_view order).inputs ≡ Some (shelf from)) × (from.worker ≡ order.worker → ⊥)

-- the order gives the name a place at this worker
abbrev pub IsBroughtFrom : Order → Digest → ℕ → Type 0
IsBroughtFrom order name worker =
    (place : P) × (spot_of name (order_view order).inputs ≡ Some (shelf place)) × (place.worker ≡ worker)

-- the worker of a place
abbrev pub worker_of : P → ℕ
worker_of p = p.worker

module _ (digest : List ℕ → List ℕ) where
  -- the order's stack is at this worker, and this name stands for its task
  abbrev pub IsStackAt : Order → Digest → ℕ → Type 0
  IsStackAt order name worker =
      (place : P) × (order.saved ≡ Some place) × (name ≡ own_name digest worker_of order.main order.task) × (place.worker ≡ worker)

  -- the place that the order gives for the name, or for its stack by the name that stands for its task, is at this worker
  abbrev pub IsGivenAt : Order → Digest → ℕ → Type 0
  IsGivenAt order name worker =
      (place : P)
      × ((spot_of name (order_view order).inputs ≡ Some (shelf place))
      ⊎ ((order.saved ≡ Some place) × (name ≡ own_name digest worker_of order.main order.task)))
      × (place.worker ≡ worker)
