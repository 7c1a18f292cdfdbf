-- How much a run has left to do: a number that falls with each turn, so that the run comes to an end.
use Rattle.std.specs.Prelude.{◌≡◌, ℕ, suc, ◌+◌, ◌-◌, ◌*◌, List, [], ◌∷◌, length, Bool, true, false, cond, not, ◌||◌, filter, Option, Some}
use Rattle.std.specs.Prelude.{nat_eq, slice_get}
use Rattle.std.specs.List.{list_any}
use Rattle.std.specs.Option.{option_map_or}
use Rattle.sky_base.specs.declared.object.TaskId.{TaskId}
use Rattle.ciel_table.specs.Seen.{is_live_row, last_wait}
use Rattle.ciel_table.specs.declared.row.Row.{Row}
use Rattle.ciel_want.specs.Waited.{is_in}
use Rattle.ciel_master_board.specs.Board.{Board, Brought, Order, Spot, input, shelf, tasks_out, wait_number}

-- ---- the orders that workers have

-- a slot for each worker, with the order that it was sent and that it hasn't reported yet
abbrev pub Slots : Type 0 → Type 0
Slots P = List (Option (Order P))

abbrev pub one_if : Bool → ℕ
one_if true = 1
one_if false = 0

module _ {P : Type 0} where
  -- this worker has this order
  abbrev pub Has : Slots P → ℕ → Order P → Type 0
  Has slots w x = slice_get slots w ≡ Some (Some x)

  -- how many of the orders pass a test
  abbrev pub count_of : (Order P → Bool) → Slots P → ℕ
  count_of test [] = 0
  count_of test (o ∷ os) = option_map_or (λ x. one_if (test x)) o 0 + count_of test os

  -- how many workers have an order
  abbrev pub busy : Slots P → ℕ
  busy slots = count_of (λ x. true) slots

module _ {P : Type 0} (at : P → ℕ) (gone : List ℕ) where
  -- it is at a worker that is lost
  abbrev pub is_gone : P → Bool
  is_gone p = list_any (nat_eq (at p)) gone

  abbrev pub gone_spot : Spot P → Bool
  gone_spot (shelf p) = is_gone p
  gone_spot (input i) = false

  -- something that the order brings along, or its stack, is
  abbrev pub is_stale : Order P → Bool
  is_stale x = list_any (λ (i : Brought P). gone_spot i.spot) x.inputs || option_map_or is_gone x.stack false

  abbrev pub stale : Slots P → ℕ
  stale slots = count_of is_stale slots

-- the losses that are left: those of workers that aren't lost
abbrev pub losses_left : List (ℕ × ℕ) → List ℕ → ℕ
losses_left losses gone = length (filter (λ (x : ℕ × ℕ). not (list_any (nat_eq x.1) gone)) losses)

-- more than there can be to do between two losses, where so many descriptions may be known, with so many workers
abbrev pub enough : (most limit workers : ℕ) → ℕ
enough most limit workers = suc (2 * (suc limit * suc most) + workers)

module _ {P : Type 0} where
  module _ (most : ℕ) (b : Board P) where
    -- how often a task may still be started: from its last saved wait and from each further one; where it is out, from each
    -- further one
    abbrev pub starts_left : TaskId → ℕ
    starts_left x = cond (is_in (tasks_out b.orders) x) most (suc most) - wait_number (last_wait x b.table)

    -- nobody starts a task for what is live
    abbrev pub row_left : Row P → ℕ
    row_left r = cond (is_live_row r) 0 (starts_left r.task)

    abbrev pub rows_left : List (Row P) → ℕ
    rows_left [] = 0
    rows_left (r ∷ rs) = row_left r + rows_left rs

    -- for the root task, for each row, and for each description that may still be learned
    abbrev pub all_left : ℕ
    all_left =
        starts_left TaskId.Show + rows_left b.table.rows + (b.table.limit - length b.table.rows) * suc most

  -- What is left to do. Without a loss, and without an order that is stale, each turn leaves less to start, or as much and one
  -- worker less that has an order. What is missing may leave more to start, but one stale order less; a loss may make each order
  -- stale, but there are fewer losses then
  abbrev pub work : (P → ℕ) → ℕ → Board P → Slots P → ℕ
  work at most b slots =
      (losses_left b.plan.losses b.table.gone * suc (length slots) + stale at b.table.gone slots) * enough most b.table.limit (length slots)
      + (2 * all_left most b + busy slots)
