-- Losses that were carried out, as the seat that marks them at the words of the shelves has them.
use Rattle.std.specs.Prelude.{◌⊎◌, Option, ◌≡◌, ℕ, ◌<◌, ◌≤◌, List, true, Some, None, length, map, nat_eq, slice_get}
use Rattle.std.specs.List.{list_any}
use Rattle.ciel_master_board.specs.Board.{Board, shelf, spot_of}
use Rattle.ciel_master_board.specs.Sound.{own_name}
use Rattle.ciel_journal.specs.Job.{Digest}
use Rattle.ciel_task_order.specs.declared.report.Report.{Report}
use Rattle.sky_base.specs.Tree.{Script}
use Rattle.ciel_master_safe.specs.Reports.{FitsSafely}
use Rattle.ciel_master_board.specs.Board as b
use Rattle.ciel_journal.specs.Job.{Each, In}
use Rattle.ciel_store.specs.Seen.{SeatSeen, ShelvesSeen}
use Rattle.ciel_store.specs.declared.loss.Loss.{Loss}
use Rattle.ciel_task_order.specs.Performs.{HasSeen, IsMissing, OfTask}
use Rattle.ciel_task_order.specs.Places.{SeenAt}
use Rattle.ciel_task_order.specs.Views.{P, how_view}
use Rattle.ciel_task_order.specs.declared.block.Held.{Held}
use Rattle.ciel_task_order.specs.declared.report.End.{End}
use Rattle.ciel_master_bring.specs.Brings.{worker_of}
use Rattle.sky_base.specs.declared.object.Named.{Named}

abbrev pub worker_lost : Loss → ℕ
worker_lost l = l.worker

-- the plan has this loss
abbrev pub IsPlanned : List (ℕ × ℕ) → Loss → Type 0
IsPlanned losses l = (count : ℕ) × (slice_get losses l.number ≡ Some (count, l.worker))

-- the plan has this loss, and of all losses of its worker it comes first, by its count and then by its place
abbrev pub IsFirstLoss : List (ℕ × ℕ) → Loss → Type 0
IsFirstLoss losses l =
    (count : ℕ) × (slice_get losses l.number ≡ Some (count, l.worker))
    × ((i k : ℕ) → slice_get losses i ≡ Some (k, l.worker) → (count < k) ⊎ ((count ≡ k) × (l.number ≤ i)))

-- a loss names a worker that has a shelf
abbrev pub HasShelf : ShelvesSeen → (ℕ × ℕ) → Type 0
HasShelf shelves loss = loss.1 < length shelves.rows

-- it sits at the words of the shelves and has marked one loss of each lost worker, in order, each a loss of the plan and the first of its
-- worker's; and each worker that the plan names has a shelf
pub record Marked (losses : List (ℕ × ℕ)) (lost : List ℕ) (shelves : ShelvesSeen) (marker : SeatSeen) : Type 0 where
  pub of : marker.of ≡ shelves.of
  pub workers : map worker_lost marker.losses ≡ lost
  pub planned : Each (IsPlanned losses) marker.losses
  pub first : Each (IsFirstLoss losses) marker.losses
  pub shelved : Each (HasShelf shelves) losses

-- what the eye had seen of something that was missing, it saw at the shelves
abbrev pub SeenOf : ShelvesSeen → End → Type 0
SeenOf shelves (End.Missing name loss seen) = SeenAt shelves seen
SeenOf shelves _ = Unit {0}

-- the loss that was seen is one that was marked
abbrev pub WasMarked : List Loss → End → Type 0
WasMarked marked (End.Missing name loss seen) = HasSeen seen loss → In loss marked
WasMarked marked _ = Unit {0}

-- the loss that was seen is one of the plan, and its worker is lost
abbrev pub IsCarriedOut : Board P → End → Type 0
IsCarriedOut b (End.Missing name loss seen) =
    HasSeen seen loss → IsPlanned b.plan.losses loss × (list_any (nat_eq loss.worker) b.table.gone ≡ true)
IsCarriedOut b _ = Unit {0}

-- without what the eye had seen
abbrev pub unseen : End → End
unseen (End.Made ms) = End.Made ms
unseen (End.Saved p k refs holds mark) = End.Saved p k refs holds mark
unseen (End.Shown s) = End.Shown s
unseen (End.Missing name loss seen) = End.Missing name loss None
