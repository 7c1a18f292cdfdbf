-- What contracts see of a master.
use Rattle.std.specs.Prelude.{◌≡◌, ℕ, ◌+◌, ◌≤◌, ◌<◌, ◌^◌, List, Bool, false, length, map}
use Rattle.sky_base.specs.Tree.{Script}
use Rattle.ciel_master_board.specs.Board.{Board}
use Rattle.ciel_journal.specs.History.{Plan}
use Rattle.ciel_journal.specs.Job.{Digest}
use Rattle.ciel_store.specs.Seen.{SeatSeen, ShelvesSeen}
use Rattle.ciel_table.specs.Seen.{TableSeen}
use Rattle.ciel_master_board.specs.Left.{losses_left}
use Rattle.ciel_want_ready.specs.Seen.{ReadySeen}
use Rattle.ciel_master_safe.specs.Safe.{Safe}
use Rattle.ciel_master.specs.Orders.{ready_of}
use Rattle.ciel_master.specs.Marked.{Marked}
use Rattle.ciel_master_bring.specs.Brings.{worker_of}
use Rattle.ciel_master.specs.Views.{entry_view, kept_view}
use Rattle.ciel_task_order.specs.Views.{P}
use Rattle.ciel_master.specs.declared.entry.Entry.{Entry}
use Rattle.ciel_master.specs.declared.orders.OrderOut.{OrderOut}
use Rattle.ciel_master.specs.declared.plan.RunPlan.{RunPlan}

-- what gives the names, the shelves, the script, and the state by names
pub record MasterSeen (N : Type 0) : Type 0 where
  pub namer : N
  pub shelves : ShelvesSeen
  pub script : Script
  pub board : Board P

-- how many descriptions a run may know
abbrev pub most_descriptions : ℕ
most_descriptions = 65536

abbrev pub plan_view : RunPlan → Plan
plan_view p = record { workers = p.workers; seed = p.seed; losses = p.losses; limit = most_descriptions }

-- the state of these parts
abbrev pub board_of : RunPlan → List (List ℕ) → Digest → TableSeen P → List OrderOut → (starts closes : ℕ) → List Entry → Bool → Board P
board_of plan keys main table orders starts closes journal stopped =
    record {
      plan = plan_view plan;
      keys = keys;
      main = main;
      table = table;
      orders = map kept_view orders;
      starts = starts;
      closes = closes;
      journal = map entry_view journal;
      stopped = stopped;
    }

-- until the run stops: it is safe, each Start and each close has an entry, and inputs have numbers of 32 bits
pub record Going (digest : List ℕ → List ℕ) (shelves : ShelvesSeen) (sc : Script) (b : Board P) : Type 0 where
  pub safe : Safe digest shelves sc (length sc.keys) b
  pub counted : b.starts + b.closes ≤ length b.journal
  pub few : length b.keys < 2 ^ 32

-- with so many entries there is room for one for each loss that is left, and among these lost workers for each of their workers
pub record HasRoom (losses : List (ℕ × ℕ)) (lost : List ℕ) (entries entry_room lost_room : ℕ) : Type 0 where
  pub journal : entries + losses_left losses lost ≤ entry_room
  pub workers : length lost + losses_left losses lost ≤ lost_room

-- besides, these are the lost workers, there is room for the losses that are left, those that were carried out are marked, and what is
-- kept of the tasks that can run is the state's
abbrev pub MasterStands : (List ℕ → List ℕ) → Board P → (lost : List ℕ) → (entry_room lost_room : ℕ) → ShelvesSeen → Script → SeatSeen → ReadySeen P → Type 0
MasterStands digest b lost entry_room lost_room shelves sc marker ready =
    b.stopped ≡ false → Going digest shelves sc b × (b.table.gone ≡ lost) × HasRoom b.plan.losses lost (length b.journal) entry_room lost_room
    × Marked b.plan.losses lost shelves marker × (ready ≡ ready_of b)
