-- What a worker promises of the report of an order, whatever job has the script and the inputs.
use Rattle.std.specs.Prelude.{◌≡◌, ℕ, ◌<◌, List, map, Option, Some, None, ◌⊎◌}
use Rattle.sky_base.specs.KitView.{Gives}
use Rattle.sky_base.specs.Name.{digested, held_name}
use Rattle.sky_base.specs.ObjectView.{desc_view, object_view}
use Rattle.sky_base.specs.Res.{object_refs}
use Rattle.sky_base.specs.See as s
use Rattle.sky_base.specs.Val.{Desc, call, out}
use Rattle.sky_base.specs.declared.object.Desc1.{Desc1}
use Rattle.sky_base.specs.declared.object.TaskId.{TaskId}
use Rattle.ciel_master_board.specs.Tasks.{Each}
use Rattle.sky_machine_show.specs.Shows.{shown_view}
use Rattle.sky_state.specs.Pending.{all_refs}
use Rattle.ciel_master_board.specs.Board.{Board, find_order, shelf, spot_of, start_refs}
use Rattle.ciel_master_board.specs.Follows.{OrderIs}
use Rattle.ciel_master_board.specs.Laws.{LiesUnlessClash}
use Rattle.ciel_master_board.specs.Reports.{report_view}
use Rattle.ciel_master_board.specs.Setting.{Setting}
use Rattle.ciel_master_board.specs.Sound as board
use Rattle.ciel_master_board.specs.Sound.{own_name}
use Rattle.ciel_master_board.specs.History.{Event, OpenStart, Plan, after, find_open, standing}
use Rattle.ciel_master_board.specs.Job.{Digest, In}
use Rattle.ciel_master_board.specs.Lawful.{Allowed, Lawful, NoClash}
use Rattle.ciel_json.specs.Around.{json_around}
use Rattle.ciel_master_board.specs.Report.{FirstApart, Says, report_of}
use Rattle.ciel_store.specs.Seen.{SeatSeen}
use Rattle.ciel_store.specs.declared.loss.Loss.{Loss}
use Rattle.ciel_master_board.specs.Seen.{Known, TableSeen}
use Rattle.ciel_master_board.specs.Waited.{AllKnown}
use Rattle.ciel_task_order.specs.Shop as shop
use Rattle.ciel_task_order.specs.Shop.{shop_setting}
use Rattle.ciel_task_order.specs.Orders.{names_in}
use Rattle.ciel_task_order.specs.Views.{P, order_view, out_view, report_end}
use Rattle.ciel_task_order.specs.declared.block.Block.{Block}
use Rattle.ciel_task_order.specs.declared.block.Held.{Held}
use Rattle.ciel_task_order.specs.declared.block.Spot.{Spot}
use Rattle.ciel_task_order.specs.declared.order.Order.{Order}
use Rattle.ciel_task_order.specs.declared.report.End.{End}
use Rattle.ciel_task_order.specs.declared.report.Report.{Report}

-- ---- what the master's table has where the order is out

-- what a block refers to
abbrev pub block_refs : Block → List (Desc (List ℕ))
block_refs (Block.Object o) = object_refs (object_view o)
block_refs (Block.Frozen a) = all_refs a

-- what is at a place refers to what has rows; an input of the job refers to nothing
abbrev pub BlockKnown : TableSeen P → P → Type 0
BlockKnown t p = AllKnown t (map held_name (block_refs p.at.value))

abbrev pub SpotKnown : TableSeen P → Spot → Type 0
SpotKnown t (Spot.Shelf p) = BlockKnown t p
SpotKnown t (Spot.Input i) = Unit {0}

abbrev pub StackKnown : TableSeen P → Option P → Type 0
StackKnown t None = Unit {0}
StackKnown t (Some p) = BlockKnown t p

-- each output of what a task is of has a row; the root task has none
abbrev pub OutputsKnown : (List ℕ → List ℕ) → TableSeen P → Option Desc1 → Type 0
OutputsKnown digest t None = Unit {0}
OutputsKnown digest t (Some d) = known (desc_view d)
  where
    known : Desc (List ℕ) → Type 0
    known (call f c vs) = Known t (digested digest (call f c vs))
    known (out x a n i) = (k : ℕ) → k < n → Known t (digested digest (out x a n k))
    known d = Unit {0}

-- all that stands inside what a task is of has rows
abbrev pub InsideKnown : TableSeen P → Option Desc1 → Type 0
InsideKnown t None = Unit {0}
InsideKnown t (Some d) = AllKnown t (start_refs d)

-- what the order brings along has rows, as has all that its blocks refer to, all that stands inside what its task is of, and each
-- output of the task
pub record HasRows (digest : List ℕ → List ℕ) (t : TableSeen P) (order : Order) : Type 0 where
  pub brought : AllKnown t (names_in order.inputs.items)
  pub carried : Each (λ (h : Held). SpotKnown t h.at) order.inputs.items
  pub stack : StackKnown t order.saved
  pub inside : InsideKnown t order.desc
  pub outputs : OutputsKnown digest t order.desc

-- ---- something that was missing

-- the eye had seen this loss
abbrev pub HasSeen : Option SeatSeen → Loss → Type 0
HasSeen None loss = ⊥
HasSeen (Some seen) loss = In loss seen.losses

-- the place that the order gives for the name, or for its stack, is at the worker that is lost, and that was seen
pub record IsMissed (digest : List ℕ → List ℕ) (order : Order) (name : Digest) (loss : Loss) (eye : Option SeatSeen) : Type 0 where
  pub place : P
  pub given : (spot_of name (order_view order).inputs ≡ Some (shelf place))
      ⊎ ((order.saved ≡ Some place) × (name ≡ own_name digest (λ (p : P). p.worker) order.main order.task))
  pub worker : place.worker ≡ loss.worker
  pub seen : HasSeen eye loss

abbrev pub Missed : (List ℕ → List ℕ) → Order → End → Type 0
Missed digest order (End.Missing name loss seen) = IsMissed digest order name loss seen
Missed digest order _ = Unit {0}

abbrev pub IsMissing : End → Type 0
IsMissing (End.Missing name loss seen) = Unit {0}
IsMissing _ = ⊥

-- ---- how it ended

-- the root task's end is shown, another one's has what was made
abbrev pub OfTask : TaskId → End → Type 0
OfTask TaskId.Show (End.Made ms) = ⊥
OfTask (TaskId.Of n) (End.Shown shown) = ⊥
OfTask _ _ = Unit {0}

-- ---- the promise

module _ (digest : List ℕ → List ℕ) (job : s.Job) (gives : Gives) where
  abbrev pub the_shop : Setting s.Desc P shop.Block
  the_shop = shop_setting digest job gives

  -- what is shown is the answer of the job
  abbrev pub AnswerIs : End → Type 0
  AnswerIs (End.Shown shown) = s.Means job (json_around gives) (shown_view shown)
  AnswerIs _ = Unit {0}

  -- so it is, unless two descriptions share a name
  abbrev pub AnswersUnlessClash : List (Event s.Desc) → Plan → ℕ → Report → Type 0
  AnswersUnlessClash h p k r =
      (e : Event s.Desc) → report_of the_shop.job the_shop.inner the_shop.lower e ≡ Some (report_view k r.spawned.items (report_end r))
      → Allowed the_shop.job p (standing the_shop.job h) e → NoClash the_shop.job (after the_shop.job (standing the_shop.job h) e).book
      → AnswerIs r.end

  pub record Performs (order : Order) (r : Report) : Type 0 where
    pub number : r.number ≡ order.number
    pub worker : r.worker ≡ order.worker
    pub task : r.task ≡ order.task
    -- the root task's end is shown, another one's has what was made
    pub kind : OfTask order.task r.end
    -- it fits each sound state of a master in which the order is out, where nothing was missing
    pub fits : (b : Board P) → board.Sound digest (λ p. p.worker) b → find_order order.number b.orders ≡ Some (out_view order)
        → HasRows digest b.table order → (IsMissing r.end → ⊥)
        → board.Fits digest (λ p. p.worker) b (order_view order) r.spawned.items (report_end r)
    pub missed : Missed digest order r.end
    -- it says what the job does
    pub says : (o : OpenStart s.Desc) → OrderIs the_shop o (order_view order) → FirstApart the_shop.job the_shop.inner o
        → Says the_shop.job the_shop.inner the_shop.lower o (report_view order.number r.spawned.items (report_end r))
    -- and what is at its places is the job's, unless two descriptions share a name
    pub lies : (h : List (Event s.Desc)) (p : Plan) (o : OpenStart s.Desc) → Lawful the_shop.job p h
        → find_open the_shop.job order.number (standing the_shop.job h).orders ≡ Some o → OrderIs the_shop o (order_view order)
        → LiesUnlessClash the_shop h p o order.number r.spawned.items (report_end r)
    -- so is what is shown the job's answer
    pub answers : (h : List (Event s.Desc)) (p : Plan) (o : OpenStart s.Desc) → Lawful the_shop.job p h
        → find_open the_shop.job order.number (standing the_shop.job h).orders ≡ Some o → OrderIs the_shop o (order_view order)
        → AnswersUnlessClash h p order.number r
