-- What a crew with streams keeps.
use Rattle.std.specs.Prelude.{◌≡◌, ◌<◌, ◌≤◌, ◌^◌, ℕ, Bool, true, false, List, [], ◌∷◌, length, slice_index_or, Option, Some, None, Ok, IfSome, is_some, not}
use Rattle.sky_base.specs.JobView.{job_view}
use Rattle.sky_base.specs.Kept.{Kept}
use Rattle.sky_base.specs.KitView.{Gives}
use Rattle.sky_base.specs.Name.{digested}
use Rattle.sky_base.specs.Val.{distinct, known, out, refs, same_text}
use Rattle.sky_base.specs.View.{view}
use Rattle.sky_base.specs.declared.object.Desc1.{Desc1}
use Rattle.sky_base.specs.declared.value.Value.{Value}
use Rattle.sky_base_exec.specs.Perform.{slots}
use Rattle.line_kit.specs.Gives.{gives}
use Rattle.ciel_crew_lanes.specs.Seen.{LaneSeen, lane_at}
use Rattle.ciel_crew_work.specs.declared.performing.Done.{Done}
use Rattle.ciel_crew_work.specs.declared.performing.Job.{Job}
use Rattle.ciel_crew_work.specs.declared.performing.Tools.{Tools}
use Rattle.ciel_master_safe.specs.Order.{Order}
use Rattle.ciel_master_safe.specs.Shop.{Shop}
use Rattle.ciel_master_safe.specs.Views.{out_view}
use Rattle.ciel_task_crew.specs.Hints.{LeadsTo}
use Rattle.ciel_flow_pieces.specs.Left.{flat}
use Rattle.ciel_flow_pieces.specs.Source.{output}
use Rattle.ciel_flow_pieces.specs.declared.follow.Left.{Left}
use Rattle.ciel_flow_pieces.specs.declared.piece.Source.{Source}
use Rattle.ciel_flow_work.specs.Crewed.{Stands}
use Rattle.ciel_flow_work.specs.Flowing.{IsLedOf, as_crew, follows, source_of}
use Rattle.ciel_flow_work.specs.Seen.{CrewSeen}
use Rattle.ciel_flow_work.specs.declared.job.FlowJob.{FlowJob}
use Rattle.ciel_flow.specs.declared.begin.Begun.{Begun}
use Rattle.ciel_flow.specs.declared.begin.Hint.{Hint}
use Rattle.ciel_flow.specs.declared.lanes.Stream.{Stream}

-- ---- what is computed ahead

-- the one name in these arguments is that of output i of an executor's task
abbrev pub ReadsOutput : (List ℕ → List ℕ) → Value → List ℕ → Value → ℕ → ℕ → Type 0
ReadsOutput digest read x a n i = distinct same_text (refs (view read)) ≡ known (digested digest (out x (view a) n i)) ∷ []

-- for each namer its digest
module _ {K N : Type 0} (digest : N → List ℕ → List ℕ) (shop : Shop K N) where
  -- it was said to the crew that what this order makes is what the task reads
  pub record IsSaid (h : Hint) : Type 0 where
    pub order : Order
    pub leads : LeadsTo digest shop order h.consumer
    pub is : out_view order ≡ record { number = h.number; worker = h.worker; task = h.task; from = h.from }

  -- a call of the executor of a task that follows an order's, and the output of that order's task that its arguments refer to, and nothing
  -- else, as the order's own fetch gives its inputs
  pub record ReadsAhead (consumer : Desc1) (x : List ℕ) (a : Value) (n : ℕ) (s : Source) : Type 0 where
    pub order : Order
    pub leads : LeadsTo digest shop order consumer
    pub read : Value
    pub first : ℕ
    pub call : consumer ≡ Desc1.Exec x read n first
    pub slotted : view a ≡ slots (view read)
    pub index : ℕ
    pub executor : List ℕ
    pub args : Value
    pub outputs : ℕ
    pub desc : order.desc ≡ Some (Desc1.Exec executor args outputs 0)
    pub reads : ReadsOutput (digest shop.namer) read executor args outputs index
    pub source : s ≡ source_of (job_view shop.job).inputs order.inputs.items executor args outputs index

  -- It is what the task's executor gives for the whole output of such an order. So the task was reached when it was begun
  pub record IsAhead (consumer : Desc1) (left : Left) : Type 0 where
    pub source : Source
    pub reads : ReadsAhead consumer left.executor left.args left.outputs source
    pub whole : output source ≡ Ok (flat left.parts.items)

-- what contracts see of it: the crew, how many orders were answered with what was computed ahead, and what is kept for other ones
pub record StreamsSeen (K N : Type 0) : Type 0 where
  pub crew : CrewSeen K N
  pub followed : ℕ
  pub kept : List (Option Stream)

-- all that is kept is computed ahead
abbrev pub AllAhead : {K N : Type 0} → (N → List ℕ → List ℕ) → Shop K N → List (Option Stream) → Type 0
AllAhead digest shop kept = (k : ℕ) (consumer : Desc1) (left : Left) → slice_index_or kept k None ≡ Some (Stream.Has consumer left)
    → IsAhead digest shop consumer left

-- ---- streams beside lanes

-- whether the stream's lane still follows
abbrev pub follows_in : Option Stream → Bool
follows_in None = false
follows_in (Some (Stream.Follows d)) = true
follows_in (Some (Stream.Has d left)) = false

-- what is kept of a stream that was followed
abbrev pub kept_left : Option Stream → Option Left → Option Stream
kept_left None left = None
kept_left (Some (Stream.Follows d)) None = None
kept_left (Some (Stream.Follows d)) (Some left) = Some (Stream.Has d left)
kept_left (Some (Stream.Has d l)) left = None

-- an executor's arguments are within the limits of values
abbrev pub KeptDesc : Desc1 → Type 0
KeptDesc (Desc1.Call f c vs) = Unit {0}
KeptDesc (Desc1.Exec x a n i) = Kept (view a)
KeptDesc (Desc1.Input k) = Unit {0}

module _ {K N G R : Type 0} (digest : N → List ℕ → List ℕ) (shop : Shop K N) where
  -- what is kept was computed ahead, and what a lane follows is
  abbrev pub StreamAt : Option Stream → Option (FlowJob K N G R) → Type 0
  StreamAt None job = Unit {0}
  StreamAt (Some (Stream.Has d left)) job = IsAhead digest shop d left
  StreamAt (Some (Stream.Follows d)) None = Unit {0}
  StreamAt (Some (Stream.Follows d)) (Some (FlowJob.Perform p)) = Unit {0}
  StreamAt (Some (Stream.Follows d)) (Some (FlowJob.Follow f)) = ReadsAhead digest shop d f.executor f.args f.outputs f.follower.source

  -- for each lane a stream that it follows is kept just where it follows one
  pub record Match (lanes : List (LaneSeen (FlowJob K N G R))) (streams : List (Option Stream)) : Type 0 where
    pub many : length streams ≡ length lanes
    pub each : (k : ℕ) → follows_in (slice_index_or streams k None) ≡ follows (lane_at lanes k).out
    pub ahead : (k : ℕ) → StreamAt (slice_index_or streams k None) (lane_at lanes k).out

module _ {K N R : Type 0} (digest : N → List ℕ → List ℕ) (shop : Shop K N) where
  -- the stream is one of the order's output, and nothing was taken of it; and the lane runs the task's call on it
  pub record IsBegun (order : Order) (b : Begun R) : Type 0 where
    pub led : IsLedOf (job_view shop.job).inputs order b.index b.producer
    pub fresh : b.follow.follower.pieces ≡ []
    pub reads : ReadsAhead digest shop b.consumer b.follow.executor b.follow.args b.follow.outputs b.follow.follower.source

module _ {K N G R : Type 0} where
  -- the lane of another worker has no job
  pub record IsFree (lanes : List (LaneSeen (FlowJob K N G R))) (worker lane : ℕ) : Type 0 where
    pub there : lane < length lanes
    pub other : lane ≡ worker → ⊥
    pub none : (lane_at lanes lane).out ≡ None

  -- a worker has its gate and eye here just where no order of it is out
  abbrev pub HasGates : List (LaneSeen (Job K N G R)) → List (Option (Tools G)) → Type 0
  HasGates lanes idle =
      (length idle ≡ length lanes)
      × ((k : ℕ) → k < length lanes → is_some (slice_index_or idle k None) ≡ not (is_some (lane_at lanes k).out))

-- ---- between two calls

-- for each kit what it gives, and for each namer its digest
module _ {K N G R : Type 0} (kit_gives : K → Gives) (digest : N → List ℕ → List ℕ) where
  -- the crew stands as one without streams does, over a kit that gives what the executors over lines give; streams are kept beside its lanes;
  -- what it was told last was said of the order that comes next; and there is room for what comes back at the end
  pub record StandsSo (shop : Shop K N) (lanes : List (LaneSeen (FlowJob K N G R))) (idle : List (Option (Tools G))) (gates : List G) (room : ℕ)
      (streams : List (Option Stream)) (hinted : Option Hint) (back : List (ℕ × Done G)) (places : ℕ) : Type 0 where
    pub crew : Stands shop (as_crew lanes) idle gates room
    pub flow : kit_gives shop.kit ≡ gives
    pub agree : Match digest shop lanes streams
    pub said : IfSome hinted (IsSaid digest shop)
    pub empty : back ≡ []
    pub enough : length lanes ≤ places
    pub few : length lanes < 2 ^ 32
