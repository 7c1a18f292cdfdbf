-- What the lanes of a crew with streams do.
use Rattle.std.specs.Prelude.{◌≡◌, ℕ, Bool, true, false, List, [], ◌∷◌, map, Option, Some, None, Ok, IfSome, IsSomeAnd}
use Rattle.std.specs.Arc.{arc_value}
use Rattle.ciel_json.specs.Text.{text_of as writes}
use Rattle.sky_base.specs.JobView.{job_view}
use Rattle.sky_base.specs.KitView.{Gives}
use Rattle.sky_base.specs.Val.{refs}
use Rattle.sky_base.specs.View.{view}
use Rattle.sky_base.specs.declared.object.Desc1.{Desc1}
use Rattle.sky_base.specs.declared.object.TaskId.{TaskId}
use Rattle.sky_base.specs.declared.value.Value.{Value}
use Rattle.sky_base_exec.specs.Perform.{all_bytes}
use Rattle.line_kit.specs.Gives.{gives}
use Rattle.line_kit.specs.Table.{executor_of}
use Rattle.ciel_crew_lanes.specs.Seen.{LaneSeen}
use Rattle.ciel_task_inputs.specs.Brought.{lies_known}
use Rattle.ciel_task_order.specs.declared.block.Held.{Held}
use Rattle.ciel_task_order.specs.declared.order.Order.{Order}
use Rattle.ciel_crew_work.specs.Crewed.{CanBeDone, IsDoneOf}
use Rattle.ciel_crew_work.specs.declared.performing.Done.{Done}
use Rattle.ciel_crew_work.specs.declared.performing.Job.{Job}
use Rattle.ciel_flow_pieces.specs.Left.{flat}
use Rattle.ciel_flow_pieces.specs.Pieces.{StreamSeen}
use Rattle.ciel_flow_pieces.specs.Source.{hands_out, output}
use Rattle.ciel_flow_pieces.specs.declared.follow.Left.{Left}
use Rattle.ciel_flow_pieces.specs.declared.piece.Source.{Source}
use Rattle.ciel_flow_work.specs.Ahead.{IsAheadOf}
use Rattle.ciel_flow_work.specs.declared.job.FlowDone.{FlowDone}
use Rattle.ciel_flow_work.specs.declared.job.FlowJob.{FlowJob}
use Rattle.ciel_flow_work.specs.declared.job.Follow.{Follow}
use Rattle.ciel_flow_work.specs.declared.job.Perform.{Perform}
use Rattle.ciel_flow_work.specs.declared.job.Performed.{Performed}

-- ---- streams of orders

-- output i of an executor's call, whose inputs are what an order brings along for the references in its arguments
abbrev pub source_of : List (List ℕ × List ℕ) → List Held → List ℕ → Value → ℕ → ℕ → Source
source_of inputs held x a n i = record {
  executor = x;
  args = a;
  outputs = n;
  index = i;
  inputs = all_bytes writes (lies_known inputs held) (refs (view a));
}

-- a stream of such an output, of an executor whose output can be had line by line, on which nothing was put yet
pub record IsLedBy (inputs : List (List ℕ × List ℕ)) (held : List Held) (x : List ℕ) (a : Value) (n i : ℕ) (p : StreamSeen) : Type 0 where
  pub source : p.source ≡ source_of inputs held x a n i
  pub hands : hands_out (executor_of x) ≡ true
  pub fresh : p.pieces ≡ []

-- a stream of an output of the order's task, which is an executor's
pub record IsLedOf (inputs : List (List ℕ × List ℕ)) (order : Order) (i : ℕ) (p : StreamSeen) : Type 0 where
  pub executor : List ℕ
  pub args : Value
  pub outputs : ℕ
  pub desc : order.desc ≡ Some (Desc1.Exec executor args outputs 0)
  pub led : IsLedBy inputs order.inputs.items executor args outputs i p

-- ---- what a lane does

-- what is left of a stream that was followed: what the executor gives for the whole output that the stream is of
pub record IsLeftOf {R : Type 0} (job : Follow R) (left : Left) : Type 0 where
  pub executor : left.executor ≡ job.executor
  pub args : left.args ≡ job.args
  pub outputs : left.outputs ≡ job.outputs
  pub whole : output job.follower.source ≡ Ok (flat left.parts.items)

-- for each kit what it gives, and for each namer its digest
module _ {K N G R : Type 0} (kit_gives : K → Gives) (digest : N → List ℕ → List ℕ) where
  -- the order can be performed, by a kit that gives what the executors over lines give, and the stream, if there is one, is of its output
  pub record CanPerform (job : Perform K N G R) : Type 0 where
    pub done : CanBeDone kit_gives digest job.job
    pub flow : kit_gives (arc_value job.job.shop).kit ≡ gives
    pub led : IfSome job.producer (λ p. IsLedOf (job_view (arc_value job.job.shop).job).inputs job.job.order p.1 p.0)

  -- the order is done, and where it was answered with what was computed ahead, that was of its call and of the bytes that it fetched
  pub record IsPerformedOf (entered : G → Option (List TaskId)) (job : Perform K N G R) (performed : Performed G) : Type 0 where
    pub done : IsDoneOf kit_gives digest entered job.job performed.done
    pub ahead : performed.ahead ≡ true → IsSomeAnd job.ahead (IsAheadOf (job_view (arc_value job.job.shop).job).inputs job.job.order)

  abbrev pub CanFlow : FlowJob K N G R → Type 0
  CanFlow (FlowJob.Perform p) = CanPerform p
  CanFlow (FlowJob.Follow f) = f.follower.pieces ≡ []

  abbrev pub FitsFlow : (G → Option (List TaskId)) → FlowJob K N G R → FlowDone G → Type 0
  FitsFlow entered (FlowJob.Perform p) (FlowDone.Performed d) = IsPerformedOf entered p d
  FitsFlow entered (FlowJob.Perform p) (FlowDone.Followed l) = ⊥
  FitsFlow entered (FlowJob.Follow f) (FlowDone.Performed d) = ⊥
  FitsFlow entered (FlowJob.Follow f) (FlowDone.Followed l) = IfSome l (IsLeftOf f)

-- ---- all lanes, as those of a crew

module _ {K N G R : Type 0} where
  -- the order's job, where a lane performs one
  abbrev pub performing : Option (FlowJob K N G R) → Option (Job K N G R)
  performing None = None
  performing (Some (FlowJob.Perform p)) = Some p.job
  performing (Some (FlowJob.Follow f)) = None

  -- whether a lane follows a stream
  abbrev pub follows : Option (FlowJob K N G R) → Bool
  follows None = false
  follows (Some (FlowJob.Perform p)) = false
  follows (Some (FlowJob.Follow f)) = true

  -- the jobs of orders among what was put
  abbrev pub jobs_of : List (FlowJob K N G R) → List (Job K N G R)
  jobs_of [] = []
  jobs_of (FlowJob.Perform p ∷ js) = p.job ∷ jobs_of js
  jobs_of (FlowJob.Follow f ∷ js) = jobs_of js

  -- a lane, as one that performs orders alone
  abbrev pub as_worker : LaneSeen (FlowJob K N G R) → LaneSeen (Job K N G R)
  as_worker l = record { put = jobs_of l.put; out = performing l.out }

  abbrev pub as_crew : List (LaneSeen (FlowJob K N G R)) → List (LaneSeen (Job K N G R))
  as_crew lanes = map as_worker lanes

-- what came back from orders, of what came back
abbrev pub done_of : {G : Type 0} → List (ℕ × FlowDone G) → List (ℕ × Done G)
done_of [] = []
done_of ((k, FlowDone.Performed d) ∷ outs) = (k, d.done) ∷ done_of outs
done_of ((k, FlowDone.Followed l) ∷ outs) = done_of outs
