-- From what the task of an order goes on.
use Rattle.std.specs.Prelude.{◌≡◌, ℕ, List, [], Option, Some, None}
use Rattle.sky_base.specs.Name.{held_name}
use Rattle.sky_base.specs.Tree.{Script}
use Rattle.sky_base.specs.Val.{known, ref, same_text}
use Rattle.sky_base.specs.declared.object.Desc1.{Desc1}
use Rattle.sky_base_law.specs.Tasks.{Each, In}
use Rattle.sky_state.specs.Fits.{Fits}
use Rattle.sky_state.specs.Pending.{pending_in, stand_wait}
use Rattle.sky_state.specs.Stand.{Stand}
use Rattle.sky_state.specs.Start.{CanStart, StartsCall}
use Rattle.sky_state.specs.Stands.{StandsForCall, StandsForShow}
use Rattle.sky_state.specs.StateView.{stand_of, spawned_of}
use Rattle.ciel_store.specs.Seen.{PlaceSeen, SeatSeen}
use Rattle.ciel_store.specs.declared.loss.Loss.{Loss}
use Rattle.ciel_task_order.specs.Orders.{OfKind, names_in}
use Rattle.ciel_task_order.specs.declared.block.Block.{Block}
use Rattle.ciel_task_order.specs.declared.order.Order.{Order}
use Rattle.ciel_task_call.specs.declared.begin.Begun.{Begun}

-- a call, or the root task
abbrev pub HasState : Option Desc1 → Type 0
HasState None = Unit {0}
HasState (Some (Desc1.Call f c vs)) = Unit {0}
HasState (Some (Desc1.Exec x a n i)) = ⊥
HasState (Some (Desc1.Input k)) = ⊥

-- a call that may be started, or the root task
abbrev pub CanStartAt : Script → Option Desc1 → Type 0
CanStartAt sc None = Unit {0}
CanStartAt sc (Some (Desc1.Call f c vs)) = CanStart sc f c vs
CanStartAt sc (Some _) = ⊥

-- the state of the root task of this main call, or of a call, at its start
abbrev pub IsStartOf : Script → (main : List ℕ) → Option Desc1 → Stand (List ℕ) → Type 0
IsStartOf sc main None s = (s ≡ Stand.show_at (ref (known main)) 0) × StandsForShow main s
IsStartOf sc main (Some (Desc1.Call f c vs)) s = StartsCall sc f c vs s × StandsForCall sc f c vs s
IsStartOf sc main (Some _) s = ⊥

-- the state whose stack lies at the saved place, or at the start
abbrev pub IsFrom : Script → Order → Option (PlaceSeen Block) → Stand (List ℕ) → Type 0
IsFrom sc order None s = IsStartOf sc order.main order.desc s
IsFrom sc order (Some p) s = p.at.value ≡ Block.Frozen s

-- a stack
abbrev pub IsStack : Block → Type 0
IsStack (Block.Object o) = ⊥
IsStack (Block.Frozen s) = Unit {0}

-- the task of the order goes on from this state: it fits the script, is of the task's kind, stands at the order's wait, and what it waits
-- for is brought along
pub record BeginsAt (sc : Script) (order : Order) (s : Stand (List ℕ)) : Type 0 where
  pub fits : Fits sc s
  pub kind : OfKind order.task s
  pub wait : stand_wait s ≡ order.from
  pub pending : Each (λ d. In (held_name d) (names_in order.inputs.items)) (pending_in same_text s)
  pub from : IsFrom sc order order.saved s

-- the stack lay at a worker whose loss the eye has seen
pub record StackIsLost (order : Order) (loss : Loss) (eye : SeatSeen) : Type 0 where
  pub place : PlaceSeen Block
  pub saved : order.saved ≡ Some place
  pub worker : place.worker ≡ loss.worker
  pub seen : In loss eye.losses

-- the state whose stack lies at the place, or a loss of its worker that the eye has seen
abbrev pub ThawedSo : PlaceSeen Block → SeatSeen → Begun → Type 0
ThawedSo p eye (Begun.State s) = (p.at.value ≡ Block.Frozen (stand_of s)) × (spawned_of s ≡ [])
ThawedSo p eye (Begun.Lost loss) = (p.worker ≡ loss.worker) × In loss eye.losses

abbrev pub BegunSo : Script → Order → SeatSeen → Begun → Type 0
BegunSo sc order eye (Begun.State s) = BeginsAt sc order (stand_of s) × (spawned_of s ≡ [])
BegunSo sc order eye (Begun.Lost loss) = StackIsLost order loss eye
