-- What the run of an order of a call or of the root task comes to.
use Rattle.std.specs.Prelude.{◌≡◌, ℕ, List, [], Option, Result, Ok, Err}
use Rattle.sky_base.specs.Res.{Object}
use Rattle.sky_base.specs.Tree.{Script}
use Rattle.sky_base.specs.Val.{Desc}
use Rattle.sky_base.specs.declared.object.Named.{Named}
use Rattle.sky_base_law.specs.Tasks.{Each}
use Rattle.ciel_name_law.specs.Told.{DescTold}
use Rattle.ciel_master_board.specs.Reports.{named_view}
use Rattle.ciel_task_call.specs.Exactly.{FitsAfter}
use Rattle.ciel_task_call.specs.Knows.{KnowsNames}
use Rattle.ciel_task_call.specs.Onward.{GrewSoundly}
use Rattle.ciel_task_call.specs.Steps.{Spawned}
use Rattle.ciel_task_call.specs.Step.{Step}
use Rattle.sky_state.specs.Stand.{Stand}
use Rattle.sky_state.specs.StandView.{spawned_view}
use Rattle.ciel_task_call.specs.Found.{CameFrom, Further, GrewWhole, SameKind}
use Rattle.ciel_task_call.specs.Through.{Through, asked_in}
use Rattle.ciel_master_board.specs.Sound.{own_name}
use Rattle.ciel_store.specs.Seen.{SeatSeen, ShelvesSeen}
use Rattle.ciel_store.specs.declared.loss.Loss.{Loss}
use Rattle.ciel_task_order.specs.Orders.{names_in}
use Rattle.ciel_task_order.specs.Views.{P}
use Rattle.ciel_task_order.specs.declared.block.Held.{Held}
use Rattle.ciel_task_order.specs.declared.order.Order.{Order}
use Rattle.ciel_task_order.specs.declared.report.Report.{Report}
use Rattle.ciel_task_inputs.specs.Brought.{lies_known}
use Rattle.ciel_task_inputs.specs.Copies.{Copies}
use Rattle.ciel_task_inputs.specs.Fetched.{TellsFetched, fetched}
use Rattle.ciel_task_call.specs.Finds.{IsLost}
use Rattle.ciel_task_call.specs.declared.brought.Lost.{Lost}
use Rattle.ciel_task_call.specs.Begins.{BeginsAt, StackIsLost}
use Rattle.ciel_task_call.specs.Ends.{EndIs, IsOf, TellsMissing}

module _ (digest : List ℕ → List ℕ) (shelves : ShelvesSeen) (sc : Script) (inputs : List (List ℕ × List ℕ)) (order : Order) where
  -- what the order brings along, by names
  abbrev pub brings : Desc (List ℕ) → Option (Object (List ℕ))
  brings = lies_known inputs order.inputs.items

  abbrev pub spawned_in : Report → Spawned
  spawned_in r = spawned_view r.spawned.items

  -- going through its waits the task came from this state to this step, with this state after it, where so much was spawned and copied
  pub record CameThrough (s new : Stand (List ℕ)) (spawned : Spawned) (step : Step) (copied : List Held) : Type 0 where
    pub through : Through brings digest sc s new step [] spawned
    pub fits : FitsAfter sc new step
    pub kind : SameKind s step new
    pub further : Further s step new
    pub sound : GrewSoundly digest sc [] spawned
    pub whole : GrewWhole digest [] spawned
    pub knows : KnowsNames digest (CameFrom brings s) step new [] spawned
    pub copies : Copies shelves order.worker inputs order.inputs.items copied
    pub fetches : names_in copied ≡ fetched order.worker order.inputs.items (asked_in brings digest sc s new step [] spawned through)

  -- or an object was lost
  abbrev pub WentThrough : (s new : Stand (List ℕ)) → Spawned → SeatSeen → Result Step Lost → (copied : List Held) → Type 0
  WentThrough s new spawned eye (Ok step) copied = CameThrough s new spawned step copied
  WentThrough s new spawned eye (Err l) copied = IsLost order.inputs.items l.name l.loss eye

  -- the task went from this state through its waits as far as the order brings along what it waits for, and this is its report
  pub record Went (s : Stand (List ℕ)) (r : Report) : Type 0 where
    pub step : Step
    pub new : Stand (List ℕ)
    pub of : IsOf order r
    pub through : Through brings digest sc s new step [] (spawned_in r)
    pub fits : FitsAfter sc new step
    pub kind : SameKind s step new
    pub sound : GrewSoundly digest sc [] (spawned_in r)
    pub whole : GrewWhole digest [] (spawned_in r)
    pub knows : KnowsNames digest (CameFrom brings s) step new [] (spawned_in r)
    pub further : Further s step new
    pub typed : Each (λ (n : Named). DescTold (named_view n)) r.spawned.items
    pub end : EndIs shelves order.worker order.task step new r.end
    -- what was copied lies on the own shelf too
    pub copies : Copies shelves order.worker inputs order.inputs.items r.copied.items
    -- just what was fetched from other workers' shelves of what was asked for on the way is told, each once, in order; none at a wait
    pub tells : TellsFetched order.worker order.inputs.items (asked_in brings digest sc s new step [] (spawned_in r) through) r.end r.copied.items

  -- it went so from the state from which the order's task goes on, or something was lost: what the order has of a name, or the stack
  pub data Ran (eye : SeatSeen) (r : Report) : Type 0 where
    went : (s : Stand (List ℕ)) → BeginsAt sc order s → Went s r → Ran eye r
    lost : (s : Stand (List ℕ)) → BeginsAt sc order s → (name : List ℕ) (loss : Loss) → IsLost order.inputs.items name loss eye
        → TellsMissing order name loss eye r → Ran eye r
    stack : (loss : Loss) → StackIsLost order loss eye
        → TellsMissing order (own_name digest (λ (p : P). p.worker) order.main order.task) loss eye r → Ran eye r
