-- What a worker's report tells of how its order went.
use Rattle.std.specs.Prelude.{◌≡◌, ℕ, List, Option, Some, None}
use Rattle.sky_base.specs.Tree.{Script}
use Rattle.sky_base.specs.Val.{distinct, refs, same_text}
use Rattle.sky_base.specs.View.{view}
use Rattle.sky_base.specs.declared.object.Desc1.{Desc1}
use Rattle.ciel_task_exec.specs.Fetched.{TellsFetched}
use Rattle.ciel_task_exec.specs.Runs.{SeenBy}
use Rattle.ciel_task_call.specs.Runs.{Ran}
use Rattle.ciel_store.specs.Seen.{SeatSeen, ShelvesSeen}
use Rattle.ciel_task_exec.specs.Order.{Order}
use Rattle.ciel_task_exec.specs.Report.{Report}

module _ (digest : List ℕ → List ℕ) (shelves : ShelvesSeen) (sc : Script) (inputs : List (List ℕ × List ℕ)) (order : Order) (eye : SeatSeen)
    (r : Report) where
  -- by the kind of its task: an executor's report tells of just what was fetched of its arguments' references, each once, in order, and where something was missing that this eye has seen it; that
  -- of a call or of the root task tells how it went through its waits, and of just what was fetched of what it asked for on the way, or
  -- that something was lost, as the eye has seen
  abbrev pub TellsBy : Option Desc1 → Type 0
  TellsBy (Some (Desc1.Exec x args n i)) =
      TellsFetched order.worker order.inputs.items (distinct same_text (refs (view args))) r.end r.copied.items × SeenBy eye r.end
  TellsBy (Some (Desc1.Call f c vs)) = Ran digest shelves sc inputs order eye r
  TellsBy (Some (Desc1.Input k)) = Ran digest shelves sc inputs order eye r
  TellsBy None = Ran digest shelves sc inputs order eye r

  abbrev pub Tells : Type 0
  Tells = TellsBy order.desc
