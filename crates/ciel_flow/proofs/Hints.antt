-- What is said of an order is said of one that is seen as it, and the arguments of a task that follows another one are within the limits.
use Rattle.std.proofs.Common.{◌≡◌, ℕ, List, Some, ap, subst, sym}
use Rattle.ciel_journal.specs.Job.{In}
use Rattle.sky_base.specs.Tree.{Script}
use Rattle.sky_base.specs.declared.object.Desc1.{Desc1}
use Rattle.ciel_master_safe.specs.Order.{Order}
use Rattle.ciel_master_safe.specs.Board.{FollowerOf}
use Rattle.ciel_master_safe.specs.Safe.{Serves}
use Rattle.ciel_master_safe.specs.Views.{out_view}
use Rattle.ciel_master_safe.proofs.SoundOrders.{row_in}
use Rattle.ciel_store.specs.Seen.{ShelvesSeen}
use Rattle.ciel_task_crew.specs.Hints.{Leads}
use Rattle.ciel_flow.specs.Streaming.{KeptDesc}

kept_of : (sc : Script) (keys : List (List ℕ)) (d : Desc1) → Serves sc keys d → KeptDesc d
kept_of sc keys (Desc1.Call f c vs) h = tt
kept_of sc keys (Desc1.Exec x a n i) h = h
kept_of sc keys (Desc1.Input k) h = tt

pub kept_follower : (digest : List ℕ → List ℕ) (shelves : ShelvesSeen) (sc : Script) (inputs : ℕ) (order : Order) (consumer : Desc1)
    → Leads digest shelves sc inputs order consumer → KeptDesc consumer
kept_follower digest shelves sc inputs order consumer l =
    let f = l.follower.1.follows in
    kept_of sc l.board.keys consumer
    (subst (λ d. Serves sc l.board.keys d) f.desc (row_in digest shelves sc inputs l.board l.safe f.name f.row f.found).0.serves)

pub leads_same : (digest : List ℕ → List ℕ) (shelves : ShelvesSeen) (sc : Script) (inputs : ℕ) (order seen : Order) (consumer : Desc1)
    → Leads digest shelves sc inputs seen consumer → out_view order ≡ out_view seen → Leads digest shelves sc inputs order consumer
leads_same digest shelves sc inputs order seen consumer l e = record {
  board = l.board;
  safe = l.safe;
  out = subst (λ v. In v l.board.orders) (sym e) l.out;
  follower = subst (λ t. FollowerOf l.board t (Some consumer)) (ap (λ v. v.task) (sym e)) l.follower;
}
