-- What one record keeps: orders at their own workers, each of which can be performed.
use Rattle.std.proofs.Common.{◌≡◌, ◌*◌, ℕ, List, [], ◌∷◌, length, map, true, Option, Some, ◌⊎◌, inl, inr, ap, sym, ◌∙◌, subst}
use Rattle.sky_base.specs.JobView.{job_view}
use Rattle.sky_base.specs.KitView.{Gives}
use Rattle.sky_base.specs.declared.object.TaskId.{TaskId}
use Rattle.ciel_log_file.specs.Sending.{AllTake, Placed, nobody}
use Rattle.ciel_log_file.proofs.Lists.{less_placed}
use Rattle.ciel_log_report.proofs.Found.{set_none}
use Rattle.ciel_log_file.proofs.Places.{nobody_at}
use Rattle.ciel_log_replay.specs.Between.{Between}
use Rattle.ciel_log_replay.specs.Steps.{HasStarted, IsNextStart, while_out}
use Rattle.ciel_log_replay.proofs.Listed.{while_at}
use Rattle.ciel_log_report.specs.Comes.{IsLess}
use Rattle.ciel_master.specs.Seen.{MasterSeen}
use Rattle.ciel_master_board.specs.Board as board
use Rattle.ciel_master_board.specs.Board.{Board, board_graph, idle_of}
use Rattle.ciel_journal.specs.Graph.{Runnable}
use Rattle.ciel_journal.specs.Job.{Each, In}
use Rattle.ciel_journal.specs.Turns.{state_after}
use Rattle.ciel_master_board.proofs.StartChoices.{picked_can_start}
use Rattle.ciel_master_safe.specs.Laws.{SafeOrders}
use Rattle.ciel_run_drive.specs.Working.{Working}
use Rattle.ciel_run_drive.proofs.Slots.{set_at, slots_at}
use Rattle.ciel_task_crew.specs.Crews.{Takes, order_at}
use Rattle.ciel_task_order.specs.Views.{P, order_view}
use Rattle.ciel_task_order.specs.declared.order.Order.{Order}
use Rattle.ciel_task_order.specs.declared.shop.Shop.{Shop}

pub placed_less : (out then : List (Option Order)) → Placed out → IsLess out then → Placed then
placed_less out then p (inl e) = subst Placed (sym e) p
placed_less out then p (inr q) = subst Placed (sym q.1) (less_placed out q.0 p)

module _ {K N : Type 0} {gives : K → Gives} {digest : N → List ℕ → List ℕ} {shop_ : Shop K N} where
  pub placed_of : {m : MasterSeen N} {out : List (Option Order)} {state : ℕ} → Between gives digest shop_ m out state → Placed out
  placed_of {m} {out} k =
      record {
        own = λ w x e. k.working.work.handed.own w (order_view x) (slots_at out w x e);
        apart = λ w u x y e f q.
            k.working.work.handed.apart w u (order_view x) (order_view y) (slots_at out w x e) (slots_at out u y f) q;
      }

module _ {K N : Type 0} (gives : K → Gives) (digest : N → List ℕ → List ℕ) (shop_ : Shop K N) where
  pub takes_lost : (c : Board P) (out then : List (Option Order)) → then ≡ map (while_out c) out → AllTake gives digest shop_ out → AllTake gives digest shop_ then
  takes_lost c out then same h w x e =
      h w x (while_at c out w x (subst (λ z. order_at z w ≡ Some x) same e)).0

  pub takes_less : (out then : List (Option Order)) → AllTake gives digest shop_ out → IsLess out then → AllTake gives digest shop_ then
  takes_less out then h (inl e) = subst (AllTake gives digest shop_) (sym e) h
  takes_less out then h (inr q) = subst (AllTake gives digest shop_) (sym q.1) (λ u x e. h u x (set_none out q.0 u x e).1)

  pub takes_started : {m : MasterSeen N} {out : List (Option Order)} {state : ℕ} → Between gives digest shop_ m out state → SafeOrders
      → (number worker from : ℕ) (task : TaskId) → IsNextStart m.board number worker from task → (c : Board P) (then : List (Option Order))
      → HasStarted m.board c out then task worker → AllTake gives digest shop_ out → AllTake gives digest shop_ then
  takes_started {m} {out} k law number worker from task next c then started h u x e =
      pick (set_at out worker u (Some started.order) x (subst (λ z. order_at z u ≡ Some x) started.listed e))
    where
      can : Runnable (board_graph m.board) task × In worker (idle_of m.board)
      can = picked_can_start m.board task worker next.picked

      new : Takes gives digest shop_ started.order
      new =
          (law (digest shop_.namer) shop_.shelves (job_view shop_.job).script (length (job_view shop_.job).inputs) m.board k.working.work.safe
          task worker can.0 can.1 started.order started.view).sound

      pick : ((u ≡ worker) × (Some started.order ≡ Some x)) ⊎ (order_at out u ≡ Some x) → Takes gives digest shop_ x
      pick (inl q) = let same : started.order ≡ x = cc in subst (Takes gives digest shop_) same new
      pick (inr q) = h u x q

  pub takes_nobody : (n : ℕ) → AllTake gives digest shop_ (nobody n)
  takes_nobody n w x e = absurd (nobody_at n w x e)

  pub each_takes : (out : List (Option Order)) (xs : List Order) → AllTake gives digest shop_ out → Each (λ (x : Order). order_at out x.worker ≡ Some x) xs
      → Each (Takes gives digest shop_) xs
  each_takes out [] h e = tt
  each_takes out (x ∷ xs) h e = (h x.worker x e.0, each_takes out xs h e.1)

  -- where nothing was started
  pub first_between : (m : MasterSeen N) (out : List (Option Order)) (draws : ℕ) → Working gives digest shop_ true m (nobody m.board.plan.workers)
      → m.board.starts ≡ 0 → out ≡ nobody m.board.plan.workers → draws ≡ m.board.plan.seed → Between gives digest shop_ m out draws
  first_between m out draws k none same seed =
      subst (λ z. Between gives digest shop_ m z draws) (sym same) (record {
        working = k;
        all_out = λ w x e. absurd (nobody_at m.board.plan.workers w x e);
        draws = seed ∙ ap (λ n. state_after m.board.plan.seed (2 * n)) (sym none);
      })
