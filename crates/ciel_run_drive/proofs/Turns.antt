-- What a history says between two turns is kept by a loss and by a start.
use Rattle.std.proofs.Common.{◌≡◌, ℕ, suc, ◌+◌, ◌*◌, ◌/◌, ◌%◌, ◌^◌, ◌<◌, List, [], ◌∷◌, ◌++◌, length, Bool, Option, Some}
use Rattle.std.proofs.Common.{ap, sym, ◌∙◌, subst, arith, slice_get, slice_index_or, slice_set}
use Rattle.sky_base.specs.JobView.{job_view}
use Rattle.sky_base.specs.KitView.{Gives}
use Rattle.sky_base.specs.See as s
use Rattle.sky_base.specs.declared.object.TaskId.{TaskId}
use Rattle.ciel_master_board.specs.Board.{Board, board_graph, idle_of}
use Rattle.ciel_master_board.specs.Driving.{Picked, Quiet}
use Rattle.ciel_master_board.specs.Moves.{lost_at, order_for, started}
use Rattle.ciel_master_board.specs.Setting.{IsSetting, Setting}
use Rattle.ciel_master_law.specs.Ends.{worker_of}
use Rattle.ciel_master_law.proofs.ShopLaws.{shop_is}
use Rattle.ciel_journal.specs.Graph.{Runnable}
use Rattle.ciel_journal.specs.Turns.{FirstDue, state_after}
use Rattle.ciel_journal.proofs.Picked.{picks_unique}
use Rattle.ciel_master.specs.Orders.{ready_of}
use Rattle.ciel_master.specs.Seen.{MasterSeen}
use Rattle.ciel_master.specs.declared.stop.RunEnd.{RunEnd}
use Rattle.ciel_want_ready.specs.Seen.{CanRunAt, CanRunMany}
use Rattle.ciel_want.specs.Waited.{tasks_in_order}
use Rattle.ciel_task_order.specs.Performs.{the_shop}
use Rattle.ciel_task_order.specs.Shop as shop
use Rattle.ciel_task_order.specs.Views.{P, order_view}
use Rattle.ciel_task_order.specs.declared.order.Order.{Order}
use Rattle.ciel_task_order.specs.declared.shop.Shop.{Shop}
use Rattle.ciel_master_board.specs.Handed.{OneEventMore, OrdersOf}
use Rattle.ciel_master_board.proofs.TurnEvents.{loss_turns, start_turns}
use Rattle.ciel_run_drive.specs.Ended.{Ended}
use Rattle.ciel_run_drive.specs.Kept.{Kept, slots_of}
use Rattle.ciel_run_drive.specs.Working.{Working}
use Rattle.ciel_run_drive.proofs.Slots.{got_index, slots_sent}

module _ (b : Board P) {state : ℕ} (drawn : state ≡ state_after b.plan.seed (2 * b.starts)) where
  -- ---- draws

  module _ {first : ℕ} (one : first ≡ (state * 6364136223846793005 + 1442695040888963407) % 2 ^ 64) where
    first_is : first ≡ state_after b.plan.seed (suc (2 * b.starts))
    first_is = one ∙ ap (λ z. (z * 6364136223846793005 + 1442695040888963407) % 2 ^ 64) drawn

    module _ {second : ℕ} (two : second ≡ (first * 6364136223846793005 + 1442695040888963407) % 2 ^ 64) where
      second_is : second ≡ state_after b.plan.seed (suc (2 * b.starts + 1))
      second_is =
          let e : suc (2 * b.starts) ≡ 2 * b.starts + 1 = omega arith in
          two ∙ (ap (λ z. (z * 6364136223846793005 + 1442695040888963407) % 2 ^ 64) first_is ∙ ap (λ n. state_after b.plan.seed (suc n)) e)

      pub draws_after : second ≡ state_after b.plan.seed (2 * (b.starts + 1))
      draws_after =
          let e : suc (2 * b.starts + 1) ≡ 2 * (b.starts + 1) = omega arith in
          second_is ∙ ap (state_after b.plan.seed) e

      -- what the draws pick: the task at the first place of those that can run, and the worker at the second of those that are idle
      pub picked : {n : ℕ} → CanRunMany (ready_of b) n → {idle : List ℕ} {i j : ℕ} {x : TaskId} → Quiet b → CanRunAt (ready_of b) i x → idle
          ≡ idle_of b → i ≡ (first / 2 ^ 33) % n → j ≡ (second / 2 ^ 33) % length idle → j < length idle → Picked b x (slice_index_or idle j 0)
      picked {n} many {idle} {i} {j} {x} quiet at is_idle is_i is_j also =
          let same : at.0 ≡ many.0 = picks_unique (Runnable (board_graph b)) (tasks_in_order b.table) at.0 many.0 at.1 many.1 in
          let long : n ≡ length at.0 = sym many.2 ∙ ap length (sym same) in
          record {
            quiet = quiet;
            tasks = at.0;
            runnable = at.1;
            task = subst (λ d. slice_get at.0 (d / 2 ^ 33 % length at.0) ≡ Some x) first_is
                (subst (λ k. slice_get at.0 k ≡ Some x) (is_i ∙ ap (λ l. first / 2 ^ 33 % l) long) at.2);
            worker = subst (λ d. slice_get (idle_of b) (d / 2 ^ 33 % length (idle_of b)) ≡ Some (slice_index_or idle j 0)) second_is
                (subst (λ ws. slice_get ws (second / 2 ^ 33 % length ws) ≡ Some (slice_index_or idle j 0)) is_idle
                (subst (λ n. slice_get idle n ≡ Some (slice_index_or idle j 0)) is_j (got_index idle j 0 also)));
          }

module _ {K N : Type 0} {gives : K → Gives} {digest : N → List ℕ → List ℕ} {shop_ : Shop K N} {sound : Bool} {m : MasterSeen N}
    {out : List (Option Order)} {state : ℕ} (at : Working gives digest shop_ sound m out) (k : Kept gives digest shop_ sound m out state) where
  abbrev D : List ℕ → List ℕ
  D = digest shop_.namer

  abbrev J : s.Job
  J = job_view shop_.job

  abbrev G : Gives
  G = gives shop_.kit

  abbrev S : Setting s.Desc P shop.Block
  S = the_shop D J G

  abbrev is : IsSetting S
  is = shop_is D J G k.orderly

  -- ---- a loss

  module _ {loss w : ℕ} (due : FirstDue m.board.plan.losses m.board.closes m.board.table.gone loss w) {c : MasterSeen N}
      (new : c ≡ record m { board = lost_at worker_of w m.board }) where
    more : OneEventMore S k.history (lost_at worker_of w m.board) (slots_of out)
    more =
        loss_turns S is k.history m.board at.work.going at.work.safe.sound k.runs (slots_of out) k.orders loss w due

    pub lost_kept : Kept gives digest shop_ sound c out state
    lost_kept =
        subst (λ z. Kept gives digest shop_ sound z out state) (sym new)
        (record { orderly = k.orderly; bare = k.bare; history = k.history ++ more.event ∷ []; runs = more.runs; orders = more.orders; draws = k.draws })

  -- ---- a start

  module _ {x : TaskId} {w : ℕ} (p : Picked m.board x w) {c : MasterSeen N} (new : c ≡ record m { board = started worker_of m.board x w }) where
    begun : OneEventMore S k.history (started worker_of m.board x w) (slice_set (slots_of out) w (Some (order_for worker_of m.board x w)))
    begun =
        (start_turns S is k.history m.board at.work.going at.work.safe.sound k.runs (slots_of out) at.work.handed k.orders x w p).more

    -- the journal is driven where the order isn't sent
    pub start_ends : Ended gives digest shop_ m.board.plan c.board.journal RunEnd.Memory
    start_ends =
        subst (λ (z : MasterSeen N). Ended gives digest shop_ m.board.plan z.board.journal RunEnd.Memory) (sym new)
        (record { driven = (k.history ++ begun.event ∷ [], begun.runs.driven, sym begun.runs.follows.journal); cause = tt })

    pub start_kept : (order : Order) → order_view order ≡ order_for worker_of m.board x w → {then : List (Option Order)} → then
        ≡ slice_set out order.worker (Some order) → {again : Shop K N} → again ≡ shop_ → {still : Bool} {last : ℕ} → last
        ≡ state_after m.board.plan.seed (2 * (m.board.starts + 1)) → Kept gives digest again still c then last
    start_kept order view {then} sent {again} same {still} {last} is_last =
        subst (λ a. Kept gives digest a still c then last) (sym same) (subst (λ z. Kept gives digest shop_ still z then last) (sym new) (record {
          orderly = k.orderly;
          bare = k.bare;
          history = k.history ++ begun.event ∷ [];
          runs = begun.runs;
          orders = subst (OrdersOf S (k.history ++ begun.event ∷ []))
              (sym (slots_sent out order w (order_for worker_of m.board x w) (ap (λ z. z.out.worker) view) view sent)) begun.orders;
          draws = is_last;
        }))
