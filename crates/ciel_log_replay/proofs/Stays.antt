-- What holds between two records is kept by losses and by a Start, and what comes next where a history is followed.
use Rattle.std.proofs.Common.{◌≡◌, ℕ, ◌+◌, ◌*◌, ◌<◌, List, [], ◌∷◌, ◌++◌, length, map, true, Option, Some, refl, ap, sym, ◌∙◌, subst, slice_set}
use Rattle.std.proofs.lemmas.List.{append_cancel_left}
use Rattle.sky_base.specs.JobView.{job_view}
use Rattle.sky_base.specs.KitView.{Gives}
use Rattle.sky_base.specs.See as s
use Rattle.sky_base.specs.declared.object.TaskId.{TaskId}
use Rattle.ciel_journal.specs.Entries.{Entry}
use Rattle.ciel_journal.specs.Turns.{FirstDue, state_after}
use Rattle.ciel_log_replay.specs.Between.{AllOut, Between, job_of}
use Rattle.ciel_log_replay.specs.Next.{CanBeNext, IsClose, OnlyNext}
use Rattle.ciel_log_replay.specs.Steps.{HasStarted, IsNextStart, LostBy, while_out}
use Rattle.ciel_log_replay.proofs.Choices.{picked_one}
use Rattle.ciel_log_replay.proofs.Listed.{left_out, left_working, more_out}
use Rattle.ciel_log_replay.proofs.LostLemmas.{left_by, one_same, same_key, same_start}
use Rattle.ciel_log_replay.proofs.Nexts as nexts
use Rattle.ciel_master.specs.Seen.{MasterSeen}
use Rattle.ciel_master_board.specs.Board as board
use Rattle.ciel_master_board.specs.Board.{Board, OrderOut, idle_of, task_key, wait_number}
use Rattle.ciel_master_board.specs.Driving.{CanRun, Picked, RestsNow}
use Rattle.ciel_master_board.specs.Moves.{lost_at, order_for, started}
use Rattle.ciel_master_board.specs.Setting.{IsSetting, Setting}
use Rattle.ciel_master_board.proofs.StartChoices.{picked_can_start}
use Rattle.ciel_master_law.specs.Ends.{worker_of}
use Rattle.ciel_master_law.proofs.ShopLaws.{shop_is}
use Rattle.ciel_master_safe.specs.Laws.{SafeOrders}
use Rattle.ciel_master_safe.specs.Turns as safe
use Rattle.ciel_run_drive.specs.Kept.{Kept}
use Rattle.ciel_run_drive.specs.Working.{Working}
use Rattle.ciel_run_drive.proofs.Names as names
use Rattle.ciel_run_drive.proofs.Turns as turns
use Rattle.ciel_table.specs.Seen.{last_wait}
use Rattle.ciel_task_order.specs.Performs.{the_shop}
use Rattle.ciel_task_order.specs.Shop.{Block}
use Rattle.ciel_task_order.specs.Views.{P, order_view, out_view}
use Rattle.ciel_task_order.specs.declared.order.Order.{Order}
use Rattle.ciel_task_order.specs.declared.shop.Shop.{Shop}

-- ---- what comes next, where a history is followed

module _ {K N : Type 0} {gives : K → Gives} {digest : N → List ℕ → List ℕ} {shop_ : Shop K N} {m : MasterSeen N} {out : List (Option Order)}
    {state : ℕ} (at : Working gives digest shop_ true m out) (k : Kept gives digest shop_ true m out state) where
  abbrev b : Board P
  b = m.board

  abbrev S : Setting s.Desc P Block
  S = the_shop (digest shop_.namer) (job_view shop_.job) (gives shop_.kit)

  abbrev is : IsSetting S
  is = shop_is (digest shop_.namer) (job_view shop_.job) (gives shop_.kit) k.orderly

  abbrev Next : Entry → Type 0
  Next e = CanBeNext (job_of gives digest shop_) b.plan b.journal e

  abbrev Only : Entry → Type 0
  Only e = OnlyNext (job_of gives digest shop_) b.plan b.journal e

  -- the loss that was carried out
  pub loss_only : {loss w : ℕ} → FirstDue b.plan.losses b.closes b.table.gone loss w → {c : MasterSeen N} → c ≡ record m { board = lost_at worker_of w b }
      → (e : Entry) → c.board.journal ≡ b.journal ++ e ∷ [] → Only e
  loss_only {loss} {w} due {c} new e more =
      let both : b.journal ++ Entry.Lost w b.closes ∷ [] ≡ b.journal ++ e ∷ [] = sym (ap (λ (z : MasterSeen N). z.board.journal) new) ∙ more in
      let one : Entry.Lost w b.closes ∷ [] ≡ e ∷ [] = append_cancel_left b.journal (Entry.Lost w b.closes ∷ []) (e ∷ []) both in
      subst Only (one_same (Entry.Lost w b.closes) e one) (nexts.loss_only S is k.history b at.work.safe.sound k.runs at.work.going w loss due)

  -- the Start that the draws choose
  pub start_only : (number worker from : ℕ) (x : TaskId) → IsNextStart b number worker from x → Only (Entry.Start number worker (task_key x) from)
  start_only number worker from x n =
      let one : Entry.Start b.starts worker (task_key x) (wait_number (last_wait x b.table)) ≡ Entry.Start number worker (task_key x) from =
      ap (λ z. Entry.Start z worker (task_key x) (wait_number (last_wait x b.table))) (sym n.counted)
      ∙ ap (Entry.Start number worker (task_key x)) (sym n.waits) in
      subst Only one (nexts.start_only S is k.history b at.work.safe.sound k.runs at.work.going x worker n.picked)

  pub rests_closes : RestsNow b → (e : Entry) → Next e → IsClose e
  rests_closes r e n = nexts.rests_closes S is k.history b at.work.safe.sound k.runs r e n

  pub due_closes_none : (loss w : ℕ) → FirstDue b.plan.losses b.closes b.table.gone loss w → (e : Entry) → Next e → IsClose e → ⊥
  due_closes_none loss w due e n c = nexts.due_closes_none S is k.history b at.work.safe.sound k.runs loss w due e n c

  pub start_closes_none : (ts : List TaskId) → CanRun b ts → 0 < length ts → 0 < length (idle_of b) → (e : Entry) → Next e → IsClose e → ⊥
  start_closes_none ts can some idlers e n c =
      nexts.start_closes_none S is k.history b at.work.safe.sound k.runs ts can some idlers e n c

  -- another Start than the one that the draws choose
  pub start_none : (x : TaskId) (w number worker from : ℕ) (task : TaskId) → Picked b x w → Next (Entry.Start number worker (task_key task) from)
      → IsNextStart b number worker from task
  start_none x w number worker from task p n =
      let only = nexts.start_only S is k.history b at.work.safe.sound k.runs at.work.going x w p in
      let same : Entry.Start number worker (task_key task) from ≡ Entry.Start b.starts w (task_key x) (wait_number (last_wait x b.table)) =
      only (Entry.Start number worker (task_key task) from) n in
      let is_same = same_start number worker from b.starts w (wait_number (last_wait x b.table)) (task_key task) (task_key x) same in
      let tasks = same_key task x is_same.tasks in
      record {
        picked = subst (λ z. Picked b z worker) (sym tasks) (subst (Picked b x) (sym is_same.workers) p);
        counted = is_same.numbers;
        waits = is_same.waits ∙ ap (λ z. wait_number (last_wait z b.table)) (sym tasks);
      }

-- ---- what holds between two records

module _ {K N : Type 0} {gives : K → Gives} {digest : N → List ℕ → List ℕ} {shop_ : Shop K N} {m : MasterSeen N} {out : List (Option Order)}
    {state : ℕ} (k : Between gives digest shop_ m out state) where
  pub losses_between : {c : MasterSeen N} (es : List Entry) → LostBy m.board es c.board → Working gives digest shop_ true c out → (then : List (Option Order))
      → then ≡ map (while_out c.board) out → Between gives digest shop_ c then state
  losses_between {c} es lost working then are =
      let l = left_by lost in
      subst (λ z. Between gives digest shop_ c z state) (sym are) (record {
        working = left_working working;
        all_out = left_out c.board out working.work.handed;
        draws = subst (λ n. state ≡ state_after c.board.plan.seed (2 * n)) (sym l.starts)
            (subst (λ p. state ≡ state_after p.seed (2 * m.board.starts)) (sym l.plan) k.draws);
      })

  module _ (order : Order) (p : Picked m.board order.task order.worker) (view : order_view order ≡ order_for worker_of m.board order.task order.worker)
      {c : MasterSeen N} (new : c ≡ record m { board = started worker_of m.board order.task order.worker }) where
    pub start_below : safe.StartTurns → order.worker < length out
    start_below laws =
        let can = picked_can_start m.board order.task order.worker p in
        names.send_worker k.working can.0 can.1 order view laws

    pub start_between : safe.StartTurns → SafeOrders → (then : List (Option Order)) → then ≡ slice_set out order.worker (Some order) → (next : ℕ) → next
        ≡ state_after m.board.plan.seed (2 * (m.board.starts + 1)) → Between gives digest shop_ c then next
    start_between laws orders then sent next drawn =
        let can = picked_can_start m.board order.task order.worker p in
        let same : c.board ≡ started worker_of m.board order.task order.worker = ap (λ (z : MasterSeen N). z.board) new in
        record {
          working = names.start_kept k.working can.0 can.1 order view laws new sent orders refl refl;
          all_out = subst (λ z. AllOut z then) (sym same)
              (more_out (digest shop_.namer) m.board k.working.work.safe.sound out k.all_out order.task order.worker order view then sent);
          draws = subst (λ (z : Board P). next ≡ state_after z.plan.seed (2 * z.starts)) (sym same) drawn;
        }

    pub start_kept : Kept gives digest shop_ true m out state → (then : List (Option Order)) → then ≡ slice_set out order.worker (Some order)
        → (next : ℕ) → next ≡ state_after m.board.plan.seed (2 * (m.board.starts + 1)) → Kept gives digest shop_ true c then next
    start_kept kept then sent next drawn = turns.start_kept k.working kept p new order view sent refl drawn

    -- it is the Start of these numbers and this task
    module _ (number worker from : ℕ) (task : TaskId) where
      pub is_next : out_view order ≡ record { number = number; worker = worker; task = task; from = from } → IsNextStart m.board number worker from task
      is_next same =
          let workers : order.worker ≡ worker = ap (λ (z : OrderOut). z.worker) same in
          let tasks : order.task ≡ task = ap (λ (z : OrderOut). z.task) same in
          let numbers : order.number ≡ m.board.starts = ap (λ (z : board.Order P). z.out.number) view in
          let waits : order.from ≡ wait_number (last_wait order.task m.board.table) = ap (λ (z : board.Order P). z.out.from) view in
          record {
            picked = subst (λ z. Picked m.board z worker) tasks (subst (Picked m.board order.task) workers p);
            counted = sym (ap (λ (z : OrderOut). z.number) same) ∙ numbers;
            waits = sym (ap (λ (z : OrderOut). z.from) same) ∙ (waits ∙ ap (λ z. wait_number (last_wait z m.board.table)) tasks);
          }

      pub next_is : IsNextStart m.board number worker from task → out_view order ≡ record { number = number; worker = worker; task = task; from = from }
      next_is n =
          let one = picked_one m.board order.task task order.worker worker p n.picked in
          ap (λ (z : board.Order P). z.out) view ∙ numbers n one.0 one.1
        where
          numbers : IsNextStart m.board number worker from task → order.task ≡ task → order.worker ≡ worker
              → (order_for worker_of m.board order.task order.worker).out ≡ record { number = number; worker = worker; task = task; from = from }
          numbers n tasks workers =
              ap (λ z. (order_for worker_of m.board z order.worker).out) tasks
              ∙ (ap (λ z. (order_for worker_of m.board task z).out) workers
              ∙ (ap (λ z. record { number = z; worker = worker; task = task; from = wait_number (last_wait task m.board.table) }) (sym n.counted)
              ∙ ap (λ z. record { number = number; worker = worker; task = task; from = z }) (sym n.waits)))

      pub has_started : (then : List (Option Order)) → then ≡ slice_set out order.worker (Some order)
          → out_view order ≡ record { number = number; worker = worker; task = task; from = from }
          → HasStarted m.board c.board out then task worker
      has_started then sent same =
          let workers : order.worker ≡ worker = ap (λ (z : OrderOut). z.worker) same in
          let tasks : order.task ≡ task = ap (λ (z : OrderOut). z.task) same in
          record {
            board = ap (λ (z : MasterSeen N). z.board) new ∙ (ap (λ z. started worker_of m.board z order.worker) tasks
                ∙ ap (started worker_of m.board task) workers);
            order = order;
            view = view ∙ (ap (λ z. order_for worker_of m.board z order.worker) tasks ∙ ap (order_for worker_of m.board task) workers);
            listed = sent ∙ ap (λ n. slice_set out n (Some order)) workers;
          }
