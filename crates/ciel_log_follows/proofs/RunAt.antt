-- A run with a history, where a master's state and the orders that are out come from: what a loss and a Start make of it.
use Rattle.std.proofs.Common.{◌≡◌, ℕ, ◌≤◌, nat_eq, not, filter, List, [], ◌∷◌, ◌++◌, map, Bool, true, false, cond, Option, Some, None}
use Rattle.std.proofs.Common.{refl, ap, sym, ◌∙◌, subst, slice_set}
use Rattle.std.proofs.lemmas.List.{append_cancel_left}
use Rattle.std.specs.List.{list_any}
use Rattle.sky_base.specs.JobView.{job_view}
use Rattle.sky_base.specs.KitView.{Gives}
use Rattle.sky_base.specs.See as s
use Rattle.sky_base.specs.declared.object.TaskId.{TaskId}
use Rattle.ciel_journal.specs.Entries.{Entry, journal_of, low}
use Rattle.ciel_journal.specs.Graph.{Runnable}
use Rattle.ciel_journal.specs.History.{Event, OpenStart, Plan, Standing, after, before_all, done, find_open, lost, missed, saved, standing, start}
use Rattle.ciel_journal.specs.Job.{Digest, In, Job, Task}
use Rattle.ciel_journal.specs.Lawful.{LawfulFrom, Step}
use Rattle.ciel_journal.specs.Turns.{Driven, DrivenFrom, FirstDue, Turn}
use Rattle.ciel_journal.proofs.Append.{after_append, driven_split, journal_last}
use Rattle.ciel_log_replay.specs.Between.{AllOut}
use Rattle.ciel_log_replay.specs.Next.{IsClose}
use Rattle.ciel_log_replay.specs.Steps.{HasStarted, IsNextStart, while_out}
use Rattle.ciel_log_replay.proofs.Alone.{alone}
use Rattle.ciel_log_replay.proofs.Listed.{left_out, left_working, more_out, while_at}
use Rattle.ciel_log_replay.proofs.LostLemmas.{one_same}
use Rattle.ciel_master.specs.Seen.{MasterSeen}
use Rattle.ciel_master_board.specs.Board as board
use Rattle.ciel_master_board.specs.Board.{Board, board_graph, idle_of, task_key, wait_number}
use Rattle.ciel_master_board.specs.Driving.{Quiet, Runs}
use Rattle.ciel_master_board.specs.Handed.{OneEventMore, OrdersOf}
use Rattle.ciel_master_board.specs.Left.{Has}
use Rattle.ciel_master_board.specs.Moves.{lost_at, order_for, started}
use Rattle.ciel_master_board.specs.Setting.{IsSetting, Setting}
use Rattle.ciel_master_board.proofs.StartChoices.{picked_can_start}
use Rattle.ciel_master_board.proofs.TurnEvents.{loss_turns, start_turns}
use Rattle.ciel_master_law.specs.Ends.{IsOrderly, worker_of}
use Rattle.ciel_master_law.proofs.ShopLaws.{shop_is}
use Rattle.ciel_master_safe.specs.Laws.{GoesStay, RowsStay, SafeOrders}
use Rattle.ciel_master_safe.specs.Turns as safe
use Rattle.ciel_master_safe.proofs.BoardGrowth.{accepted_rows, goes_accepted, goes_lost, lost_rows, order_grows}
use Rattle.ciel_master_safe.proofs.SoundOrders.{sent_good}
use Rattle.ciel_master_safe.proofs.TurnsLemmas as turned
use Rattle.ciel_run_drive.specs.Kept.{slots_of}
use Rattle.ciel_run_drive.specs.Working.{Working}
use Rattle.ciel_run_drive.proofs.Names as names
use Rattle.ciel_run_drive.proofs.Slots.{at_slots, slots_at, slots_sent}
use Rattle.ciel_table.specs.Seen.{last_wait}
use Rattle.ciel_task_order.specs.Performs.{the_shop}
use Rattle.ciel_task_order.specs.Shop.{Block}
use Rattle.ciel_task_order.specs.Views.{P}
use Rattle.ciel_task_order.specs.declared.order.Order.{Order}
use Rattle.ciel_task_order.specs.declared.shop.Shop.{Shop}

-- ---- laws of states, as their crate proves them

pub rows_stay : RowsStay
rows_stay =
    record {
      accepted = λ digest b x spawned end n k. accepted_rows digest b x spawned end n k;
      lost = λ b w n k. lost_rows b w n k;
      order = λ digest t u order k h. order_grows digest t u order k h;
    }

pub goes_stay : GoesStay
goes_stay = record { accepted = goes_accepted; lost = goes_lost }

lose : safe.LossTurns
lose digest shelves sc inputs b slots a loss w due = turned.loss_turns digest shelves sc inputs b slots a loss w due

begin : safe.StartTurns
begin digest shelves sc inputs b slots a task w run idle = turned.start_turns digest shelves sc inputs b slots a task w run idle

good : SafeOrders
good digest shelves sc inputs b s task w run idle order e = sent_good digest shelves sc inputs b s task w run idle order e

-- ---- histories

module _ {D : Type 0} (job : Job D) where
  pub driven_lawful : (p : Plan) (v : Standing D) (h : List (Event D)) → DrivenFrom job p v h → LawfulFrom job p v h
  driven_lawful p v [] d = tt
  driven_lawful p v (e ∷ es) d = (d.0, driven_lawful p (after job v e) es d.2)

  -- only a loss has this entry
  is_lost : (e : Event D) (w n : ℕ) → low job e ≡ Entry.Lost w n → e ≡ lost w n
  is_lost (start k u t from) w n e = cc
  is_lost (done k made copied spawned) w n e = cc
  is_lost (saved k j mark refs holds spawned) w n e = cc
  is_lost (missed k d loss) w n e = cc
  is_lost (lost u c) w n e =
      let a : u ≡ w = cc in
      let b : c ≡ n = cc in ap (λ z. lost z c) a ∙ ap (lost w) b

  -- a Start changes nothing of the book
  start_book : (v : Standing D) (e : Event D) (k w from : ℕ) (u : Task Digest) → low job e ≡ Entry.Start k w u from → (after job v e).book ≡ v.book
  start_book v (start i u t wait) k w from z e = refl
  start_book v (done i made copied spawned) k w from z e = cc
  start_book v (saved i j mark refs holds spawned) k w from z e = cc
  start_book v (missed i d loss) k w from z e = cc
  start_book v (lost u c) k w from z e = cc

  -- what isn't open isn't once some are taken out
  free_filtered : (f : OpenStart D → Bool) (k : ℕ) (os : List (OpenStart D)) → find_open job k os ≡ None → find_open job k (filter f os) ≡ None
  free_filtered f k [] e = refl
  free_filtered f k (o ∷ os) e = pick (nat_eq k o.number) refl e (free_filtered f k os)
    where
      kept : (c : Bool) → nat_eq k o.number ≡ false → find_open job k (filter f os) ≡ None
          → find_open job k (cond c (o ∷ filter f os) (filter f os)) ≡ None
      kept true n r = ap (λ z. cond z (Some o) (find_open job k (filter f os))) n ∙ r
      kept false n r = r

      pick : (c : Bool) → nat_eq k o.number ≡ c → cond c (Some o) (find_open job k os) ≡ None
          → (find_open job k os ≡ None → find_open job k (filter f os) ≡ None) → find_open job k (filter f (o ∷ os)) ≡ None
      pick true n q r = let bad : Some o ≡ None = q in cc
      pick false n q r = kept (f o) n (r q)

  -- nor is it after a loss
  pub lost_stays_free : (h : List (Event D)) (w closes k : ℕ) → find_open job k (standing job h).orders ≡ None
      → find_open job k (standing job (h ++ lost w closes ∷ [])).orders ≡ None
  lost_stays_free h w closes k e =
      subst (λ (v : Standing D). find_open job k v.orders ≡ None) (sym (after_append job (before_all job) h (lost w closes)))
      (free_filtered (λ (o : OpenStart D). not (nat_eq w o.worker)) k (standing job h).orders e)

module _ {K N : Type 0} (gives : K → Gives) (digest : N → List ℕ → List ℕ) (shop_ : Shop K N) (m : MasterSeen N) where
  abbrev pub D : List ℕ → List ℕ
  D = digest shop_.namer

  abbrev pub J : s.Job
  J = job_view shop_.job

  abbrev pub G : Gives
  G = gives shop_.kit

  abbrev pub S : Setting s.Desc P Block
  S = the_shop D J G

  -- the master with this state
  abbrev pub with_board : Board P → MasterSeen N
  with_board b = record m { board = b }

  -- a run with this history came to this state, with these orders out, which the master is at work with
  pub record RunAt (h : List (Event s.Desc)) (b : Board P) (out : List (Option Order)) : Type 0 where
    pub working : Working gives digest shop_ true (with_board b) out
    pub runs : Runs S h b
    pub orders : OrdersOf S h (slots_of out)

  module _ (orderly : IsOrderly D J G) where
    pub is : IsSetting S
    is = shop_is D J G orderly

    -- ---- the event that comes next

    -- it is told by the entry that is written
    pub low_last : (h : List (Event s.Desc)) (b c : Board P) (e : Event s.Desc) (x : Entry) → Runs S h b → Runs S (h ++ e ∷ []) c
        → c.journal ≡ b.journal ++ x ∷ [] → low S.job e ≡ x
    low_last h b c e x r q j =
        let both : journal_of S.job h ++ low S.job e ∷ [] ≡ journal_of S.job h ++ x ∷ [] =
        sym (journal_last S.job h e) ∙ (sym q.follows.journal ∙ (j ∙ ap (λ z. z ++ x ∷ []) r.follows.journal)) in
        one_same (low S.job e) x (append_cancel_left (journal_of S.job h) (low S.job e ∷ []) (x ∷ []) both)

    -- where it is a loss or a Start no other one comes
    pub only_next : (h : List (Event s.Desc)) (b c : Board P) (e : Event s.Desc) → Runs S (h ++ e ∷ []) c → c.plan ≡ b.plan
        → (IsClose (low S.job e) → ⊥) → (x : Event s.Desc) → Step S.job b.plan (standing S.job h) x → Turn S.job b.plan (standing S.job h) x
        → x ≡ e
    only_next h b c e q plan none x step turn =
        let now = (driven_split S.job b.plan (before_all S.job) h (e ∷ [])
        (subst (λ p. Driven S.job p (h ++ e ∷ [])) plan q.driven)).1 in
        sym (alone S.job is.laws b.plan (standing S.job h) e x none now.0 now.1 step turn)

    -- where none is due no loss comes
    pub none_due : (h : List (Event s.Desc)) (b : Board P) → Runs S h b → Quiet b → (w closes : ℕ)
        → Turn S.job b.plan (standing S.job h) (lost w closes) → ⊥
    none_due h b r q w closes t =
        q t.0 t.1.count w (record {
          planned = t.1.due.planned;
          reached = subst (λ n. t.1.count ≤ n) (sym r.follows.stands.closes) t.1.due.reached;
          here = subst (λ gs. list_any (nat_eq w) gs ≡ false) (sym r.follows.stands.gone) t.1.due.here;
        })

    -- ---- a loss

    -- it is carried out, and it alone could come
    pub record Lost (h : List (Event s.Desc)) (b : Board P) (out : List (Option Order)) (w : ℕ) : Type 0 where
      pub run : RunAt (h ++ lost w b.closes ∷ []) (lost_at worker_of w b) out
      pub only : (x : Event s.Desc) → Step S.job b.plan (standing S.job h) x → Turn S.job b.plan (standing S.job h) x → x ≡ lost w b.closes

    pub lose_one : (h : List (Event s.Desc)) (b : Board P) (out : List (Option Order)) (loss w : ℕ)
        → FirstDue b.plan.losses b.closes b.table.gone loss w → RunAt h b out → Lost h b out w
    lose_one h b out loss w due r =
        record {
          run = record {
            working = names.lost_kept r.working due {c = with_board (lost_at worker_of w b)} refl lose rows_stay goes_stay;
            runs = subst (λ e. Runs S (h ++ e ∷ []) (lost_at worker_of w b)) event more.runs;
            orders = subst (λ e. OrdersOf S (h ++ e ∷ []) (slots_of out)) event more.orders;
          };
          only = λ x step turn. only_next h b (lost_at worker_of w b) more.event more.runs refl
              (λ i. subst IsClose entry i) x step turn ∙ event;
        }
      where
        more : OneEventMore S h (lost_at worker_of w b) (slots_of out)
        more =
            loss_turns S is h b r.working.work.going r.working.work.safe.sound r.runs (slots_of out) r.orders loss w due

        entry : low S.job more.event ≡ Entry.Lost w b.closes
        entry = low_last h b (lost_at worker_of w b) more.event (Entry.Lost w b.closes) r.runs more.runs refl

        event : more.event ≡ lost w b.closes
        event = is_lost S.job more.event w b.closes entry

    -- what is out no longer goes
    back : (b : Board P) (out : List (Option Order)) (w : ℕ) (x : board.Order P) → Has (slots_of (map (while_out b) out)) w x → Has (slots_of out) w x
    back b out w x i =
        let o = at_slots (map (while_out b) out) w x i in
        subst (Has (slots_of out) w) o.2 (slots_at out w o.0 (while_at b out w o.0 o.1).0)

    pub sweep : (h : List (Event s.Desc)) (b : Board P) (out : List (Option Order)) → RunAt h b out → RunAt h b (map (while_out b) out)
    sweep h b out r =
        record {
          working = left_working r.working;
          runs = r.runs;
          orders = λ w x o i. r.orders w x o (back b out w x i);
        }

    pub all_out : (h : List (Event s.Desc)) (b : Board P) (out : List (Option Order)) → RunAt h b out → AllOut b (map (while_out b) out)
    all_out h b out r = left_out b out r.working.work.handed

    -- ---- a Start

    -- it is made, and it alone could come
    pub record Started (h : List (Event s.Desc)) (b c : Board P) (then : List (Option Order)) : Type 0 where
      pub event : Event s.Desc
      pub run : RunAt (h ++ event ∷ []) c then
      pub out : AllOut c then
      pub book : (d : s.Desc) → In d (standing S.job h).book → In d (standing S.job (h ++ event ∷ [])).book
      pub only : (x : Event s.Desc) → Step S.job b.plan (standing S.job h) x → Turn S.job b.plan (standing S.job h) x → x ≡ event

    pub start_one : (h : List (Event s.Desc)) (b c : Board P) (out then : List (Option Order)) (number worker from : ℕ) (task : TaskId)
        → IsNextStart b number worker from task → HasStarted b c out then task worker → AllOut b out → RunAt h b out → Started h b c then
    start_one h b c out then number worker from task next made all r =
        subst (λ z. Started h b z then) (sym made.board) (record {
          event = more.event;
          run = record {
            working = names.start_kept r.working can.0 can.1 made.order made.view begin {c = with_board (started worker_of b task worker)} refl sent good
                refl refl;
            runs = more.runs;
            orders = subst (OrdersOf S (h ++ more.event ∷ []))
                (sym (slots_sent out made.order worker (order_for worker_of b task worker) own made.view sent)) more.orders;
          };
          out = more_out D b r.working.work.safe.sound out all task worker made.order made.view then sent;
          book = λ d i. subst (λ (u : Standing s.Desc). In d u.book) (sym (after_append S.job (before_all S.job) h more.event))
              (subst (In d) (sym (start_book S.job (standing S.job h) more.event b.starts worker (wait_number (last_wait task b.table)) (task_key task)
              entry)) i);
          only = λ x step turn. only_next h b (started worker_of b task worker) more.event more.runs refl (λ i. subst IsClose entry i) x step turn;
        })
      where
        can : Runnable (board_graph b) task × In worker (idle_of b)
        can = picked_can_start b task worker next.picked

        own : made.order.worker ≡ worker
        own = ap (λ (z : board.Order P). z.out.worker) made.view

        sent : then ≡ slice_set out made.order.worker (Some made.order)
        sent = made.listed ∙ ap (λ n. slice_set out n (Some made.order)) (sym own)

        more : OneEventMore S h (started worker_of b task worker) (slice_set (slots_of out) worker (Some (order_for worker_of b task worker)))
        more =
            (start_turns S is h b r.working.work.going r.working.work.safe.sound r.runs (slots_of out) r.working.work.handed r.orders task worker
            next.picked).more

        entry : low S.job more.event ≡ Entry.Start b.starts worker (task_key task) (wait_number (last_wait task b.table))
        entry =
            low_last h b (started worker_of b task worker) more.event
            (Entry.Start b.starts worker (task_key task) (wait_number (last_wait task b.table))) r.runs more.runs refl
