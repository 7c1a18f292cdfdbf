-- What holds between two turns, whatever was reported before, is kept by each turn.
use Rattle.std.proofs.Common.{◌≡◌, ℕ, ◌<◌, List, [], ◌∷◌, ◌++◌, length, map, Bool, true, false, Option, Some, None, is_some, ◌⊎◌, inl, inr}
use Rattle.std.proofs.Common.{refl, ap, sym, ◌∙◌, subst, arith, slice_get, slice_set, nat_eq}
use Rattle.std.specs.List.{list_any}
use Rattle.sky_base.specs.JobView.{job_view}
use Rattle.sky_base.specs.KitView.{Gives}
use Rattle.sky_base.specs.See as s
use Rattle.sky_base.specs.Tree.{Script}
use Rattle.sky_base.specs.declared.object.Named.{Named}
use Rattle.sky_base.specs.declared.object.TaskId.{TaskId}
use Rattle.sky_state.specs.declared.shown.Shown.{Shown}
use Rattle.ciel_master_board.specs.Board.{Board, OrderOut, board_graph, find_order, idle_of, shelf, spot_of, task_key, wait_number}
use Rattle.ciel_master_board.specs.Board as board
use Rattle.ciel_master_board.specs.Driving.{CanRun}
use Rattle.ciel_master_board.specs.Moves.{accepted, is_root, lost_at, order_for, started}
use Rattle.ciel_master_board.specs.Reports as rep
use Rattle.ciel_master_board.specs.Reports.{AllLearned}
use Rattle.ciel_master_board.specs.Sound.{MissingFits, own_name}
use Rattle.ciel_task_crew.specs.Crews.{Answers, FadesEach, IsOut as IsOutOf, Reports, Takes, TellsTask, order_at}
use Rattle.ciel_master_law.specs.Ends.{worker_of}
use Rattle.ciel_master_law.proofs.ShopLaws.{missed_fits}
use Rattle.ciel_journal.specs.Entries.{Entry}
use Rattle.ciel_journal.specs.Graph.{Runnable}
use Rattle.ciel_journal.specs.Job.{Digest, In}
use Rattle.ciel_journal.specs.Turns.{FirstDue}
use Rattle.ciel_journal.proofs.Near.{in_right}
use Rattle.ciel_master.specs.Fitting.{FitsOneOut, FitsOrder, IsMissedOf}
use Rattle.ciel_master.specs.Marked.{IsCarriedOut, SeenOf}
use Rattle.ciel_master.specs.Seen.{MasterSeen}
use Rattle.ciel_master.specs.Taking.{LearnedFor, entry_for, now_of}
use Rattle.ciel_master.specs.declared.stop.Now.{Now}
use Rattle.ciel_store.specs.Seen.{SeatSeen, ShelvesSeen}
use Rattle.ciel_store.specs.declared.loss.Loss.{Loss}
use Rattle.ciel_table.specs.Seen.{TableSeen, last_wait}
use Rattle.ciel_task_order.specs.Places as places
use Rattle.ciel_task_order.specs.Performs.{HasRows, IsMissing, Missed, OfTask}
use Rattle.ciel_task_order.specs.Views.{P, copies_view, how_view, order_view, out_view, output_view, report_end}
use Rattle.ciel_task_order.specs.declared.order.Order.{Order}
use Rattle.ciel_task_order.specs.declared.report.End.{End}
use Rattle.ciel_task_order.specs.declared.report.Report.{Report}
use Rattle.ciel_task_order.specs.declared.shop.Shop.{Shop}
use Rattle.ciel_master_board.specs.TurnsLaws as laws
use Rattle.ciel_master_board.specs.Left.{Has, work}
use Rattle.ciel_master_board.proofs.HandedLemmas.{had_out}
use Rattle.ciel_master_board.proofs.StartChoices.{none_can_run, some_is_idle}
use Rattle.ciel_task_crew.specs.Laws.{GoesStay, GrowsTo, RowsStay, SafeOrders}
use Rattle.ciel_task_crew.specs.Safe.{GoesBy}
use Rattle.std.specs.Option.{option_map}
use Rattle.sky_base.specs.declared.object.Desc1.{Desc1}
use Rattle.ciel_table.specs.declared.row.Row.{Row}
use Rattle.ciel_task_crew.specs.Reports.{FitsSafely}
use Rattle.ciel_task_crew.specs.Turns as names
use Rattle.ciel_task_crew.specs.Turns.{AtWork, Turned, most_waits}
use Rattle.ciel_task_crew.proofs.TurnsLemmas.{plan_same}
use Rattle.ciel_run_drive.specs.Kept.{left, slots_of}
use Rattle.ciel_run_drive.specs.Told.{ToldOn}
use Rattle.ciel_run_drive.specs.Working.{IsSentOf, Working}
use Rattle.ciel_run_drive.proofs.Slots.{at_slots, below_slots, free_at, set_at, slots_at, slots_sent, slots_set}
use Rattle.ciel_run_drive.proofs.ToldLemmas.{IsQuiet, none_fades, tells_quiet, tells_start}

-- ---- small things

same_order : (x y : OrderOut) → Some x ≡ Some y → x ≡ y
same_order x y e = cc

pub none_of : (o : Option OrderOut) {t : Bool} → t ≡ is_some o → t ≡ false → o ≡ None
none_of None e f = refl
none_of (Some y) e f = let bad : true ≡ false = sym e ∙ f in cc

pub some_of : (o : Option OrderOut) {t : Bool} → t ≡ is_some o → t ≡ true → (y : OrderOut) × (o ≡ Some y)
some_of None e f = let bad : false ≡ true = sym e ∙ f in cc
some_of (Some y) e f = (y, refl)

-- ---- what the end's eye has seen

seen_at : (shelves : ShelvesSeen) (w : ℕ) (sc : Script) (task : TaskId) (e : End) → places.EndAt shelves w sc task e → SeenOf shelves e
seen_at shelves w sc task (End.Made ms) k = tt
seen_at shelves w sc task (End.Saved p j refs holds mark) k = tt
seen_at shelves w sc task (End.Shown shown) k = tt
seen_at shelves w sc task (End.Missing name loss seen) k = k

learned_cases : (digest : List ℕ → List ℕ) (ns : List Named) (t : TableSeen P) (e : End) → LearnedFor digest e ns t → (IsMissing e → ⊥)
    → AllLearned digest ns t
learned_cases digest ns t (End.Made ms) l none = l
learned_cases digest ns t (End.Saved p j refs holds mark) l none = l
learned_cases digest ns t (End.Shown shown) l none = l
learned_cases digest ns t (End.Missing name loss seen) l none = absurd (none tt)

-- ---- what a report leaves as it was

main_same : (digest : List ℕ → List ℕ) (b : Board P) (x : OrderOut) (spawned : List Named) (e : rep.End P)
    → (accepted digest worker_of b x spawned e).main ≡ b.main
main_same digest b x spawned (rep.made ms cs) = refl
main_same digest b x spawned (rep.saved q) = refl
main_same digest b x spawned (rep.missing name loss) = refl

journal_next : (digest : List ℕ → List ℕ) (b : Board P) (x : OrderOut) (spawned : List Named) (e : rep.End P)
    → (accepted digest worker_of b x spawned e).journal ≡ b.journal ++ entry_for x.number e ∷ []
journal_next digest b x spawned (rep.made ms cs) = refl
journal_next digest b x spawned (rep.saved q) = refl
journal_next digest b x spawned (rep.missing name loss) = refl

quiet_for : (k : ℕ) (e : rep.End P) → IsQuiet (entry_for k e)
quiet_for k (rep.made ms cs) = tt
quiet_for k (rep.saved q) = tt
quiet_for k (rep.missing name loss) = tt

-- ---- what holds

goes_desc : (main : Digest) (t : TableSeen P) (task : TaskId) (d : Option Desc1) → GoesBy t task d → d ≡ board.task_desc main t task
goes_desc main t TaskId.Show None h = refl
goes_desc main t TaskId.Show (Some d) h = absurd h
goes_desc main t (TaskId.Of n) None h = absurd h
goes_desc main t (TaskId.Of n) (Some d) h = sym (ap (option_map (λ (r : Row P). r.desc)) h.1 ∙ ap (λ z. Some z) h.2)

module _ {K N : Type 0} {gives : K → Gives} {digest : N → List ℕ → List ℕ} {shop_ : Shop K N} {unbroken : Bool} {m : MasterSeen N}
    {out : List (Option Order)} (k : Working gives digest shop_ unbroken m out) where
  abbrev D : List ℕ → List ℕ
  D = digest shop_.namer

  abbrev J : s.Job
  J = job_view shop_.job

  abbrev b : Board P
  b = m.board

  abbrev To : Board P → List (Option Order) → Type 0
  To c then = Turned D shop_.shelves J.script (length J.inputs) b (slots_of out) c (slots_of then)

  -- ---- a loss

  module _ {loss w : ℕ} (due : FirstDue b.plan.losses b.closes b.table.gone loss w) {c : MasterSeen N}
      (new : c ≡ record m { board = lost_at worker_of w m.board }) (laws : names.LossTurns) where
    lost_turn : To (lost_at worker_of w b) out
    lost_turn = laws D shop_.shelves J.script (length J.inputs) b (slots_of out) k.work loss w due

    pub lost_kept : RowsStay → GoesStay → Working gives digest shop_ unbroken c out
    lost_kept rows stay =
        subst (λ z. Working gives digest shop_ unbroken z out) (sym new) (record {
          namer = k.namer;
          shelves = k.shelves;
          script = k.script;
          sound = k.sound;
          work = lost_turn.at_work;
          rows = λ u order e. rows.order D b.table (lost_at worker_of w b).table order (rows.lost b w) (k.rows u order e);
          mains = k.mains;
          goes = λ u order e. stay.lost b w order.task order.desc (k.goes u order e);
        })

    pub lost_less : left c out < left m out
    lost_less = subst (λ (z : MasterSeen N). left z out < left m out) (sym new) lost_turn.less

    pub lost_plan : c.board.plan ≡ m.board.plan
    lost_plan = ap (λ (z : MasterSeen N). z.board.plan) new

    pub lost_told : (told : List (Option (List TaskId))) → ToldOn m.board.journal c.board.journal told told
    lost_told told =
        subst (λ (z : MasterSeen N). ToldOn m.board.journal z.board.journal told told) (sym new)
        (tells_quiet m.board.journal (lost_at worker_of w m.board).journal (Entry.Lost w b.closes) told told tt refl (none_fades told))

  -- ---- a start

  module _ {x : TaskId} {w : ℕ} (run : Runnable (board_graph b) x) (idle : In w (idle_of b)) (order : Order)
      (view : order_view order ≡ order_for worker_of b x w) (laws : names.StartTurns) where
    begun : (slice_get (slots_of out) w ≡ Some None)
        × Turned D shop_.shelves J.script (length J.inputs) b (slots_of out) (started worker_of b x w)
        (slice_set (slots_of out) w (Some (order_for worker_of b x w)))
    begun = laws D shop_.shelves J.script (length J.inputs) b (slots_of out) k.work x w run idle

    worker_is : order.worker ≡ w
    worker_is = ap (λ z. z.out.worker) view

    task_is : order.task ≡ x
    task_is = ap (λ z. z.out.task) view

    pub send_worker : order.worker < length out
    send_worker = subst (λ n. n < length out) (sym worker_is) (below_slots out w None begun.0)

    pub send_free : order_at out order.worker ≡ None
    send_free = subst (λ n. order_at out n ≡ None) (sym worker_is) (free_at out w begun.0)

    pub send_takes : SafeOrders → Takes gives digest shop_ order
    send_takes law = (law D shop_.shelves J.script (length J.inputs) b k.work.safe x w run idle order view).sound

    -- the order is out then, in a state that is safe
    pub sent_of : {c : MasterSeen N} → c ≡ record m { board = started worker_of m.board x w } → IsSentOf digest shop_ c.board order
    sent_of {c} new =
        subst (λ (z : MasterSeen N). IsSentOf digest shop_ z.board order) (sym new)
        (begun.1.at_work.safe, in_right (out_view order) b.orders ((order_for worker_of b x w).out ∷ []) (inl (ap (λ z. z.out) view)))

    pub going_still : {c : MasterSeen N} → c ≡ record m { board = started worker_of m.board x w } → c.board.stopped ≡ false
    going_still new = ap (λ (z : MasterSeen N). z.board.stopped) new ∙ k.work.going

    pub start_told : {c : MasterSeen N} → c ≡ record m { board = started worker_of m.board x w } → (told then : List (Option (List TaskId)))
        → TellsTask order told then → ToldOn m.board.journal c.board.journal told then
    start_told {c} new told then tells =
        subst (λ (z : MasterSeen N). ToldOn m.board.journal z.board.journal told then) (sym new)
        (tells_start order told m.board.journal (started worker_of m.board x w).journal b.starts from then same tells)
      where
        from : ℕ
        from = wait_number (last_wait x b.table)

        same : (started worker_of b x w).journal ≡ b.journal ++ Entry.Start b.starts order.worker (task_key order.task) from ∷ []
        same =
            ap (λ e. b.journal ++ e ∷ []) (ap (λ n. Entry.Start b.starts n (task_key x) from) (sym worker_is)
            ∙ ap (λ t. Entry.Start b.starts order.worker (task_key t) from) (sym task_is))

    module _ {c : MasterSeen N} (new : c ≡ record m { board = started worker_of m.board x w }) {then : List (Option Order)}
        (sent : then ≡ slice_set out order.worker (Some order)) where
      slots_then : slots_of then ≡ slice_set (slots_of out) w (Some (order_for worker_of b x w))
      slots_then = slots_sent out order w (order_for worker_of b x w) worker_is view sent

      pub start_kept : SafeOrders → {again : Shop K N} → again ≡ shop_ → {still : Bool} → still ≡ true → Working gives digest again still c then
      start_kept law {again} same {still} ok =
          subst (λ a. Working gives digest a still c then) (sym same) (subst (λ z. Working gives digest shop_ still z then) (sym new) (record {
            namer = k.namer;
            shelves = k.shelves;
            script = k.script;
            sound = ok;
            work = subst (AtWork D shop_.shelves J.script (length J.inputs) (started worker_of b x w)) (sym slots_then) begun.1.at_work;
            rows = rows;
            mains = mains;
            goes = goes;
          }))
        where
          mains : (u : ℕ) (o : Order) → order_at then u ≡ Some o → o.main ≡ b.main
          mains u o e =
              pick (set_at out order.worker u (Some order) o (subst (λ z. order_at z u ≡ Some o) sent e))
            where
              pick : ((u ≡ order.worker) × (Some order ≡ Some o)) ⊎ (order_at out u ≡ Some o) → o.main ≡ b.main
              pick (inl q) =
                  let same : order ≡ o = cc in subst (λ (z : Order). z.main ≡ b.main) same (ap (λ (z : board.Order P). z.main) view)
              pick (inr q) = k.mains u o q

          goes : (u : ℕ) (o : Order) → order_at then u ≡ Some o → GoesBy b.table o.task o.desc
          goes u o e =
              pick (set_at out order.worker u (Some order) o (subst (λ z. order_at z u ≡ Some o) sent e))
            where
              pick : ((u ≡ order.worker) × (Some order ≡ Some o)) ⊎ (order_at out u ≡ Some o) → GoesBy b.table o.task o.desc
              pick (inl q) =
                  let same : order ≡ o = cc in
                  subst (λ (z : Order). GoesBy b.table z.task z.desc) same
                  (law D shop_.shelves J.script (length J.inputs) b k.work.safe x w run idle order view).goes
              pick (inr q) = k.goes u o q

          new_rows : HasRows D b.table order
          new_rows = (law D shop_.shelves J.script (length J.inputs) b k.work.safe x w run idle order view).rows

          rows : (u : ℕ) (o : Order) → order_at then u ≡ Some o → HasRows D b.table o
          rows u o e =
              pick (set_at out order.worker u (Some order) o (subst (λ z. order_at z u ≡ Some o) sent e))
            where
              pick : ((u ≡ order.worker) × (Some order ≡ Some o)) ⊎ (order_at out u ≡ Some o) → HasRows D b.table o
              pick (inl q) = let same : order ≡ o = cc in subst (HasRows D b.table) same new_rows
              pick (inr q) = k.rows u o q

      pub start_less : left c then < left m out
      start_less =
          subst (λ (z : MasterSeen N). left z then < left m out) (sym new)
          (subst (λ z. work worker_of most_waits (started worker_of b x w) z < left m out) (sym slots_then) begun.1.less)

  -- ---- what can go on

  pub none_runs : CanRun b [] → (task : TaskId) × Runnable (board_graph b) task → ⊥
  none_runs none x = none_can_run D worker_of b k.work.safe.sound none x.0 x.1

  -- where no worker is idle, and one isn't lost, something is out
  pub some_busy : ((w : ℕ) × (w < b.plan.workers) × (list_any (nat_eq w) b.table.gone ≡ false)) → {idle : List ℕ} → idle ≡ idle_of b → idle ≡ []
      → 0 < length b.orders
  some_busy here is e = go b.orders refl
    where
      go : (os : List OrderOut) → b.orders ≡ os → 0 < length os
      go [] none =
          absurd (some_is_idle b none here.0 here.1 (λ t. let bad : true ≡ false = sym t ∙ here.2 in cc) (sym is ∙ e))
      go (y ∷ ys) q = omega arith

  -- where something is out, a worker has it
  pub some_out : 0 < length b.orders → IsOutOf out
  some_out l = pick b.orders refl
    where
      pick : (os : List OrderOut) → b.orders ≡ os → IsOutOf out
      pick [] e = let q : length b.orders ≡ 0 = ap length e in absurd (omega (arith, l, q))
      pick (y ∷ ys) e =
          let x = k.work.handed.sent y (subst (In y) (sym e) (inl refl)) in
          let o = at_slots out y.worker x.0 x.1 in
          (y.worker, o.0, o.1)

  -- ---- a report

  module _ (r : Report) (then : List (Option Order)) (reports : Reports gives digest shop_ out then r) where
    abbrev pub order : Order
    order = reports.0

    pub e : order_at out r.worker ≡ Some order
    e = reports.1

    came : then ≡ slice_set out r.worker None
    came = reports.2

    pub a : Answers gives digest shop_ order r
    a = reports.3

    pub has : Has (slots_of out) r.worker (order_view order)
    has = slots_at out r.worker order e

    pub number : order.number ≡ r.number
    number = sym a.performs.number

    pub taken_slots : slots_of then ≡ slice_set (slots_of out) r.worker None
    taken_slots = ap slots_of came ∙ slots_set out r.worker None

    rows_then : (c : Board P) → GrowsTo b.table c.table → RowsStay → (u : ℕ) (o : Order) → order_at then u ≡ Some o → HasRows D c.table o
    rows_then c grows law u o q =
        pick (set_at out r.worker u None o (subst (λ z. order_at z u ≡ Some o) came q))
      where
        pick : ((u ≡ r.worker) × (None ≡ Some o)) ⊎ (order_at out u ≡ Some o) → HasRows D c.table o
        pick (inl z) = let bad : None ≡ Some o = z.1 in cc
        pick (inr z) = law.order D b.table c.table o grows (k.rows u o z)

    mains_then : (c : Board P) → c.main ≡ b.main → (u : ℕ) (o : Order) → order_at then u ≡ Some o → o.main ≡ c.main
    mains_then c same u o q =
        pick (set_at out r.worker u None o (subst (λ z. order_at z u ≡ Some o) came q)) ∙ sym same
      where
        pick : ((u ≡ r.worker) × (None ≡ Some o)) ⊎ (order_at out u ≡ Some o) → o.main ≡ b.main
        pick (inl z) = let bad : None ≡ Some o = z.1 in cc
        pick (inr z) = k.mains u o z

    goes_then : (c : Board P) → ((task : TaskId) (d : Option Desc1) → GoesBy b.table task d → GoesBy c.table task d) → (u : ℕ) (o : Order)
        → order_at then u ≡ Some o → GoesBy c.table o.task o.desc
    goes_then c stay u o q =
        stay o.task o.desc (pick (set_at out r.worker u None o (subst (λ z. order_at z u ≡ Some o) came q)))
      where
        pick : ((u ≡ r.worker) × (None ≡ Some o)) ⊎ (order_at out u ≡ Some o) → GoesBy b.table o.task o.desc
        pick (inl z) = let bad : None ≡ Some o = z.1 in cc
        pick (inr z) = k.goes u o z

    -- ---- thrown away

    module _ (none : find_order r.number b.orders ≡ None) (laws : names.ThrownTurns) where
      thrown : Turned D shop_.shelves J.script (length J.inputs) b (slots_of out) b (slice_set (slots_of out) r.worker None)
      thrown =
          laws D shop_.shelves J.script (length J.inputs) b (slots_of out) k.work r.worker (order_view order) has
          (subst (λ n. find_order n b.orders ≡ None) (sym number) none)

      pub thrown_kept : RowsStay → {again : Shop K N} → again ≡ shop_ → {still : Bool} → still ≡ true → Working gives digest again still m then
      thrown_kept law {again} same {still} ok =
          subst (λ z. Working gives digest z still m then) (sym same) (record {
            namer = k.namer;
            shelves = k.shelves;
            script = k.script;
            sound = ok;
            work = subst (AtWork D shop_.shelves J.script (length J.inputs) b) (sym taken_slots) thrown.at_work;
            rows = rows_then b (λ n j. j) law;
            mains = mains_then b refl;
            goes = goes_then b (λ task d h. h);
          })

      pub thrown_less : left m then < left m out
      thrown_less = subst (λ z. work worker_of most_waits b z < left m out) (sym taken_slots) thrown.less

    -- ---- taken

    module _ (there : (y : OrderOut) × (find_order r.number b.orders ≡ Some y)) where
      out_is : (order_view order).out ≡ there.0
      out_is =
          had_out b (slots_of out) k.work.handed r.worker (order_view order) there.0 has
          (subst (λ n. find_order n b.orders ≡ Some there.0) (sym number) there.1)

      pub found_is : find_order r.number b.orders ≡ Some (order_view order).out
      found_is = there.1 ∙ ap (λ z. Some z) (sym out_is)

      pub found_own : find_order order.number b.orders ≡ Some (order_view order).out
      found_own = subst (λ n. find_order n b.orders ≡ Some (order_view order).out) (sym number) found_is

      pub rows_now : HasRows D b.table order
      rows_now = k.rows r.worker order e

      fits_safely : (IsMissing r.end → ⊥) → FitsSafely D shop_.shelves J.script b (order_view order) r.spawned.items (report_end r)
      fits_safely none =
          record {
            fits = a.performs.fits b k.work.safe.sound found_own rows_now none;
            safe = a.safely.1 b k.work.safe.keys rows_now (goes_desc b.main b.table order.task order.desc (k.goes r.worker order e)) none;
          }

      missed_of : IsMissedOf D b (order_view order) r.end
      missed_of = missed r.end a.performs.missed
        where
          missed : (q : End) → Missed D order q → IsMissedOf D b (order_view order) q
          missed (End.Made ms) h = tt
          missed (End.Saved p j refs holds mark) h = tt
          missed (End.Shown shown) h = tt
          missed (End.Missing name loss seen) h =
              record { place = h.place; given = given h.given; worker = h.worker; known = inl h.seen }
            where
              given : ((spot_of name (order_view order).inputs ≡ Some (shelf h.place))
                  ⊎ ((order.saved ≡ Some h.place) × (name ≡ own_name D (λ (p : P). p.worker) order.main order.task)))
                  → (spot_of name (order_view order).inputs ≡ Some (shelf h.place))
                  ⊎ ((order.saved ≡ Some h.place) × (name ≡ own_name D (λ (p : P). p.worker) b.main order.task))
              given (inl z) = inl z
              given (inr z) = inr (z.0, subst (λ n. name ≡ own_name D (λ (p : P). p.worker) n order.task) (k.mains r.worker order e) z.1)

      fits_order : FitsOrder D shop_.shelves J.script b (order_view order) r
      fits_order =
          record {
            of = record { worker = a.performs.worker; task = a.performs.task; kind = a.performs.kind };
            whole = fits_safely;
            missed = missed_of;
            seen = seen_at shop_.shelves order.worker J.script r.task r.end a.places.end;
          }

      pub fits_now : FitsOneOut (digest m.namer) m.shelves m.script b r
      fits_now =
          subst (λ n. FitsOneOut (digest n) m.shelves m.script b r) (sym k.namer)
          (subst (λ z. FitsOneOut D z m.script b r) (sym k.shelves)
          (subst (λ z. FitsOneOut D shop_.shelves z b r) (sym k.script) (order_view order, found_is, fits_order)))

      pub missing_is : (name : Digest) (loss : Loss) (seen : Option SeatSeen) → r.end ≡ End.Missing name loss seen → IsCarriedOut b r.end
          → MissingFits D worker_of b (order_view order) name loss.number
      missing_is name loss seen q carried =
          let miss = subst (Missed D order) q a.performs.missed in
          let c = subst (IsCarriedOut b) q carried miss.seen in
          missed_fits D b order (k.mains r.worker order e) name loss seen miss c.0.0 c.0.1 c.1

      -- ---- accepted

      module _ (carried : IsCarriedOut b r.end) (learns : LearnedFor (digest m.namer) r.end r.spawned.items b.table) {m2 : MasterSeen N}
          (took : (x : OrderOut) × (find_order r.number b.orders ≡ Some x)
          × (m2 ≡ record m { board = accepted (digest m.namer) worker_of b x r.spawned.items (report_end r) })) where
        law : LearnedFor D r.end r.spawned.items b.table
        law = subst (λ n. LearnedFor (digest n) r.end r.spawned.items b.table) k.namer learns

        new : m2 ≡ record m { board = accepted D worker_of b took.0 r.spawned.items (report_end r) }
        new = subst (λ n. m2 ≡ record m { board = accepted (digest n) worker_of b took.0 r.spawned.items (report_end r) }) k.namer took.2

        abbrev next : Board P
        next = accepted D worker_of b (order_view order).out r.spawned.items (report_end r)

        pub new_is : m2 ≡ record m { board = next }
        new_is =
            new ∙ ap (λ z. record m { board = accepted D worker_of b z r.spawned.items (report_end r) })
            (same_order took.0 (order_view order).out (sym took.1 ∙ found_is))

        pub all : (IsMissing r.end → ⊥) → AllLearned D r.spawned.items b.table
        all none = learned_cases D r.spawned.items b.table r.end law none

        pub taken_plan : m2.board.plan ≡ m.board.plan
        taken_plan = ap (λ (z : MasterSeen N). z.board.plan) new_is ∙ plan_same D b (order_view order).out r.spawned.items (report_end r)

        pub taken_told : (told later : List (Option (List TaskId))) → FadesEach told later → ToldOn m.board.journal m2.board.journal told later
        taken_told told later fades =
            subst (λ (z : MasterSeen N). ToldOn m.board.journal z.board.journal told later) (sym new_is)
            (tells_quiet m.board.journal next.journal (entry_for (order_view order).out.number (report_end r)) told later
            (quiet_for (order_view order).out.number (report_end r)) (journal_next D b (order_view order).out r.spawned.items (report_end r))
            fades)

        abbrev Then : rep.End P → Type 0
        Then q =
            Turned D shop_.shelves J.script (length J.inputs) b (slots_of out) (accepted D worker_of b (order_view order).out r.spawned.items q)
            (slice_set (slots_of out) r.worker None)

        module _ (report : names.ReportTurns) (missed : names.MissedTurns) (goes : Now.Goes ≡ now_of r.end) where
          turned : Then (report_end r)
          turned = pick r.end refl goes a.performs.kind
            where
              whole : (IsMissing r.end → ⊥) → (laws.IsMissing (report_end r) → ⊥) → next.stopped ≡ false → Then (report_end r)
              whole none also going =
                  report D shop_.shelves J.script (length J.inputs) b (slots_of out) k.work r.worker (order_view order) has found_own
                  r.spawned.items (report_end r) (fits_safely none) also (all none) going

              pick : (q : End) → r.end ≡ q → Now.Goes ≡ now_of q → OfTask order.task r.end → Then (report_end r)
              pick (End.Made ms) q g kind =
                  let v : report_end r ≡ rep.made (map output_view ms.items) (copies_view r.copied.items) = ap (how_view r.copied.items) q in
                  whole (λ i. subst IsMissing q i) (λ i. subst laws.IsMissing v i)
                  (subst (λ z. (accepted D worker_of b (order_view order).out r.spawned.items z).stopped ≡ false) (sym v)
                  (not_root order.task (subst (OfTask order.task) q kind)))
                where
                  not_root : (task : TaskId) → OfTask task (End.Made ms) → is_root task ≡ false
                  not_root TaskId.Show i = absurd i
                  not_root (TaskId.Of n) i = refl
              pick (End.Saved p j refs holds mark) q g kind =
                  let v : report_end r ≡ how_view r.copied.items (End.Saved p j refs holds mark) = ap (how_view r.copied.items) q in
                  whole (λ i. subst IsMissing q i) (λ i. subst laws.IsMissing v i)
                  (subst (λ z. (accepted D worker_of b (order_view order).out r.spawned.items z).stopped ≡ false) (sym v) k.work.going)
              pick (End.Shown (Shown.Text text)) q g kind = let bad : Now.Goes ≡ Now.Answer text = g in cc
              pick (End.Shown (Shown.Fault fault)) q g kind = let bad : Now.Goes ≡ Now.Fault fault = g in cc
              pick (End.Missing name loss seen) q g kind =
                  let v : report_end r ≡ rep.missing name loss.number = ap (how_view r.copied.items) q in
                  subst Then (sym v) (missed D shop_.shelves J.script (length J.inputs) b (slots_of out) k.work r.worker (order_view order) has
                  found_own name loss.number (missing_is name loss seen q carried))

          pub taken_kept : RowsStay → GoesStay → {again : Shop K N} → again ≡ shop_ → {still : Bool} → still ≡ true → Working gives digest again still m2 then
          taken_kept rows stay {again} same {still} ok =
              subst (λ z. Working gives digest z still m2 then) (sym same)
              (subst (λ z. Working gives digest shop_ still z then) (sym new_is) (record {
                namer = k.namer;
                shelves = k.shelves;
                script = k.script;
                sound = ok;
                work = subst (AtWork D shop_.shelves J.script (length J.inputs) next) (sym taken_slots) turned.at_work;
                rows = rows_then next (rows.accepted D b (order_view order).out r.spawned.items (report_end r)) rows;
                mains = mains_then next (main_same D b (order_view order).out r.spawned.items (report_end r));
                goes = goes_then next (stay.accepted D b (order_view order).out r.spawned.items (report_end r));
              }))

          pub taken_less : left m2 then < left m out
          taken_less =
              subst (λ (z : MasterSeen N). left z then < left m out) (sym new_is)
              (subst (λ z. work worker_of most_waits next z < left m out) (sym taken_slots) turned.less)
