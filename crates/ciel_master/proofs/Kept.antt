-- Each call keeps what holds of a master.
use Rattle.std.proofs.Common.{◌≡◌, ◌⊎◌, inl, inr, ℕ, zero, suc, ◌+◌, ◌≤◌, ◌<◌, ◌^◌, List, [], ◌∷◌, ◌++◌, length, length-append, Bool, Some, true, false, cond}
use Rattle.std.proofs.Common.{filter, map, nat_eq, not, slice_get, slice_index_or, refl, ap, ◌∙◌, sym, subst, arith}
use Rattle.sky_base.specs.Val.{no_pairs, no_vals}
use Rattle.sky_base.specs.declared.object.Desc1.{Desc1}
use Rattle.sky_base.specs.declared.object.Named.{Named}
use Rattle.sky_base.specs.declared.object.TaskId.{TaskId}
use Rattle.ciel_master_board.specs.Board.{Board, Order, board_graph, find_order, idle_of, task_key, tasks_out, wait_number}
use Rattle.ciel_master_board.specs.Board as board
use Rattle.ciel_master_board.specs.Moves.{accepted, closed, empty, lost_at, order_for, started, with_copies, with_outputs, without}
use Rattle.ciel_master_board.specs.Reports as r
use Rattle.ciel_master_board.specs.Reports.{Copy, IsNamed, learned_all}
use Rattle.ciel_master_board.specs.Sound.{CopyFits, OrderSound, OutputFits, Sound}
use Rattle.ciel_master_board.proofs.LearnedNames.{grown}
use Rattle.ciel_master_board.proofs.WaitsByName.{same_waits}
use Rattle.ciel_master_board.proofs.SoundLemmas.{accepted_sound, closed_sound, lost_sound, opened_sound, order_in, sound_whole, started_sound}
use Rattle.ciel_journal.specs.Entries as j
use Rattle.ciel_journal.specs.Graph.{Runnable}
use Rattle.ciel_journal.specs.Job.{Each, In}
use Rattle.ciel_journal.specs.Turns.{FirstDue}
use Rattle.ciel_journal.proofs.Booked.{each_more}
use Rattle.ciel_journal.proofs.Members.{each_of}
use Rattle.ciel_table.specs.Changes.{dropped, placed}
use Rattle.ciel_table.specs.Learning.{learned}
use Rattle.ciel_table.specs.Seen.{Known, TableSeen, last_wait, waits_of}
use Rattle.ciel_table.specs.Sound.{Here, IsAbove}
use Rattle.ciel_table.specs.declared.wait.Wait.{Wait}
use Rattle.ciel_table.proofs.Lists.{all_more}
use Rattle.std.specs.List.{AllByRecursion, list_any}
use Rattle.std.proofs.lemmas.List.{length-map}
use Rattle.ciel_task_order.specs.Views.{P, copies_view, how_view, order_view, output_view}
use Rattle.ciel_task_order.specs.declared.block.Held.{Held}
use Rattle.ciel_task_order.specs.declared.report.End.{End}
use Rattle.ciel_task_order.specs.declared.report.Made.{Made}
use Rattle.ciel_want.specs.Waited.{Whole}
use Rattle.ciel_store.specs.Seen.{SeatSeen, ShelvesSeen, marked}
use Rattle.ciel_want_ready.specs.Following.{ExecsAtStart, IsExec}
use Rattle.ciel_want_ready.specs.Seen.{ReadySeen, with_out, with_table}
use Rattle.ciel_master.specs.Orders.{OneEach, ready_of}
use Rattle.ciel_master.specs.Fitting.{FitsUnlessMissing}
use Rattle.ciel_master.specs.Marked.{IsCarriedOut, IsFirstLoss, Marked, WasMarked, unseen}
use Rattle.sky_base.specs.Tree.{Script}
use Rattle.ciel_master_safe.specs.Laws.{OrderIsGood, SafeOrders}
use Rattle.ciel_master_safe.specs.Safe.{IsCall, Safe}
use Rattle.ciel_master_safe.proofs.SoundOrders.{waits_of_calls}
use Rattle.ciel_master_safe.proofs.SafeLemmas.{loss_safe, opened_safe, report_safe, start_safe}
use Rattle.ciel_task_order.specs.declared.order.Order as rust
use Rattle.ciel_master.specs.Seen.{Going, HasRoom, MasterSeen, MasterStands, board_of, most_descriptions, plan_view}
use Rattle.ciel_master.specs.Taking.{CanTake, CopiesPlace, LearnedFor, OutputsPlace, entry_for, is_last, learned_for, table_after}
use Rattle.ciel_master_board.specs.Left.{losses_left}
use Rattle.ciel_master_board.proofs.WorkMeasure.{fewer_losses}
use Rattle.ciel_master.proofs.Stays.{tasks_join}
use Rattle.ciel_master.proofs.MarkedLosses.{carried_out, has_shelf, marked_more}
use Rattle.ciel_master_bring.specs.Brings.{worker_of}
use Rattle.ciel_master.specs.Views.{entry_view, kept_view}
use Rattle.ciel_master.specs.declared.entry.Entry.{Entry}
use Rattle.ciel_master.specs.declared.orders.OrderOut.{OrderOut}
use Rattle.ciel_master.specs.declared.plan.RunPlan.{RunPlan}

module _ (digest : List ℕ → List ℕ) (shelves : ShelvesSeen) (sc : Script) (p : RunPlan) where
  abbrev keys : List (List ℕ)
  keys = sc.keys

  pub open_going : (main : Named) (t : TableSeen P) (os : List OrderOut) (es : List Entry) → t ≡ learned digest main (empty most_descriptions)
      → os ≡ [] → es ≡ [] → length keys < 2 ^ 32 → p.workers ≤ length shelves.rows → IsNamed digest main → main.desc ≡ Desc1.Call [] no_pairs no_vals
      → Going digest shelves sc (board_of p keys main.name t os 0 0 es false)
  open_going main t os es is none nothing few wide named call =
      let first : Going digest shelves sc (board_of p keys main.name (learned digest main (empty most_descriptions)) [] 0 0 [] false) =
      record { safe = opened_safe digest shelves sc (plan_view p) main (omega arith) named call wide; counted = omega arith; few = few } in
      subst (λ u. Going digest shelves sc (board_of p keys main.name u os 0 0 es false)) (sym is)
      (subst (λ xs. Going digest shelves sc (board_of p keys main.name (learned digest main (empty most_descriptions)) xs 0 0 es false)) (sym none)
      (subst (λ xs. Going digest shelves sc (board_of p keys main.name (learned digest main (empty most_descriptions)) [] 0 0 xs false)) (sym nothing)
      first))

le_or_lt : (k c : ℕ) → (k ≤ c) ⊎ (c < k)
le_or_lt zero c = inl (omega arith)
le_or_lt (suc k) zero = inr (omega arith)
le_or_lt (suc k) (suc c) = up (le_or_lt k c)
  where
    up : (k ≤ c) ⊎ (c < k) → (suc k ≤ suc c) ⊎ (suc c < suc k)
    up (inl l) = inl (omega (arith, l))
    up (inr l) = inr (omega (arith, l))

some_same : {A : Type 0} (x y : A) → Some x ≡ Some y → x ≡ y
some_same x y e = cc

-- an entry more
more_written : (es : List j.Entry) (e : j.Entry) → length (es ++ e ∷ []) ≡ length es + 1
more_written es e = length-append es (e ∷ [])

module _ (digest : List ℕ → List ℕ) (shelves : ShelvesSeen) (sc : Script) (b : Board P) (g : Going digest shelves sc b) where
  pub started_going : (x : TaskId) (w : ℕ) → Runnable (board_graph b) x → In w (idle_of b) → Going digest shelves sc (started worker_of b x w)
  started_going x w r i =
      let long = more_written b.journal (j.Entry.Start b.starts w (task_key x) (wait_number (last_wait x b.table))) in
      let counted = g.counted in
      record { safe = start_safe digest shelves sc (length sc.keys) b g.safe x w r i; counted = omega (arith, long, counted); few = g.few }

  -- the same by the parts of the end
  abbrev pub taken : board.OrderOut → List Named → List Held → End → Board P
  taken x spawned copied end =
      record (closed b x (table_after x.task (how_view copied end) (learned_for digest end spawned b.table))
      (entry_for x.number (how_view copied end))) { stopped = is_last x.task (how_view copied end) }

  pub taken_is : (x : board.OrderOut) (spawned : List Named) (copied : List Held) (end : End) → b.stopped ≡ false → taken x spawned copied end
      ≡ accepted digest worker_of b x spawned (how_view copied end)
  taken_is x spawned copied (End.Made ms) e = refl
  taken_is x spawned copied (End.Saved p k refs holds mark) e =
      ap (λ z. record (taken x spawned copied (End.Saved p k refs holds mark)) { stopped = z }) (sym e)
  taken_is x spawned copied (End.Shown s) e = refl
  taken_is x spawned copied (End.Missing name loss seen) e =
      ap (λ z. record (taken x spawned copied (End.Missing name loss seen)) { stopped = z }) (sym e)

  module _ (x : Order P) (k : ℕ) (out : find_order k b.orders ≡ Some x.out) (spawned : List Named) (copied : List Held) where
    accepted_is_sound : (end : End) → FitsUnlessMissing digest shelves sc b x spawned copied end → LearnedFor digest end spawned b.table
        → Sound digest worker_of (accepted digest worker_of b x.out spawned (how_view copied end))
    accepted_is_sound (End.Made ms) fits all =
        accepted_sound digest worker_of b g.safe.sound x k out spawned (how_view copied (End.Made ms)) (fits (λ z. z)).fits all
    accepted_is_sound (End.Saved p n refs holds mark) fits all =
        accepted_sound digest worker_of b g.safe.sound x k out spawned (how_view copied (End.Saved p n refs holds mark)) (fits (λ z. z)).fits all
    accepted_is_sound (End.Shown s) fits all =
        accepted_sound digest worker_of b g.safe.sound x k out spawned (how_view copied (End.Shown s)) (fits (λ z. z)).fits all
    accepted_is_sound (End.Missing name loss seen) fits all =
        let s = g.safe.sound in
        closed_sound digest worker_of b s (λ (q : board.OrderOut). not (nat_eq x.out.number q.number)) b.table
        (b.journal ++ j.Entry.Missed x.out.number name loss.number ∷ []) (b.closes + 1) b.stopped (λ n i. i)
        (record { rows = s.rows; shown = s.shown; saved = s.saved }) s.room refl (λ y i q. (q.here, q.last))

    accepted_is_safe : (end : End) → FitsUnlessMissing digest shelves sc b x spawned copied end → LearnedFor digest end spawned b.table
        → Safe digest shelves sc (length sc.keys) (accepted digest worker_of b x.out spawned (how_view copied end))
    accepted_is_safe (End.Made ms) fits all =
        report_safe digest shelves sc (length sc.keys) b g.safe x k out spawned (how_view copied (End.Made ms)) (fits (λ z. z)) all
    accepted_is_safe (End.Saved p n refs holds mark) fits all =
        report_safe digest shelves sc (length sc.keys) b g.safe x k out spawned (how_view copied (End.Saved p n refs holds mark)) (fits (λ z. z)) all
    accepted_is_safe (End.Shown s) fits all =
        report_safe digest shelves sc (length sc.keys) b g.safe x k out spawned (how_view copied (End.Shown s)) (fits (λ z. z)) all
    accepted_is_safe (End.Missing name loss seen) fits all =
        record {
          sound = accepted_is_sound (End.Missing name loss seen) fits all;
          table = g.safe.table;
          keys = g.safe.keys;
          few = g.safe.few;
          wide = g.safe.wide;
        }

    pub taken_going : (end : End) → FitsUnlessMissing digest shelves sc b x spawned copied end → LearnedFor digest end spawned b.table → b.stopped ≡ false
        → Going digest shelves sc (taken x.out spawned copied end)
    taken_going end fits all e =
        let long = more_written b.journal (entry_for x.out.number (how_view copied end)) in
        let counted = g.counted in
        record {
          safe = subst (Safe digest shelves sc (length sc.keys)) (sym (taken_is x.out spawned copied end e)) (accepted_is_safe end fits all);
          counted = omega (arith, long, counted);
          few = g.few;
        }

-- what a report places can be placed
module _ (digest : List ℕ → List ℕ) (t : TableSeen P) (x : Order P) (h : Here t.gone x.out.worker) where
  outputs_can : (ms : List Made) → Each (OutputFits digest worker_of t x) (map output_view ms) → OutputsPlace t ms
  outputs_can [] e = tt
  outputs_can (m ∷ ms) e = ((e.0.known, subst (Here t.gone) (sym e.0.here) h), outputs_can ms e.1)

  copies_can : (copied : List Held) → Each (CopyFits digest worker_of t x) (copies_view copied) → CopiesPlace t copied
  copies_can copied e =
      each_more (CopyFits digest worker_of t x) (λ (c : Copy P). Known t c.name × Here t.gone (worker_of c.place))
      (λ c f. (f.known, subst (Here t.gone) (sym f.here) h)) (copies_view copied) e

module _ (digest : List ℕ → List ℕ) (shelves : ShelvesSeen) (sc : Script) (b : Board P) (s : Sound digest worker_of b) (x : Order P) (k : ℕ) (out : find_order k b.orders ≡ Some x.out)
    (spawned : List Named) where
  abbrev then : TableSeen P
  then = learned_all digest spawned b.table

  is_sound : OrderSound b x.out
  is_sound = each_of (OrderSound b) x.out b.orders (order_in k b.orders x.out out) s.orders

  is_here : Here then.gone x.out.worker
  is_here = subst (λ gs. Here gs x.out.worker) (sym (grown digest spawned b.table).gone) is_sound.here

  is_above : (n : ℕ) → x.out.from < n → IsAbove n (waits_of x.out.task then)
  is_above n l =
      let g = grown digest spawned b.table in
      subst (AllByRecursion (λ (w : Wait P). w.j < n)) (sym (same_waits x.out.task b.table then g.shown g.saved))
      (all_more (λ (w : Wait P). w.j ≤ x.out.from) (λ (w : Wait P). w.j < n) (λ w m. omega (arith, m, l)) (waits_of x.out.task b.table)
      is_sound.last)

  pub can_take : (copied : List Held) (end : End) → FitsUnlessMissing digest shelves sc b x spawned copied end → LearnedFor digest end spawned b.table
      → CanTake x.out.task (learned_for digest end spawned b.table) copied end
  can_take copied (End.Made ms) f all =
      let e = ((f (λ z. z)).fits.learned all).end in
      (outputs_can digest then x is_here ms.items e.0, copies_can digest then x is_here copied e.1)
  can_take copied (End.Saved q n refs holds mark) f all =
      let e = ((f (λ z. z)).fits.learned all).end in (is_above n e.later, subst (Here then.gone) (sym e.here) is_here)
  can_take copied (End.Shown q) f all =
      let e = ((f (λ z. z)).fits.learned all).end in copies_can digest then x is_here copied e.1
  can_take copied (End.Missing name loss seen) f all = tt

-- the lost workers stay
outputs_gone : (ms : List (r.Output P)) (t : TableSeen P) → (with_outputs ms t).gone ≡ t.gone
outputs_gone [] t = refl
outputs_gone (m ∷ ms) t = outputs_gone ms (placed m.name m.place t)

copies_gone : (cs : List (Copy P)) (t : TableSeen P) → (with_copies cs t).gone ≡ t.gone
copies_gone [] t = refl
copies_gone (c ∷ cs) t = copies_gone cs (placed c.name c.place t)

after_gone : (x : TaskId) (e : r.End P) (t : TableSeen P) → (table_after x e t).gone ≡ t.gone
after_gone x (r.made ms cs) t = copies_gone cs (with_outputs ms t) ∙ outputs_gone ms t
after_gone x (r.saved s) t = refl
after_gone x (r.missing name loss) t = refl

for_gone : (digest : List ℕ → List ℕ) (end : End) (ns : List Named) (t : TableSeen P) → (learned_for digest end ns t).gone ≡ t.gone
for_gone digest (End.Made ms) ns t = (grown digest ns t).gone
for_gone digest (End.Saved p k refs holds mark) ns t = (grown digest ns t).gone
for_gone digest (End.Shown s) ns t = (grown digest ns t).gone
for_gone digest (End.Missing name loss seen) ns t = refl

pub open_gone : (digest : List ℕ → List ℕ) (main : Named) (t : TableSeen P) (lost : List ℕ) → t ≡ learned digest main (empty most_descriptions)
    → lost ≡ [] → t.gone ≡ lost
open_gone digest main t lost is none =
    let first : TableSeen P = empty most_descriptions in
    ap (λ (u : TableSeen P). u.gone) is ∙ ((grown digest (main ∷ []) first).gone ∙ sym none)

-- what is got is what stands there
got_or : {A : Type 0} (xs : List A) (i : ℕ) (x d : A) → slice_get xs i ≡ Some x → slice_index_or xs i d ≡ x
got_or [] i x d e = cc
got_or (y ∷ ys) zero x d e = cc
got_or (y ∷ ys) (suc i) x d e = got_or ys i x d e

pub or_got : {A : Type 0} (xs : List A) (i : ℕ) (x : A) → i < length xs → x ≡ slice_index_or xs i x → slice_get xs i ≡ Some x
or_got [] i x l e = absurd (omega (arith, l))
or_got (y ∷ ys) zero x l e = ap (λ z. Some z) (sym e)
or_got (y ∷ ys) (suc i) x l e = or_got ys i x (omega (arith, l)) e

-- no more losses are left than there are
left_most : (losses : List (ℕ × ℕ)) (gone : List ℕ) → losses_left losses gone ≤ length losses
left_most [] gone = omega arith
left_most (x ∷ xs) gone = pick (not (list_any (nat_eq x.1) gone)) (left_most xs gone)
  where
    pick : (c : Bool) → losses_left xs gone ≤ length xs
        → length (cond c (x ∷ filter (λ (y : ℕ × ℕ). not (list_any (nat_eq y.1) gone)) xs)
        (filter (λ (y : ℕ × ℕ). not (list_any (nat_eq y.1) gone)) xs)) ≤ suc (length xs)
    pick true l = omega (arith, l)
    pick false l = omega (arith, l)

-- at the beginning
pub open_room : (losses : List (ℕ × ℕ)) (lost : List ℕ) (es : List Entry) (room entries workers : ℕ) → lost ≡ [] → es ≡ [] → room ≡ length losses
    → room ≤ entries → room ≤ workers → HasRoom losses lost (length (map entry_view es)) entries workers
open_room losses lost es room entries workers none nothing is a b =
    let l = left_most losses lost in
    let k : length (map entry_view es) ≡ 0 = ap (λ xs. length (map entry_view xs)) nothing in
    let m : length lost ≡ 0 = ap length none in
    record { journal = omega (arith, l, k, is, a); workers = omega (arith, l, m, is, b) }

-- what is kept, by its parts
parts : (new : ReadySeen P) (main : List ℕ) (out : List TaskId) → new.main ≡ main → new.out ≡ out → new
    ≡ record { table = new.table; main = main; out = out }
parts new main out e f =
    ap (λ z. record { table = new.table; main = z; out = new.out }) e
    ∙ ap (λ z. record { table = new.table; main = main; out = z }) f

-- at the beginning
pub open_ready : (main : Named) (p : RunPlan) (keys : List (List ℕ)) (t : TableSeen P) (os : List OrderOut) (es : List Entry) (new : ReadySeen P)
    → new ≡ record { table = t; main = main.name; out = [] } → os ≡ [] → new ≡ ready_of (board_of p keys main.name new.table os 0 0 es false)
open_ready main p keys t os es new is none =
    parts new main.name (tasks_out (map kept_view os)) (ap (λ (r : ReadySeen P). r.main) is)
    (ap (λ (r : ReadySeen P). r.out) is ∙ ap (λ xs. tasks_out (map kept_view xs)) (sym none))

-- it fits without what the eye had seen
pub unseen_fits : (digest : List ℕ → List ℕ) (shelves : ShelvesSeen) (sc : Script) (b : Board P) (x : Order P) (spawned : List Named)
    (copied : List Held) (end : End) → FitsUnlessMissing digest shelves sc b x spawned copied end
    → FitsUnlessMissing digest shelves sc b x spawned copied (unseen end)
unseen_fits digest shelves sc b x spawned copied (End.Made ms) f = f
unseen_fits digest shelves sc b x spawned copied (End.Saved p k refs holds mark) f = f
unseen_fits digest shelves sc b x spawned copied (End.Shown s) f = f
unseen_fits digest shelves sc b x spawned copied (End.Missing name loss seen) f = λ none. absurd (none tt)

-- a master in its state, which goes on
module _ {N : Type 0} (dig : N → (List ℕ → List ℕ)) (m : MasterSeen N) (n : N) (shelves : ShelvesSeen) (sc : Script) (b : Board P)
    (e : record { namer = n; shelves = shelves; script = sc; board = b } ≡ m) (lost : List ℕ) (entries workers : ℕ) (marker : SeatSeen) (ready : ReadySeen P)
    (stands : MasterStands (dig n) b lost entries workers shelves sc marker ready) (run : m.board.stopped ≡ false) where
  goes : b.stopped ≡ false
  goes = subst (λ (z : MasterSeen N). z.board.stopped ≡ false) (sym e) run

  going : Going (dig n) shelves sc b
  going = (stands goes).0

  -- an order of it is sound for the shop
  pub good_now : SafeOrders → (x : TaskId) (w : ℕ) → Runnable (board_graph m.board) x → In w (idle_of m.board) → (y : rust.Order)
      → order_view y ≡ order_for worker_of m.board x w → OrderIsGood (dig m.namer) m.shelves m.script (length m.script.keys) m.board y
  good_now law x w r i y v =
      subst (λ (z : MasterSeen N). OrderIsGood (dig z.namer) z.shelves z.script (length z.script.keys) z.board y) e
      (law (dig n) shelves sc (length sc.keys) b going.safe x w (subst (λ (z : MasterSeen N). Runnable (board_graph z.board) x) (sym e) r)
      (subst (λ (z : MasterSeen N). In w (idle_of z.board)) (sym e) i) y
      (subst (λ (z : MasterSeen N). order_view y ≡ order_for worker_of z.board x w) (sym e) v))

  pub gone_now : b.table.gone ≡ lost
  gone_now = (stands goes).1

  pub room_now : HasRoom b.plan.losses lost (length b.journal) entries workers
  room_now = (stands goes).2

  -- where an entry is written with room for all losses
  pub room_written : (es : List Entry) (room more : ℕ) → room ≡ length b.plan.losses → length es + room ≤ more
      → HasRoom b.plan.losses lost (length (map entry_view es)) more workers
  room_written es room more is fits =
      let l = left_most b.plan.losses lost in
      let k = length-map es entry_view in
      record { journal = omega (arith, l, k, is, fits); workers = room_now.workers }

  -- where it has grown
  pub room_wider : (more : ℕ) → entries ≤ more → HasRoom b.plan.losses lost (length b.journal) more workers
  room_wider more wide = let j = room_now.journal in record { journal = omega (arith, j, wide); workers = room_now.workers }

  pub marked_now : Marked b.plan.losses lost shelves marker
  marked_now = (stands goes).3

  -- what is marked, as contracts see it
  pub marked_seen : Marked m.board.plan.losses m.board.table.gone m.shelves marker
  marked_seen =
      subst (λ (z : MasterSeen N). Marked z.board.plan.losses z.board.table.gone z.shelves marker) e
      (subst (λ gs. Marked b.plan.losses gs shelves marker) (sym gone_now) marked_now)

  pub carried_now : (now : SeatSeen) → now ≡ marker → (end : End) → WasMarked now.losses end → IsCarriedOut m.board end
  carried_now now same end k =
      subst (λ (z : MasterSeen N). IsCarriedOut z.board end) e
      (carried_out b.plan.losses lost shelves marker marked_now b refl gone_now end
      (subst (λ (s : SeatSeen). WasMarked s.losses end) same k))

  pub whole_now : Whole b.main b.table
  whole_now = sound_whole (dig n) worker_of b going.safe.sound

  pub ready_now : ready ≡ ready_of b
  ready_now = (stands goes).4

  pub ready_whole : Whole ready.main ready.table
  ready_whole = subst (λ (r : ReadySeen P). Whole r.main r.table) (sym ready_now) whole_now

  pub table_whole : (t : TableSeen P) → t ≡ b.table → Whole b.main t
  table_whole t e = subst (Whole b.main) (sym e) whole_now

  pub ready_is : ready ≡ ready_of m.board
  ready_is = ready_now ∙ ap (λ (z : MasterSeen N). ready_of z.board) e

  -- no executor's task has a saved wait
  pub execs_start : ExecsAtStart ready.table
  execs_start =
      subst (λ (r : ReadySeen P). ExecsAtStart r.table) (sym ready_now)
      (λ k r f exec. waits_of_calls (dig n) shelves sc (length sc.keys) b going.safe k r f (no_call r.desc exec))
    where
      no_call : (d : Desc1) → IsExec d → IsCall d → ⊥
      no_call (Desc1.Call f c vs) x i = x
      no_call (Desc1.Exec e a n i) x k = k
      no_call (Desc1.Input k) x i = x

  pub one_each : OneEach b.orders
  one_each =
      let s = going.safe.sound in
      record { numbers = s.numbers; tasks = s.tasks; workers = s.workers }

  -- after a start
  module _ (x : TaskId) (w from : ℕ) (r : Runnable (board_graph m.board) x) (i : In w (idle_of m.board)) (os : List board.OrderOut)
      (js : List j.Entry) (is_from : from ≡ wait_number (last_wait x b.table))
      (is_os : os ≡ b.orders ++ record { number = b.starts; worker = w; task = x; from = from } ∷ [])
      (is_js : js ≡ b.journal ++ j.Entry.Start b.starts w (task_key x) from ∷ []) (new : ReadySeen P) (is_new : new ≡ with_out ready x) where
    abbrev now_started : Board P
    now_started = record b { table = new.table; orders = os; starts = b.starts + 1; journal = js }

    pub same_table : new.table ≡ b.table
    same_table = ap (λ (r : ReadySeen P). r.table) is_new ∙ ap (λ (r : ReadySeen P). r.table) ready_now

    pub ready_started : new ≡ ready_of now_started
    ready_started =
        parts new b.main (tasks_out os) (ap (λ (r : ReadySeen P). r.main) is_new ∙ ap (λ (r : ReadySeen P). r.main) ready_now)
        (ap (λ (r : ReadySeen P). r.out) is_new ∙ (ap (λ (r : ReadySeen P). r.out ++ x ∷ []) ready_now
        ∙ (sym (tasks_join b.orders (record { number = b.starts; worker = w; task = x; from = from })) ∙ ap tasks_out (sym is_os))))

    pub gone_started : new.table.gone ≡ lost
    gone_started = ap (λ (t : TableSeen P). t.gone) same_table ∙ gone_now

    pub going_started : Going (dig n) shelves sc now_started
    going_started =
        let er = subst (λ (z : MasterSeen N). Runnable (board_graph z.board) x) (sym e) r in
        let ei = subst (λ (z : MasterSeen N). In w (idle_of z.board)) (sym e) i in
        let os_so = is_os ∙ ap (λ f. b.orders ++ record { number = b.starts; worker = w; task = x; from = f } ∷ []) is_from in
        let js_so = is_js ∙ ap (λ f. b.journal ++ j.Entry.Start b.starts w (task_key x) f ∷ []) is_from in
        let so : now_started ≡ started worker_of b x w =
        ap (λ z. record b { table = z; orders = os; starts = b.starts + 1; journal = js }) same_table
        ∙ (ap (λ z. record b { orders = z; starts = b.starts + 1; journal = js }) os_so
        ∙ ap (λ z. record (started worker_of b x w) { journal = z }) js_so) in
        subst (Going (dig n) shelves sc) (sym so) (started_going (dig n) shelves sc b going x w er ei)

  -- where the table alone has changed
  pub changed_out : (now : ReadySeen P) (t : TableSeen P) → now ≡ with_table ready t → now.out ≡ tasks_out b.orders
  changed_out now t is_now = ap (λ (r : ReadySeen P). r.out) is_now ∙ ap (λ (r : ReadySeen P). r.out) ready_now

  -- after orders are closed: the table has changed, then what is out
  module _ (before new : ReadySeen P) (t : TableSeen P) (os : List board.OrderOut) (is_before : before ≡ with_table ready t)
      (is_new : new ≡ record before { out = tasks_out os }) where
    pub closed_table : new.table ≡ t
    closed_table = ap (λ (r : ReadySeen P). r.table) is_new ∙ ap (λ (r : ReadySeen P). r.table) is_before

    pub closed_ready : new ≡ record { table = new.table; main = b.main; out = tasks_out os }
    closed_ready =
        parts new b.main (tasks_out os) (ap (λ (r : ReadySeen P). r.main) is_new
        ∙ (ap (λ (r : ReadySeen P). r.main) is_before ∙ ap (λ (r : ReadySeen P). r.main) ready_now)) (ap (λ (r : ReadySeen P). r.out) is_new)

  -- after a loss
  module _ (w : ℕ) (u : TableSeen P) (os : List board.OrderOut) (js : List j.Entry) (is_u : u ≡ dropped worker_of w b.table)
      (is_os : os ≡ filter (λ (x : board.OrderOut). not (nat_eq w x.worker)) b.orders)
      (is_js : js ≡ b.journal ++ j.Entry.Lost w b.closes ∷ []) where
    pub room_lost : (count loss : ℕ) → slice_get b.plan.losses loss ≡ Some (count, w) → list_any (nat_eq w) lost ≡ false → (more : List ℕ) → more
        ≡ lost ++ w ∷ [] → HasRoom b.plan.losses more (length js) entries workers
    room_lost count loss planned here more is =
        let f = fewer_losses b.plan.losses lost loss count w planned here in
        let e : losses_left b.plan.losses more ≡ losses_left b.plan.losses (lost ++ w ∷ []) = ap (losses_left b.plan.losses) is in
        let m : length more ≡ length lost + 1 = ap length is ∙ length-append lost (w ∷ []) in
        let k : length js ≡ length b.journal + 1 = ap length is_js ∙ more_written b.journal (j.Entry.Lost w b.closes) in
        let r = room_now.journal in
        let q = room_now.workers in
        record { journal = omega (arith, f, e, k, r); workers = omega (arith, f, e, m, q) }

    pub gone_lost : (more : List ℕ) → more ≡ lost ++ w ∷ [] → u.gone ≡ more
    gone_lost more is =
        ap (λ (z : TableSeen P). z.gone) is_u ∙ (ap (λ gs. gs ++ w ∷ []) gone_now ∙ sym is)

    pub going_lost : Going (dig n) shelves sc (record b { table = u; orders = os; journal = js })
    going_lost =
        let so : record b { table = u; orders = os; journal = js } ≡ lost_at worker_of w b =
        ap (λ z. record b { table = z; orders = os; journal = js }) is_u
        ∙ (ap (λ z. record b { table = dropped worker_of w b.table; orders = z; journal = js }) is_os
        ∙ ap (λ z. record (lost_at worker_of w b) { journal = z }) is_js) in
        let long = more_written b.journal (j.Entry.Lost w b.closes) in
        let counted = going.counted in
        subst (Going (dig n) shelves sc) (sym so)
        (record { safe = loss_safe (dig n) shelves sc (length sc.keys) b going.safe w; counted = omega (arith, long, counted); few = going.few })

  -- the loss that comes next
  module _ (number : ℕ) (due : (w : ℕ) × FirstDue m.board.plan.losses m.board.closes m.board.table.gone number w) (losses : List (ℕ × ℕ))
      (is_losses : losses ≡ b.plan.losses) where
    abbrev the_worker : ℕ
    the_worker = (slice_index_or losses number (0, 0)).1

    due_of : (w : ℕ) → FirstDue m.board.plan.losses m.board.closes m.board.table.gone number w → FirstDue b.plan.losses b.closes b.table.gone number w
    due_of w d =
        subst (λ (z : MasterSeen N). FirstDue z.board.plan.losses z.board.closes z.board.table.gone number w) (sym e) d

    worker_is : (w : ℕ) → FirstDue m.board.plan.losses m.board.closes m.board.table.gone number w → the_worker ≡ w
    worker_is w d =
        let f = due_of w d in
        ap (λ (x : ℕ × ℕ). x.1) (got_or losses number (f.count, w) (0, 0) (ap (λ xs. slice_get xs number) is_losses ∙ f.due.planned))

    pub due_now : FirstDue b.plan.losses b.closes b.table.gone number the_worker
    due_now = subst (FirstDue b.plan.losses b.closes b.table.gone number) (sym (worker_is due.0 due.1)) (due_of due.0 due.1)

    pub planned_now : slice_get b.plan.losses number ≡ Some (due_now.count, the_worker)
    planned_now = due_now.due.planned

    first_now : IsFirstLoss b.plan.losses (record { number = number; worker = the_worker })
    first_now = (due_now.count, planned_now, λ i k p. before i k p (le_or_lt k b.closes))
      where
        before : (i k : ℕ) → slice_get b.plan.losses i ≡ Some (k, the_worker) → (k ≤ b.closes) ⊎ (b.closes < k)
            → (due_now.count < k) ⊎ ((due_now.count ≡ k) × (number ≤ i))
        before i k p (inl reached) = due_now.least i k the_worker (record { planned = p; reached = reached; here = due_now.due.here })
        before i k p (inr later) = let r = due_now.due.reached in inl (omega (arith, later, r))

    pub here_now : list_any (nat_eq the_worker) lost ≡ false
    here_now = subst (λ gs. list_any (nat_eq the_worker) gs ≡ false) gone_now due_now.due.here

    one_left : 0 < losses_left b.plan.losses lost
    one_left =
        let f = fewer_losses b.plan.losses lost number due_now.count the_worker planned_now here_now in omega (arith, f)

    pub place_now : length lost < workers
    place_now = let o = one_left in
        let r = room_now.workers in omega (arith, o, r)

    pub line_now : (es : List Entry) → map entry_view es ≡ b.journal → length es < entries
    line_now es is =
        let o = one_left in
        let r = room_now.journal in
        let k = length-map es entry_view in
        let q : length (map entry_view es) ≡ length b.journal = ap length is in
        omega (arith, o, r, k, q)

    pub of_now : marker.of ≡ shelves.of
    of_now = marked_now.of

    pub shelf_now : the_worker < length shelves.rows
    shelf_now = has_shelf b.plan.losses lost shelves marker marked_now number due_now.count the_worker planned_now

    -- and the state after it
    module _ (u : TableSeen P) (os : List board.OrderOut) (js : List j.Entry) (is_u : u ≡ dropped worker_of the_worker b.table)
        (is_os : os ≡ filter (λ (x : board.OrderOut). not (nat_eq the_worker x.worker)) b.orders)
        (is_js : js ≡ b.journal ++ j.Entry.Lost the_worker b.closes ∷ []) where
      pub lost_stands : (more : List ℕ) → more ≡ lost ++ the_worker ∷ [] → (lines places : ℕ) → lines ≡ entries → places ≡ workers
          → Going (dig n) shelves sc (record b { table = u; orders = os; journal = js }) × (u.gone ≡ more)
          × HasRoom b.plan.losses more (length js) lines places
      lost_stands more is lines places same also =
          let r = room_lost the_worker u os js is_u is_os is_js due_now.count number planned_now here_now more is in (
            going_lost the_worker u os js is_u is_os is_js,
            gone_lost the_worker u os js is_u is_os is_js more is,
            subst (λ k. HasRoom b.plan.losses more (length js) lines k) (sym also)
                (subst (λ k. HasRoom b.plan.losses more (length js) k workers) (sym same) r),
          )

      pub marked_lost : (more : List ℕ) → more ≡ lost ++ the_worker ∷ [] → (seat : SeatSeen) → seat
          ≡ record { of = marker.of; losses = marked marker.losses (record { number = number; worker = the_worker }) }
          → Marked b.plan.losses more shelves seat
      marked_lost more is seat so =
          marked_more b.plan.losses lost shelves marker marked_now (record { number = number; worker = the_worker }) (due_now.count, planned_now)
          first_now here_now more is seat so

      pub lost_so : (w : ℕ) → FirstDue m.board.plan.losses m.board.closes m.board.table.gone number w
          → record { namer = n; shelves = shelves; script = sc; board = record b { table = u; orders = os; journal = js } }
          ≡ record m { board = lost_at worker_of w m.board }
      lost_so w d =
          let so : record b { table = u; orders = os; journal = js } ≡ lost_at worker_of the_worker b =
          ap (λ z. record b { table = z; orders = os; journal = js }) is_u
          ∙ (ap (λ z. record b { table = dropped worker_of the_worker b.table; orders = z; journal = js }) is_os
          ∙ ap (λ z. record (lost_at worker_of the_worker b) { journal = z }) is_js) in
          ap (λ z. record { namer = n; shelves = shelves; script = sc; board = z }) (so ∙ ap (λ z. lost_at worker_of z b) (worker_is w d))
          ∙ ap (λ (z : MasterSeen N). record z { board = lost_at worker_of w z.board }) e

  -- after a report
  module _ (number : ℕ) (spawned : List Named) (copied : List Held) (end : End)
      (fits : (x : Order P) × (find_order number m.board.orders ≡ Some x.out) × FitsUnlessMissing (dig m.namer) m.shelves m.script m.board x spawned copied end)
      (o : board.OrderOut) (found : find_order number b.orders ≡ Some o) (k : N) (is_k : k ≡ n) (ns : List Named) (is_ns : ns ≡ spawned)
      (cs : List Held) (is_cs : cs ≡ copied) (t : TableSeen P) (is_t : t ≡ learned_for (dig k) end ns b.table) where
    fits_now : (x : Order P) × (find_order number b.orders ≡ Some x.out) × FitsUnlessMissing (dig n) shelves sc b x spawned copied end
    fits_now =
        subst (λ (z : MasterSeen N). (x : Order P) × (find_order number z.board.orders ≡ Some x.out)
        × FitsUnlessMissing (dig z.namer) z.shelves z.script z.board x spawned copied end) (sym e) fits

    is_then : t ≡ learned_for (dig n) end spawned b.table
    is_then = is_t ∙ (ap (λ z. learned_for (dig z) end ns b.table) is_k ∙ ap (λ z. learned_for (dig n) end z b.table) is_ns)

    same_order : fits_now.0.out ≡ o
    same_order = some_same fits_now.0.out o (sym fits_now.1 ∙ found)

    module _ (all : LearnedFor (dig k) end ns b.table) where
      all_now : LearnedFor (dig n) end spawned b.table
      all_now = subst (λ ms. LearnedFor (dig n) end ms b.table) is_ns (subst (λ z. LearnedFor (dig z) end ns b.table) is_k all)

      pub learned_so : LearnedFor (dig m.namer) end spawned m.board.table
      learned_so =
          subst (λ (z : MasterSeen N). LearnedFor (dig z.namer) end spawned z.board.table) e all_now

      pub takes_now : CanTake o.task t cs end
      takes_now =
          let x = fits_now.0 in
          let can = can_take (dig n) shelves sc b going.safe.sound x number fits_now.1 spawned copied end fits_now.2 all_now in
          subst (λ (z : board.OrderOut). CanTake z.task t cs end) same_order
          (subst (λ u. CanTake x.out.task u cs end) (sym is_then)
          (subst (λ ds. CanTake x.out.task (learned_for (dig n) end spawned b.table) ds end) (sym is_cs) can))

    module _ (all : LearnedFor (dig k) end ns b.table) (u : TableSeen P) (os : List board.OrderOut) (js : List j.Entry) (last : Bool)
        (is_u : u ≡ table_after o.task (how_view cs end) t) (is_os : os ≡ without o.number b.orders)
        (is_js : js ≡ b.journal ++ entry_for o.number (how_view cs end) ∷ []) (ds : List Held) (is_ds : ds ≡ copied)
        (is_last_so : last ≡ is_last o.task (how_view ds end)) where
      pub gone_after : u.gone ≡ lost
      gone_after =
          ap (λ (z : TableSeen P). z.gone) is_u ∙ (after_gone o.task (how_view cs end) t
          ∙ (ap (λ (z : TableSeen P). z.gone) is_t ∙ (for_gone (dig k) end ns b.table ∙ gone_now)))

      abbrev now : Board P
      now = record b { table = u; orders = os; closes = b.closes + 1; journal = js; stopped = last }

      now_is : now ≡ taken (dig n) shelves sc b going o spawned copied end
      now_is =
          let u_so = is_u ∙ (ap (λ z. table_after o.task (how_view z end) t) is_cs ∙ ap (table_after o.task (how_view copied end)) is_then) in
          let js_so = is_js ∙ ap (λ z. b.journal ++ entry_for o.number (how_view z end) ∷ []) is_cs in
          let last_so = is_last_so ∙ ap (λ z. is_last o.task (how_view z end)) is_ds in
          ap (λ z. record now { table = z }) u_so
          ∙ (ap (λ z. record now { table = table_after o.task (how_view copied end) (learned_for (dig n) end spawned b.table); orders = z }) is_os
          ∙ (ap (λ z. record (taken (dig n) shelves sc b going o spawned copied end) { journal = z; stopped = last }) js_so
          ∙ ap (λ z. record (taken (dig n) shelves sc b going o spawned copied end) { stopped = z }) last_so))

      pub going_accepted : Going (dig n) shelves sc now
      going_accepted =
          subst (Going (dig n) shelves sc) (sym now_is) (subst (λ (z : board.OrderOut). Going (dig n) shelves sc (taken (dig n) shelves sc b going z spawned copied end))
          same_order (taken_going (dig n) shelves sc b going fits_now.0 number fits_now.1 spawned copied end fits_now.2 (all_now all) goes))

      pub accepted_so : (x : board.OrderOut) × (find_order number m.board.orders ≡ Some x)
          × (record { namer = n; shelves = shelves; script = sc; board = now }
          ≡ record m { board = accepted (dig m.namer) worker_of m.board x spawned (how_view copied end) })
      accepted_so =
          let so = now_is ∙ taken_is (dig n) shelves sc b going o spawned copied end goes in (
            o,
            subst (λ (z : MasterSeen N). find_order number z.board.orders ≡ Some o) e found,
            subst (λ (z : MasterSeen N). record { namer = n; shelves = shelves; script = sc; board = now }
                ≡ record z { board = accepted (dig z.namer) worker_of z.board o spawned (how_view copied end) }) e
                (ap (λ z. record { namer = n; shelves = shelves; script = sc; board = z }) so),
          )
