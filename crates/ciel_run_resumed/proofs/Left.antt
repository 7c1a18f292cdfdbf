-- The Starts that a replayed log leaves open are those of the orders that are out.
use Rattle.std.proofs.Common.{◌≡◌, ◌<◌, ◌⊎◌, ◌∙◌, ◌+◌, ◌*◌, ◌%◌, ℕ, zero, suc, List, [], ◌∷◌, ◌++◌, Bool, true, false, cond, not, ◌&&◌, filter, length, map, nat_eq}
use Rattle.std.proofs.Common.{slice_get, slice_set}
use Rattle.std.proofs.Common.{is_some, Option, Some, None, eqb-true, eq-eqb, inl, inr, refl, sym, ap, subst, arith}
use Rattle.std.proofs.lemmas.List.{append-nil, length-map}
use Rattle.std.specs.BTreeMap.{BTreeMap}
use Rattle.std.specs.List.{list_any}
use Rattle.sky_base.specs.Tree.{Script}
use Rattle.sky_base.specs.declared.object.Named.{Named}
use Rattle.sky_base.specs.declared.object.Object.{Object}
use Rattle.sky_base.specs.declared.object.TaskId.{TaskId}
use Rattle.ciel_journal.specs.Entries.{Entry}
use Rattle.ciel_journal.specs.History.{Plan}
use Rattle.ciel_journal.specs.Job.{Digest, In, Task}
use Rattle.ciel_journal.specs.Turns.{draw}
use Rattle.ciel_log_file.specs.Replays.{At, HasReplayed, LosesDue, ReplaysRecords, ReplaysTo, TakesRecord, over, takes}
use Rattle.ciel_log_file.specs.Replays as rs
use Rattle.ciel_log_file.specs.Sending.{CanSend, nobody, sent_to}
use Rattle.ciel_log_replay.specs.Steps.{LostBy, loses, stays, while_out}
use Rattle.ciel_log_report.specs.Comes.{EndsWith, ReportStops, ReportTaken}
use Rattle.ciel_log_read.specs.declared.record.LoggedReport.{LoggedReport}
use Rattle.ciel_master.specs.declared.stop.RunEnd.{RunEnd}
use Rattle.ciel_master.specs.declared.stop.Stop.{Stop}
use Rattle.ciel_master_board.specs.Board as board
use Rattle.ciel_master_board.specs.Board.{Board, OrderOut, find_order, idle_of, task_key, wait_number, workers_out}
use Rattle.ciel_master_board.specs.Moves.{accepted, lost_at, order_for, started, without}
use Rattle.ciel_master_board.specs.Reports.{End, copy_names, made, made_keys, missing, saved}
use Rattle.ciel_master_board.proofs.DueEvents.{got_in}
use Rattle.ciel_master_board.proofs.SoundLemmas.{idle_in, order_in}
use Rattle.ciel_master_law.specs.Ends.{worker_of}
use Rattle.ciel_run_onward.specs.Gates.{LeavesOpen, tasks_at}
use Rattle.ciel_run_onward.specs.Open.{Begun, begun_of, open_behind, open_in, open_with, unclosed}
use Rattle.ciel_run_resumed.proofs.OrdersBy.{at_below, at_in, at_other, at_set, at_worker, begun_out, but_at, filter_more, filter_swap, found}
use Rattle.ciel_run_resumed.proofs.OrdersBy.{found_number, has, idle_has_none, in_at, it_goes, nobody_has, nobody_many, none_at_it}
use Rattle.ciel_run_resumed.proofs.OrdersBy.{other_stays, same_at_others, sent_tasks, set_long, tasks_are, tasks_of}
use Rattle.ciel_store.specs.Seen.{ShelvesSeen}
use Rattle.ciel_table.specs.Seen.{last_wait}
use Rattle.ciel_task_crew.specs.Crews.{order_at}
use Rattle.ciel_task_order.specs.Views.{P, out_view, report_end}
use Rattle.ciel_task_order.specs.declared.order.Order.{Order}
use Rattle.ciel_task_order.specs.declared.report.Report.{Report}

no_both : true ≡ false → ⊥
no_both e = cc

none_some : (x : Order) → None ≡ Some x → ⊥
none_some x e = cc

one_some : (x y : Order) → Some x ≡ Some y → x ≡ y
one_some x y e = cc

-- ---- the journal

open_last : (os : List Begun) (es : List Entry) (e : Entry) → open_behind os (es ++ e ∷ []) ≡ open_with (open_behind os es) e
open_last os [] e = refl
open_last os (x ∷ es) e = open_last (open_with os x) es e

begun_more : (xs ys : List OrderOut) → map begun_out (xs ++ ys) ≡ map begun_out xs ++ map begun_out ys
begun_more [] ys = refl
begun_more (x ∷ xs) ys = ap (λ (os : List Begun). begun_out x ∷ os) (begun_more xs ys)

begun_filter : (p : Begun → Bool) (xs : List OrderOut) → filter p (map begun_out xs) ≡ map begun_out (filter (λ (x : OrderOut). p (begun_out x)) xs)
begun_filter p [] = refl
begun_filter p (x ∷ xs) = pick (p (begun_out x)) (begun_filter p xs)
  where
    pick : (b : Bool) → filter p (map begun_out xs) ≡ map begun_out (filter (λ (y : OrderOut). p (begun_out y)) xs)
        → cond b (begun_out x ∷ filter p (map begun_out xs)) (filter p (map begun_out xs))
        ≡ map begun_out (cond b (x ∷ filter (λ (y : OrderOut). p (begun_out y)) xs) (filter (λ (y : OrderOut). p (begun_out y)) xs))
    pick true h = ap (λ (os : List Begun). begun_out x ∷ os) h
    pick false h = h

-- what is open by the journal is out by the board
abbrev pub IsOpen : Board P → Type 0
IsOpen b = open_in b.journal ≡ map begun_out b.orders

-- ---- what is out by the board is with its worker

pub record Inv (b : Board P) (out : List (Option Order)) : Type 0 where
  opens : IsOpen b
  many : length out ≡ b.plan.workers
  each : (w : ℕ) → at_worker w b.orders ≡ has (order_at out w)
  below : (w : ℕ) (x : Order) → order_at out w ≡ Some x → x.number < b.starts
  apart : (w u : ℕ) (x y : Order) → order_at out w ≡ Some x → order_at out u ≡ Some y → x.number ≡ y.number → w ≡ u

-- ---- a start

none_busy : (gone busy : List ℕ) (w : ℕ) → not (list_any (nat_eq w) gone) && not (list_any (nat_eq w) busy) ≡ true
    → list_any (nat_eq w) busy ≡ false
none_busy gone busy w e = pick (list_any (nat_eq w) gone) (list_any (nat_eq w) busy) e
  where
    pick : (a c : Bool) → not a && not c ≡ true → c ≡ false
    pick true c h = cc
    pick false true h = cc
    pick false false h = refl

module _ (b : Board P) (out : List (Option Order)) (k : Inv b out) (task : TaskId) (w : ℕ) (order : Order) (at : ℕ)
    (idle : slice_get (idle_of b) at ≡ Some w) (view : out_view order ≡ (order_for worker_of b task w).out) where
  abbrev then : List (Option Order)
  then = slice_set out w (Some order)

  abbrev c : Board P
  c = started worker_of b task w

  is_idle : (w < 0 + b.plan.workers) × (not (list_any (nat_eq w) b.table.gone) && not (list_any (nat_eq w) (workers_out b.orders)) ≡ true)
  is_idle = idle_in b.table.gone (workers_out b.orders) 0 b.plan.workers w (got_in (idle_of b) at w idle)

  long : w < length out
  long = let l = is_idle.0 in let m = k.many in omega (arith, l, m)

  was_none : at_worker w b.orders ≡ []
  was_none = idle_has_none w b.orders (none_busy b.table.gone (workers_out b.orders) w is_idle.1)

  number : order.number ≡ b.starts
  number = ap (λ (x : OrderOut). x.number) view

  start_each : (u : ℕ) → at_worker u c.orders ≡ has (order_at then u)
  start_each u = split ∙ pick (nat_eq u w) refl
    where
      split : at_worker u c.orders ≡ at_worker u b.orders ++ cond (nat_eq u w) ((order_for worker_of b task w).out ∷ []) []
      split = filter_more (λ (y : OrderOut). nat_eq u y.worker) b.orders ((order_for worker_of b task w).out ∷ [])

      pick : (z : Bool) → nat_eq u w ≡ z → at_worker u b.orders ++ cond (nat_eq u w) ((order_for worker_of b task w).out ∷ []) []
          ≡ has (order_at then u)
      pick true e =
          let same : u ≡ w = eqb-true u w e in
          ap (λ (z : Bool). at_worker u b.orders ++ cond z ((order_for worker_of b task w).out ∷ []) []) e
          ∙ ap (λ (ys : List OrderOut). ys ++ (order_for worker_of b task w).out ∷ []) (subst (λ (v : ℕ). at_worker v b.orders ≡ []) (sym same) was_none)
          ∙ sym (ap (λ (y : OrderOut). y ∷ []) view)
          ∙ sym (ap has (subst (λ (v : ℕ). order_at then v ≡ Some order) (sym same) (at_set out w (Some order) long)))
      pick false e =
          let d : u ≡ w → ⊥ = (λ s. let bad : true ≡ false = sym (eq-eqb u w s) ∙ e in no_both bad) in
          ap (λ (z : Bool). at_worker u b.orders ++ cond z ((order_for worker_of b task w).out ∷ []) []) e
          ∙ append-nil (at_worker u b.orders) ∙ k.each u ∙ sym (ap has (at_other out w u (Some order) d))

  pub start_inv : Inv c then
  start_inv = record {
    opens = open_last [] b.journal (Entry.Start b.starts w (task_key task) (wait_number (last_wait task b.table)))
        ∙ ap (λ (os : List Begun). os ++ (b.starts, w, task_key task) ∷ []) k.opens ∙ sym (begun_more b.orders ((order_for worker_of b task w).out ∷ []));
    many = set_long out w (Some order) ∙ k.many;
    each = start_each;
    below = λ u x i. below_then u x (nat_eq u w) refl i;
    apart = λ u v x y i j e. apart_then u v x y (nat_eq u w) (nat_eq v w) refl refl i j e;
  }
    where
      old : (u : ℕ) (x : Order) → nat_eq u w ≡ false → order_at then u ≡ Some x → order_at out u ≡ Some x
      old u x n i = sym (at_other out w u (Some order) (λ s. let bad : true ≡ false = sym (eq-eqb u w s) ∙ n in no_both bad)) ∙ i

      new : (u : ℕ) (x : Order) → nat_eq u w ≡ true → order_at then u ≡ Some x → order ≡ x
      new u x n i =
          let there : order_at then u ≡ Some order =
          subst (λ (v : ℕ). order_at then v ≡ Some order) (sym (eqb-true u w n)) (at_set out w (Some order) long) in
          one_some order x (sym there ∙ i)

      below_then : (u : ℕ) (x : Order) (z : Bool) → nat_eq u w ≡ z → order_at then u ≡ Some x → x.number < b.starts + 1
      below_then u x true n i = let q = number in let r = ap (λ (y : Order). y.number) (new u x n i) in omega (arith, q, r)
      below_then u x false n i = let l = k.below u x (old u x n i) in omega (arith, l)

      apart_then : (u v : ℕ) (x y : Order) (z t : Bool) → nat_eq u w ≡ z → nat_eq v w ≡ t → order_at then u ≡ Some x → order_at then v ≡ Some y
          → x.number ≡ y.number → u ≡ v
      apart_then u v x y true true m n i j e = eqb-true u w m ∙ sym (eqb-true v w n)
      apart_then u v x y true false m n i j e =
          let l = k.below v y (old v y n j) in let q = number in let r = ap (λ (o : Order). o.number) (new u x m i) in
          absurd (omega (arith, l, q, r, e))
      apart_then u v x y false true m n i j e =
          let l = k.below u x (old u x m i) in let q = number in let r = ap (λ (o : Order). o.number) (new v y n j) in
          absurd (omega (arith, l, q, r, e))
      apart_then u v x y false false m n i j e = k.apart u v x y (old u x m i) (old v y n j) e

-- ---- a report that closes its order

pub record Closed (b : Board P) (n : ℕ) (c : Board P) : Type 0 where
  entry : Entry
  closes : (os : List Begun) → open_with os entry ≡ unclosed n os
  journal : c.journal ≡ b.journal ++ entry ∷ []
  orders : c.orders ≡ without n b.orders
  plan : c.plan ≡ b.plan
  starts : c.starts ≡ b.starts

closed_by : (digest : List ℕ → List ℕ) (b : Board P) (x : OrderOut) (spawned : List Named) (end : End P)
    → Closed b x.number (accepted digest worker_of b x spawned end)
closed_by digest b x spawned (made ms cs) = record {
  entry = Entry.Done x.number (made_keys ms) (copy_names cs);
  closes = λ os. refl;
  journal = refl;
  orders = refl;
  plan = refl;
  starts = refl;
}
closed_by digest b x spawned (saved s) = record {
  entry = Entry.Saved x.number s.j s.mark;
  closes = λ os. refl;
  journal = refl;
  orders = refl;
  plan = refl;
  starts = refl;
}
closed_by digest b x spawned (missing name loss) = record {
  entry = Entry.Missed x.number name loss;
  closes = λ os. refl;
  journal = refl;
  orders = refl;
  plan = refl;
  starts = refl;
}

module _ (b : Board P) (out : List (Option Order)) (k : Inv b out) (w : ℕ) (order : Order) (there : order_at out w ≡ Some order) (c : Board P)
    (d : Closed b order.number c) where
  abbrev n : ℕ
  n = order.number

  closed_opens : IsOpen c
  closed_opens =
      ap open_in d.journal ∙ open_last [] b.journal d.entry ∙ d.closes (open_in b.journal)
      ∙ ap (unclosed n) k.opens ∙ begun_filter (λ (o : Begun). not (nat_eq n o.0)) b.orders ∙ sym (ap (map begun_out) d.orders)

  closed_each : (u : ℕ) → at_worker u c.orders ≡ has (order_at (slice_set out w None) u)
  closed_each u =
      ap (at_worker u) d.orders
      ∙ filter_swap (λ (x : OrderOut). nat_eq u x.worker) (λ (x : OrderOut). not (nat_eq n x.number)) b.orders
      ∙ ap (without n) (k.each u) ∙ pick (nat_eq u w) refl
    where
      pick : (z : Bool) → nat_eq u w ≡ z → without n (has (order_at out u)) ≡ has (order_at (slice_set out w None) u)
      pick true e =
          let same : u ≡ w = eqb-true u w e in
          ap (λ (o : Option Order). without n (has o)) (subst (λ (v : ℕ). order_at out v ≡ Some order) (sym same) there)
          ∙ it_goes n order refl
          ∙ sym (ap has (subst (λ (v : ℕ). order_at (slice_set out w None) v ≡ None) (sym same) (at_set out w None (at_below out w order there))))
      pick false e =
          let no : u ≡ w → ⊥ = (λ s. let bad : true ≡ false = sym (eq-eqb u w s) ∙ e in no_both bad) in
          other_stays n (order_at out u) (λ y i s. no (k.apart u w y order i there s))
          ∙ sym (ap has (at_other out w u None no))

  was : (u : ℕ) (x : Order) → order_at (slice_set out w None) u ≡ Some x → order_at out u ≡ Some x
  was u x i = pick (nat_eq u w) refl
    where
      pick : (z : Bool) → nat_eq u w ≡ z → order_at out u ≡ Some x
      pick true e =
          let same : u ≡ w = eqb-true u w e in
          let gone : order_at (slice_set out w None) u ≡ None =
          subst (λ (v : ℕ). order_at (slice_set out w None) v ≡ None) (sym same) (at_set out w None (at_below out w order there)) in
          absurd (none_some x (sym gone ∙ i))
      pick false e = sym (at_other out w u None (λ s. let bad : true ≡ false = sym (eq-eqb u w s) ∙ e in no_both bad)) ∙ i

  pub closed_inv : Inv c (slice_set out w None)
  closed_inv = record {
    opens = closed_opens;
    many = set_long out w None ∙ k.many ∙ sym (ap (λ (p : Plan). p.workers) d.plan);
    each = closed_each;
    below = λ u x i. subst (λ (m : ℕ). x.number < m) (sym d.starts) (k.below u x (was u x i));
    apart = λ u v x y i j e. k.apart u v x y (was u x i) (was v y j) e;
  }

-- ---- losses

pub record Fewer (b c : Board P) : Type 0 where
  opens : IsOpen b → IsOpen c
  plan : c.plan ≡ b.plan
  starts : c.starts ≡ b.starts
  each : (w : ℕ) → (at_worker w c.orders ≡ at_worker w b.orders) ⊎ (at_worker w c.orders ≡ [])

fewer : {b c : Board P} {es : List Entry} → LostBy b es c → Fewer b c
fewer stays = record { opens = λ o. o; plan = refl; starts = refl; each = λ w. inl refl }
fewer {b = b} (loses {c = a} loss w l due) = with_loss (fewer l)
  where
    pick : (u : ℕ) (z : Bool) → nat_eq u w ≡ z → (at_worker u a.orders ≡ at_worker u b.orders) ⊎ (at_worker u a.orders ≡ [])
        → (at_worker u (but_at w a.orders) ≡ at_worker u b.orders) ⊎ (at_worker u (but_at w a.orders) ≡ [])
    pick u true e h = inr (subst (λ (v : ℕ). at_worker v (but_at w a.orders) ≡ []) (sym (eqb-true u w e)) (none_at_it w a.orders))
    pick u false e (inl h) = inl (same_at_others w u (λ s. let bad : true ≡ false = sym (eq-eqb u w s) ∙ e in no_both bad) a.orders ∙ h)
    pick u false e (inr h) = inr (same_at_others w u (λ s. let bad : true ≡ false = sym (eq-eqb u w s) ∙ e in no_both bad) a.orders ∙ h)

    with_loss : Fewer b a → Fewer b (lost_at worker_of w a)
    with_loss f = record {
      opens = λ o. open_last [] a.journal (Entry.Lost w a.closes) ∙ ap (filter (λ (x : Begun). not (nat_eq w x.1))) (f.opens o)
          ∙ begun_filter (λ (x : Begun). not (nat_eq w x.1)) a.orders;
      plan = f.plan;
      starts = f.starts;
      each = λ u. pick u (nat_eq u w) refl (f.each u);
    }

at_map : (f : Option Order → Option Order) → f None ≡ None → (out : List (Option Order)) (w : ℕ) → order_at (map f out) w ≡ f (order_at out w)
at_map f z [] w = sym z
at_map f z (o ∷ os) zero = refl
at_map f z (o ∷ os) (suc w) = at_map f z os w

module _ (b c : Board P) (out : List (Option Order)) (k : Inv b out) (f : Fewer b c) where
  abbrev kept : List (Option Order)
  kept = map (while_out c) out

  at_kept : (u : ℕ) → order_at kept u ≡ while_out c (order_at out u)
  at_kept u = at_map (while_out c) refl out u

  -- one whose number is found has its worker's orders still
  still : (w : ℕ) (x : Order) → order_at out w ≡ Some x → at_worker w c.orders ≡ [] → (o : Option OrderOut) → find_order x.number c.orders ≡ o
      → is_some o ≡ false
  still w x i gone None e = refl
  still w x i gone (Some y) e =
      let inside : In y c.orders = order_in x.number c.orders y e in
      let mine : In y (at_worker y.worker c.orders) = in_at y.worker y c.orders inside refl in
      absurd (pick mine (f.each y.worker) (order_at out y.worker) refl)
    where
      pick : In y (at_worker y.worker c.orders)
          → (at_worker y.worker c.orders ≡ at_worker y.worker b.orders) ⊎ (at_worker y.worker c.orders ≡ [])
          → (o : Option Order) → order_at out y.worker ≡ o → ⊥
      pick m (inr none) o q = subst (In y) none m
      pick m (inl same) None q = subst (In y) (same ∙ k.each y.worker ∙ ap has q) m
      pick m (inl same) (Some z) q =
          let is : (y ≡ out_view z) ⊎ ⊥ = subst (In y) (same ∙ k.each y.worker ∙ ap has q) m in
          let number : z.number ≡ x.number = number_of is ∙ found_number x.number c.orders y e in
          let worker : y.worker ≡ w = k.apart y.worker w z x q i number in
          subst (In y) (ap (λ (v : ℕ). at_worker v c.orders) worker ∙ gone) m
        where
          number_of : (y ≡ out_view z) ⊎ ⊥ → z.number ≡ y.number
          number_of (inl s) = sym (ap (λ (v : OrderOut). v.number) s)
          number_of (inr n) = absurd n

  kept_each : (w : ℕ) → at_worker w c.orders ≡ has (order_at kept w)
  kept_each w = pick (order_at out w) refl (f.each w) ∙ sym (ap has (at_kept w))
    where
      pick : (o : Option Order) → order_at out w ≡ o → (at_worker w c.orders ≡ at_worker w b.orders) ⊎ (at_worker w c.orders ≡ [])
          → at_worker w c.orders ≡ has (while_out c (order_at out w))
      pick None i (inl same) = same ∙ k.each w ∙ ap has i ∙ sym (ap (λ (o : Option Order). has (while_out c o)) i)
      pick None i (inr none) = none ∙ sym (ap (λ (o : Option Order). has (while_out c o)) i)
      pick (Some x) i (inl same) =
          let are : at_worker w c.orders ≡ out_view x ∷ [] = same ∙ k.each w ∙ ap has i in
          let inside : In (out_view x) c.orders = at_in w (out_view x) c.orders (subst (In (out_view x)) (sym are) (inl refl)) in
          are ∙ sym (ap (λ (z : Bool). has (cond z (Some x) None)) (found c.orders (out_view x) inside))
          ∙ sym (ap (λ (o : Option Order). has (while_out c o)) i)
      pick (Some x) i (inr none) =
          none ∙ sym (ap (λ (z : Bool). has (cond z (Some x) None)) (still w x i none (find_order x.number c.orders) refl))
          ∙ sym (ap (λ (o : Option Order). has (while_out c o)) i)

  was_there : (w : ℕ) (x : Order) → order_at kept w ≡ Some x → order_at out w ≡ Some x
  was_there w x i = pick (order_at out w) (sym (at_kept w) ∙ i)
    where
      pick : (o : Option Order) → while_out c o ≡ Some x → o ≡ Some x
      pick None e = absurd (none_some x e)
      pick (Some y) e = turn (is_some (find_order y.number c.orders)) e
        where
          turn : (z : Bool) → cond z (Some y) None ≡ Some x → Some y ≡ Some x
          turn true h = h
          turn false h = absurd (none_some x h)

  pub lost_inv : Inv c kept
  lost_inv = record {
    opens = f.opens k.opens;
    many = length-map out (while_out c) ∙ k.many ∙ sym (ap (λ (p : Plan). p.workers) f.plan);
    each = kept_each;
    below = λ w x i. subst (λ (m : ℕ). x.number < m) (sym f.starts) (k.below w x (was_there w x i));
    apart = λ w u x y i j e. k.apart w u x y (was_there w x i) (was_there u y j) e;
  }

-- ---- the records of a log

module _ (digest : List ℕ → List ℕ) (shelves : ShelvesSeen) (sc : Script) where
  abbrev InvAt : At → Type 0
  InvAt a = Inv a.board a.out

  due_inv : (a b : At) → LosesDue a b → InvAt a → InvAt b
  due_inv a b l k =
      subst (λ (out : List (Option Order)). Inv b.board out) (sym l.listed)
      (lost_inv a.board b.board a.out k (fewer l.lost))

  taken_inv : (b : At) (logged : LoggedReport) (c : Board P) (then : List (Option Order)) (keeps : BTreeMap Digest Object) (r : Report)
      → ReportTaken digest shelves sc b.board b.out b.kept logged c then keeps r → InvAt b → Inv c then
  taken_inv b logged c then keeps r t k =
      subst (λ (x : Board P × List (Option Order)). Inv x.0 x.1) (λ i. (sym t.board i, sym t.listed i))
      (closed_inv b.board b.out k t.worker t.order t.is.there (accepted digest worker_of b.board (out_view t.order) r.spawned.items (report_end r))
      (closed_by digest b.board (out_view t.order) r.spawned.items (report_end r)))

  takes_inv : (b c : At) (bytes : List ℕ) → TakesRecord digest shelves sc b bytes c → InvAt b → InvAt c
  takes_inv b c bytes (rs.starts number worker from task data_of is next begun same) k =
      subst (λ (x : Board P × List (Option Order)). Inv x.0 x.1) (λ i. (sym begun.board i, sym begun.listed i))
      (start_inv b.board b.out k task worker begun.order (draw b.board.plan.seed (2 * b.board.starts + 1) % length (idle_of b.board)) next.picked.worker
      (ap (λ (o : board.Order P). o.out) begun.view))
  takes_inv b c bytes (rs.reports logged data_of is r goes t) k = taken_inv b logged c.board c.out c.kept r t k
  takes_inv b c bytes (rs.passes logged data_of is none) k = k
  takes_inv b c bytes (rs.drops number data_of is none) k = k

  replays_inv : (a c : At) (records : List (List ℕ)) → ReplaysRecords digest shelves sc a records c → InvAt a → InvAt c
  replays_inv a c [] over k = k
  replays_inv a c (x ∷ xs) (takes {c = b} t more) k =
      replays_inv b c xs more (takes_inv t.0 b x t.2 (due_inv a t.0 t.1 k))

  -- what the gates need: the tasks that are open by the journal are those of the orders that workers have
  abbrev OpenAt : List Entry → List (Option Order) → Type 0
  OpenAt J out = (w : ℕ) → tasks_at w (open_in J) ≡ tasks_of (has (order_at out w))

  inv_open : (b : Board P) (out : List (Option Order)) → Inv b out → OpenAt b.journal out
  inv_open b out k w = ap (tasks_at w) k.opens ∙ tasks_are w b.orders ∙ ap tasks_of (k.each w)

  stops_open : (b : At) (logged : LoggedReport) (c : Board P) (then : List (Option Order)) (why : Stop)
      → ReportStops digest shelves sc b.board b.out b.kept logged c then why → InvAt b → OpenAt c.journal then
  stops_open b logged c then why s k =
      subst (λ (x : List Entry × List (Option Order)). OpenAt x.0 x.1) (λ i. (sym s.journal i, sym s.listed i)) (inv_open b.board b.out k)

  ends_open : (b : At) (logged : LoggedReport) (end : RunEnd) (c : Board P) (then : List (Option Order)) (keeps : BTreeMap Digest Object)
      → EndsWith digest shelves sc b.board b.out b.kept logged end c then keeps → InvAt b → OpenAt c.journal then
  ends_open b logged (RunEnd.Answer text) c then keeps e k = inv_open c then (taken_inv b logged c then keeps e.0 e.1 k)
  ends_open b logged (RunEnd.Fault fault) c then keeps e k = inv_open c then (taken_inv b logged c then keeps e.0 e.1 k)
  ends_open b logged (RunEnd.NameClash clash given) c then keeps e k = stops_open b logged c then (Stop.NameClash clash given) e k
  ends_open b logged (RunEnd.TooMany held given) c then keeps e k = stops_open b logged c then (Stop.TooMany held given) e k
  ends_open b logged (RunEnd.Endless names) c then keeps e k = absurd e
  ends_open b logged RunEnd.AllLost c then keeps e k = absurd e
  ends_open b logged RunEnd.Memory c then keeps e k = absurd e

  to_open : (a c : At) (records : List (List ℕ)) (end : Option RunEnd) → ReplaysTo digest shelves sc a records end c → InvAt a
      → OpenAt c.board.journal c.out
  to_open a c records None r k = inv_open c.board c.out (replays_inv a c records r k)
  to_open a c records (Some end) r k =
      let last = r.5 in
      ends_open last.0 last.2.logged end c.board c.out c.kept last.2.ends (due_inv r.3 last.0 last.1 (replays_inv a r.3 r.0 r.4 k))

  -- of a log that was replayed from where nothing was started: the orders that are to be sent are those that the journal leaves open
  pub left_open : (log header : List ℕ) (whole : ℕ) (end : Option RunEnd) (b c : Board P) (orders : List Order) → b.journal ≡ [] → b.orders ≡ []
      → CanSend (nobody b.plan.workers) orders
      → HasReplayed digest shelves sc log header whole end b (nobody b.plan.workers) c (sent_to (nobody b.plan.workers) orders)
      → LeavesOpen c.journal orders
  left_open log header whole end b c orders no_journal no_orders can r w =
      let first : Inv b (nobody b.plan.workers) = nothing b no_journal no_orders in
      let all : OpenAt c.journal (sent_to (nobody b.plan.workers) orders) = to_open _ _ r.records end r.replays first in
      let sent = sent_tasks (nobody b.plan.workers) orders can w in
      let none : tasks_of (has (order_at (nobody b.plan.workers) w)) ≡ [] =
      ap (λ (o : Option Order). tasks_of (has o)) (nobody_has b.plan.workers w) in
      sym (all w ∙ sent ∙ ap (λ (ts : List (Task Digest)). ts ++ tasks_at w (map begun_of orders)) none)
    where
      nothing : (b : Board P) → b.journal ≡ [] → b.orders ≡ [] → Inv b (nobody b.plan.workers)
      nothing b j o = record {
        opens = ap open_in j ∙ sym (ap (map begun_out) o);
        many = nobody_many b.plan.workers;
        each = λ u. ap (at_worker u) o ∙ sym (ap has (nobody_has b.plan.workers u));
        below = λ u x i. absurd (none_some x (sym (nobody_has b.plan.workers u) ∙ i));
        apart = λ u v x y i j e. absurd (none_some x (sym (nobody_has b.plan.workers u) ∙ i));
      }

  -- the same of each log that was replayed, also where its header is cut and nothing was
  pub left_after : (log header : List ℕ) (whole : ℕ) (end : Option RunEnd) (b c : Board P) (orders : List Order) → b.journal ≡ [] → b.orders ≡ []
      → CanSend (nobody b.plan.workers) orders → (whole ≡ 0 → c ≡ b) → (whole ≡ 0 → orders ≡ [])
      → (0 < whole → HasReplayed digest shelves sc log header whole end b (nobody b.plan.workers) c (sent_to (nobody b.plan.workers) orders))
      → LeavesOpen c.journal orders
  left_after log header zero end b c orders no_journal no_orders can same none replayed = λ w.
      let nothing : c.journal ≡ [] = ap (λ (x : Board P). x.journal) (same refl) ∙ no_journal in
      ap (λ (os : List Order). tasks_at w (map begun_of os)) (none refl) ∙ sym (ap (λ (es : List Entry). tasks_at w (open_in es)) nothing)
  left_after log header (suc n) end b c orders no_journal no_orders can same none replayed =
      left_open log header (suc n) end b c orders no_journal no_orders can (replayed (omega arith))
