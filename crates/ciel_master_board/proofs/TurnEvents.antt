-- The turns, as events of the run's history.
use Rattle.std.proofs.Common.{◌≡◌, ℕ, ◌+◌, ◌<◌, List, [], ◌∷◌, ◌++◌, false, not, nat_eq}
use Rattle.std.proofs.Common.{slice_set, Option, Some, None, ◌⊎◌, inl, inr, refl, ap, sym, ◌∙◌, subst, arith}
use Rattle.sky_base.specs.declared.object.Named.{Named}
use Rattle.sky_base.specs.declared.object.TaskId.{TaskId}
use Rattle.ciel_journal.specs.Graph.{Runnable}
use Rattle.ciel_journal.specs.History as hist
use Rattle.ciel_journal.specs.History.{Event, OpenStart, Plan, Standing, after, before_all, closed, find_open, order_of, standing}
use Rattle.ciel_journal.specs.Job.{Digest, Ends, In, Task, of, show}
use Rattle.ciel_journal.specs.Laws.{ShowDone}
use Rattle.ciel_journal.specs.Lawful.{DoneAllowed, Lawful}
use Rattle.ciel_journal.specs.Turns.{FirstDue}
use Rattle.ciel_journal.proofs.Append.{after_append, lawful_split}
use Rattle.ciel_journal.proofs.BookKnown.{OrderKnown, live_carried}
use Rattle.ciel_journal.proofs.Good.{after_done, after_missed, after_saved}
use Rattle.ciel_journal.proofs.Members.{each_of}
use Rattle.ciel_journal.proofs.Numbers.{found_in, in_filter, in_last, last_in}
use Rattle.ciel_journal.proofs.Unique.{names_determine, same_found}
use Rattle.ciel_journal_job.specs.Report as r
use Rattle.ciel_journal_job.specs.Report.{First, FirstApart, brought, held_then}
use Rattle.ciel_table.specs.Seen.{last_wait}
use Rattle.ciel_want.specs.History.{task_id}
use Rattle.ciel_master_board.specs.Board.{Board, Order, board_graph, find_order, idle_of, wait_number}
use Rattle.ciel_master_board.specs.Driving.{Picked, RestsNow, Runs, RunsOn}
use Rattle.ciel_master_board.specs.Follows.{Follows, OrderIs, OutIs}
use Rattle.ciel_master_board.specs.Laws.{AcceptedAs, LiesUnlessClash, StartedAs, Taken}
use Rattle.ciel_master_board.specs.Moves.{accepted, lost_at, missed_at, opened, order_for, started}
use Rattle.ciel_master_board.specs.Reports as rep
use Rattle.ciel_master_board.specs.Reports.{AllLearned, Copy, End, IsNamed, named_view, report_view}
use Rattle.ciel_master_board.specs.Setting.{IsSetting, Setting}
use Rattle.ciel_master_board.specs.Sound.{MissingFits, OrderSound, Sound}
use Rattle.ciel_master_board.proofs.EventsFollowed.{IsDone, lost_follows, open_pair, read_done}
use Rattle.ciel_master_board.proofs.DueEvents.{loss_runs, missed_runs, report_runs, start_runs}
use Rattle.ciel_master_board.proofs.FollowsLemmas.{apart, informed, start_follows}
use Rattle.ciel_master_board.proofs.MissesFollowed.{missed_follows}
use Rattle.ciel_master_board.proofs.InitialState.{opened_follows}
use Rattle.ciel_master_board.proofs.Pairs.{partner}
use Rattle.ciel_master_board.proofs.SoundLemmas.{started_sound}
use Rattle.ciel_master_board.proofs.ReportsFollowed.{report_follows}
use Rattle.ciel_master_board.specs.Handed.{Handed, OneEventMore, OrdersOf}
use Rattle.ciel_master_board.specs.TurnsLaws.{IsMissing, IsOut, Promised, RunEnded, StartTurned}
use Rattle.ciel_master_board.specs.Left.{Has, Slots}
use Rattle.ciel_master_board.proofs.HandedLemmas.{fewer_orders, more_orders, open_of, orders_of}
use Rattle.ciel_master_board.proofs.StartChoices.{picked_can_start}

abbrev number_in : {B : Type 0} → Option (r.Report B) → ℕ
number_in None = 0
number_in (Some x) = x.number

module _ {D P B : Type 0} (s : Setting D P B) (is : IsSetting s) (h : List (Event D)) (b : Board P) (sound : Sound s.digest s.at b)
    (f : Follows s h b) (o : OpenStart D) (i : In o (standing s.job h).orders) where
  known : OrderKnown s.job is.laws s.inner is.knows (standing s.job h).book o
  known = (informed s is h b sound f).orders o i

  -- what an order brings along, and holds, is in the book
  first_booked : (d : D) → First s.job s.inner o d → In d (standing s.job h).book
  first_booked d (held_then x) =
      each_of (λ e. In e (standing s.job h).book) d x.1.names x.3
      (is.knows.holds_told (standing s.job h).book o.task o.from known.here.0 x.1 known.told known.here.1 (x.0, x.2))
  first_booked d (brought e n g j) =
      live_carried s.job is.laws s.inner is.knows (standing s.job h).book o known e g.1 n d j

  pub open_apart : FirstApart s.job s.inner o
  open_apart d e x y n = apart s is h b sound f d e (first_booked d x) (first_booked e y) n

pub promised_taken : {D P B : Type 0} (s : Setting D P B) (h : List (Event D)) (b : Board P) (x : Order P) (out : IsOut s h b x)
    (spawned : List Named) (end : End P) → Promised s h b x spawned end → Taken s h b x out.start x.out.number spawned end
promised_taken s h b x out spawned end p =
    record { is_out = out.found; is_open = out.is_open; fits = p.fits; says = p.says out.start out.order out.apart }

module _ {D P B : Type 0} (s : Setting D P B) (is : IsSetting s) where
  -- ---- the beginning

  pub opened_runs : (p : Plan) (main : Named) → IsNamed s.digest main → s.lower s.job.main ≡ named_view main
      → Runs s [] (opened s.digest p s.keys main)
  opened_runs p main named lower = record { follows = opened_follows s is p main named lower; driven = tt }

  module _ (h : List (Event D)) (b : Board P) (going : b.stopped ≡ false) (sound : Sound s.digest s.at b) (runs : Runs s h b) where
    abbrev v : Standing D
    v = standing s.job h

    abbrev f : Follows s h b
    f = runs.follows

    after_is : (e : Event D) → standing s.job (h ++ e ∷ []) ≡ after s.job v e
    after_is e = after_append s.job (before_all s.job) h e

    -- the journal tells the event
    same_runs : (e : Event D) (c : Board P) → Follows s (h ++ e ∷ []) c → RunsOn s h c → Runs s (h ++ e ∷ []) c
    same_runs e c k q =
        subst (λ g. Runs s g c) (names_determine s.job is.laws c.plan c.plan (h ++ q.event ∷ []) (h ++ e ∷ []) q.runs.follows.lawful k.lawful
        (sym q.runs.follows.journal ∙ k.journal)) q.runs

    below : (o : OpenStart D) → In o v.orders → o.number < b.starts
    below o i =
        let y = partner (OutIs s) v.orders b.orders f.stands.orders o i in
        let k = each_of (OrderSound b) y.0 b.orders y.1 sound.orders in
        let n = k.number in
        let e = y.2.number in
        omega (arith, n, e)

    -- ---- a loss

    pub loss_turns : (slots : Slots P) → OrdersOf s h slots → (loss w : ℕ) → FirstDue b.plan.losses b.closes b.table.gone loss w
        → OneEventMore s h (lost_at s.at w b) slots
    loss_turns slots a loss w due =
        let k = lost_follows s is h b sound f going w loss due.count due.due.here due.due.planned due.due.reached in
        record {
          event = hist.lost w b.closes;
          runs = same_runs (hist.lost w b.closes) (lost_at s.at w b) k (loss_runs s is h b sound runs going w loss due);
          orders = orders_of s h (h ++ hist.lost w b.closes ∷ []) slots a
              (λ o i. in_filter (λ (q : OpenStart D). not (nat_eq w q.worker)) o v.orders
              (subst (λ (u : Standing D). In o u.orders) (after_is (hist.lost w b.closes)) i));
        }

    -- ---- what is out

    pub out_is_open : (slots : Slots P) → OrdersOf s h slots → (w : ℕ) (x : Order P) → Has slots w x
        → find_order x.out.number b.orders ≡ Some x.out → IsOut s h b x
    out_is_open slots a w x i e =
        let q = open_of s x.out.number v.orders b.orders f.stands.orders x.out e in
        let j = found_in s.job is.laws x.out.number v.orders q.0 q.1 in
        record { found = e; start = q.0; is_open = q.1; order = a w x q.0 i j.0 (sym j.1); apart = open_apart s is h b sound f q.0 j.0 }

    -- ---- a start

    module _ (slots : Slots P) (handed : Handed b slots) (a : OrdersOf s h slots) (x : TaskId) (w : ℕ) (p : Picked b x w) where
      can : Runnable (board_graph b) x × In w (idle_of b)
      can = picked_can_start b x w p

      k : StartedAs s h b x w
      k = start_follows s is h b sound f going x w can.0 can.1

      abbrev e : Event D
      e = hist.start b.starts w k.task (wait_number (last_wait x b.table))

      abbrev o : OpenStart D
      o = order_of s.job v b.starts w k.task (wait_number (last_wait x b.table))

      abbrev new : Order P
      new = order_for s.at b x w

      then_runs : Runs s (h ++ e ∷ []) (started s.at b x w)
      then_runs = same_runs e (started s.at b x w) k.follows (start_runs s is h b sound runs going x w p)

      opens : (q : OpenStart D) → In q (standing s.job (h ++ e ∷ [])).orders → In q v.orders ⊎ ((q.number ≡ b.starts) × OrderIs s q new)
      opens q i = pick (in_last q v.orders o (subst (λ (u : Standing D). In q u.orders) (after_is e) i))
        where
          pick : (In q v.orders ⊎ (q ≡ o)) → In q v.orders ⊎ ((q.number ≡ b.starts) × OrderIs s q new)
          pick (inl j) = inl j
          pick (inr z) = inr (ap (λ (y : OpenStart D). y.number) z, subst (λ y. OrderIs s y new) (sym z) k.order)

      pub start_turns : StartTurned s h b slots x w
      start_turns =
          record {
            start = o;
            order = k.order;
            apart = open_apart s is (h ++ e ∷ []) (started s.at b x w) (started_sound s.digest s.at b sound x w can.0 can.1)
                then_runs.follows o (subst (λ (u : Standing D). In o u.orders) (sym (after_is e)) (last_in v.orders o));
            more = record { event = e; runs = then_runs; orders = more_orders s h (h ++ e ∷ []) b slots handed a x w can.1 below opens };
          }

    -- ---- an order that comes back

    module _ (x : Order P) (out : IsOut s h b x) where
      -- with an entry that closes the order, and the slot of it free
      fewer : (slots : Slots P) → OrdersOf s h slots → (w : ℕ) (e : Event D) → (after s.job v e).orders ≡ (closed s.job v x.out.number).orders
          → OrdersOf s (h ++ e ∷ []) (slice_set slots w None)
      fewer slots a w e k =
          fewer_orders s h (h ++ e ∷ []) slots a
          (λ o j. in_filter (λ (q : OpenStart D). not (nat_eq x.out.number q.number)) o v.orders
          (subst (In o) k (subst (λ (u : Standing D). In o u.orders) (after_is e) j))) w

      -- ---- something is missing

      pub missed_turns : RestsNow b → (slots : Slots P) → OrdersOf s h slots → (w : ℕ) (name : Digest) (loss : ℕ)
          → MissingFits s.digest s.at b x name loss → OneEventMore s h (missed_at s.digest b x.out name loss) (slice_set slots w None)
      missed_turns rest slots a w name loss m =
          let k = missed_follows s is h b sound f x out.start x.out.number out.found out.is_open out.order going name loss m in
          record {
            event = hist.missed x.out.number k.what loss;
            runs = same_runs (hist.missed x.out.number k.what loss) (missed_at s.digest b x.out name loss) k.follows
                (missed_runs s is h b sound runs going rest x out.start x.out.number out.found out.is_open out.order name loss m);
            orders = fewer slots a w (hist.missed x.out.number k.what loss)
                (ap (λ (u : Standing D). u.orders) (after_missed s.job is.laws v x.out.number k.what loss out.start out.is_open));
          }

      -- ---- a report

      module _ (rest : RestsNow b) (spawned : List Named) (end : End P) (p : Promised s h b x spawned end)
          (all : AllLearned s.digest spawned b.table) (none : r.IsMissing (report_view x.out.number spawned end).end → ⊥) where
        is_taken : Taken s h b x out.start x.out.number spawned end
        is_taken = promised_taken s h b x out spawned end p

        lies : LiesUnlessClash s h b.plan out.start x.out.number spawned end
        lies = p.lies out.start out.is_open out.order

        accepted_as : AcceptedAs s h b x.out x.out.number spawned end
        accepted_as =
            report_follows s is h b sound f x out.start x.out.number spawned end is_taken going all none lies

        accepted_runs : Runs s (h ++ accepted_as.event ∷ []) (accepted s.digest s.at b x.out spawned end)
        accepted_runs =
            same_runs accepted_as.event (accepted s.digest s.at b x.out spawned end) accepted_as.follows
            (report_runs s is h b sound runs going rest x out.start x.out.number spawned end is_taken none all lies)

        close_told : (e : Event D) → r.report_of s.job s.inner s.lower e ≡ Some (report_view x.out.number spawned end)
            → (after s.job v e).orders ≡ (closed s.job v x.out.number).orders
        close_told (hist.start k u t from) q = cc
        close_told (hist.lost u n) q = cc
        close_told (hist.done k ms cs sp) q =
            let n : k ≡ x.out.number = ap number_in q in
            subst (λ z. (after s.job v (hist.done z ms cs sp)).orders ≡ (closed s.job v x.out.number).orders) (sym n)
            (ap (λ (u : Standing D). u.orders) (after_done s.job is.laws v x.out.number ms cs sp out.start out.is_open))
        close_told (hist.saved k j m rs hs sp) q =
            let n : k ≡ x.out.number = ap number_in q in
            subst (λ z. (after s.job v (hist.saved z j m rs hs sp)).orders ≡ (closed s.job v x.out.number).orders) (sym n)
            (ap (λ (u : Standing D). u.orders) (after_saved s.job is.laws v x.out.number j m rs hs sp out.start out.is_open))
        close_told (hist.missed k d n) q =
            let e : k ≡ x.out.number = ap number_in q in
            subst (λ z. (after s.job v (hist.missed z d n)).orders ≡ (closed s.job v x.out.number).orders) (sym e)
            (ap (λ (u : Standing D). u.orders) (after_missed s.job is.laws v x.out.number d n out.start out.is_open))

        accepted_more : (slots : Slots P) → OrdersOf s h slots → (w : ℕ)
            → OneEventMore s h (accepted s.digest s.at b x.out spawned end) (slice_set slots w None)
        accepted_more slots a w =
            record {
              event = accepted_as.event;
              runs = accepted_runs;
              orders = fewer slots a w accepted_as.event (close_told accepted_as.event accepted_as.tells);
            }

      pub report_turns : RestsNow b → (slots : Slots P) → OrdersOf s h slots → (w : ℕ) (spawned : List Named) (end : End P)
          → Promised s h b x spawned end → (IsMissing end → ⊥) → AllLearned s.digest spawned b.table
          → OneEventMore s h (accepted s.digest s.at b x.out spawned end) (slice_set slots w None)
      report_turns rest slots a w spawned (rep.missing name loss) p none all = absurd (none tt)
      report_turns rest slots a w spawned (rep.saved q) p none all =
          accepted_more rest spawned (rep.saved q) p all (λ z. z) slots a w
      report_turns rest slots a w spawned (rep.made ms cs) p none all =
          accepted_more rest spawned (rep.made ms cs) p all (λ z. z) slots a w

      -- ---- the end of the root task

      pub shown_ends : RestsNow b → x.out.task ≡ TaskId.Show → (spawned : List Named) (cs : List (Copy P))
          → Promised s h b x spawned (rep.made [] cs) → AllLearned s.digest spawned b.table
          → RunEnded s h x spawned (rep.made [] cs) (accepted s.digest s.at b x.out spawned (rep.made [] cs))
      shown_ends rest root spawned cs p all =
          record {
            event = got.event;
            tells = got.tells;
            runs = accepted_runs rest spawned (rep.made [] cs) p all (λ z. z);
            done = ends done_is;
            ends = subst (Ends s.job) (ap (λ (o : OpenStart D). o.task)
                (same_found s.job is.laws v x.out.number allowed.0 out.start allowed.1 out.is_open) ∙ is_show) allowed.2.next.ends;
          }
        where
          got : AcceptedAs s h b x.out x.out.number spawned (rep.made [] cs)
          got = accepted_as rest spawned (rep.made [] cs) p all (λ z. z)

          done_is : IsDone s x.out.number [] cs got.event
          done_is = read_done s x.out.number spawned [] cs got.event got.tells

          is_show : out.start.task ≡ show
          is_show =
              let o = open_pair s x.out.number v.orders b.orders f.stands.orders out.start x.out out.is_open out.found in
              root_task out.start.task (sym root ∙ o.task)
            where
              root_task : (t : Task D) → TaskId.Show ≡ task_id s.job t → t ≡ show
              root_task show e = refl
              root_task (of d) e = cc

          ends : IsDone s x.out.number [] cs got.event → ShowDone s.job (h ++ got.event ∷ [])
          ends d =
              record {
                before = h;
                number = x.out.number;
                made = d.made;
                copied = d.copied;
                spawned = d.spawned;
                last = ap (λ e. h ++ e ∷ []) d.is;
                order = out.start;
                is_open = out.is_open;
                root = is_show;
              }

          allowed : (o : OpenStart D) × (find_open s.job x.out.number v.orders ≡ Some o)
              × DoneAllowed s.job o done_is.made done_is.copied done_is.spawned
          allowed = (lawful_split s.job b.plan (before_all s.job) h (hist.done x.out.number done_is.made done_is.copied done_is.spawned ∷ [])
              (subst (λ e. Lawful s.job b.plan (h ++ e ∷ [])) done_is.is got.follows.lawful)).1.0.allowed
