-- What a report's record of a replay makes of a run that follows the history of a log.
use Rattle.std.proofs.Common.{◌≡◌, ℕ, ◌*◌, List, [], ◌∷◌, ◌++◌, length, Option, Some, None, true, refl, ap, sym, ◌∙◌, subst, slice_set}
use Rattle.std.specs.BTreeMap.{BTreeMap}
use Rattle.sky_base.specs.JobView.{job_view}
use Rattle.sky_base.specs.KitView.{Gives}
use Rattle.sky_base.specs.See as s
use Rattle.sky_base.specs.Tree.{Script}
use Rattle.sky_base.specs.declared.object.Named.{Named}
use Rattle.sky_base.specs.declared.object.Object.{Object}
use Rattle.ciel_journal.specs.History.{Event, Standing, before_all, find_open, standing}
use Rattle.ciel_journal.specs.Job.{Digest}
use Rattle.ciel_journal.specs.Lawful.{Step}
use Rattle.ciel_journal.specs.Turns.{Driven, Turn, state_after}
use Rattle.ciel_journal.proofs.Append.{driven_append}
use Rattle.ciel_log.specs.Logs.{Idle}
use Rattle.ciel_log_file.specs.Replays.{At}
use Rattle.ciel_log_fits.specs.Known.{AfterSeen}
use Rattle.ciel_log_fits.proofs.ReadReports.{read_fits_order}
use Rattle.ciel_log_follows.specs.Begins.{ReadsIdle}
use Rattle.ciel_log_follows.proofs.Closes.{Closes}
use Rattle.ciel_log_follows.proofs.Learned.{none_refused}
use Rattle.ciel_log_follows.proofs.LogAt as log_at
use Rattle.ciel_log_follows.proofs.LogAt.{LogAt, NextAt}
use Rattle.ciel_log_follows.proofs.Reported.{closes}
use Rattle.ciel_log_follows.proofs.RunAt.{RunAt, goes_stay, rows_stay}
use Rattle.ciel_log_follows.proofs.Steps.{Stands, comes, idle_reports, not_lost, step_here, turn_here}
use Rattle.ciel_log_read.specs.File.{RecordAt}
use Rattle.ciel_log_read.specs.Recorded.{IsRecord, record_bytes}
use Rattle.ciel_log_read.specs.View.{report_view}
use Rattle.ciel_log_read.specs.declared.record.LoggedEnd.{LoggedEnd}
use Rattle.ciel_log_read.specs.declared.record.LoggedReport.{LoggedReport}
use Rattle.ciel_log_replay.specs.Between.{AllOut, Between}
use Rattle.ciel_log_report.specs.Comes.{KeepsOutputs, ReportIs}
use Rattle.ciel_log_report.specs.Ends.{IsEndOf}
use Rattle.ciel_log_report.proofs.Puts.{is_put}
use Rattle.ciel_log_report.proofs.Takes.{at_own, is_out, report_between}
use Rattle.ciel_master.specs.Fitting as fitting
use Rattle.ciel_master.specs.Fitting.{FitsOrder}
use Rattle.ciel_master.specs.Marked.{IsCarriedOut}
use Rattle.ciel_master.specs.Seen.{MasterSeen}
use Rattle.ciel_master.specs.Taking.{LearnedFor, now_of}
use Rattle.ciel_master.specs.declared.stop.Now.{Now}
use Rattle.ciel_master.proofs.MarkedLosses.{miss_fits}
use Rattle.ciel_master_board.specs.Board as board
use Rattle.ciel_master_board.specs.Board.{Board, OrderOut, find_order}
use Rattle.ciel_master_board.specs.Driving.{Runs}
use Rattle.ciel_master_board.specs.Handed.{OrdersOf}
use Rattle.ciel_master_board.specs.Moves.{accepted}
use Rattle.ciel_master_board.specs.Reports.{AllLearned, FirstRefused}
use Rattle.ciel_master_board.specs.Setting.{Setting}
use Rattle.ciel_master_board.specs.Sound.{MissFits}
use Rattle.ciel_master_board.specs.TurnsLaws.{IsOut}
use Rattle.ciel_master_board.proofs.HandedLemmas.{fewer_orders}
use Rattle.ciel_master_board.proofs.TurnEvents.{out_is_open}
use Rattle.ciel_master_law.specs.Ends.{IsOrderly, worker_of}
use Rattle.ciel_master_law.proofs.ShopLaws.{shop_is}
use Rattle.ciel_master_safe.specs.Turns as safe
use Rattle.ciel_master_safe.proofs.TurnsLemmas as turned
use Rattle.ciel_master_safe.proofs.TurnsLemmas.{plan_same}
use Rattle.ciel_run_drive.specs.Kept.{slots_of}
use Rattle.ciel_run_drive.specs.Working.{Working}
use Rattle.ciel_run_drive.proofs.Slots.{slots_at, slots_set}
use Rattle.ciel_store.specs.Seen.{ShelvesSeen}
use Rattle.ciel_table.specs.Seen.{TableSeen}
use Rattle.ciel_table.specs.declared.refusal.Learn.{Learn}
use Rattle.ciel_task_order.specs.Performs.{IsMissing, the_shop}
use Rattle.ciel_task_order.specs.Shop.{Block}
use Rattle.ciel_task_order.specs.Views.{P, order_view, out_view, report_end}
use Rattle.ciel_task_order.specs.declared.block.Held.{Held}
use Rattle.ciel_task_order.specs.declared.order.Order.{Order}
use Rattle.ciel_task_order.specs.declared.report.End.{End}
use Rattle.ciel_task_order.specs.declared.report.Report.{Report}
use Rattle.ciel_task_order.specs.declared.shop.Shop.{Shop}

-- ---- laws of states, as their crate proves them

reported : safe.ReportTurns
reported digest shelves sc inputs b slots a w x i found spawned how f none all going =
    turned.report_turns digest shelves sc inputs b slots a w x i found spawned how f none all going

missed : safe.MissedTurns
missed digest shelves sc inputs b slots a w x i found name loss m =
    turned.missed_turns digest shelves sc inputs b slots a w x i found name loss m

-- ---- a report's end

-- no eye had seen anything
carried_of : (order : Order) (shelves : ShelvesSeen) (sc : Script) (then : AfterSeen P) (kept : BTreeMap Digest Object) (digest : List ℕ → List ℕ)
    (b : Board P) (end : LoggedEnd) (names : List Digest) (hs : List Held) (e : End) → IsEndOf order shelves sc then kept digest b end names hs e
    → IsCarriedOut b e
carried_of order shelves sc then kept digest b (LoggedEnd.Made items) names hs e x = subst (IsCarriedOut b) (sym x.is) tt
carried_of order shelves sc then kept digest b (LoggedEnd.Saved j stack) names hs e x = subst (IsCarriedOut b) (sym x.is) tt
carried_of order shelves sc then kept digest b (LoggedEnd.Answer bytes) names hs e x = subst (IsCarriedOut b) (sym x.is) tt
carried_of order shelves sc then kept digest b (LoggedEnd.Fault fault) names hs e x = subst (IsCarriedOut b) (sym x.is) tt
carried_of order shelves sc then kept digest b (LoggedEnd.Missing name loss) names hs e x = subst (IsCarriedOut b) (sym x.is) (λ i. absurd i)

learned_for : (digest : List ℕ → List ℕ) (ns : List Named) (t : TableSeen P) (e : End) → ((IsMissing e → ⊥) → AllLearned digest ns t)
    → LearnedFor digest e ns t
learned_for digest ns t (End.Made ms) f = f (λ i. i)
learned_for digest ns t (End.Saved p j refs holds mark) f = f (λ i. i)
learned_for digest ns t (End.Shown shown) f = f (λ i. i)
learned_for digest ns t (End.Missing name loss seen) f = tt

module _ {K N : Type 0} (gives : K → Gives) (digest : N → List ℕ → List ℕ) (shop_ : Shop K N) (m : MasterSeen N) (header log : List ℕ)
    (orderly : IsOrderly (digest shop_.namer) (job_view shop_.job) (gives shop_.kit)) (b : At) (at : ℕ)
    (x : Stands gives digest shop_ m header log b at) (bytes : List ℕ) (next : ℕ) (there : RecordAt log at bytes next) (logged : LoggedReport)
    (readable : IsRecord (report_view logged)) (spelled : record_bytes (report_view logged) ≡ bytes) (worker : ℕ) (order : Order) (r : Report)
    (is : ReportIs (digest shop_.namer) shop_.shelves (job_view shop_.job).script b.board b.out b.kept logged worker order r) where
  abbrev D : List ℕ → List ℕ
  D = digest shop_.namer

  abbrev J : s.Job
  J = job_view shop_.job

  abbrev G : Gives
  G = gives shop_.kit

  abbrev S : Setting s.Desc P Block
  S = the_shop D J G

  abbrev h : List (Event s.Desc)
  h = x.history

  abbrev v : Standing s.Desc
  v = standing S.job h

  -- ---- the order is out, and the report fits it

  found : find_order order.number b.board.orders ≡ Some (out_view order)
  found = x.out worker order is.there

  out_is : IsOut S h b.board (order_view order)
  out_is =
      out_is_open S (shop_is D J G orderly) h b.board x.run.working.work.going x.run.working.work.safe.sound x.run.runs (slots_of b.out) x.run.orders
      worker (order_view order) (slots_at b.out worker order is.there) found

  fits : FitsOrder D shop_.shelves J.script b.board (order_view order) r
  fits =
      read_fits_order D shop_.shelves J.script b.board order r (is_out x.run.working x.out worker order is.there)
      (is_put D shop_.shelves J.script b.board b.kept order logged r is.is)

  -- ---- the record is that of the next event

  abbrev pub After : Event s.Desc → Type 0
  After e = Closes D J G h b.board order b.kept r e logged.end

  idle_told : (i : Idle D J G h bytes) → ReadsIdle D J G h bytes i → ⊥
  idle_told i reads =
      idle_reports gives digest shop_ m header log orderly b at x bytes next there logged readable out_is.start
      (subst (λ n. find_open S.job n v.orders ≡ Some out_is.start) is.number out_is.is_open) bytes spelled i reads

  -- it comes now, and the log stands behind it then
  pub record Next : Type 0 where
    pub event : Event s.Desc
    pub step : Step S.job b.board.plan v event
    pub turn : Turn S.job b.board.plan v event
    pub closes : After event
    pub left : LogAt D J G m.board.plan header log (h ++ event ∷ []) next

  pub next_told : Next
  next_told = pick (comes gives digest shop_ m header log orderly b at x bytes next there)
    where
      pick : NextAt D J G m.board.plan header log h bytes next → Next
      pick (log_at.idles i reads l) = absurd (idle_told i reads)
      pick (log_at.loses w n turn) =
          absurd (not_lost gives digest shop_ m header log orderly b at x bytes next there is.rests.0 w n turn)
      pick (log_at.tells e rec reads step turn l) =
          let now = step_here gives digest shop_ m header log orderly b at x bytes next there e step in
          record {
            event = e;
            step = now;
            turn = turn_here gives digest shop_ m header log orderly b at x bytes next there e turn;
            closes = closes D J G orderly shop_.shelves h b.board x.run.working.work.safe.sound x.run.runs x.run.working.work.going order out_is b.kept
                x.keeps logged is.number r is.is fits bytes readable spelled e now rec reads;
            left = l;
          }

  -- ---- it was taken

  abbrev pub c : Board P
  c = accepted D worker_of b.board (out_view order) r.spawned.items (report_end r)

  pub plan_is : c.plan ≡ b.board.plan
  plan_is = plan_same D b.board (out_view order) r.spawned.items (report_end r)

  pub runs_on : (z : Next) → Runs S (h ++ z.event ∷ []) c
  runs_on z =
      record {
        follows = z.closes.follows;
        driven = subst (λ q. Driven S.job q (h ++ z.event ∷ [])) (sym plan_is)
            (driven_append S.job b.board.plan (before_all S.job) h z.event x.run.runs.driven z.step z.turn);
      }

  abbrev then : List (Option Order)
  then = slice_set b.out worker None

  orders_on : (z : Next) → OrdersOf S (h ++ z.event ∷ []) (slots_of then)
  orders_on z =
      subst (OrdersOf S (h ++ z.event ∷ [])) (sym (slots_set b.out worker None))
      (fewer_orders S h (h ++ z.event ∷ []) (slots_of b.out) x.run.orders z.closes.opens worker)

  -- and the run goes on
  module _ (goes : now_of r.end ≡ Now.Goes) (z : Next) where
    abbrev now : MasterSeen N
    now = record m { board = b.board }

    abbrev after : MasterSeen N
    after = record m { board = c }

    abbrev state : ℕ
    state = state_after b.board.plan.seed (2 * b.board.starts)

    before : Between gives digest shop_ now b.out state
    before = record { working = x.run.working; all_out = x.out; draws = refl }

    carried : IsCarriedOut b.board r.end
    carried =
        carried_of order shop_.shelves J.script (record { table = b.board.table; spawned = r.spawned.items }) b.kept D b.board logged.end
        logged.copied.items r.copied.items r.end is.is.end

    missing : (y : board.Order P) → fitting.IsMissedOf (digest m.namer) b.board y r.end
        → MissFits (digest m.namer) worker_of b.board y (report_end r)
    missing y i = miss_fits (digest m.namer) b.board y r.copied.items r.end carried i

    learns : LearnedFor (digest m.namer) r.end r.spawned.items b.board.table
    learns =
        subst (λ n. LearnedFor (digest n) r.end r.spawned.items b.board.table) (sym x.run.working.namer)
        (learned_for D r.spawned.items b.board.table r.end z.closes.learned)

    took : (y : OrderOut) × (find_order r.number b.board.orders ≡ Some y)
        × (after ≡ record now { board = accepted (digest m.namer) worker_of b.board y r.spawned.items (report_end r) })
    took = (
      out_view order,
      ap (λ n. find_order n b.board.orders) is.is.number ∙ found,
      ap (λ n. record m { board = accepted (digest n) worker_of b.board (out_view order) r.spawned.items (report_end r) }) (sym x.run.working.namer),
    )

    behind : Between gives digest shop_ (record m { board = c }) (slice_set b.out order.worker None) state
    behind =
        report_between before worker order is.there J.script refl b.kept logged r is.is missing learns took reported missed rows_stay goes_stay goes

    own : order.worker ≡ worker
    own = at_own before worker order is.there J.script refl b.kept logged r is.is

    -- with what is kept then
    pub taken : (to : At) → to.board ≡ c → to.out ≡ then → KeepsOutputs D order logged.end b.kept to.kept → Stands gives digest shop_ m header log to next
    taken to e l k =
        record {
          history = h ++ z.event ∷ [];
          run = subst (λ q. RunAt gives digest shop_ m (h ++ z.event ∷ []) q to.out) (sym e)
              (subst (RunAt gives digest shop_ m (h ++ z.event ∷ []) c) (sym l) (record {
                working = subst (λ n. Working gives digest shop_ true (record m { board = c }) (slice_set b.out n None)) own behind.working;
                runs = runs_on z;
                orders = orders_on z;
              }));
          out = subst (λ q. AllOut q to.out) (sym e) (subst (AllOut c) (sym l) (subst (λ n. AllOut c (slice_set b.out n None)) own behind.all_out));
          plan = ap (λ (q : Board P). q.plan) e ∙ (plan_is ∙ x.plan);
          keeps = z.closes.keeping to.kept k;
          left = z.left;
        }

  -- ---- it was not refused

  nothing_spawned : (ns : List Named) → length ns ≡ 0 → AllLearned D ns b.board.table
  nothing_spawned [] e = tt
  nothing_spawned (n ∷ ns) e = cc

  abbrev IsEnd : LoggedEnd → Type 0
  IsEnd end =
      IsEndOf order shop_.shelves J.script (record { table = b.board.table; spawned = r.spawned.items }) b.kept D b.board end logged.copied.items
      r.copied.items r.end

  pub all_learned : (z : Next) → AllLearned D r.spawned.items b.board.table
  all_learned z = pick logged.end is.is.end
    where
      pick : (end : LoggedEnd) → IsEnd end → AllLearned D r.spawned.items b.board.table
      pick (LoggedEnd.Made items) y = z.closes.learned (λ i. subst IsMissing y.is i)
      pick (LoggedEnd.Saved j stack) y = z.closes.learned (λ i. subst IsMissing y.is i)
      pick (LoggedEnd.Answer bytes) y = z.closes.learned (λ i. subst IsMissing y.is i)
      pick (LoggedEnd.Fault fault) y = z.closes.learned (λ i. subst IsMissing y.is i)
      pick (LoggedEnd.Missing name loss) y = nothing_spawned r.spawned.items y.nothing

  pub none_stops : (z : Next) (n : Named) (why : Learn) → FirstRefused D r.spawned.items b.board.table n why → ⊥
  none_stops z n why f =
      none_refused D f.before f.after n why b.board.table (subst (λ ns. AllLearned D ns b.board.table) f.split (all_learned z)) f.refused
