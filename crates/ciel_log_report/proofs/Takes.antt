-- What holds between two records is kept where a report that fits is taken.
use Rattle.std.proofs.Common.{◌≡◌, ℕ, ◌*◌, List, [], ◌∷◌, length, map, true, false, cond, not, Option, Some, None, ◌⊎◌, inl, inr}
use Rattle.std.proofs.Common.{refl, ap, sym, ◌∙◌, ◌<◌, subst, arith, nat_eq, eqb-true, slice_set}
use Rattle.std.proofs.lemmas.List.{length-map}
use Rattle.std.specs.BTreeMap.{BTreeMap}
use Rattle.std.specs.Option.{option_map}
use Rattle.sky_base.specs.JobView.{job_view}
use Rattle.sky_base.specs.KitView.{Gives}
use Rattle.sky_base.specs.See as s
use Rattle.sky_base.specs.Tree.{Script}
use Rattle.sky_base.specs.declared.object.Named.{Named}
use Rattle.sky_base.specs.declared.object.Object.{Object}
use Rattle.sky_base.specs.declared.object.TaskId.{TaskId}
use Rattle.sky_state.specs.declared.shown.Shown.{Shown}
use Rattle.ciel_journal.specs.History.{Plan}
use Rattle.ciel_journal.specs.Job.{Digest}
use Rattle.ciel_journal.specs.Turns.{state_after}
use Rattle.ciel_journal.proofs.Members.{bool_cases}
use Rattle.ciel_log_fits.specs.Read.{IsOut, IsPut}
use Rattle.ciel_log_fits.proofs.ReadReports.{read_fits_order}
use Rattle.ciel_log_read.specs.declared.record.LoggedReport.{LoggedReport}
use Rattle.ciel_log_replay.specs.Between.{AllOut, Between}
use Rattle.ciel_log_report.specs.Comes.{KeepsOutputs, ReportIs, ReportTaken}
use Rattle.ciel_log_report.specs.Ends.{IsReportOf}
use Rattle.ciel_log_report.proofs.Found.{at_below, set_none}
use Rattle.ciel_log_report.proofs.Puts.{is_put}
use Rattle.ciel_master.specs.Fitting.{FitsOneOut, FitsOrder, IsMissedOf}
use Rattle.ciel_master.specs.Seen.{MasterSeen}
use Rattle.ciel_master.specs.Taking.{LearnedFor, now_of}
use Rattle.ciel_master.specs.declared.stop.Now.{Now}
use Rattle.ciel_master_board.specs.Board as board
use Rattle.ciel_master_board.specs.Board.{Board, OrderOut, find_order}
use Rattle.ciel_master_board.specs.Driving.{RestsNow}
use Rattle.ciel_master_board.specs.Left.{Has}
use Rattle.ciel_master_board.specs.Moves.{accepted, is_root, without}
use Rattle.ciel_master_board.specs.Reports as rep
use Rattle.ciel_master_board.specs.Reports.{AllLearned}
use Rattle.ciel_master_board.specs.Sound.{MissFits, MissingFits}
use Rattle.ciel_master_board.specs.TurnsLaws as laws
use Rattle.ciel_master_board.proofs.EventsFollowed.{found_number}
use Rattle.ciel_master_board.proofs.SoundLemmas.{order_in}
use Rattle.ciel_master_law.specs.Ends.{worker_of}
use Rattle.ciel_master_safe.specs.Laws.{GoesStay, RowsStay}
use Rattle.ciel_master_safe.specs.Turns as safe
use Rattle.ciel_master_safe.specs.Turns.{AtWork, Turned}
use Rattle.ciel_master_safe.proofs.TurnsLemmas.{plan_same, starts_same}
use Rattle.ciel_run_drive.specs.Kept.{slots_of}
use Rattle.ciel_run_drive.specs.Working.{Working}
use Rattle.ciel_run_drive.proofs.Slots.{at_slots, slots_at, slots_set}
use Rattle.ciel_store.specs.Seen.{SeatSeen}
use Rattle.ciel_store.specs.declared.loss.Loss.{Loss}
use Rattle.ciel_task_crew.specs.Crews.{order_at}
use Rattle.ciel_task_order.specs.Performs.{IsMissing, OfTask}
use Rattle.ciel_task_order.specs.Views.{P, copies_view, how_view, order_view, out_view, output_view, report_end}
use Rattle.ciel_task_order.specs.declared.order.Order.{Order}
use Rattle.ciel_task_order.specs.declared.report.End.{End}
use Rattle.ciel_task_order.specs.declared.report.Report.{Report}
use Rattle.ciel_task_order.specs.declared.shop.Shop.{Shop}
use Rattle.ciel_table.specs.Seen.{TableSeen}

same_order : (x y : OrderOut) → Some x ≡ Some y → x ≡ y
same_order x y e = cc

-- an order of another number is found as before
find_without : (k n : ℕ) (xs : List OrderOut) → (n ≡ k → ⊥) → find_order n (without k xs) ≡ find_order n xs
find_without k n [] d = refl
find_without k n (x ∷ xs) d = pick (bool_cases (nat_eq k x.number)) (find_without k n xs d)
  where
    pick : ((nat_eq k x.number ≡ true) ⊎ (nat_eq k x.number ≡ false)) → find_order n (without k xs) ≡ find_order n xs
        → find_order n (without k (x ∷ xs)) ≡ find_order n (x ∷ xs)
    pick (inl t) r =
        ap (λ c. find_order n (cond (not c) (x ∷ without k xs) (without k xs))) t
        ∙ (r ∙ sym (ap (λ c. cond c (Some x) (find_order n xs)) (other (bool_cases (nat_eq n x.number)))))
      where
        other : ((nat_eq n x.number ≡ true) ⊎ (nat_eq n x.number ≡ false)) → nat_eq n x.number ≡ false
        other (inr f) = f
        other (inl u) = absurd (d (eqb-true n x.number u ∙ sym (eqb-true k x.number t)))
    pick (inr f) r =
        ap (λ c. find_order n (cond (not c) (x ∷ without k xs) (without k xs))) f
        ∙ ap (λ z. cond (nat_eq n x.number) (Some x) z) r

orders_without : (digest : List ℕ → List ℕ) (b : Board P) (x : OrderOut) (spawned : List Named) (e : rep.End P)
    → (accepted digest worker_of b x spawned e).orders ≡ without x.number b.orders
orders_without digest b x spawned (rep.made ms cs) = refl
orders_without digest b x spawned (rep.saved q) = refl
orders_without digest b x spawned (rep.missing name loss) = refl

main_same : (digest : List ℕ → List ℕ) (b : Board P) (x : OrderOut) (spawned : List Named) (e : rep.End P)
    → (accepted digest worker_of b x spawned e).main ≡ b.main
main_same digest b x spawned (rep.made ms cs) = refl
main_same digest b x spawned (rep.saved q) = refl
main_same digest b x spawned (rep.missing name loss) = refl

learned_cases : (digest : List ℕ → List ℕ) (ns : List Named) (t : TableSeen P) (e : End) → LearnedFor digest e ns t → (IsMissing e → ⊥)
    → AllLearned digest ns t
learned_cases digest ns t (End.Made ms) l none = l
learned_cases digest ns t (End.Saved p j refs holds mark) l none = l
learned_cases digest ns t (End.Shown shown) l none = l
learned_cases digest ns t (End.Missing name loss seen) l none = absurd (none tt)

module _ {K N : Type 0} {gives : K → Gives} {digest : N → List ℕ → List ℕ} {shop_ : Shop K N} {m : MasterSeen N} {out : List (Option Order)}
    (k : Working gives digest shop_ true m out) (all : AllOut m.board out) (w : ℕ) (order : Order) (e : order_at out w ≡ Some order) where
  abbrev D : List ℕ → List ℕ
  D = digest shop_.namer

  abbrev J : s.Job
  J = job_view shop_.job

  abbrev b : Board P
  b = m.board

  pub has : Has (slots_of out) w (order_view order)
  has = slots_at out w order e

  pub own : order.worker ≡ w
  own = k.work.handed.own w (order_view order) has

  pub found : find_order order.number b.orders ≡ Some (out_view order)
  found = all w order e

  -- it is out
  pub is_out : IsOut D J.script b order
  is_out =
      record { out = found; rows = k.rows w order e; goes = k.goes w order e; main = k.mains w order e; keys = k.work.safe.keys }

  module _ (r : Report) (put : IsPut D shop_.shelves J.script b order r) where
    fits : FitsOrder D shop_.shelves J.script b (order_view order) r
    fits = read_fits_order D shop_.shelves J.script b order r is_out put

    number : r.number ≡ order.number
    number = put.number

    pub found_is : find_order r.number b.orders ≡ Some (out_view order)
    found_is = subst (λ n. find_order n b.orders ≡ Some (out_view order)) (sym number) found

    pub fits_now : FitsOneOut (digest m.namer) m.shelves m.script b r
    fits_now =
        subst (λ n. FitsOneOut (digest n) m.shelves m.script b r) (sym k.namer)
        (subst (λ z. FitsOneOut D z m.script b r) (sym k.shelves)
        (subst (λ z. FitsOneOut D shop_.shelves z b r) (sym k.script) (order_view order, found_is, fits)))

    -- ---- it was taken

    module _ (missing : (x : board.Order P) → IsMissedOf (digest m.namer) b x r.end → MissFits (digest m.namer) worker_of b x (report_end r))
        (learns : LearnedFor (digest m.namer) r.end r.spawned.items b.table) {m2 : MasterSeen N}
        (took : (x : OrderOut) × (find_order r.number b.orders ≡ Some x)
        × (m2 ≡ record m { board = accepted (digest m.namer) worker_of b x r.spawned.items (report_end r) })) where
      law : LearnedFor D r.end r.spawned.items b.table
      law = subst (λ n. LearnedFor (digest n) r.end r.spawned.items b.table) k.namer learns

      new : m2 ≡ record m { board = accepted D worker_of b took.0 r.spawned.items (report_end r) }
      new = subst (λ n. m2 ≡ record m { board = accepted (digest n) worker_of b took.0 r.spawned.items (report_end r) }) k.namer took.2

      abbrev pub next : Board P
      next = accepted D worker_of b (out_view order) r.spawned.items (report_end r)

      pub new_is : m2 ≡ record m { board = next }
      new_is =
          new ∙ ap (λ z. record m { board = accepted D worker_of b z r.spawned.items (report_end r) })
          (same_order took.0 (out_view order) (sym took.1 ∙ found_is))

      learned : (IsMissing r.end → ⊥) → AllLearned D r.spawned.items b.table
      learned none = learned_cases D r.spawned.items b.table r.end law none

      pub taken_plan : m2.board.plan ≡ b.plan
      taken_plan = ap (λ (z : MasterSeen N). z.board.plan) new_is ∙ plan_same D b (out_view order) r.spawned.items (report_end r)

      missing_is : (name : _) (loss : Loss) (seen : Option SeatSeen) → r.end ≡ End.Missing name loss seen
          → MissingFits D worker_of b (order_view order) name loss.number
      missing_is name loss seen q =
          let miss = subst (λ n. (x : board.Order P) → IsMissedOf (digest n) b x r.end → MissFits (digest n) worker_of b x (report_end r)) k.namer missing in
          subst (λ z. MissFits D worker_of b (order_view order) (how_view r.copied.items z)) q (miss (order_view order) fits.missed)

      abbrev Then : rep.End P → Type 0
      Then q =
          Turned D shop_.shelves J.script (length J.inputs) b (slots_of out) (accepted D worker_of b (out_view order) r.spawned.items q)
          (slice_set (slots_of out) w None)

      taken_slots : slots_of (slice_set out w None) ≡ slice_set (slots_of out) w None
      taken_slots = slots_set out w None

      module _ (report : safe.ReportTurns) (missed : safe.MissedTurns) (goes : Now.Goes ≡ now_of r.end) where
        turned : Then (report_end r)
        turned = pick r.end refl goes fits.of.kind
          where
            whole : (IsMissing r.end → ⊥) → (laws.IsMissing (report_end r) → ⊥) → next.stopped ≡ false → Then (report_end r)
            whole none also going =
                report D shop_.shelves J.script (length J.inputs) b (slots_of out) k.work w (order_view order) has found
                r.spawned.items (report_end r) (fits.whole none) also (learned none) going

            pick : (q : End) → r.end ≡ q → Now.Goes ≡ now_of q → OfTask order.task r.end → Then (report_end r)
            pick (End.Made ms) q g kind =
                let v : report_end r ≡ rep.made (map output_view ms.items) (copies_view r.copied.items) = ap (how_view r.copied.items) q in
                whole (λ i. subst IsMissing q i) (λ i. subst laws.IsMissing v i)
                (subst (λ z. (accepted D worker_of b (out_view order) r.spawned.items z).stopped ≡ false) (sym v)
                (not_root order.task (subst (OfTask order.task) q kind)))
              where
                not_root : (task : TaskId) → OfTask task (End.Made ms) → is_root task ≡ false
                not_root TaskId.Show i = absurd i
                not_root (TaskId.Of n) i = refl
            pick (End.Saved p j refs holds mark) q g kind =
                let v : report_end r ≡ how_view r.copied.items (End.Saved p j refs holds mark) = ap (how_view r.copied.items) q in
                whole (λ i. subst IsMissing q i) (λ i. subst laws.IsMissing v i)
                (subst (λ z. (accepted D worker_of b (out_view order) r.spawned.items z).stopped ≡ false) (sym v) k.work.going)
            pick (End.Shown (Shown.Text text)) q g kind = let bad : Now.Goes ≡ Now.Answer text = g in cc
            pick (End.Shown (Shown.Fault fault)) q g kind = let bad : Now.Goes ≡ Now.Fault fault = g in cc
            pick (End.Missing name loss seen) q g kind =
                let v : report_end r ≡ rep.missing name loss.number = ap (how_view r.copied.items) q in
                subst Then (sym v) (missed D shop_.shelves J.script (length J.inputs) b (slots_of out) k.work w (order_view order) has
                found name loss.number (missing_is name loss seen q))

        abbrev then : List (Option Order)
        then = slice_set out w None

        pub taken_working : RowsStay → GoesStay → Working gives digest shop_ true m2 then
        taken_working rows stay =
            subst (λ z. Working gives digest shop_ true z then) (sym new_is) (record {
              namer = k.namer;
              shelves = k.shelves;
              script = k.script;
              sound = refl;
              work = subst (AtWork D shop_.shelves J.script (length J.inputs) next) (sym taken_slots) turned.at_work;
              rows = λ u o q. rows.order D b.table next.table o (rows.accepted D b (out_view order) r.spawned.items (report_end r))
                  (k.rows u o (set_none out w u o q).1);
              mains = λ u o q. k.mains u o (set_none out w u o q).1 ∙ sym (main_same D b (out_view order) r.spawned.items (report_end r));
              goes = λ u o q. stay.accepted D b (out_view order) r.spawned.items (report_end r) o.task o.desc (k.goes u o (set_none out w u o q).1);
            })

        taken_out : AllOut next then
        taken_out u o q =
            let z = set_none out w u o q in
            subst (λ os. find_order o.number os ≡ Some (out_view o)) (sym (orders_without D b (out_view order) r.spawned.items (report_end r)))
            (find_without order.number o.number b.orders
            (λ same. z.0 (k.work.handed.apart u w (order_view o) (order_view order) (slots_at out u o z.1) has same)) ∙ all u o z.1)

        pub taken_between : RowsStay → GoesStay → (state : ℕ) → state ≡ state_after b.plan.seed (2 * b.starts) → Between gives digest shop_ m2 then state
        taken_between rows stay state drawn =
            record {
              working = taken_working rows stay;
              all_out = subst (λ (z : MasterSeen N). AllOut z.board then) (sym new_is) taken_out;
              draws = subst (λ (z : MasterSeen N). state ≡ state_after z.board.plan.seed (2 * z.board.starts)) (sym new_is)
                  (drawn ∙ (ap (λ (z : Plan). state_after z.seed (2 * b.starts)) (sym (plan_same D b (out_view order) r.spawned.items (report_end r)))
                  ∙ ap (λ n. state_after next.plan.seed (2 * n)) (sym (starts_same D b (out_view order) r.spawned.items (report_end r)))));
            }

-- ---- the list

module _ {K N : Type 0} {gives : K → Gives} {digest : N → List ℕ → List ℕ} {shop_ : Shop K N} {m : MasterSeen N} {out : List (Option Order)}
    {state : ℕ} (k : Between gives digest shop_ m out state) where
  -- an order of the list is within it, and there is a shelf for its worker
  pub within : (w : ℕ) (order : Order) → order_at out w ≡ Some order → order.worker < length out
  within w order e = subst (λ n. n < length out) (sym (own k.working k.all_out w order e)) (at_below out w order e)

  pub has_shelf : (w : ℕ) (order : Order) → order_at out w ≡ Some order → order.worker < length shop_.shelves.rows
  has_shelf w order e =
      let l = within w order e in
      let long : length (slots_of out) ≡ length out = length-map out (option_map order_view) in
      let many : length (slots_of out) ≡ m.board.plan.workers = k.working.work.handed.each in
      let wide = k.working.work.safe.wide in
      omega (arith, l, long, many, wide)

  -- no order of this number is out where the list has none
  pub passed_none : (number : ℕ) → ((w : ℕ) (y : Order) → order_at out w ≡ Some y → y.number ≡ number → ⊥) → find_order number m.board.orders ≡ None
  passed_none number none = pick (find_order number m.board.orders) refl
    where
      pick : (o : Option OrderOut) → find_order number m.board.orders ≡ o → find_order number m.board.orders ≡ None
      pick None e = e
      pick (Some y) e =
          let z = k.working.work.handed.sent y (order_in number m.board.orders y e) in
          let o = at_slots out y.worker z.0 z.1 in
          absurd (none y.worker o.0 o.1 (ap (λ (q : board.Order P). q.out.number) o.2 ∙ (ap (λ (q : OrderOut). q.number) z.2
          ∙ sym (found_number number m.board.orders y e))))

  -- ---- the report of an order of the list

  module _ (w : ℕ) (order : Order) (e : order_at out w ≡ Some order) (sc : Script) (same : sc ≡ (job_view shop_.job).script)
      (kept : BTreeMap Digest Object) (logged : LoggedReport) (r : Report)
      (is : IsReportOf (digest shop_.namer) shop_.shelves sc m.board kept order logged r) where
    put : IsPut (digest shop_.namer) shop_.shelves (job_view shop_.job).script m.board order r
    put =
        is_put (digest shop_.namer) shop_.shelves (job_view shop_.job).script m.board kept order logged r
        (subst (λ z. IsReportOf (digest shop_.namer) shop_.shelves z m.board kept order logged r) same is)

    pub report_fits : FitsOneOut (digest m.namer) m.shelves m.script m.board r
    report_fits = fits_now k.working k.all_out w order e r put

    pub at_own : order.worker ≡ w
    at_own = own k.working k.all_out w order e

    pub report_is : RestsNow m.board → order.number ≡ logged.number
        → ReportIs (digest shop_.namer) shop_.shelves sc m.board out kept logged w order r
    report_is rests number = record { rests = rests; there = e; number = number; is = is }

    module _ (missing : (x : board.Order P) → IsMissedOf (digest m.namer) m.board x r.end → MissFits (digest m.namer) worker_of m.board x (report_end r))
        (learns : LearnedFor (digest m.namer) r.end r.spawned.items m.board.table) {m2 : MasterSeen N}
        (took : (x : OrderOut) × (find_order r.number m.board.orders ≡ Some x)
        × (m2 ≡ record m { board = accepted (digest m.namer) worker_of m.board x r.spawned.items (report_end r) })) where
      pub report_board : m2.board ≡ accepted (digest shop_.namer) worker_of m.board (out_view order) r.spawned.items (report_end r)
      report_board = ap (λ (z : MasterSeen N). z.board) (new_is k.working k.all_out w order e r put missing learns took)

      pub report_between : safe.ReportTurns → safe.MissedTurns → RowsStay → GoesStay → now_of r.end ≡ Now.Goes
          → Between gives digest shop_ m2 (slice_set out order.worker None) state
      report_between reports missed rows stay goes =
          subst (λ n. Between gives digest shop_ m2 (slice_set out n None) state) (sym at_own)
          (taken_between k.working k.all_out w order e r put missing learns took reports missed (sym goes) rows stay state k.draws)

      pub report_taken : RestsNow m.board → order.number ≡ logged.number → (keeps : BTreeMap Digest Object)
          → KeepsOutputs (digest shop_.namer) order logged.end kept keeps
          → ReportTaken (digest shop_.namer) shop_.shelves sc m.board out kept logged m2.board (slice_set out order.worker None) keeps r
      report_taken rests number keeps keeping =
          record {
            worker = w;
            order = order;
            is = report_is rests number;
            board = report_board;
            listed = ap (λ n. slice_set out n None) at_own;
            keeping = keeping;
          }
