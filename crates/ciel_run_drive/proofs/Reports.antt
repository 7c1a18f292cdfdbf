-- What a history says between two turns is kept by a report, or the run ends for a reason.
use Rattle.std.proofs.Common.{◌≡◌, ℕ, ◌*◌, ◌<◌, ◌^◌, List, [], ◌∷◌, ◌++◌, map, Bool, true, false, cond, nat_eq, Option, Some, None}
use Rattle.std.proofs.Common.{◌⊎◌, inl, inr, refl, ap, sym, ◌∙◌, subst, slice_set}
use Rattle.sky_base.specs.JobView.{job_view}
use Rattle.sky_base.specs.KitView.{Gives}
use Rattle.sky_base.specs.See as s
use Rattle.sky_base.specs.declared.fault.Fault.{Fault}
use Rattle.sky_base.specs.declared.object.Desc1.{Desc1}
use Rattle.sky_base.specs.declared.object.Named.{Named}
use Rattle.sky_base.specs.declared.object.TaskId.{TaskId}
use Rattle.sky_machine_show.specs.Shows.{shown_view}
use Rattle.sky_state.specs.declared.shown.Shown.{Shown}
use Rattle.ciel_master_board.specs.Board.{Board, OrderOut, find_order}
use Rattle.ciel_master_board.specs.Driving.{RestsNow}
use Rattle.ciel_master_board.specs.Moves.{accepted}
use Rattle.ciel_master_board.specs.Reports as rep
use Rattle.ciel_master_board.specs.Reports.{AllLearned, FirstRefused, named_view, report_view}
use Rattle.ciel_master_board.specs.Setting.{IsSetting, Setting}
use Rattle.ciel_task_crew.specs.Crews.{Answers, Reports}
use Rattle.ciel_master_law.specs.Ends.{worker_of}
use Rattle.ciel_master_law.proofs.ShopLaws.{performs_promises, shop_is, shown_meant}
use Rattle.ciel_journal.specs.Entries.{Entry}
use Rattle.ciel_journal.specs.History.{Event, OpenStart, Plan, before_all, find_open, missed, standing}
use Rattle.ciel_journal.specs.Turns.{Driven, state_after}
use Rattle.ciel_json.specs.Around.{json_around}
use Rattle.ciel_journal.specs.Journals.{DrivenJournal}
use Rattle.ciel_journal.specs.Lawful.{Lawful, Step}
use Rattle.ciel_journal.proofs.Append.{lawful_split}
use Rattle.ciel_journal.proofs.Members.{bool_cases}
use Rattle.ciel_master.specs.Marked.{IsCarriedOut}
use Rattle.ciel_master.specs.Refusals.{FirstStops}
use Rattle.ciel_master.specs.Seen.{MasterSeen}
use Rattle.ciel_master.specs.Taking.{LearnedFor, now_of}
use Rattle.ciel_master.specs.declared.stop.Now.{Now}
use Rattle.ciel_master.specs.declared.stop.RunEnd.{RunEnd}
use Rattle.ciel_master.specs.declared.stop.Stop.{Stop}
use Rattle.ciel_task_crew.proofs.TurnsLemmas.{plan_same, starts_same}
use Rattle.ciel_journal_job.specs.Report as report
use Rattle.ciel_table.specs.declared.refusal.Learn.{Learn}
use Rattle.ciel_task_order.specs.Performs.{HasRows, IsMissing, OfTask, the_shop}
use Rattle.ciel_task_order.specs.Places.{PlacesSound}
use Rattle.ciel_task_order.specs.Shop as shop
use Rattle.ciel_task_order.specs.Views.{P, how_view, order_view, report_end}
use Rattle.ciel_task_order.specs.declared.order.Order.{Order}
use Rattle.ciel_task_order.specs.declared.report.End.{End}
use Rattle.ciel_task_order.specs.declared.report.Report.{Report}
use Rattle.ciel_task_order.specs.declared.shop.Shop.{Shop}
use Rattle.ciel_master_board.specs.Follows.{Follows, OneByOne, OutIs}
use Rattle.ciel_master_board.specs.Handed.{OneEventMore, OrdersOf}
use Rattle.ciel_master_board.specs.Laws.{AcceptedAs}
use Rattle.ciel_master_board.specs.TurnsLaws as laws
use Rattle.ciel_master_board.specs.TurnsLaws.{IsOut, Promised}
use Rattle.ciel_master_board.proofs.EndsLemmas.{clash_ends, overflow_ends}
use Rattle.ciel_master_board.proofs.HandedLemmas.{fewer_orders}
use Rattle.ciel_master_board.proofs.TurnEvents.{missed_turns, out_is_open, promised_taken, report_turns}
use Rattle.ciel_master_board.proofs.MissesFollowed.{missed_follows}
use Rattle.ciel_master_board.proofs.ReportsFollowed.{report_follows}
use Rattle.ciel_run_drive.specs.Ended.{Because, Ended, Shows}
use Rattle.ciel_run_drive.specs.Kept.{Kept, slots_of}
use Rattle.ciel_run_drive.specs.Telling.{TakenAs, ThrownAs}
use Rattle.ciel_run_drive.specs.Working.{Working}
use Rattle.ciel_run_drive.proofs.Names as names

nothing : (ns : List Named) → map named_view ns ≡ [] → ns ≡ []
nothing [] e = refl
nothing (n ∷ ns) e = cc

-- where no order of this number is out, no Start of it is open
none_open : {D Q B : Type 0} (z : Setting D Q B) (k : ℕ) (os : List (OpenStart D)) (xs : List OrderOut) → OneByOne (OutIs z) os xs
    → find_order k xs ≡ None → find_open z.job k os ≡ None
none_open z k [] xs h e = refl
none_open z k (o ∷ os) [] h e = absurd h
none_open z k (o ∷ os) (x ∷ xs) h e = pick (bool_cases (nat_eq k o.number)) (none_open z k os xs h.1)
  where
    pick : ((nat_eq k o.number ≡ true) ⊎ (nat_eq k o.number ≡ false)) → (find_order k xs ≡ None → find_open z.job k os ≡ None)
        → find_open z.job k (o ∷ os) ≡ None
    pick (inl t) rest =
        let u : nat_eq k x.number ≡ true = ap (nat_eq k) h.0.number ∙ t in
        let bad : Some x ≡ None = sym (ap (λ b. cond b (Some x) (find_order k xs)) u) ∙ e in
        cc
    pick (inr f) rest =
        let u : nat_eq k x.number ≡ false = ap (nat_eq k) h.0.number ∙ f in
        ap (λ b. cond b (Some o) (find_open z.job k os)) f ∙ rest (sym (ap (λ b. cond b (Some x) (find_order k xs)) u) ∙ e)

module _ {K N : Type 0} {gives : K → Gives} {digest : N → List ℕ → List ℕ} {shop_ : Shop K N} {unbroken : Bool} {m : MasterSeen N}
    {out : List (Option Order)} {draw : ℕ} (at : Working gives digest shop_ unbroken m out) (k : Kept gives digest shop_ unbroken m out draw)
    (r : Report) (then : List (Option Order)) (reports : Reports gives digest shop_ out then r) where
  abbrev D : List ℕ → List ℕ
  D = digest shop_.namer

  abbrev J : s.Job
  J = job_view shop_.job

  abbrev G : Gives
  G = gives shop_.kit

  abbrev S : Setting s.Desc P shop.Block
  S = the_shop D J G

  abbrev b : Board P
  b = m.board

  abbrev is : IsSetting S
  is = shop_is D J G k.orderly

  abbrev order : Order
  order = reports.0

  abbrev a : Answers gives digest shop_ order r
  a = reports.3

  now_driven : DrivenJournal S.job b.plan b.journal
  now_driven = (k.history, k.runs.driven, sym k.runs.follows.journal)

  -- with a slot less
  fewer : (h : List (Event s.Desc)) → OrdersOf S h (slice_set (slots_of out) r.worker None) → OrdersOf S h (slots_of then)
  fewer h orders = subst (OrdersOf S h) (sym (names.taken_slots at r then reports)) orders

  -- ---- thrown away

  pub thrown_kept : {again : Shop K N} → again ≡ shop_ → {still : Bool} → Kept gives digest again still m then draw
  thrown_kept {again} same {still} =
      subst (λ z. Kept gives digest z still m then draw) (sym same) (record {
        orderly = k.orderly;
        bare = k.bare;
        history = k.history;
        runs = k.runs;
        orders = fewer k.history (fewer_orders S k.history k.history (slots_of out) k.orders (λ o i. i) r.worker);
        draws = k.draws;
      })

  pub thrown_as : r.number < 2 ^ 64 → find_order r.number b.orders ≡ None → ThrownAs gives digest shop_ b r
  thrown_as fits none =
      record {
        history = k.history;
        lawful = k.runs.follows.lawful;
        journal = sym k.runs.follows.journal;
        closed = none_open S r.number (standing S.job k.history).orders b.orders k.runs.follows.stands.orders none;
        number = fits;
        going = k.runs.follows.stands.going at.work.going;
        spawned = a.safely.0;
        places = subst (λ w. PlacesSound shop_.shelves w J.script r) (sym a.performs.worker) a.places;
      }

  -- ---- taken

  module _ (there : (y : OrderOut) × (find_order r.number b.orders ≡ Some y)) where
    out_is : IsOut S k.history b (order_view order)
    out_is =
        out_is_open S is k.history b at.work.going at.work.safe.sound k.runs (slots_of out) k.orders r.worker (order_view order)
        (names.has at r then reports) (names.found_own at r then reports there)

    rows_now : HasRows D b.table order
    rows_now = at.rows r.worker order reports.1

    -- what something missing spawned: nothing
    spawned_none : IsMissing r.end → r.spawned.items ≡ []
    spawned_none miss =
        pick r.end refl miss (a.performs.says out_is.start out_is.order out_is.apart)
      where
        pick : (end : End) → r.end ≡ end → IsMissing end
            → report.Says S.job S.inner S.lower out_is.start (report_view order.number r.spawned.items (report_end r)) → r.spawned.items ≡ []
        pick (End.Missing name loss seen) q i (report.at_end ds next spawns sp rest) =
            nothing r.spawned.items (subst (λ z. report.Spawns S.job S.inner S.lower out_is.start ds (map named_view r.spawned.items)
            (rep.end_view (how_view r.copied.items z))) q sp)
        pick (End.Missing name loss seen) q i (report.at_wait n refs ds next spawns sp rest) =
            nothing r.spawned.items (subst (λ z. report.Spawns S.job S.inner S.lower out_is.start ds (map named_view r.spawned.items)
            (rep.end_view (how_view r.copied.items z))) q sp)
        pick (End.Made ms) q i says = absurd i
        pick (End.Shown shown) q i says = absurd i
        pick (End.Saved p j refs holds mark) q i says = absurd i

    promised : (IsMissing r.end → ⊥) → Promised S k.history b (order_view order) r.spawned.items (report_end r)
    promised none =
        performs_promises D J G k.orderly k.history b at.work.going at.work.safe.sound k.runs order out_is rows_now r a.performs none

    -- ---- refused

    none_refused : (n : Named) (why : Learn) → FirstRefused D r.spawned.items b.table n why → IsMissing r.end → ⊥
    none_refused n why f i = empty f.before (sym (spawned_none i) ∙ f.split)
      where
        empty : (xs : List Named) → [] ≡ xs ++ n ∷ f.after → ⊥
        empty [] q = cc
        empty (x ∷ xs) q = cc

    clash_at : (n : Named) (kept given : List ℕ) → FirstRefused D r.spawned.items b.table n (Learn.Clash kept given) → (J2 : List Entry) → J2
        ≡ b.journal → Ended gives digest shop_ b.plan J2 (RunEnd.NameClash kept given)
    clash_at n kept given f J2 q =
        subst (λ z. Ended gives digest shop_ b.plan z (RunEnd.NameClash kept given)) (sym q)
        (record {
          driven = now_driven;
          cause = clash_ends S is k.history b at.work.safe.sound k.runs (order_view order)
              out_is r.spawned.items (report_end r) (promised (none_refused n (Learn.Clash kept given) f)) n kept given f;
        })

    overflow_at : (n : Named) (held : ℕ) (given : Desc1) → given ≡ n.desc → FirstRefused D r.spawned.items b.table n (Learn.Full held)
        → (J2 : List Entry) → J2 ≡ b.journal → Ended gives digest shop_ b.plan J2 (RunEnd.TooMany held given)
    overflow_at n held given g f J2 q =
        subst (λ z. Ended gives digest shop_ b.plan z (RunEnd.TooMany held given)) (sym q)
        (record {
          driven = now_driven;
          cause = (
            n,
            g,
            overflow_ends S is k.history b at.work.safe.sound k.runs (order_view order) out_is r.spawned.items (report_end r)
                (promised (none_refused n (Learn.Full held) f)) n held f,
          );
        })

    -- by what accept refuses
    module _ {J2 : List Entry} (same : J2 ≡ b.journal) where
      pub clash_ended : (kept given : List ℕ) → FirstStops (digest m.namer) r.spawned.items b.table (Stop.NameClash kept given)
          → Ended gives digest shop_ b.plan J2 (RunEnd.NameClash kept given)
      clash_ended kept given why =
          let f = subst (λ n. FirstStops (digest n) r.spawned.items b.table (Stop.NameClash kept given)) at.namer why in
          clash_at f.0 kept given f.1 J2 same

      pub overflow_ended : (held : ℕ) (given : Desc1) → FirstStops (digest m.namer) r.spawned.items b.table (Stop.TooMany held given)
          → Ended gives digest shop_ b.plan J2 (RunEnd.TooMany held given)
      overflow_ended held given why =
          let f = subst (λ n. FirstStops (digest n) r.spawned.items b.table (Stop.TooMany held given)) at.namer why in
          overflow_at f.0 held given f.2 f.1 J2 same

    -- ---- accepted

    module _ (rest : RestsNow b) (carried : IsCarriedOut b r.end) (learns : LearnedFor (digest m.namer) r.end r.spawned.items b.table)
        {m2 : MasterSeen N} (took : (x : OrderOut) × (find_order r.number b.orders ≡ Some x)
        × (m2 ≡ record m { board = accepted (digest m.namer) worker_of b x r.spawned.items (report_end r) })) where
      abbrev next : Board P
      next = accepted D worker_of b (order_view order).out r.spawned.items (report_end r)

      new_is : m2 ≡ record m { board = next }
      new_is = names.new_is at r then reports there carried learns took

      all : (IsMissing r.end → ⊥) → AllLearned D r.spawned.items b.table
      all = names.all at r then reports there carried learns took

      plan_next : next.plan ≡ b.plan
      plan_next = plan_same D b (order_view order).out r.spawned.items (report_end r)

      -- ---- the run goes on

      abbrev To : rep.End P → Type 0
      To e = OneEventMore S k.history (accepted D worker_of b (order_view order).out r.spawned.items e) (slice_set (slots_of out) r.worker None)

      more : To (report_end r)
      more = pick r.end refl
        where
          whole : (IsMissing r.end → ⊥) → (laws.IsMissing (report_end r) → ⊥) → To (report_end r)
          whole none also =
              report_turns S is k.history b at.work.going at.work.safe.sound k.runs (order_view order) out_is rest (slots_of out) k.orders r.worker
              r.spawned.items (report_end r) (promised none) also (all none)

          others : (e : End) → r.end ≡ e → (IsMissing e → ⊥) → (laws.IsMissing (how_view r.copied.items e) → ⊥) → To (report_end r)
          others e q none also =
              whole (λ i. none (subst IsMissing q i)) (λ i. also (subst laws.IsMissing (ap (how_view r.copied.items) q) i))

          pick : (e : End) → r.end ≡ e → To (report_end r)
          pick (End.Made ms) q = others (End.Made ms) q (λ i. i) (λ i. i)
          pick (End.Saved p j refs holds mark) q = others (End.Saved p j refs holds mark) q (λ i. i) (λ i. i)
          pick (End.Shown shown) q = others (End.Shown shown) q (λ i. i) (λ i. i)
          pick (End.Missing name loss seen) q =
              let v : report_end r ≡ rep.missing name loss.number = ap (how_view r.copied.items) q in
              subst To (sym v) (missed_turns S is k.history b at.work.going at.work.safe.sound k.runs (order_view order) out_is rest (slots_of out)
              k.orders r.worker name loss.number (names.missing_is at r then reports there name loss seen q carried))

      pub taken_kept : {again : Shop K N} → again ≡ shop_ → {still : Bool} → Kept gives digest again still m2 then draw
      taken_kept {again} same {still} =
          subst (λ z. Kept gives digest z still m2 then draw) (sym same)
          (subst (λ z. Kept gives digest shop_ still z then draw) (sym new_is) (record {
            orderly = k.orderly;
            bare = k.bare;
            history = k.history ++ more.event ∷ [];
            runs = more.runs;
            orders = fewer (k.history ++ more.event ∷ []) more.orders;
            draws = draw_now;
          }))
        where
          draw_now : draw ≡ state_after next.plan.seed (2 * next.starts)
          draw_now =
              k.draws ∙ (ap (λ (z : Plan). state_after z.seed (2 * b.starts)) (sym plan_next)
              ∙ ap (λ n. state_after next.plan.seed (2 * n)) (sym (starts_same D b (order_view order).out r.spawned.items (report_end r))))

      -- ---- what it tells

      abbrev As : rep.End P → Type 0
      As e = AcceptedAs S k.history b (order_view order).out order.number r.spawned.items e

      -- the event
      accepted_as : As (report_end r)
      accepted_as = pick r.end refl
        where
          whole : (IsMissing r.end → ⊥) → (report.IsMissing (report_view order.number r.spawned.items (report_end r)).end → ⊥) → As (report_end r)
          whole none also =
              report_follows S is k.history b at.work.safe.sound k.runs.follows (order_view order) out_is.start order.number r.spawned.items
              (report_end r) (promised_taken S k.history b (order_view order) out_is r.spawned.items (report_end r) (promised none)) at.work.going
              (all none) also ((promised none).lies out_is.start out_is.is_open out_is.order)

          others : (e : End) → r.end ≡ e → (IsMissing e → ⊥)
              → (report.IsMissing (report_view order.number r.spawned.items (how_view r.copied.items e)).end → ⊥) → As (report_end r)
          others e q none also =
              whole (λ i. none (subst IsMissing q i))
              (λ i. also (subst (λ z. report.IsMissing (report_view order.number r.spawned.items (how_view r.copied.items z)).end) q i))

          pick : (e : End) → r.end ≡ e → As (report_end r)
          pick (End.Made ms) q = others (End.Made ms) q (λ i. i) (λ i. i)
          pick (End.Saved p j refs holds mark) q = others (End.Saved p j refs holds mark) q (λ i. i) (λ i. i)
          pick (End.Shown shown) q = others (End.Shown shown) q (λ i. i) (λ i. i)
          pick (End.Missing name loss seen) q =
              let v : report_end r ≡ rep.missing name loss.number = ap (how_view r.copied.items) q in
              let got = missed_follows S is k.history b at.work.safe.sound k.runs.follows (order_view order) out_is.start order.number out_is.found
              out_is.is_open out_is.order at.work.going name loss.number (names.missing_is at r then reports there name loss seen q carried) in
              let none : r.spawned.items ≡ [] = spawned_none (subst IsMissing (sym q) tt) in
              subst As (sym v) (record {
                event = missed order.number got.what loss.number;
                tells = ap (λ n. Some (report_view {P = P} order.number [] (rep.missing n loss.number))) got.is
                    ∙ ap (λ ns. Some (report_view {P = P} order.number ns (rep.missing name loss.number))) (sym none);
                follows = subst (λ ns. Follows S (k.history ++ missed order.number got.what loss.number ∷ [])
                    (accepted D worker_of b (order_view order).out ns (rep.missing name loss.number))) (sym none) got.follows;
              })

      step : Step S.job b.plan (standing S.job k.history) accepted_as.event
      step =
          (lawful_split S.job b.plan (before_all S.job) k.history (accepted_as.event ∷ [])
          (subst (λ p. Lawful S.job p (k.history ++ accepted_as.event ∷ [])) plan_next accepted_as.follows.lawful)).1.0

      taken_now : TakenAs gives digest shop_ b next r
      taken_now =
          record {
            history = k.history;
            event = accepted_as.event;
            lawful = subst (λ p. Lawful S.job p (k.history ++ accepted_as.event ∷ [])) plan_next accepted_as.follows.lawful;
            was = sym k.runs.follows.journal;
            now = sym accepted_as.follows.journal;
            tells = accepted_as.tells ∙ ap (λ n. Some (report_view n r.spawned.items (report_end r))) (sym a.performs.number);
            start = out_is.start;
            is_open = subst (λ n. find_open S.job n (standing S.job k.history).orders ≡ Some out_is.start) (sym a.performs.number) out_is.is_open;
            task = a.performs.task ∙ out_is.order.out.task;
            kind = subst (λ t. OfTask t r.end) (sym a.performs.task) a.performs.kind;
            lies = a.performs.lies k.history b.plan out_is.start k.runs.follows.lawful out_is.is_open out_is.order accepted_as.event
                accepted_as.tells step.allowed step.apart;
            shows = a.performs.answers k.history b.plan out_is.start k.runs.follows.lawful out_is.is_open out_is.order accepted_as.event
                accepted_as.tells step.allowed step.apart;
            places = subst (λ w. PlacesSound shop_.shelves w J.script r) (sym a.performs.worker) a.places;
          }

      pub taken_as : TakenAs gives digest shop_ b m2.board r
      taken_as = subst (λ (z : MasterSeen N). TakenAs gives digest shop_ b z.board r) (sym new_is) taken_now

      -- ---- or it is the end

      shows : (shown : Shown) → r.end ≡ End.Shown shown → s.Means J (json_around G) (shown_view shown) × Shows D J G b.plan m2.board.journal
      shows shown q =
          let x = shown_meant D J G k.orderly k.history b at.work.going at.work.safe.sound k.runs order out_is rows_now rest
          (root order.task (subst (OfTask order.task) q a.performs.kind)) r a.performs shown q (all (λ i. subst IsMissing q i)) in (
            x.0,
            record {
              history = k.history ++ x.1.event ∷ [];
              driven = subst (λ z. Driven S.job z (k.history ++ x.1.event ∷ [])) plan_next x.1.runs.driven;
              journal = sym x.1.runs.follows.journal ∙ ap (λ (z : MasterSeen N). z.board.journal) (sym new_is);
              done = x.1.done;
            },
          )
        where
          root : (task : TaskId) → OfTask task (End.Shown shown) → task ≡ TaskId.Show
          root TaskId.Show i = refl
          root (TaskId.Of n) i = absurd i

      over : (shown : Shown) → r.end ≡ End.Shown shown → (e : RunEnd) → Because D J G b.plan m2.board.journal e
          → Ended gives digest shop_ b.plan m2.board.journal e
      over shown q e why =
          let x = (shows shown q).1 in
          record { driven = (x.history, x.driven, x.journal); cause = why }

      answer_is : (text : List ℕ) (e : End) → Now.Answer text ≡ now_of e → e ≡ End.Shown (Shown.Text text)
      answer_is text (End.Made ms) g = cc
      answer_is text (End.Saved p j refs holds mark) g = cc
      answer_is text (End.Shown (Shown.Text t)) g = cc
      answer_is text (End.Shown (Shown.Fault f)) g = cc
      answer_is text (End.Missing name loss seen) g = cc

      fault_is : (fault : Fault) (e : End) → Now.Fault fault ≡ now_of e → e ≡ End.Shown (Shown.Fault fault)
      fault_is fault (End.Made ms) g = cc
      fault_is fault (End.Saved p j refs holds mark) g = cc
      fault_is fault (End.Shown (Shown.Text t)) g = cc
      fault_is fault (End.Shown (Shown.Fault f)) g = cc
      fault_is fault (End.Missing name loss seen) g = cc

      pub answer_ended : {text : List ℕ} → Now.Answer text ≡ now_of r.end → Ended gives digest shop_ b.plan m2.board.journal (RunEnd.Answer text)
      answer_ended {text} g =
          let q = answer_is text r.end g in
          over (Shown.Text text) q (RunEnd.Answer text) (shows (Shown.Text text) q)

      pub fault_ended : {fault : Fault} → Now.Fault fault ≡ now_of r.end → Ended gives digest shop_ b.plan m2.board.journal (RunEnd.Fault fault)
      fault_ended {fault} g =
          let q = fault_is fault r.end g in
          over (Shown.Fault fault) q (RunEnd.Fault fault) (shows (Shown.Fault fault) q)
