-- What the records of a log that begins one of a journal make of a run: it is the journal's.
use Rattle.std.proofs.Common.{◌≡◌, ◌*◌, ℕ, zero, suc, List, [], ◌∷◌, ◌++◌, take, Option, Some, None, true, inl, inr}
use Rattle.std.proofs.Common.{refl, ap, sym, ◌∙◌, subst, arith}
use Rattle.std.specs.BTreeMap.{BTreeMap, IsEmpty}
use Rattle.sky_base.specs.JobView.{job_view}
use Rattle.sky_base.specs.KitView.{Gives}
use Rattle.sky_base.specs.See as s
use Rattle.sky_base.specs.declared.object.Object.{Object}
use Rattle.sky_machine_show.specs.Shows.{shown_view}
use Rattle.sky_state.specs.declared.shown.Shown.{Shown}
use Rattle.ciel_json.specs.Around.{json_around}
use Rattle.ciel_journal.specs.Entries.{Entry, journal_of}
use Rattle.ciel_journal.specs.History.{Event}
use Rattle.ciel_journal.specs.Job.{Digest, Job}
use Rattle.ciel_journal.specs.Turns.{Driven, state_after}
use Rattle.ciel_log.specs.Logs.{Logs}
use Rattle.ciel_log_file.specs.Replays as rp
use Rattle.ciel_log_file.specs.Replays.{At, HasReplayed, ReplaysRecords, ReplaysTo, TakesRecord}
use Rattle.ciel_log_file.specs.Sending.{nobody, sent_to}
use Rattle.ciel_log_file.specs.Whole.{RecordsTo}
use Rattle.ciel_log_file.proofs.Places.{nobody_at}
use Rattle.ciel_log_follows.specs.Begins.{BeginsLog}
use Rattle.ciel_log_follows.specs.Follows.{IsAtFirst, ReplaysAreEnded, ReplaysAreKept, ReplaysAreTold}
use Rattle.ciel_log_follows.proofs.LogAt.{log_first, told_whole}
use Rattle.ciel_log_follows.proofs.Objects.{keeps_none}
use Rattle.ciel_log_follows.proofs.Steps.{Stands, drops, losses, passes, starts}
use Rattle.ciel_log_follows.proofs.Taken as taken
use Rattle.ciel_log_read.specs.File.{RecordAt}
use Rattle.ciel_log_read.specs.Recorded.{IsRecord, record_bytes}
use Rattle.ciel_log_read.specs.View.{report_view}
use Rattle.ciel_log_read.specs.declared.record.LoggedReport.{LoggedReport}
use Rattle.ciel_log_report.specs.Comes.{EndsWith, ReportStops, ReportTaken}
use Rattle.ciel_master.specs.Refusals.{UnlessMemory}
use Rattle.ciel_master.specs.Seen.{MasterSeen}
use Rattle.ciel_master.specs.declared.stop.RunEnd.{RunEnd}
use Rattle.ciel_master.specs.declared.stop.Stop.{Stop}
use Rattle.ciel_master_board.specs.Board.{Board}
use Rattle.ciel_master_board.specs.Driving.{Quiet, Runs}
use Rattle.ciel_master_board.specs.Handed.{OrdersOf}
use Rattle.ciel_master_board.specs.Setting.{Setting}
use Rattle.ciel_master_law.specs.Ends.{IsOrderly}
use Rattle.ciel_run_drive.specs.Ended.{Because, Ended, Shows}
use Rattle.ciel_run_drive.specs.Kept.{Kept, slots_of}
use Rattle.ciel_table.specs.declared.refusal.Learn.{Learn}
use Rattle.ciel_task_order.specs.Performs.{the_shop}
use Rattle.ciel_task_order.specs.Shop.{Block}
use Rattle.ciel_task_order.specs.Views.{P}
use Rattle.ciel_task_order.specs.declared.order.Order.{Order}
use Rattle.ciel_task_order.specs.declared.report.End.{End}
use Rattle.ciel_task_order.specs.declared.report.Report.{Report}
use Rattle.ciel_task_order.specs.declared.shop.Shop.{Shop}

-- the last of some records stands behind the others
pub records_split : (log : List ℕ) (xs : List (List ℕ)) (x : List ℕ) (at to : ℕ) → RecordsTo log at (xs ++ x ∷ []) to
    → (here : ℕ) × RecordsTo log at xs here × RecordAt log here x to
records_split log [] x at to r = (at, refl, subst (RecordAt log at x) r.2 r.1)
records_split log (y ∷ ys) x at to r =
    let q = records_split log ys x r.0 to r.2 in (q.0, (r.0, r.1, q.1), q.2)

-- no entries are those of no events
no_events : {D : Type 0} (job : Job D) (h : List (Event D)) → journal_of job h ≡ [] → h ≡ []
no_events job [] e = refl
no_events job (x ∷ xs) e = cc

module _ {K N : Type 0} (gives : K → Gives) (digest : N → List ℕ → List ℕ) (shop_ : Shop K N) (m : MasterSeen N) (header log : List ℕ)
    (orderly : IsOrderly (digest shop_.namer) (job_view shop_.job) (gives shop_.kit)) where
  abbrev D : List ℕ → List ℕ
  D = digest shop_.namer

  abbrev J : s.Job
  J = job_view shop_.job

  abbrev G : Gives
  G = gives shop_.kit

  abbrev S : Setting s.Desc P Block
  S = the_shop D J G

  abbrev Here : At → ℕ → Type 0
  Here a at = Stands gives digest shop_ m header log a at

  -- ---- records, one after another

  pub take_one : (b c : At) (at : ℕ) (bytes : List ℕ) (next : ℕ) → Here b at → Quiet b.board → RecordAt log at bytes next
      → TakesRecord D shop_.shelves J.script b bytes c → Here c next
  take_one b c at bytes next x quiet there (rp.starts number worker from task is e only made same) =
      starts gives digest shop_ m header log orderly b at x bytes next there c number worker from task is e only made same
  take_one b c at bytes next x quiet there (rp.reports logged is e r goes k) =
      taken.taken gives digest shop_ m header log orderly b at x bytes next there logged is e k.worker k.order r k.is goes
      (taken.next_told gives digest shop_ m header log orderly b at x bytes next there logged is e k.worker k.order r k.is) c k.board k.listed k.keeping
  take_one b c at bytes next x quiet there (rp.passes logged is e none) =
      passes gives digest shop_ m header log orderly b at x bytes next there quiet logged is e none
  take_one b c at bytes next x quiet there (rp.drops number is e none) =
      drops gives digest shop_ m header log orderly b at x bytes next there quiet number is e none

  pub replay_all : {a c : At} {records : List (List ℕ)} → ReplaysRecords D shop_.shelves J.script a records c → (at to : ℕ) → RecordsTo log at records to
      → Here a at → Here c to
  replay_all (rp.over {a}) at to e x = subst (Here a) e x
  replay_all (rp.takes {a} {c} {d} {bytes} {more} t rest) at to r x =
      replay_all rest r.0 to r.2
      (take_one t.0 c at bytes r.0 (losses gives digest shop_ m header log orderly a t.0 at t.1 x) t.1.quiet r.1 t.2)

  -- ---- the end

  -- what stands whole is a log of this journal, which the run ended with so
  pub record Came (journal : List Entry) (end : RunEnd) (at : ℕ) : Type 0 where
    pub logs : Logs D J G m.board.plan header journal (take at log)
    pub ended : Ended gives digest shop_ m.board.plan journal end

  module _ (b : At) (at : ℕ) (x : Here b at) (bytes : List ℕ) (next : ℕ) (there : RecordAt log at bytes next) (c : At) (logged : LoggedReport)
      (readable : IsRecord (report_view logged)) (spelled : record_bytes (report_view logged) ≡ bytes) where
    -- of the root task
    shown_came : (shown : Shown) (r : Report) → ReportTaken D shop_.shelves J.script b.board b.out b.kept logged c.board c.out c.kept r
        → r.end ≡ End.Shown shown → (stop : RunEnd) → ((J2 : List Entry) → s.Means J (json_around G) (shown_view shown)
        → Shows D J G m.board.plan J2 → Because D J G m.board.plan J2 stop) → Came c.board.journal stop next
    shown_came shown r k q stop why =
        let z = taken.next_told gives digest shop_ m header log orderly b at x bytes next there logged readable spelled k.worker k.order r k.is in
        let runs = taken.runs_on gives digest shop_ m header log orderly b at x bytes next there logged readable spelled k.worker k.order r k.is z in
        let plan = taken.plan_is gives digest shop_ m header log orderly b at x bytes next there logged readable spelled k.worker k.order r k.is
        ∙ x.plan in
        let shows = z.closes.shows shown q in
        let journal : journal_of S.job (x.history ++ z.event ∷ []) ≡ c.board.journal =
        sym runs.follows.journal ∙ ap (λ (y : Board P). y.journal) (sym k.board) in
        let driven = subst (λ y. Driven S.job y (x.history ++ z.event ∷ [])) plan runs.driven in
        record {
          logs = told_whole D J G m.board.plan header log (x.history ++ z.event ∷ []) next c.board.journal journal z.left;
          ended = record {
            driven = (x.history ++ z.event ∷ [], driven, journal);
            cause = why c.board.journal shows.0
                (record { history = x.history ++ z.event ∷ []; driven = driven; journal = journal; done = shows.1 });
          };
        }

    never_stops : (why : Stop) → ReportStops D shop_.shelves J.script b.board b.out b.kept logged c.board c.out why → UnlessMemory why ⊥
    never_stops (Stop.NameClash kept given) k =
        taken.none_stops gives digest shop_ m header log orderly b at x bytes next there logged readable spelled k.worker k.order k.report k.is
        (taken.next_told gives digest shop_ m header log orderly b at x bytes next there logged readable spelled k.worker k.order k.report k.is)
        k.stops.0 (Learn.Clash kept given) k.stops.1
    never_stops (Stop.TooMany held given) k =
        taken.none_stops gives digest shop_ m header log orderly b at x bytes next there logged readable spelled k.worker k.order k.report k.is
        (taken.next_told gives digest shop_ m header log orderly b at x bytes next there logged readable spelled k.worker k.order k.report k.is)
        k.stops.0 (Learn.Full held) k.stops.1
    never_stops Stop.Memory k = tt

    pub end_with : (end : RunEnd) → EndsWith D shop_.shelves J.script b.board b.out b.kept logged end c.board c.out c.kept → Came c.board.journal end next
    end_with (RunEnd.Answer text) e = shown_came (Shown.Text text) e.0 e.1 e.2 (RunEnd.Answer text) (λ J2 means shows. (means, shows))
    end_with (RunEnd.Fault fault) e = shown_came (Shown.Fault fault) e.0 e.1 e.2 (RunEnd.Fault fault) (λ J2 means shows. (means, shows))
    end_with (RunEnd.NameClash kept given) e = absurd (never_stops (Stop.NameClash kept given) e)
    end_with (RunEnd.TooMany held given) e = absurd (never_stops (Stop.TooMany held given) e)
    end_with (RunEnd.Endless names) e = absurd e
    end_with RunEnd.AllLost e = absurd e
    end_with RunEnd.Memory e = absurd e

  pub replay_end : (a c : At) (records : List (List ℕ)) (end : RunEnd) → ReplaysTo D shop_.shelves J.script a records (Some end) c → (at to : ℕ)
      → RecordsTo log at records to → Here a at → Came c.board.journal end to
  replay_end a c records end f at to r x =
      let q = records_split log f.0 f.1 at to (subst (λ z. RecordsTo log at z to) f.2 r) in
      let behind = losses gives digest shop_ m header log orderly f.3 f.5.0 q.0 f.5.1 (replay_all f.4 at q.0 q.1 x) in
      end_with f.5.0 q.0 behind f.1 to q.2 c f.5.2.logged f.5.2.data_of f.5.2.bytes_of end f.5.2.ends

  -- ---- from the beginning on

  module _ (first : IsAtFirst gives digest shop_ m) (begins : BeginsLog D J G m.board.plan header log) where
    abbrev out : List (Option Order)
    out = nobody m.board.plan.workers

    abbrev starting : BTreeMap Digest Object → At
    starting kept = record { board = m.board; out = out; kept = kept }

    nothing_yet : first.kept.history ≡ []
    nothing_yet = no_events S.job first.kept.history (sym first.kept.runs.follows.journal ∙ first.journal)

    pub here_first : (kept : BTreeMap Digest Object) → IsEmpty kept → (next : ℕ) → RecordAt log 0 header next → Here (starting kept) next
    here_first kept none next there =
        record {
          history = [];
          run = record {
            working = first.working;
            runs = subst (λ g. Runs S g m.board) nothing_yet first.kept.runs;
            orders = subst (λ g. OrdersOf S g (slots_of out)) nothing_yet first.kept.orders;
          };
          out = λ w y e. absurd (nobody_at m.board.plan.workers w y e);
          plan = refl;
          keeps = keeps_none D J G [] kept none;
          left = log_first D J G m.board.plan header log next there begins;
        }

    module _ (whole : ℕ) (c : Board P) (then : List (Option Order)) where
      -- where the run goes on
      goes_here : (k : HasReplayed D shop_.shelves J.script log header whole None m.board out c then)
          → Here (record { board = c; out = then; kept = k.last }) whole
      goes_here k = replay_all k.replays k.stand.0 whole k.stand.2 (here_first k.first k.empty k.stand.0 k.stand.1)

      -- where it has ended
      came : (end : RunEnd) → HasReplayed D shop_.shelves J.script log header whole (Some end) m.board out c then → Came c.journal end whole
      came end k =
          replay_end (starting k.first) (record { board = c; out = then; kept = k.last }) k.records end k.replays k.stand.0 whole k.stand.2
          (here_first k.first k.empty k.stand.0 k.stand.1)

      told : (end : Option RunEnd) → HasReplayed D shop_.shelves J.script log header whole end m.board out c then
          → Logs D J G m.board.plan header c.journal (take whole log)
      told None k =
          let x = goes_here k in told_whole D J G m.board.plan header log x.history whole c.journal (sym x.run.runs.follows.journal) x.left
      told (Some end) k = (came end k).logs

-- ---- the law

module _ {K N : Type 0} (gives : K → Gives) (digest : N → List ℕ → List ℕ) where
  pub replays_are_told : ReplaysAreTold gives digest
  replays_are_told shop log header m zero orders end c first begins k =
      inl (refl, ap (λ (z : MasterSeen N). z.board.journal) (k.cut refl) ∙ first.journal)
  replays_are_told shop log header m (suc n) orders end c first begins k =
      inr (told gives digest shop m header log first.kept.orderly first begins (suc n) c.board (sent_to (nobody m.board.plan.workers) orders) end
      (k.replays (omega arith)))

  pub replays_are_kept : ReplaysAreKept gives digest
  replays_are_kept shop log header m whole orders (Some end) c first begins k state drawn = tt
  replays_are_kept shop log header m zero orders None c first begins k state drawn =
      let same = k.cut refl in
      let none = (k.none refl).0 in
      subst (λ z. Kept gives digest shop true z (sent_to (nobody m.board.plan.workers) orders) state) (sym same)
      (subst (λ xs. Kept gives digest shop true m (sent_to (nobody m.board.plan.workers) xs) state) (sym none) (record {
        orderly = first.kept.orderly;
        bare = first.kept.bare;
        history = first.kept.history;
        runs = first.kept.runs;
        orders = first.kept.orders;
        draws = subst (λ (z : MasterSeen N). state ≡ state_after z.board.plan.seed (2 * z.board.starts)) same drawn;
      }))
  replays_are_kept shop log header m (suc n) orders None c first begins k state drawn =
      let x = goes_here gives digest shop m header log first.kept.orderly first begins (suc n) c.board
      (sent_to (nobody m.board.plan.workers) orders) (k.replays (omega arith)) in
      record { orderly = first.kept.orderly; bare = first.kept.bare; history = x.history; runs = x.run.runs; orders = x.run.orders; draws = drawn }

  pub replays_are_ended : ReplaysAreEnded gives digest
  replays_are_ended shop log header m whole orders None c first begins k = tt
  replays_are_ended shop log header m zero orders (Some end) c first begins k =
      let bad : Some end ≡ None = (k.none refl).1 in cc
  replays_are_ended shop log header m (suc n) orders (Some end) c first begins k =
      (came gives digest shop m header log first.kept.orderly first begins (suc n) c.board (sent_to (nobody m.board.plan.workers) orders) end
      (k.replays (omega arith))).ended
