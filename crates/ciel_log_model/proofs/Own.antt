-- A record that tells the next event of the job's own history passes all tests.
use Rattle.std.proofs.Common.{◌≡◌, ℕ, List, [], ◌∷◌, length, map, Some, refl, sym, ap, ◌∙◌, subst}
use Rattle.std.specs.BTreeMap.{BTreeMap}
use Rattle.sky_base.specs.KitView.{Gives}
use Rattle.sky_base.specs.Needed as n
use Rattle.sky_base.specs.Name.{digested}
use Rattle.sky_base.specs.ObjectView.{desc_view}
use Rattle.sky_base.specs.See as s
use Rattle.sky_base.specs.Val.{Desc}
use Rattle.sky_base.specs.declared.object.Desc1.{Desc1}
use Rattle.sky_base.specs.declared.object.Named.{Named}
use Rattle.sky_base.specs.declared.object.Object.{Object}
use Rattle.sky_frozen_bytes.specs.Bytes.{frozen_bytes}
use Rattle.sky_frozen_bytes.specs.Spelled.{StandSpelled}
use Rattle.ciel_journal.specs.Entries.{low_names}
use Rattle.ciel_journal.specs.History.{Event, OpenStart, Standing, done, find_open, lost, missed, names_of, saved, standing, start}
use Rattle.ciel_journal.specs.Job.{Digest, Each, IsJob, Job}
use Rattle.ciel_journal.specs.Lawful.{Step}
use Rattle.ciel_journal.proofs.Unique.{same_found}
use Rattle.ciel_journal_job.specs.Real.{back}
use Rattle.ciel_json.specs.Around.{json_around}
use Rattle.ciel_log.specs.Logs.{IsDone, RecordOf}
use Rattle.ciel_log_fits.specs.Given.{IsGivenAt}
use Rattle.ciel_log_fits.specs.Known.{AfterSeen}
use Rattle.ciel_log_fits.specs.Named.{desc_of}
use Rattle.ciel_log_follows.specs.Begins.{ReadsEvent}
use Rattle.ciel_log_follows.proofs.Closes.{views_of}
use Rattle.ciel_log_follows.proofs.Reported.{Same, same_missing, same_reports, same_saved}
use Rattle.ciel_log_follows.proofs.Steps.{not_started}
use Rattle.ciel_log_read.specs.Recorded as read
use Rattle.ciel_log_read.specs.Recorded.{IsRecord, record_bytes, started}
use Rattle.ciel_log_read.specs.View.{end_view, report_view}
use Rattle.ciel_log_read.specs.declared.record.LoggedEnd.{LoggedEnd}
use Rattle.ciel_log_read.specs.declared.record.LoggedReport.{LoggedReport}
use Rattle.ciel_log_read.proofs.Records.{one_record}
use Rattle.ciel_log_records.specs.Records.{HowEnded}
use Rattle.ciel_log_report.specs.Tests.{EndPasses, HasCome, ReportPasses, StackPasses}
use Rattle.ciel_log_report.proofs.Parts.{spelled_in}
use Rattle.ciel_master_board.specs.Board.{Board}
use Rattle.ciel_master_board.specs.Follows.{OrderIs}
use Rattle.ciel_master_board.specs.Reports.{IsNamed}
use Rattle.ciel_name.specs.Laws.{SpelledDesc}
use Rattle.ciel_task_order.specs.Named.{by_names, state_by_names}
use Rattle.ciel_task_order.specs.Views.{P, order_view}
use Rattle.ciel_task_order.specs.declared.order.Order.{Order}
use Rattle.ciel_want.specs.History.{task_id}
use Rattle.ciel_log_model.specs.Laws.{IsAt, OwnReportsPass}
use Rattle.ciel_log_model.specs.Passes.{SpawnedPasses}
use Rattle.ciel_log_model.proofs.Books.{J, S, Tells, is}
use Rattle.ciel_log_model.proofs.Closed.{done_passes}
use Rattle.ciel_log_model.proofs.Ends.{any_names, done_ends}
use Rattle.ciel_log_model.proofs.Given.{missed_passes}
use Rattle.ciel_log_model.proofs.Saves as saves

-- descriptions with their names
abbrev name_each : (List ℕ → List ℕ) → List Desc1 → List Named
name_each digest [] = []
name_each digest (d ∷ ds) = record { name = digested digest (desc_view d); desc = d } ∷ name_each digest ds

named_descs : (digest : List ℕ → List ℕ) (ds : List Desc1) → map desc_of (name_each digest ds) ≡ ds
named_descs digest [] = refl
named_descs digest (d ∷ ds) = ap (λ z. d ∷ z) (named_descs digest ds)

are_named : (digest : List ℕ → List ℕ) (ds : List Desc1) → Each (λ (d : Desc1). SpelledDesc (desc_view d)) ds
    → Each (IsNamed digest) (name_each digest ds)
are_named digest [] h = tt
are_named digest (d ∷ ds) h = (record { name = refl; spelled = h.0 }, are_named digest ds h.1)

name_none : (digest : List ℕ → List ℕ) (ds : List Desc1) → map desc_view ds ≡ [] → length (name_each digest ds) ≡ 0
name_none digest [] e = refl
name_none digest (d ∷ ds) e = cc

module _ (digest : List ℕ → List ℕ) (job : s.Job) (gives : Gives) (h : List (Event s.Desc)) (b : Board P) (kept : BTreeMap Digest Object)
    (order : Order) (x : IsAt digest job gives h b kept order) where
  abbrev the : Job s.Desc
  the = J digest job gives x.orderly

  abbrev laws : IsJob the
  laws = (is digest job gives x.orderly).laws

  abbrev v : Standing s.Desc
  v = standing the h

  one_open : (k : ℕ) → k ≡ order.number → (q : OpenStart s.Desc) → find_open the k v.orders ≡ Some q → q ≡ x.out.start
  one_open k at q e =
      same_found the laws v k q x.out.start e (subst (λ i. find_open the i v.orders ≡ Some x.out.start) (sym at) x.out.is_open)

  order_is : (k : ℕ) → k ≡ order.number → (q : OpenStart s.Desc) → find_open the k v.orders ≡ Some q
      → OrderIs (S digest job gives x.orderly) q (order_view order)
  order_is k at q e = subst (λ z. OrderIs (S digest job gives x.orderly) z (order_view order)) (sym (one_open k at q e)) x.out.order

  module _ (bytes : List ℕ) (logged : LoggedReport) (readable : IsRecord (report_view logged)) (spelled : record_bytes (report_view logged) ≡ bytes)
      (number : order.number ≡ logged.number) where
    abbrev ns : List Named
    ns = name_each digest logged.spawned.items

    abbrev after_ : AfterSeen P
    after_ = record { table = b.table; spawned = ns }

    tells : (spawned : List s.Desc) → map desc_view logged.spawned.items ≡ map (by_names digest) spawned → Tells digest job gives x.orderly ns spawned
    tells spawned e =
        record {
          views = views_of ns (map (by_names digest) spawned) (ap (map desc_view) (named_descs digest logged.spawned.items) ∙ e);
          named = are_named digest logged.spawned.items (spelled_in logged readable);
        }

    is_same : (k : ℕ) (ds : List (Desc (List ℕ))) (ms : List (List ℕ)) (how : HowEnded) → IsRecord (read.reported k ds ms how)
        → bytes ≡ record_bytes (read.reported k ds ms how)
        → Same logged.number k (map desc_view logged.spawned.items) ds logged.copied.items ms (end_view logged.end) how
    is_same k ds ms how is e =
        same_reports logged.number k (map desc_view logged.spawned.items) ds logged.copied.items ms (end_view logged.end) how
        (one_record (report_view logged) (read.reported k ds ms how) readable is (spelled ∙ e))

    abbrev Ends : LoggedEnd → Type 0
    Ends end = EndPasses order job.script after_ kept digest b logged.copied.items end

    passes_with : SpawnedPasses digest job.script b.table ns → Ends logged.end → ReportPasses digest job.script b kept order logged
    passes_with p ends =
        record {
          spawned = ns;
          descs = named_descs digest logged.spawned.items;
          named = are_named digest logged.spawned.items (spelled_in logged readable);
          passes = record { sound = λ come. p.allowed; whole = λ come. p.whole; inside = λ come. p.inside; ends = ends };
        }

    passes_without : (HasCome logged.end → ⊥) → Ends logged.end → ReportPasses digest job.script b kept order logged
    passes_without none ends =
        record {
          spawned = ns;
          descs = named_descs digest logged.spawned.items;
          named = are_named digest logged.spawned.items (spelled_in logged readable);
          passes = record {
            sound = λ come. absurd (none come);
            whole = λ come. absurd (none come);
            inside = λ come. absurd (none come);
            ends = ends;
          };
        }

    -- ---- a saved wait

    module _ (k j : ℕ) (mark : Digest) (refs holds spawned : List s.Desc) (step : Step the b.plan v (saved k j mark refs holds spawned))
        (at : k ≡ order.number) (told : map desc_view logged.spawned.items ≡ map (by_names digest) spawned) (none : logged.copied.items ≡ [])
        (a : n.State) (stands : n.StandsAt job (json_around gives) (back step.allowed.0.task) j a) (readable_stack : StandSpelled (state_by_names digest a))
        (stack : List ℕ) (is_stack : stack ≡ frozen_bytes (state_by_names digest a)) where
      wait_ends : (end : LoggedEnd) → end_view end ≡ HowEnded.saved j stack → Ends end
      wait_ends (LoggedEnd.Saved i bytes_) e =
          let same = same_saved i j bytes_ stack e in
          subst (λ z. StackPasses order job.script after_ logged.copied.items z bytes_) (sym same.0) (record {
            none = none;
            later = saves.later digest job gives x.orderly h b x.runs x.sound k j mark refs holds spawned step order
                (order_is k at step.allowed.0 step.allowed.1) a stands;
            can = saves.may_wait digest job gives x.orderly h b x.runs x.sound k j mark refs holds spawned step order
                (order_is k at step.allowed.0 step.allowed.1) a stands;
            stack = state_by_names digest a;
            refs = low_names the refs;
            holds = low_names the holds;
            is_stack = saves.stack_is digest job gives x.orderly h b x.runs x.sound k j mark refs holds spawned step order
                (order_is k at step.allowed.0 step.allowed.1) a stands;
            spelled = readable_stack;
            bytes_of = sym is_stack ∙ sym same.1;
            refs_known = λ other. any_names digest other ns b.table (low_names the refs)
                (saves.refs_known digest job gives x.orderly h b x.runs x.sound k j mark refs holds spawned step ns (tells spawned told));
            holds_known = λ other. any_names digest other ns b.table (low_names the holds)
                (saves.holds_known digest job gives x.orderly h b x.runs x.sound k j mark refs holds spawned step ns (tells spawned told));
          })
      wait_ends (LoggedEnd.Made items) e = cc
      wait_ends (LoggedEnd.Answer bytes_) e = cc
      wait_ends (LoggedEnd.Fault fault) e = cc
      wait_ends (LoggedEnd.Missing name loss) e = cc

    -- ---- something that was missing

    module _ (d : s.Desc) (loss : ℕ) (step : Step the b.plan v (missed order.number d loss))
        (nothing : map desc_view logged.spawned.items ≡ []) (none : logged.copied.items ≡ []) where
      lack_ends : (end : LoggedEnd) → end_view end ≡ HowEnded.missing (the.name d) loss → Ends end
      lack_ends (LoggedEnd.Missing name l) e =
          let same = same_missing name (the.name d) l loss e in
          let got = missed_passes digest job gives x.orderly h b x.runs order x.out.start x.out.is_open x.out.order d loss step in
          record {
            nothing = name_none digest logged.spawned.items nothing;
            none = none;
            loss = record { number = loss; worker = got.0 };
            is_loss = sym same.1;
            planned = got.2;
            lost = got.3;
            given = subst (λ z. IsGivenAt digest order z got.0) (sym same.0) got.1;
          }
      lack_ends (LoggedEnd.Made items) e = cc
      lack_ends (LoggedEnd.Saved j bytes_) e = cc
      lack_ends (LoggedEnd.Answer bytes_) e = cc
      lack_ends (LoggedEnd.Fault fault) e = cc

    never_came : (end : LoggedEnd) (name : Digest) (loss : ℕ) → end_view end ≡ HowEnded.missing name loss → HasCome end → ⊥
    never_came (LoggedEnd.Missing m l) name loss e come = come
    never_came (LoggedEnd.Made items) name loss e come = cc
    never_came (LoggedEnd.Saved j bytes_) name loss e come = cc
    never_came (LoggedEnd.Answer bytes_) name loss e come = cc
    never_came (LoggedEnd.Fault fault) name loss e come = cc

    -- ---- the event

    passes : (e : Event s.Desc) → Step the b.plan v e → (rec : RecordOf digest job gives h e bytes) → ReadsEvent digest job gives h e bytes rec
        → ReportPasses digest job.script b kept order logged
    passes (start k w t from) step rec reads =
        absurd (not_started logged k w from (task_id the t)
        (one_record (report_view logged) (started k w from (task_id the t)) readable reads (spelled ∙ rec)))
    passes (lost w n) step rec reads = absurd rec
    passes (done k made copied spawned) step rec reads =
        let same = is_same k (map (by_names digest) spawned) (low_names the copied) rec.2.0 reads rec.2.2 in
        let at : k ≡ order.number = sym same.numbers ∙ sym number in
        let told = tells spawned same.spawned in
        let one : rec.0 ≡ step.allowed.0 = one_open k at rec.0 rec.1 ∙ sym (one_open k at step.allowed.0 step.allowed.1) in
        passes_with (done_passes digest job gives x.orderly h b x.runs x.sound k made copied spawned step ns told)
        (done_ends digest job gives x.orderly h b x.runs x.sound order kept x.keeps x.keeps_made k made copied spawned step at
        (order_is k at step.allowed.0 step.allowed.1) ns told logged.copied.items same.copied rec.2.0
        (subst (λ (q : OpenStart s.Desc). IsDone digest job gives q.task (names_of made) rec.2.0) one rec.2.1) logged.end same.ends)
    passes (saved k j mark refs holds spawned) step rec reads =
        let same = is_same k (map (by_names digest) spawned) [] (HowEnded.saved j rec.2.0) reads.0 rec.2.2 in
        let at : k ≡ order.number = sym same.numbers ∙ sym number in
        let one : rec.0 ≡ step.allowed.0 = one_open k at rec.0 rec.1 ∙ sym (one_open k at step.allowed.0 step.allowed.1) in
        let stands = subst (λ (q : OpenStart s.Desc). n.StandsAt job (json_around gives) (back q.task) j rec.2.1.1) one (rec.2.1.0, rec.2.1.2) in
        passes_with (saves.saved_passes digest job gives x.orderly h b x.runs x.sound k j mark refs holds spawned step ns (tells spawned same.spawned))
        (wait_ends k j mark refs holds spawned step at same.spawned same.copied rec.2.1.1 stands reads.1 rec.2.0 rec.2.1.3 logged.end same.ends)
    passes (missed k d loss) step rec reads =
        let same = is_same k [] [] (HowEnded.missing (the.name d) loss) reads rec in
        let at : k ≡ order.number = sym same.numbers ∙ sym number in
        passes_without (never_came logged.end (the.name d) loss same.ends)
        (lack_ends d loss (subst (λ z. Step the b.plan v (missed z d loss)) at step) same.spawned same.copied logged.end same.ends)

pub own_reports_pass : OwnReportsPass
own_reports_pass digest job gives h b kept order x e step bytes tells reads logged readable spelled number =
    passes digest job gives h b kept order x bytes logged readable spelled number e step tells reads
