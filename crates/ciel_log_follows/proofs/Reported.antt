-- A report whose record tells the next event of the model makes the state follow that event.
use Rattle.std.proofs.Common.{◌≡◌, ℕ, List, [], map, Some, ap, sym, ◌∙◌, subst, false}
use Rattle.std.specs.BTreeMap.{BTreeMap}
use Rattle.sky_base.specs.KitView.{Gives}
use Rattle.sky_base.specs.Needed as n
use Rattle.sky_base.specs.ObjectView.{desc_view}
use Rattle.sky_base.specs.See as s
use Rattle.sky_base.specs.Val.{Desc}
use Rattle.sky_base.specs.declared.object.Object.{Object}
use Rattle.sky_frozen_bytes.specs.Bytes.{frozen_bytes}
use Rattle.sky_frozen_bytes.specs.Spelled.{StandSpelled}
use Rattle.ciel_journal.specs.Entries.{low_names}
use Rattle.ciel_journal.specs.History.{Event, OpenStart, Standing, done, find_open, lost, missed, names_of, saved, standing, start}
use Rattle.ciel_journal.specs.Job.{Digest}
use Rattle.ciel_journal.specs.Lawful.{Step}
use Rattle.ciel_journal.proofs.Unique.{same_found}
use Rattle.ciel_journal_job.specs.Real.{back}
use Rattle.ciel_json.specs.Around.{json_around}
use Rattle.ciel_log.specs.Logs.{IsDone, RecordOf}
use Rattle.ciel_log_fits.specs.Known.{AfterSeen}
use Rattle.ciel_log_follows.specs.Begins.{ReadsEvent}
use Rattle.ciel_log_follows.specs.Keeping.{KeepsObjects}
use Rattle.ciel_log_follows.proofs.Closes.{Closes, views_of}
use Rattle.ciel_log_follows.proofs.Ended.{ends}
use Rattle.ciel_log_follows.proofs.Steps.{not_started}
use Rattle.ciel_log_follows.proofs.Stopped.{missed_closes, saved_closes}
use Rattle.ciel_log_read.specs.Recorded as read
use Rattle.ciel_log_read.specs.Recorded.{IsRecord, record_bytes, started}
use Rattle.ciel_log_read.specs.View.{end_view, report_view}
use Rattle.ciel_log_read.specs.declared.record.LoggedEnd.{LoggedEnd}
use Rattle.ciel_log_read.specs.declared.record.LoggedReport.{LoggedReport}
use Rattle.ciel_log_read.proofs.Records.{one_record}
use Rattle.ciel_log_records.specs.Records.{HowEnded}
use Rattle.ciel_log_report.specs.Ends.{IsEndOf, IsReportOf}
use Rattle.ciel_master.specs.Fitting.{FitsOrder}
use Rattle.ciel_master_board.specs.Board.{Board}
use Rattle.ciel_master_board.specs.Driving.{Runs}
use Rattle.ciel_master_board.specs.Reports.{named_view}
use Rattle.ciel_master_board.specs.Setting.{Setting}
use Rattle.ciel_master_board.specs.Sound as board
use Rattle.ciel_master_board.specs.Sound.{Sound}
use Rattle.ciel_master_board.specs.TurnsLaws.{IsOut}
use Rattle.ciel_master_law.specs.Ends.{IsOrderly, worker_of}
use Rattle.ciel_master_law.proofs.ShopLaws.{shop_is}
use Rattle.ciel_store.specs.Seen.{ShelvesSeen}
use Rattle.ciel_task_order.specs.Named.{by_names, state_by_names}
use Rattle.ciel_task_order.specs.Performs.{IsMissing, the_shop}
use Rattle.ciel_task_order.specs.Shop.{Block}
use Rattle.ciel_task_order.specs.Views.{P, order_view, report_end}
use Rattle.ciel_task_order.specs.declared.order.Order.{Order}
use Rattle.ciel_task_order.specs.declared.report.Report.{Report}
use Rattle.ciel_want.specs.History.{task_id}

-- ---- records that are the same

-- what two reports' records say
pub record Same (k l : ℕ) (ds es : List (Desc (List ℕ))) (ns ms : List (List ℕ)) (a b : HowEnded) : Type 0 where
  pub numbers : k ≡ l
  pub spawned : ds ≡ es
  pub copied : ns ≡ ms
  pub ends : a ≡ b

pub same_reports : (k l : ℕ) (ds es : List (Desc (List ℕ))) (ns ms : List (List ℕ)) (a b : HowEnded)
    → read.reported k ds ns a ≡ read.reported l es ms b → Same k l ds es ns ms a b
same_reports k l ds es ns ms a b e =
    let p : k ≡ l = cc in
    let q : ds ≡ es = cc in
    let r : ns ≡ ms = cc in
    let t : a ≡ b = cc in
    record { numbers = p; spawned = q; copied = r; ends = t }

-- ends that are of a kind
pub same_saved : (j i : ℕ) (x y : List ℕ) → HowEnded.saved j x ≡ HowEnded.saved i y → (j ≡ i) × (x ≡ y)
same_saved j i x y e =
    let p : j ≡ i = cc in
    let q : x ≡ y = cc in (p, q)

pub same_missing : (a b : List ℕ) (i j : ℕ) → HowEnded.missing a i ≡ HowEnded.missing b j → (a ≡ b) × (i ≡ j)
same_missing a b i j e =
    let p : a ≡ b = cc in
    let q : i ≡ j = cc in (p, q)

module _ (digest : List ℕ → List ℕ) (job : s.Job) (gives : Gives) (orderly : IsOrderly digest job gives) (shelves : ShelvesSeen)
    (h : List (Event s.Desc)) (b : Board P) (sound : Sound digest worker_of b) (runs : Runs (the_shop digest job gives) h b)
    (going : b.stopped ≡ false) (order : Order) (out : IsOut (the_shop digest job gives) h b (order_view order))
    (kept : BTreeMap Digest Object) (keeps : KeepsObjects digest job gives h kept) (logged : LoggedReport) (number : order.number ≡ logged.number)
    (r : Report) (reports : IsReportOf digest shelves job.script b kept order logged r)
    (fits : FitsOrder digest shelves job.script b (order_view order) r) where
  abbrev S : Setting s.Desc P Block
  S = the_shop digest job gives

  abbrev v : Standing s.Desc
  v = standing S.job h

  abbrev o : OpenStart s.Desc
  o = out.start

  abbrev then : AfterSeen P
  then = record { table = b.table; spawned = r.spawned.items }

  abbrev names : List Digest
  names = logged.copied.items

  abbrev IsEnd : LoggedEnd → Type 0
  IsEnd end = IsEndOf order shelves job.script then kept digest b end names r.copied.items r.end

  abbrev After : Event s.Desc → LoggedEnd → Type 0
  After e end = Closes digest job gives h b order kept r e end

  fit : (IsMissing r.end → ⊥) → board.Fits digest worker_of b (order_view order) r.spawned.items (report_end r)
  fit none = (fits.whole none).fits

  views : (spawned : List s.Desc) → map desc_view logged.spawned.items ≡ map (by_names digest) spawned
      → map named_view r.spawned.items ≡ map S.lower spawned
  views spawned e =
      views_of r.spawned.items (map (by_names digest) spawned) (ap (map desc_view) reports.spawned ∙ e)

  -- the open Start with the number of the record
  one_open : (k : ℕ) → k ≡ order.number → (q : OpenStart s.Desc) → find_open S.job k v.orders ≡ Some q → q ≡ o
  one_open k at q e =
      same_found S.job (shop_is digest job gives orderly).laws v k q o e
      (subst (λ i. find_open S.job i v.orders ≡ Some o) (sym at) out.is_open)

  -- ---- a saved wait

  module _ (k j : ℕ) (mark : Digest) (refs holds spawned : List s.Desc) (step : Step S.job b.plan v (saved k j mark refs holds spawned))
      (at : k ≡ order.number) (told : map named_view r.spawned.items ≡ map S.lower spawned) (a : n.State)
      (stands : n.StandsAt job (json_around gives) (back step.allowed.0.task) j a) (spelled : StandSpelled (state_by_names digest a))
      (stack : List ℕ) (is_stack : stack ≡ frozen_bytes (state_by_names digest a)) where
    wait_closes : (end : LoggedEnd) → IsEnd end → end_view end ≡ HowEnded.saved j stack → After (saved k j mark refs holds spawned) end
    wait_closes (LoggedEnd.Saved j2 bytes) x e =
        let same = same_saved j2 j bytes stack e in
        saved_closes digest job gives orderly shelves h b sound runs going order out kept keeps names r reports.named k j mark refs holds spawned step
        at told fit a stands spelled j2 bytes x same.0 (same.1 ∙ is_stack)
    wait_closes (LoggedEnd.Made items) x e = cc
    wait_closes (LoggedEnd.Answer bytes) x e = cc
    wait_closes (LoggedEnd.Fault fault) x e = cc
    wait_closes (LoggedEnd.Missing name loss) x e = cc

  -- ---- something that was missing

  module _ (k : ℕ) (d : s.Desc) (loss : ℕ) (step : Step S.job b.plan v (missed k d loss)) (at : k ≡ order.number) where
    lack_closes : (end : LoggedEnd) → IsEnd end → end_view end ≡ HowEnded.missing (S.job.name d) loss → After (missed k d loss) end
    lack_closes (LoggedEnd.Missing name l) x e =
        let same = same_missing name (S.job.name d) l loss e in
        missed_closes digest job gives orderly shelves h b sound runs going order out kept keeps names r k d loss step at fits.missed name l x same.0
        same.1
    lack_closes (LoggedEnd.Made items) x e = cc
    lack_closes (LoggedEnd.Answer bytes) x e = cc
    lack_closes (LoggedEnd.Fault fault) x e = cc
    lack_closes (LoggedEnd.Saved j bytes) x e = cc

  -- ---- the event

  module _ (bytes : List ℕ) (readable : IsRecord (report_view logged)) (spelled : record_bytes (report_view logged) ≡ bytes) where
    -- the record is this one
    is_same : (k : ℕ) (ds : List (Desc (List ℕ))) (ms : List (List ℕ)) (how : HowEnded) → IsRecord (read.reported k ds ms how)
        → bytes ≡ record_bytes (read.reported k ds ms how)
        → Same logged.number k (map desc_view logged.spawned.items) ds names ms (end_view logged.end) how
    is_same k ds ms how is e =
        same_reports logged.number k (map desc_view logged.spawned.items) ds names ms (end_view logged.end) how
        (one_record (report_view logged) (read.reported k ds ms how) readable is (spelled ∙ e))

    pub closes : (e : Event s.Desc) → Step S.job b.plan v e → (rec : RecordOf digest job gives h e bytes) → ReadsEvent digest job gives h e bytes rec
        → After e logged.end
    closes (start k w t from) step rec reads =
        absurd (not_started logged k w from (task_id S.job t)
        (one_record (report_view logged) (started k w from (task_id S.job t)) readable reads (spelled ∙ rec)))
    closes (lost w n) step rec reads = absurd rec
    closes (done k made copied spawned) step rec reads =
        let same = is_same k (map (by_names digest) spawned) (low_names S.job copied) rec.2.0 reads rec.2.2 in
        let at : k ≡ order.number = sym same.numbers ∙ sym number in
        ends digest job gives orderly shelves h b sound runs going order out kept keeps names r reports.named k made copied spawned step at
        (views spawned same.spawned) same.copied fit logged.end reports.end rec.2.0 same.ends
        (subst (λ (q : OpenStart s.Desc). IsDone digest job gives q.task (names_of made) rec.2.0) (one_open k at rec.0 rec.1) rec.2.1)
    closes (saved k j mark refs holds spawned) step rec reads =
        let same = is_same k (map (by_names digest) spawned) [] (HowEnded.saved j rec.2.0) reads.0 rec.2.2 in
        let at : k ≡ order.number = sym same.numbers ∙ sym number in
        let there : rec.0 ≡ step.allowed.0 = one_open k at rec.0 rec.1 ∙ sym (one_open k at step.allowed.0 step.allowed.1) in
        let stands = subst (λ (q : OpenStart s.Desc). n.StandsAt job (json_around gives) (back q.task) j rec.2.1.1) there (rec.2.1.0, rec.2.1.2) in
        wait_closes k j mark refs holds spawned step at (views spawned same.spawned) rec.2.1.1 stands reads.1 rec.2.0 rec.2.1.3 logged.end
        reports.end same.ends
    closes (missed k d loss) step rec reads =
        let same = is_same k [] [] (HowEnded.missing (S.job.name d) loss) reads rec in
        let at : k ≡ order.number = sym same.numbers ∙ sym number in
        lack_closes k d loss step at logged.end reports.end same.ends
