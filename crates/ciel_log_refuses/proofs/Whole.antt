-- Where a replay of a log came to the run's end, no record stands behind it.
use Rattle.std.proofs.Common.{◌≡◌, ℕ, List, [], ◌∷◌, ◌++◌, Some, subst}
use Rattle.sky_base.specs.JobView.{job_view}
use Rattle.sky_base.specs.KitView.{Gives}
use Rattle.sky_base.specs.See as s
use Rattle.sky_state.specs.declared.shown.Shown.{Shown}
use Rattle.ciel_journal.specs.History.{before_all}
use Rattle.ciel_journal.specs.Job.{Job}
use Rattle.ciel_journal.proofs.Append.{driven_split}
use Rattle.ciel_journal.proofs.Ends.{over_told}
use Rattle.ciel_log_file.specs.Replays.{At, ReplaysTo}
use Rattle.ciel_log_file.specs.Whole.{RecordsTo}
use Rattle.ciel_log_follows.proofs.LogAt.{none_behind}
use Rattle.ciel_log_follows.proofs.Replayed.{records_split, replay_all}
use Rattle.ciel_log_follows.proofs.RunAt.{driven_lawful}
use Rattle.ciel_log_follows.proofs.Steps.{Stands, losses}
use Rattle.ciel_log_follows.proofs.Taken as taken
use Rattle.ciel_log_read.specs.File.{RecordAt}
use Rattle.ciel_log_read.specs.Recorded.{IsRecord, record_bytes}
use Rattle.ciel_log_read.specs.View.{report_view}
use Rattle.ciel_log_read.specs.declared.record.LoggedReport.{LoggedReport}
use Rattle.ciel_log_report.specs.Comes.{EndsWith, ReportStops, ReportTaken}
use Rattle.ciel_master.specs.Seen.{MasterSeen}
use Rattle.ciel_master.specs.declared.stop.RunEnd.{RunEnd}
use Rattle.ciel_master.specs.declared.stop.Stop.{Stop}
use Rattle.ciel_master_board.specs.Reports.{FirstRefused}
use Rattle.ciel_master_law.specs.Ends.{IsOrderly}
use Rattle.ciel_master_law.proofs.ShopLaws.{shop_is}
use Rattle.sky_base.specs.declared.object.Named.{Named}
use Rattle.ciel_table.specs.declared.refusal.Learn.{Learn}
use Rattle.ciel_task_order.specs.Named.{shop_job}
use Rattle.ciel_task_order.specs.declared.report.End.{End}
use Rattle.ciel_task_order.specs.declared.report.Report.{Report}
use Rattle.ciel_task_order.specs.declared.shop.Shop.{Shop}

module _ {K N : Type 0} (gives : K → Gives) (digest : N → List ℕ → List ℕ) (shop_ : Shop K N) (m : MasterSeen N) (header log : List ℕ)
    (orderly : IsOrderly (digest shop_.namer) (job_view shop_.job) (gives shop_.kit)) where
  abbrev D : List ℕ → List ℕ
  D = digest shop_.namer

  abbrev J : s.Job
  J = job_view shop_.job

  abbrev G : Gives
  G = gives shop_.kit

  abbrev the : Job s.Desc
  the = shop_job D J G

  module _ (b : At) (at : ℕ) (x : Stands gives digest shop_ m header log b at) (bytes : List ℕ) (next : ℕ) (there : RecordAt log at bytes next) (c : At)
      (logged : LoggedReport) (readable : IsRecord (report_view logged)) (spelled : record_bytes (report_view logged) ≡ bytes) (more : List ℕ) (then : ℕ)
      (behind : RecordAt log next more then) where
    -- the root task shows something
    shown_last : (shown : Shown) (r : Report) → ReportTaken D shop_.shelves J.script b.board b.out b.kept logged c.board c.out c.kept r
        → r.end ≡ End.Shown shown → ⊥
    shown_last shown r k q =
        let z = taken.next_told gives digest shop_ m header log orderly b at x bytes next there logged readable spelled k.worker k.order r k.is in
        let h = x.history ++ z.event ∷ [] in
        let driven = (driven_split the m.board.plan (before_all the) h z.left.events z.left.driven).0 in
        let over = (over_told the (shop_is D J G orderly).laws m.board.plan h (driven_lawful the m.board.plan (before_all the) h driven)).1
        (z.closes.shows shown q).1 in
        none_behind D J G m.board.plan header log h next more then behind z.left over

    -- the master refused nothing
    none_stops : (why : Stop) (k : ReportStops D shop_.shelves J.script b.board b.out b.kept logged c.board c.out why) (n : Named) (l : Learn)
        → FirstRefused D k.report.spawned.items b.board.table n l → ⊥
    none_stops why k n l f =
        taken.none_stops gives digest shop_ m header log orderly b at x bytes next there logged readable spelled k.worker k.order k.report k.is
        (taken.next_told gives digest shop_ m header log orderly b at x bytes next there logged readable spelled k.worker k.order k.report k.is) n l f

    end_last : (end : RunEnd) → EndsWith D shop_.shelves J.script b.board b.out b.kept logged end c.board c.out c.kept → ⊥
    end_last (RunEnd.Answer text) e = shown_last (Shown.Text text) e.0 e.1 e.2
    end_last (RunEnd.Fault fault) e = shown_last (Shown.Fault fault) e.0 e.1 e.2
    end_last (RunEnd.NameClash kept given) e = none_stops (Stop.NameClash kept given) e e.stops.0 (Learn.Clash kept given) e.stops.1
    end_last (RunEnd.TooMany held given) e = none_stops (Stop.TooMany held given) e e.stops.0 (Learn.Full held) e.stops.1
    end_last (RunEnd.Endless names) e = e
    end_last RunEnd.AllLost e = e
    end_last RunEnd.Memory e = e

  pub none_after_end : (a c : At) (records : List (List ℕ)) (end : RunEnd) → ReplaysTo D shop_.shelves J.script a records (Some end) c → (at to : ℕ)
      → RecordsTo log at records to → Stands gives digest shop_ m header log a at → (bytes : List ℕ) (next : ℕ) → RecordAt log to bytes next → ⊥
  none_after_end a c records end f at to r x bytes next there =
      let q = records_split log f.0 f.1 at to (subst (λ z. RecordsTo log at z to) f.2 r) in
      let behind = losses gives digest shop_ m header log orderly f.3 f.5.0 q.0 f.5.1
      (replay_all gives digest shop_ m header log orderly f.4 at q.0 q.1 x) in
      end_last f.5.0 q.0 behind f.1 to q.2 c f.5.2.logged f.5.2.data_of f.5.2.bytes_of bytes next there end f.5.2.ends
