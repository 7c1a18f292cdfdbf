-- No record of a log is refused where a run follows the log's history.
use Rattle.std.proofs.Common.{◌≡◌, ℕ, nat_eq, cond, List, [], ◌∷◌, map, true, false, Some, None, ◌⊎◌, inl, inr, refl, ap, sym, ◌∙◌, subst}
use Rattle.sky_base.specs.JobView.{job_view}
use Rattle.sky_base.specs.KitView.{Gives}
use Rattle.sky_base.specs.See as s
use Rattle.sky_base.specs.Val.{Desc}
use Rattle.sky_base.specs.declared.object.TaskId.{TaskId}
use Rattle.ciel_journal.specs.Entries.{Entry, low, low_names}
use Rattle.ciel_journal.specs.History.{Event, OpenStart, Standing, done, find_open, lost, missed, saved, standing, start}
use Rattle.ciel_journal.specs.Job.{Digest, Task}
use Rattle.ciel_journal.specs.Lawful.{Step}
use Rattle.ciel_journal.specs.Turns.{Rests, Turn}
use Rattle.ciel_journal.proofs.Members.{bool_cases}
use Rattle.ciel_log.specs.Logs as logs
use Rattle.ciel_log.specs.Logs.{Idle, RecordOf}
use Rattle.ciel_log_file.specs.Refused as refused
use Rattle.ciel_log_file.specs.Refused.{RefusedNow}
use Rattle.ciel_log_file.specs.Replays.{At}
use Rattle.ciel_log_follows.specs.Begins.{ReadsEvent, ReadsIdle}
use Rattle.ciel_log_follows.proofs.LogAt as log_at
use Rattle.ciel_log_follows.proofs.LogAt.{NextAt}
use Rattle.ciel_log_follows.proofs.RunAt.{low_last, only_next}
use Rattle.ciel_log_follows.proofs.Steps.{Stands, comes, idle_reports, idle_starts, not_lost, not_started, step_here, turn_here}
use Rattle.ciel_log_model.specs.Laws.{IsAt}
use Rattle.ciel_log_model.proofs.Own.{own_reports_pass}
use Rattle.ciel_log_read.specs.File.{RecordAt}
use Rattle.ciel_log_read.specs.Recorded as read
use Rattle.ciel_log_read.specs.Recorded.{IsRecord, NoRecord, dropped, record_bytes, started}
use Rattle.ciel_log_read.specs.View.{report_view}
use Rattle.ciel_log_read.specs.declared.record.LoggedReport.{LoggedReport}
use Rattle.ciel_log_read.proofs.Records.{one_record}
use Rattle.ciel_log_records.specs.Records.{HowEnded}
use Rattle.ciel_log_refuses.proofs.Chosen.{picked_now, rests_now}
use Rattle.ciel_log_refuses.proofs.Kept.{AllKept, made_kept}
use Rattle.ciel_log_replay.specs.Next.{IsClose}
use Rattle.ciel_log_replay.specs.Steps.{IsNextStart}
use Rattle.ciel_log_report.specs.Tests.{ReportPasses, ReportRefused}
use Rattle.ciel_master.specs.Seen.{MasterSeen}
use Rattle.ciel_master_board.specs.Board.{OrderOut, find_order, task_key, wait_number}
use Rattle.ciel_master_board.specs.Driving.{Picked, Quiet, RestsNow, RunsOn}
use Rattle.ciel_master_board.specs.Follows.{OneByOne, OutIs}
use Rattle.ciel_master_board.specs.Moves.{started as started_at}
use Rattle.ciel_master_board.specs.Setting.{IsSetting, Setting}
use Rattle.ciel_master_board.specs.TurnsLaws.{IsOut}
use Rattle.ciel_master_board.proofs.DueEvents.{start_runs}
use Rattle.ciel_master_board.proofs.TurnEvents.{out_is_open}
use Rattle.ciel_master_law.specs.Ends.{IsOrderly, worker_of}
use Rattle.ciel_master_law.proofs.ShopLaws.{shop_is}
use Rattle.ciel_run_drive.specs.Kept.{slots_of}
use Rattle.ciel_run_drive.proofs.Slots.{slots_at}
use Rattle.ciel_table.specs.Seen.{last_wait}
use Rattle.ciel_task_order.specs.Named.{by_names}
use Rattle.ciel_task_order.specs.Performs.{the_shop}
use Rattle.ciel_task_order.specs.Shop.{Block}
use Rattle.ciel_task_order.specs.Views.{P, order_view}
use Rattle.ciel_task_order.specs.declared.shop.Shop.{Shop}
use Rattle.ciel_want.specs.History.{task_id}

-- where no Start of a number is open, no order of it is out
none_out : {D Q B : Type 0} (z : Setting D Q B) (k : ℕ) (os : List (OpenStart D)) (xs : List OrderOut) → OneByOne (OutIs z) os xs
    → find_open z.job k os ≡ None → find_order k xs ≡ None
none_out z k [] [] h e = refl
none_out z k [] (x ∷ xs) h e = absurd h
none_out z k (o ∷ os) [] h e = absurd h
none_out z k (o ∷ os) (x ∷ xs) h e = pick (bool_cases (nat_eq k x.number)) (none_out z k os xs h.1)
  where
    pick : ((nat_eq k x.number ≡ true) ⊎ (nat_eq k x.number ≡ false)) → (find_open z.job k os ≡ None → find_order k xs ≡ None)
        → find_order k (x ∷ xs) ≡ None
    pick (inl t) rest =
        let u : nat_eq k o.number ≡ true = ap (nat_eq k) (sym h.0.number) ∙ t in
        let bad : Some o ≡ None = sym (ap (λ b. cond b (Some o) (find_open z.job k os)) u) ∙ e in
        cc
    pick (inr f) rest =
        let u : nat_eq k o.number ≡ false = ap (nat_eq k) (sym h.0.number) ∙ f in
        ap (λ b. cond b (Some x) (find_order k xs)) f ∙ rest (sym (ap (λ b. cond b (Some o) (find_open z.job k os)) u) ∙ e)

-- what two Starts' records say
record SameStart (k l w u a b : ℕ) (x y : TaskId) : Type 0 where
  pub numbers : k ≡ l
  pub workers : w ≡ u
  pub waits : a ≡ b
  pub tasks : x ≡ y

same_starts : (k l w u a b : ℕ) (x y : TaskId) → started k w a x ≡ started l u b y → SameStart k l w u a b x y
same_starts k l w u a b x y e =
    let p : k ≡ l = cc in
    let q : w ≡ u = cc in
    let r : a ≡ b = cc in
    let t : x ≡ y = cc in
    record { numbers = p; workers = q; waits = r; tasks = t }

same_entry : (k l w u a b : ℕ) (x y : Task Digest) → Entry.Start k w x a ≡ Entry.Start l u y b → (k ≡ l) × (a ≡ b)
same_entry k l w u a b x y e =
    let p : k ≡ l = cc in
    let q : a ≡ b = cc in (p, q)

module _ {K N : Type 0} (gives : K → Gives) (digest : N → List ℕ → List ℕ) (shop_ : Shop K N) (m : MasterSeen N) (header log : List ℕ)
    (orderly : IsOrderly (digest shop_.namer) (job_view shop_.job) (gives shop_.kit)) (b : At) (at : ℕ)
    (x : Stands gives digest shop_ m header log b at) (bytes : List ℕ) (next : ℕ) (there : RecordAt log at bytes next) (quiet : Quiet b.board)
    (kept : AllKept b.board.journal b.kept) where
  abbrev D : List ℕ → List ℕ
  D = digest shop_.namer

  abbrev J : s.Job
  J = job_view shop_.job

  abbrev G : Gives
  G = gives shop_.kit

  abbrev S : Setting s.Desc P Block
  S = the_shop D J G

  is : IsSetting S
  is = shop_is D J G orderly

  abbrev h : List (Event s.Desc)
  h = x.history

  abbrev v : Standing s.Desc
  v = standing S.job h

  abbrev Next : Type 0
  Next = NextAt D J G m.board.plan header log h bytes next

  next_record : Next
  next_record = comes gives digest shop_ m header log orderly b at x bytes next there

  abbrev Allowed_ : Event s.Desc → Type 0
  Allowed_ a = Step S.job b.board.plan v a

  abbrev Turn_ : Event s.Desc → Type 0
  Turn_ a = Turn S.job b.board.plan v a

  -- an idle record is refused, or that of the next event
  by_next : ((i : Idle D J G h bytes) → ReadsIdle D J G h bytes i → ⊥)
      → ((a : Event s.Desc) (rec : RecordOf D J G h a bytes) → ReadsEvent D J G h a bytes rec → Allowed_ a → Turn_ a → ⊥) → ⊥
  by_next idle event = pick next_record
    where
      pick : Next → ⊥
      pick (log_at.idles i reads l) = idle i reads
      pick (log_at.loses w n turn) = not_lost gives digest shop_ m header log orderly b at x bytes next there quiet w n turn
      pick (log_at.tells a rec reads step turn l) =
          event a rec reads (step_here gives digest shop_ m header log orderly b at x bytes next there a step)
          (turn_here gives digest shop_ m header log orderly b at x bytes next there a turn)

  -- ---- bytes that are no record

  idle_is : (z : List ℕ) (i : Idle D J G h z) → ReadsIdle D J G h z i → NoRecord z → ⊥
  idle_is z (logs.reported k free spawned copied how can) reads fails = fails (read.reported k spawned copied how) reads refl
  idle_is z (logs.dropped k free) reads fails = fails (dropped k) free.0 refl

  event_is : NoRecord bytes → (a : Event s.Desc) (rec : RecordOf D J G h a bytes) → ReadsEvent D J G h a bytes rec → ⊥
  event_is fails (start k w t from) rec reads = fails (started k w from (task_id S.job t)) reads (sym rec)
  event_is fails (done k made copied spawned) rec reads =
      fails (read.reported k (map (by_names D) spawned) (low_names S.job copied) rec.2.0) reads (sym rec.2.2)
  event_is fails (saved k j mark refs holds spawned) rec reads =
      fails (read.reported k (map (by_names D) spawned) [] (HowEnded.saved j rec.2.0)) reads.0 (sym rec.2.2)
  event_is fails (missed k d loss) rec reads = fails (read.reported k [] [] (HowEnded.missing (S.job.name d) loss)) reads (sym rec)
  event_is fails (lost w n) rec reads = rec

  -- ---- a Start

  start_is : (number worker from : ℕ) (task : TaskId) → IsRecord (started number worker from task)
      → record_bytes (started number worker from task) ≡ bytes → (IsNextStart b.board number worker from task → ⊥)
      → (a : Event s.Desc) (rec : RecordOf D J G h a bytes) → ReadsEvent D J G h a bytes rec → Allowed_ a → Turn_ a → ⊥
  start_is number worker from task readable e fails (start k w t wait) rec reads step turn =
      fails (record {
        picked = subst (λ z. Picked b.board z worker) (sym same.tasks) (subst (Picked b.board (task_id S.job t)) (sym same.workers) picked);
        counted = same.numbers ∙ numbers.0;
        waits = same.waits ∙ (numbers.1 ∙ ap (λ z. wait_number (last_wait z b.board.table)) (sym same.tasks));
      })
    where
      same : SameStart number k worker w from wait task (task_id S.job t)
      same =
          same_starts number k worker w from wait task (task_id S.job t)
          (one_record (started number worker from task) (started k w wait (task_id S.job t)) readable reads (e ∙ rec))

      picked : Picked b.board (task_id S.job t) w
      picked = picked_now S is h b.board x.run.working.work.safe.sound x.run.runs w t turn

      on : RunsOn S h (started_at worker_of b.board (task_id S.job t) w)
      on =
          start_runs S is h b.board x.run.working.work.safe.sound x.run.runs x.run.working.work.going (task_id S.job t) w picked

      written : Entry
      written = Entry.Start b.board.starts w (task_key (task_id S.job t)) (wait_number (last_wait (task_id S.job t) b.board.table))

      entry : low S.job on.event ≡ written
      entry =
          low_last gives digest shop_ m orderly h b.board (started_at worker_of b.board (task_id S.job t) w) on.event written x.run.runs on.runs refl

      event : start k w t wait ≡ on.event
      event =
          only_next gives digest shop_ m orderly h b.board (started_at worker_of b.board (task_id S.job t) w) on.event on.runs refl
          (λ i. subst IsClose entry i) (start k w t wait) step turn

      numbers : (k ≡ b.board.starts) × (wait ≡ wait_number (last_wait (task_id S.job t) b.board.table))
      numbers = same_entry k b.board.starts w w wait _ _ _ (ap (low S.job) event ∙ entry)
  start_is number worker from task readable e fails (done k made copied spawned) rec reads step turn =
      let same = one_record (started number worker from task) (read.reported k (map (by_names D) spawned) (low_names S.job copied) rec.2.0) readable
      reads (e ∙ rec.2.2) in cc
  start_is number worker from task readable e fails (saved k j mark refs holds spawned) rec reads step turn =
      let same = one_record (started number worker from task) (read.reported k (map (by_names D) spawned) [] (HowEnded.saved j rec.2.0)) readable
      reads.0 (e ∙ rec.2.2) in cc
  start_is number worker from task readable e fails (missed k d loss) rec reads step turn =
      let same = one_record (started number worker from task) (read.reported k [] [] (HowEnded.missing (S.job.name d) loss)) readable reads (e ∙ rec)
      in cc
  start_is number worker from task readable e fails (lost w n) rec reads step turn = rec

  -- ---- a report

  module _ (logged : LoggedReport) (readable : IsRecord (report_view logged)) (e : record_bytes (report_view logged) ≡ bytes)
      (fails : ReportRefused D J.script b.board b.out b.kept logged) where
    out_is : IsOut S h b.board (order_view fails.order)
    out_is =
        out_is_open S is h b.board x.run.working.work.going x.run.working.work.safe.sound x.run.runs (slots_of b.out) x.run.orders
        fails.worker (order_view fails.order) (slots_at b.out fails.worker fails.order fails.there) (x.out fails.worker fails.order fails.there)

    idle_told : (i : Idle D J G h bytes) → ReadsIdle D J G h bytes i → ⊥
    idle_told i reads =
        idle_reports gives digest shop_ m header log orderly b at x bytes next there logged readable out_is.start
        (subst (λ n. find_open S.job n v.orders ≡ Some out_is.start) fails.number out_is.is_open) bytes e i reads

    -- a report comes where nothing can be started
    rests_then : (a : Event s.Desc) (rec : RecordOf D J G h a bytes) → ReadsEvent D J G h a bytes rec → Turn_ a → Rests S.job b.board.plan v
    rests_then (start k w t from) rec reads turn =
        absurd (not_started logged k w from (task_id S.job t)
        (one_record (report_view logged) (started k w from (task_id S.job t)) readable reads (e ∙ rec)))
    rests_then (done k made copied spawned) rec reads turn = turn
    rests_then (saved k j mark refs holds spawned) rec reads turn = turn
    rests_then (missed k d loss) rec reads turn = turn
    rests_then (lost w n) rec reads turn = absurd rec

    at_order : IsAt D J G h b.board b.kept fails.order
    at_order =
        record {
          orderly = orderly;
          runs = x.run.runs;
          sound = x.run.working.work.safe.sound;
          out = out_is;
          keeps = x.keeps;
          keeps_made = made_kept D J G h b.board.journal b.kept x.run.runs.follows.journal kept;
        }

    report_is : (a : Event s.Desc) (rec : RecordOf D J G h a bytes) → ReadsEvent D J G h a bytes rec → Allowed_ a → Turn_ a → ⊥
    report_is a rec reads step turn = pick fails.cause
      where
        pick : ((RestsNow b.board → ⊥) ⊎ (ReportPasses D J.script b.board b.kept fails.order logged → ⊥)) → ⊥
        pick (inl early) = early (rests_now S is h b.board x.run.working.work.safe.sound x.run.runs (rests_then a rec reads turn))
        pick (inr unfit) = unfit (own_reports_pass D J G h b.board b.kept fails.order at_order a step bytes rec reads logged readable e fails.number)

  -- ---- a dropped report

  module _ (number : ℕ) (readable : IsRecord (dropped number)) (e : record_bytes (dropped number) ≡ bytes)
      (some : find_order number b.board.orders ≡ None → ⊥) where
    drop_idle : (z : List ℕ) → record_bytes (dropped number) ≡ z → (i : Idle D J G h z) → ReadsIdle D J G h z i → ⊥
    drop_idle z e (logs.reported k free spawned copied how can) reads =
        let same = one_record (dropped number) (read.reported k spawned copied how) readable reads e in cc
    drop_idle z e (logs.dropped k free) reads =
        let same = one_record (dropped number) (dropped k) readable free.0 e in
        let numbers : number ≡ k = cc in
        some (subst (λ n. find_order n b.board.orders ≡ None) (sym numbers)
        (none_out S k v.orders b.board.orders x.run.runs.follows.stands.orders free.1))

    drop_is : (a : Event s.Desc) (rec : RecordOf D J G h a bytes) → ReadsEvent D J G h a bytes rec → ⊥
    drop_is (start k w t from) rec reads =
        let same = one_record (dropped number) (started k w from (task_id S.job t)) readable reads (e ∙ rec) in cc
    drop_is (done k made copied spawned) rec reads =
        let same = one_record (dropped number) (read.reported k (map (by_names D) spawned) (low_names S.job copied) rec.2.0) readable reads (e ∙ rec.2.2)
        in cc
    drop_is (saved k j mark refs holds spawned) rec reads =
        let same = one_record (dropped number) (read.reported k (map (by_names D) spawned) [] (HowEnded.saved j rec.2.0)) readable reads.0 (e ∙ rec.2.2)
        in cc
    drop_is (missed k d loss) rec reads =
        let same = one_record (dropped number) (read.reported k [] [] (HowEnded.missing (S.job.name d) loss)) readable reads (e ∙ rec) in cc
    drop_is (lost w n) rec reads = rec

  -- ---- so it isn't refused

  pub never_refused : RefusedNow D J.script b bytes → ⊥
  never_refused (refused.no_record fails) = by_next (λ i reads. idle_is bytes i reads fails) (λ a rec reads step turn. event_is fails a rec reads)
  never_refused (refused.no_start number worker from task readable e fails) =
      by_next (λ i reads. idle_starts gives digest shop_ m header log orderly b at x bytes next there number worker from task readable bytes e i reads)
      (λ a rec reads step turn. start_is number worker from task readable e fails a rec reads step turn)
  never_refused (refused.no_report logged readable e fails) =
      by_next (λ i reads. idle_told logged readable e fails i reads) (λ a rec reads step turn. report_is logged readable e fails a rec reads step turn)
  never_refused (refused.no_drop number readable e some) =
      by_next (λ i reads. drop_idle number readable e some bytes e i reads) (λ a rec reads step turn. drop_is number readable e some a rec reads)
