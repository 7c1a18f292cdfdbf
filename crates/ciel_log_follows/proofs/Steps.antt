-- What one record of a replay makes of a run that follows the history of a log.
use Rattle.std.proofs.Common.{◌≡◌, ℕ, nat_eq, cond, List, [], ◌∷◌, ◌++◌, map, Option, Some, None, true, false, ◌⊎◌, inl, inr, refl, ap, sym, ◌∙◌, subst}
use Rattle.sky_base.specs.JobView.{job_view}
use Rattle.sky_base.specs.KitView.{Gives}
use Rattle.sky_base.specs.See as s
use Rattle.sky_base.specs.Val.{Desc}
use Rattle.sky_base.specs.declared.object.TaskId.{TaskId}
use Rattle.ciel_journal.specs.Entries.{Entry, low_names}
use Rattle.ciel_journal.specs.History.{Event, OpenStart, Plan, Standing, before_all, done, find_open, lost, missed, saved, standing, start}
use Rattle.ciel_journal.specs.Job.{In}
use Rattle.ciel_journal.specs.Lawful.{Step}
use Rattle.ciel_journal.specs.Turns.{Driven, FirstDue, Turn}
use Rattle.ciel_journal.proofs.Append.{after_append, driven_split}
use Rattle.ciel_journal.proofs.Members.{bool_cases}
use Rattle.ciel_log.specs.Logs as logs
use Rattle.ciel_log.specs.Logs.{Idle, RecordOf}
use Rattle.ciel_log_file.specs.Replays.{At, LosesDue}
use Rattle.ciel_log_follows.specs.Begins.{ReadsEvent, ReadsIdle}
use Rattle.ciel_log_follows.specs.Keeping.{KeepsObjects}
use Rattle.ciel_log_follows.proofs.LogAt as log_at
use Rattle.ciel_log_follows.proofs.LogAt.{LogAt, NextAt, log_lost, log_next}
use Rattle.ciel_log_follows.proofs.Objects.{keeps_on}
use Rattle.ciel_log_follows.proofs.RunAt.{RunAt, Started, all_out, lose_one, lost_stays_free, none_due, start_one, sweep}
use Rattle.ciel_log_read.specs.File.{RecordAt}
use Rattle.ciel_log_read.specs.Recorded as read
use Rattle.ciel_log_read.specs.Recorded.{IsRecord, Recorded, dropped, record_bytes, started}
use Rattle.ciel_log_read.specs.View.{report_view}
use Rattle.ciel_log_read.specs.declared.record.LoggedReport.{LoggedReport}
use Rattle.ciel_log_read.proofs.Records.{one_record}
use Rattle.ciel_log_records.specs.Records.{HowEnded}
use Rattle.ciel_log_replay.specs.Between.{AllOut}
use Rattle.ciel_log_replay.specs.Steps as steps
use Rattle.ciel_log_replay.specs.Steps.{HasStarted, IsNextStart, LostBy}
use Rattle.ciel_master.specs.Seen.{MasterSeen}
use Rattle.ciel_master_board.specs.Board.{Board, OrderOut, find_order}
use Rattle.ciel_master_board.specs.Driving.{Quiet}
use Rattle.ciel_master_board.specs.Follows.{OneByOne, OutIs}
use Rattle.ciel_master_board.specs.Moves.{lost_at}
use Rattle.ciel_master_board.specs.Setting.{Setting}
use Rattle.ciel_master_law.specs.Ends.{IsOrderly, worker_of}
use Rattle.ciel_task_order.specs.Named.{by_names}
use Rattle.ciel_task_order.specs.Performs.{the_shop}
use Rattle.ciel_task_order.specs.Shop.{Block}
use Rattle.ciel_task_order.specs.Views.{P}
use Rattle.ciel_task_order.specs.declared.order.Order.{Order}
use Rattle.ciel_task_order.specs.declared.shop.Shop.{Shop}
use Rattle.ciel_want.specs.History.{task_id}

pub same_number : (logged : LoggedReport) (l : ℕ) (ds : List (Desc (List ℕ))) (ns : List (List ℕ)) (how : HowEnded)
    → report_view logged ≡ read.reported l ds ns how → l ≡ logged.number
same_number logged l ds ns how e = let same : logged.number ≡ l = cc in sym same

pub not_started : (logged : LoggedReport) (l w from : ℕ) (t : TaskId) → report_view logged ≡ started l w from t → ⊥
not_started logged l w from t e = cc

-- where no order of a number is out, no Start of it is open
none_open : {D Q B : Type 0} (z : Setting D Q B) (k : ℕ) (os : List (OpenStart D)) (xs : List OrderOut) → OneByOne (OutIs z) os xs
    → find_order k xs ≡ None → find_open z.job k os ≡ None
none_open z k [] xs h e = refl
none_open z k (o ∷ os) [] h e = absurd h
none_open z k (o ∷ os) (x ∷ xs) h e = pick (bool_cases (nat_eq k o.number)) (none_open z k os xs h.1)
  where
    pick : ((nat_eq k o.number ≡ true) ⊎ (nat_eq k o.number ≡ false)) → (find_order k xs ≡ None → find_open z.job k os ≡ None)
        → find_open z.job k (o ∷ os) ≡ None
    pick (inl t) rest =
        let u : nat_eq k x.number ≡ true = ap (nat_eq k) h.0.number ∙ t in
        let bad : Some x ≡ None = sym (ap (λ b. cond b (Some x) (find_order k xs)) u) ∙ e in
        cc
    pick (inr f) rest =
        let u : nat_eq k x.number ≡ false = ap (nat_eq k) h.0.number ∙ f in
        ap (λ b. cond b (Some o) (find_open z.job k os)) f ∙ rest (sym (ap (λ b. cond b (Some x) (find_order k xs)) u) ∙ e)

-- what is found is there
pub found_none : {A : Type 0} (x : A) → Some x ≡ None → ⊥
found_none x e = cc

module _ {K N : Type 0} (gives : K → Gives) (digest : N → List ℕ → List ℕ) (shop_ : Shop K N) (m : MasterSeen N) (header log : List ℕ) where
  abbrev D : List ℕ → List ℕ
  D = digest shop_.namer

  abbrev J : s.Job
  J = job_view shop_.job

  abbrev G : Gives
  G = gives shop_.kit

  abbrev S : Setting s.Desc P Block
  S = the_shop D J G

  abbrev p : Plan
  p = m.board.plan

  abbrev LogIs : List (Event s.Desc) → ℕ → Type 0
  LogIs h at = LogAt D J G p header log h at

  -- a run with a history came there, and the log up to this place is the history's
  pub record Stands (a : At) (at : ℕ) : Type 0 where
    pub history : List (Event s.Desc)
    pub run : RunAt gives digest shop_ m history a.board a.out
    pub out : AllOut a.board a.out
    pub plan : a.board.plan ≡ p
    pub keeps : KeepsObjects D J G history a.kept
    pub left : LogIs history at

  module _ (orderly : IsOrderly D J G) where
    -- ---- losses that are due

    -- what holds but for the list of orders
    record Lost (c : Board P) (out : List (Option Order)) (at : ℕ) (a : At) : Type 0 where
      pub history : List (Event s.Desc)
      pub run : RunAt gives digest shop_ m history c out
      pub plan : c.plan ≡ p
      pub keeps : KeepsObjects D J G history a.kept
      pub left : LogIs history at

    lose_next : (d : Board P) (out : List (Option Order)) (at : ℕ) (a : At) (loss w : ℕ) → FirstDue d.plan.losses d.closes d.table.gone loss w → Lost d out at a
        → Lost (lost_at worker_of w d) out at a
    lose_next d out at a loss w due x =
        let y = lose_one gives digest shop_ m orderly x.history d out loss w due x.run in
        record {
          history = x.history ++ lost w d.closes ∷ [];
          run = y.run;
          plan = x.plan;
          keeps = keeps_on D J G x.history (x.history ++ lost w d.closes ∷ []) a.kept
              (λ c i. subst (λ (u : Standing s.Desc). In c u.book) (sym (after_append S.job (before_all S.job) x.history (lost w d.closes))) i) x.keeps;
          left = log_lost D J G p header log x.history w d.closes at (λ k e. lost_stays_free S.job x.history w d.closes k e)
              (subst (λ q. Driven S.job q (x.history ++ lost w d.closes ∷ [])) x.plan y.run.runs.driven)
              (λ e es driven. let now = (driven_split S.job p (before_all S.job) x.history (e ∷ es) driven).1 in
              y.only e (subst (λ q. Step S.job q (standing S.job x.history) e) (sym x.plan) now.0)
              (subst (λ q. Turn S.job q (standing S.job x.history) e) (sym x.plan) now.1)) x.left;
        }

    lose_all : {b c : Board P} {es : List Entry} → LostBy b es c → (out : List (Option Order)) (at : ℕ) (a : At) → Lost b out at a → Lost c out at a
    lose_all steps.stays out at a x = x
    lose_all (steps.loses {c = d} loss w l due) out at a x = lose_next d out at a loss w due (lose_all l out at a x)

    pub losses : (a b : At) (at : ℕ) → LosesDue a b → Stands a at → Stands b at
    losses a b at d x =
        let y = lose_all d.lost a.out at a (record { history = x.history; run = x.run; plan = x.plan; keeps = x.keeps; left = x.left }) in
        record {
          history = y.history;
          run = subst (RunAt gives digest shop_ m y.history b.board) (sym d.listed) (sweep gives digest shop_ m orderly y.history b.board a.out y.run);
          out = subst (AllOut b.board) (sym d.listed) (all_out gives digest shop_ m orderly y.history b.board a.out y.run);
          plan = y.plan;
          keeps = subst (KeepsObjects D J G y.history) (sym d.kept) y.keeps;
          left = y.left;
        }

    -- ---- with no loss due

    module _ (b : At) (at : ℕ) (x : Stands b at) (bytes : List ℕ) (next : ℕ) (there : RecordAt log at bytes next) where
      abbrev h : List (Event s.Desc)
      h = x.history

      abbrev v : Standing s.Desc
      v = standing S.job h

      pub step_here : (e : Event s.Desc) → Step S.job p v e → Step S.job b.board.plan v e
      step_here e t = subst (λ q. Step S.job q v e) (sym x.plan) t

      pub turn_here : (e : Event s.Desc) → Turn S.job p v e → Turn S.job b.board.plan v e
      turn_here e t = subst (λ q. Turn S.job q v e) (sym x.plan) t

      -- the record that stands there
      pub comes : NextAt D J G p header log h bytes next
      comes = log_next D J G p header log h at bytes next there x.left

      pub not_lost : Quiet b.board → (w n : ℕ) → Turn S.job p v (lost w n) → ⊥
      not_lost q w n t = none_due gives digest shop_ m orderly h b.board x.run.runs q w n (turn_here (lost w n) t)

      -- ---- a Start

      pub idle_starts : (number worker from : ℕ) (task : TaskId) → IsRecord (started number worker from task)
          → (z : List ℕ) → record_bytes (started number worker from task) ≡ z → (i : Idle D J G h z) → ReadsIdle D J G h z i → ⊥
      idle_starts number worker from task is z e (logs.reported k free spawned copied how can) reads =
          let same = one_record (started number worker from task) (read.reported k spawned copied how) is reads e in cc
      idle_starts number worker from task is z e (logs.dropped k free) reads =
          let same = one_record (started number worker from task) (dropped k) is free.0 e in cc

      -- the report of an order that is out is no idle record
      pub idle_reports : (logged : LoggedReport) → IsRecord (report_view logged) → (o : OpenStart s.Desc)
          → find_open S.job logged.number v.orders ≡ Some o → (z : List ℕ) → record_bytes (report_view logged) ≡ z
          → (i : Idle D J G h z) → ReadsIdle D J G h z i → ⊥
      idle_reports logged is o found z e (logs.reported k free spawned copied how can) reads =
          let same = same_number logged k spawned copied how
          (one_record (report_view logged) (read.reported k spawned copied how) is reads e) in
          found_none o (sym found ∙ subst (λ n. find_open S.job n v.orders ≡ None) same free.1)
      idle_reports logged is o found z e (logs.dropped k free) reads =
          let same = one_record (report_view logged) (dropped k) is free.0 e in cc

      pub starts : (c : At) (number worker from : ℕ) (task : TaskId) → IsRecord (started number worker from task)
          → record_bytes (started number worker from task) ≡ bytes → IsNextStart b.board number worker from task
          → HasStarted b.board c.board b.out c.out task worker → c.kept ≡ b.kept → Stands c next
      starts c number worker from task is e only made same = pick comes
        where
          new : Started gives digest shop_ m orderly h b.board c.board c.out
          new = start_one gives digest shop_ m orderly h b.board c.board b.out c.out number worker from task only made x.out x.run

          pick : NextAt D J G p header log h bytes next → Stands c next
          pick (log_at.idles i reads l) = absurd (idle_starts number worker from task is bytes e i reads)
          pick (log_at.loses w n turn) = absurd (not_lost only.picked.quiet w n turn)
          pick (log_at.tells a rec reads step turn l) =
              let is_it = new.only a (step_here a step) (turn_here a turn) in
              record {
                history = h ++ new.event ∷ [];
                run = new.run;
                out = new.out;
                plan = ap (λ (z : Board P). z.plan) made.board ∙ x.plan;
                keeps = subst (KeepsObjects D J G (h ++ new.event ∷ [])) (sym same)
                    (keeps_on D J G h (h ++ new.event ∷ []) b.kept new.book x.keeps);
                left = subst (λ z. LogIs (h ++ z ∷ []) next) is_it l;
              }

      -- ---- a record of an order that isn't out

      open_none : (k : ℕ) → find_order k b.board.orders ≡ None → find_open S.job k v.orders ≡ None
      open_none k e = none_open S k v.orders b.board.orders x.run.runs.follows.stands.orders e

      -- it is no event's
      module _ (rc : Recorded) (is : IsRecord rc) (e : record_bytes rc ≡ bytes) (k : ℕ) (none : find_order k b.board.orders ≡ None)
          (of : (l : ℕ) (ds : List (Desc (List ℕ))) (ns : List (List ℕ)) (how : HowEnded) → rc ≡ read.reported l ds ns how → l ≡ k)
          (no_start : (l w from : ℕ) (t : TaskId) → rc ≡ started l w from t → ⊥) where
        closed : (l : ℕ) → l ≡ k → (q : OpenStart s.Desc) → find_open S.job l v.orders ≡ Some q → ⊥
        closed l same q f = found_none q (sym f ∙ open_none l (ap (λ n. find_order n b.board.orders) same ∙ none))

        number : (l : ℕ) (ds : List (Desc (List ℕ))) (ns : List (List ℕ)) (how : HowEnded) → IsRecord (read.reported l ds ns how)
            → bytes ≡ record_bytes (read.reported l ds ns how) → l ≡ k
        number l ds ns how reads q = of l ds ns how (one_record rc (read.reported l ds ns how) is reads (e ∙ q))

        told : (a : Event s.Desc) (rec : RecordOf D J G h a bytes) → ReadsEvent D J G h a bytes rec → Step S.job p v a → ⊥
        told (start l w t from) rec reads step =
            no_start l w from (task_id S.job t) (one_record rc (started l w from (task_id S.job t)) is reads (e ∙ rec))
        told (lost w n) rec reads step = rec
        told (done l made copied spawned) rec reads step =
            closed l (number l (map (by_names D) spawned) (low_names S.job copied) rec.2.0 reads rec.2.2) rec.0 rec.1
        told (saved l j mark refs holds spawned) rec reads step =
            closed l (number l (map (by_names D) spawned) [] (HowEnded.saved j rec.2.0) reads.0 rec.2.2) rec.0 rec.1
        told (missed l d loss) rec reads step =
            closed l (number l [] [] (HowEnded.missing (S.job.name d) loss) reads rec) step.allowed.0 step.allowed.1

        skipped : Quiet b.board → Stands b next
        skipped quiet = pick comes
          where
            pick : NextAt D J G p header log h bytes next → Stands b next
            pick (log_at.idles i reads l) =
                record { history = h; run = x.run; out = x.out; plan = x.plan; keeps = x.keeps; left = l }
            pick (log_at.loses w n turn) = absurd (not_lost quiet w n turn)
            pick (log_at.tells a rec reads step turn l) = absurd (told a rec reads step)

      pub passes : Quiet b.board → (logged : LoggedReport) → IsRecord (report_view logged) → record_bytes (report_view logged) ≡ bytes
          → find_order logged.number b.board.orders ≡ None → Stands b next
      passes quiet logged is e none =
          skipped (report_view logged) is e logged.number none (λ l ds ns how q. same_number logged l ds ns how q)
          (λ l w from t q. not_started logged l w from t q) quiet

      pub drops : Quiet b.board → (number : ℕ) → IsRecord (dropped number) → record_bytes (dropped number) ≡ bytes
          → find_order number b.board.orders ≡ None → Stands b next
      drops quiet number is e none =
          skipped (dropped number) is e number none (λ l ds ns how q. cc) (λ l w from t q. cc) quiet
