-- A run's log, by the calls that moved the master's state.
use Rattle.std.proofs.Common.{◌≡◌, ℕ, List, [], ◌∷◌, ◌++◌, map, Some, ◌⊎◌, inl, inr, refl, ap, sym, ◌∙◌, subst}
use Rattle.std.proofs.lemmas.List.{append_assoc, append_cancel_left, append-nil}
use Rattle.sky_base.specs.JobView.{job_view}
use Rattle.sky_base.specs.KitView.{Gives}
use Rattle.sky_base.specs.ObjectView.{desc_view}
use Rattle.sky_base.specs.See as s
use Rattle.sky_base.specs.declared.object.Named.{Named}
use Rattle.sky_base.specs.declared.object.TaskId.{TaskId}
use Rattle.ciel_io.specs.Kept.{Files}
use Rattle.ciel_journal.specs.Entries.{Entry, journal_of, low, low_task}
use Rattle.ciel_journal.specs.History.{Event, Plan, before_all, done, lost, missed, saved, start}
use Rattle.ciel_journal.specs.Job.{Job, Task, of, show}
use Rattle.ciel_journal.specs.Lawful.{Lawful}
use Rattle.ciel_journal.proofs.Append.{journal_last, lawful_split}
use Rattle.ciel_journal.proofs.Unique.{names_determine}
use Rattle.ciel_run_drive.specs.Taking.{entry_for}
use Rattle.ciel_master_board.specs.Board as board
use Rattle.ciel_master_board.specs.Board.{Board, OrderOut, task_key, wait_number}
use Rattle.ciel_master_board.specs.Moves.{accepted, lost_at, order_for, started}
use Rattle.ciel_master_board.specs.Reports as rep
use Rattle.ciel_master_board.specs.Setting.{IsSetting, Setting}
use Rattle.ciel_run_drive.specs.Ends.{IsOrderly, worker_of}
use Rattle.ciel_run_drive.proofs.ShopLaws.{shop_is}
use Rattle.ciel_task_crew.specs.Calls.{Call, Went, given, sent}
use Rattle.ciel_task_order.specs.Performs.{the_shop}
use Rattle.ciel_task_order.specs.Shop.{Block}
use Rattle.ciel_task_order.specs.Views.{P, order_view, report_end}
use Rattle.ciel_task_order.specs.declared.order.Order.{Order}
use Rattle.ciel_task_order.specs.declared.report.Report.{Report}
use Rattle.ciel_task_order.specs.declared.shop.Shop.{Shop}
use Rattle.ciel_table.specs.Seen.{last_wait}
use Rattle.ciel_want.specs.History.{task_id}
use Rattle.ciel_log.specs.Logging.{CrewLog, EndedSo, GoesOn, IsRecordOf, dropped, told_copies, whole}
use Rattle.ciel_log.specs.Logs as logs
use Rattle.ciel_log.specs.Logs.{RecordOf, Records, idle, loses, over, tells}
use Rattle.ciel_log.specs.declared.state.LogState.{LogState}
use Rattle.ciel_log_law.proofs.Calls.{Grows, added, all_rest, none_grows}
use Rattle.ciel_log_law.proofs.Pieces.{Fine, FullSo, IsDropped, Onward, Piece, all, full_onward, onward}
use Rattle.ciel_log_law.proofs.Reported.{record_told, somehow}
use Rattle.ciel_log_law.proofs.Thrown.{EndSound, of_report, places_sound, report_readable}
use Rattle.ciel_name_law.specs.Typed.{NamedUseNothing}
use Rattle.ciel_log_records.specs.Records.{HowEnded, in_file, report_record, start_record}
use Rattle.ciel_run_drive.specs.Moved as moved
use Rattle.ciel_run_drive.specs.Moved.{Moved}
use Rattle.ciel_run_drive.specs.Telling.{TakenAs, ThrownAs}

-- ---- entries and events

module _ {D : Type 0} (job : Job D) where
  journal_join : (g h : List (Event D)) → journal_of job (g ++ h) ≡ journal_of job g ++ journal_of job h
  journal_join [] h = refl
  journal_join (x ∷ xs) h = ap (λ z. low job x ∷ z) (journal_join xs h)

  none_left : (es : List (Event D)) → journal_of job es ≡ [] → es ≡ []
  none_left [] e = refl
  none_left (x ∷ xs) e = cc

  task_back : (t : Task D) (x : TaskId) → low_task job t ≡ task_key x → task_id job t ≡ x
  task_back show TaskId.Show e = refl
  task_back show (TaskId.Of n) e = cc
  task_back (of d) TaskId.Show e = cc
  task_back (of d) (TaskId.Of n) e = let same : job.name d ≡ n = cc in ap TaskId.Of same

entry_next : (digest : List ℕ → List ℕ) (b : Board P) (x : OrderOut) (spawned : List Named) (e : rep.End P)
    → (accepted digest worker_of b x spawned e).journal ≡ b.journal ++ entry_for x.number e ∷ []
entry_next digest b x spawned (rep.made ms cs) = refl
entry_next digest b x spawned (rep.saved q) = refl
entry_next digest b x spawned (rep.missing name loss) = refl

start_same : (b : Board P) (x : TaskId) (w : ℕ) (order : Order) → order_view order ≡ order_for worker_of b x w
    → Entry.Start b.starts w (task_key x) (wait_number (last_wait x b.table))
    ≡ Entry.Start order.number order.worker (task_key order.task) order.from
start_same b x w order e = ap (λ (z : board.Order P). Entry.Start z.out.number z.out.worker (task_key z.out.task) z.out.from) (sym e)

-- ---- events and their records

module _ (digest : List ℕ → List ℕ) (job : s.Job) (gives : Gives) where
  abbrev S : Setting s.Desc P Block
  S = the_shop digest job gives

  lost_on : (h rest : List (Event s.Desc)) (e : Event s.Desc) (w n : ℕ) → low S.job e ≡ Entry.Lost w n
      → Onward digest job gives h (e ∷ rest) (h ++ e ∷ []) rest
  lost_on h rest (lost u m) w n q = λ bytes r. loses u m r
  lost_on h rest (start k u t from) w n q = cc
  lost_on h rest (done k made copied spawned) w n q = cc
  lost_on h rest (saved k j mark refs holds spawned) w n q = cc
  lost_on h rest (missed k d loss) w n q = cc

  start_told : (h : List (Event s.Desc)) (e : Event s.Desc) (k w from : ℕ) (x : TaskId) → low S.job e ≡ Entry.Start k w (task_key x) from
      → RecordOf digest job gives h e (start_record k w from x)
  start_told h (start l u t i) k w from x q =
      let number : l ≡ k = cc in
      let worker : u ≡ w = cc in
      let wait : i ≡ from = cc in
      let key : low_task S.job t ≡ task_key x = cc in
      ap (start_record k w from) (sym (task_back S.job t x key))
      ∙ (ap (λ z. start_record z w from (task_id S.job t)) (sym number)
      ∙ (ap (λ z. start_record l z from (task_id S.job t)) (sym worker) ∙ ap (λ z. start_record l u z (task_id S.job t)) (sym wait)))
  start_told h (lost u m) k w from x q = cc
  start_told h (done l made copied spawned) k w from x q = cc
  start_told h (saved l j mark refs holds spawned) k w from x q = cc
  start_told h (missed l d loss) k w from x q = cc

  told_fine : (h rest : List (Event s.Desc)) (e : Event s.Desc) (x : List ℕ) → RecordOf digest job gives h e x
      → Fine digest job gives h (e ∷ rest) (h ++ e ∷ []) rest x
  told_fine h rest e x r bytes rs = tells e x r rs

module _ {K N R : Type 0} (gives : K → Gives) (digest : N → List ℕ → List ℕ) (goes : R → Call → R → Type 0) (shop_ : Shop K N) (Q : Type 0)
    (orderly : IsOrderly (digest shop_.namer) (job_view shop_.job) (gives shop_.kit)) (bare : NamedUseNothing (job_view shop_.job).script.funs)
    (q : Q) where
  abbrev D : List ℕ → List ℕ
  D = digest shop_.namer

  abbrev J : s.Job
  J = job_view shop_.job

  abbrev G : Gives
  G = gives shop_.kit

  abbrev T : Setting s.Desc P Block
  T = the_shop D J G

  abbrev Ms : Board P → List Call → Board P → Type 0
  Ms b xs c = Moved gives digest shop_ Q b xs c

  is : IsSetting T
  is = shop_is D J G orderly

  -- ---- the events that are left

  -- the first history has the state's journal, and with these events more it has that of the last state
  pub record At (h es : List (Event s.Desc)) (b c : Board P) : Type 0 where
    pub lawful : (p : Plan) × Lawful T.job p (h ++ es)
    pub was : journal_of T.job h ≡ b.journal
    pub ends : journal_of T.job (h ++ es) ≡ c.journal

  pub record Next (h es : List (Event s.Desc)) (b2 c : Board P) (x : Entry) : Type 0 where
    pub event : Event s.Desc
    pub rest : List (Event s.Desc)
    pub split : es ≡ event ∷ rest
    pub entry : low T.job event ≡ x
    pub at : At (h ++ event ∷ []) rest b2 c

  abbrev pub More : Board P → Board P → Type 0
  More b c = (more : List Entry) × (c.journal ≡ b.journal ++ more)

  abbrev more_by : (b b2 c : Board P) (x : Entry) → b2.journal ≡ b.journal ++ x ∷ [] → More b2 c → More b c
  more_by b b2 c x e m = (x ∷ m.0, m.1 ∙ (ap (λ z. z ++ m.0) e ∙ append_assoc b.journal (x ∷ []) m.0))

  -- what calls make of a state: entries more
  pub more : (b : Board P) (xs : List Call) (c : Board P) → Ms b xs c → More b c
  more b xs c moved.stays = ([], sym (append-nil b.journal))
  more b xs c (moved.loses w m) =
      more_by b (lost_at worker_of w b) c (Entry.Lost w b.closes) refl (more (lost_at worker_of w b) xs c m)
  more b xs c (moved.starts {calls = cs} x w order e m) =
      more_by b (started worker_of b x w) c (Entry.Start b.starts w (task_key x) (wait_number (last_wait x b.table))) refl
      (more (started worker_of b x w) cs c m)
  more b xs c (moved.takes {calls = cs} r x f told m) =
      let b2 = accepted D worker_of b x r.spawned.items (report_end r) in
      more_by b b2 c (entry_for x.number (report_end r)) (entry_next D b x r.spawned.items (report_end r)) (more b2 cs c m)
  more b xs c (moved.throws {calls = cs} r f told m) = more b cs c m

  next : (h es : List (Event s.Desc)) (b b2 c : Board P) (x : Entry) → At h es b c → b2.journal ≡ b.journal ++ x ∷ [] → More b2 c
      → Next h es b2 c x
  next h es b b2 c x at e m = pick es at left
    where
      left : journal_of T.job es ≡ x ∷ m.0
      left =
          append_cancel_left (journal_of T.job h) (journal_of T.job es) (x ∷ m.0)
          (sym (journal_join T.job h es) ∙ (at.ends ∙ ((more_by b b2 c x e m).1 ∙ ap (λ z. z ++ x ∷ m.0) (sym at.was))))

      pick : (gs : List (Event s.Desc)) → At h gs b c → journal_of T.job gs ≡ x ∷ m.0 → Next h gs b2 c x
      pick [] a l = cc
      pick (g ∷ gs) a l =
          let same : low T.job g ≡ x = cc in
          let join : (h ++ g ∷ []) ++ gs ≡ h ++ g ∷ gs = append_assoc h (g ∷ []) gs in
          record {
            event = g;
            rest = gs;
            split = refl;
            entry = same;
            at = record {
              lawful = (a.lawful.0, subst (Lawful T.job a.lawful.0) (sym join) a.lawful.1);
              was = journal_last T.job h g ∙ (ap (λ z. z ++ low T.job g ∷ []) a.was ∙ (ap (λ z. b.journal ++ z ∷ []) same ∙ sym e));
              ends = ap (journal_of T.job) join ∙ a.ends;
            };
          }

  -- nothing is left at the last state
  none : (h es : List (Event s.Desc)) (b : Board P) → At h es b b → es ≡ []
  none h es b at =
      none_left T.job es (append_cancel_left (journal_of T.job h) (journal_of T.job es) []
      (sym (journal_join T.job h es) ∙ (at.ends ∙ (sym at.was ∙ sym (append-nil (journal_of T.job h))))))

  before : (h es : List (Event s.Desc)) (b c : Board P) → At h es b c → (p : Plan) × Lawful T.job p h
  before h es b c at = (at.lawful.0, (lawful_split T.job at.lawful.0 (before_all T.job) h es at.lawful.1).0)

  -- ---- reports

  module _ (h es : List (Event s.Desc)) (b c : Board P) (at : At h es b c) (r : Report) where
    -- one that is taken
    module _ (b2 : Board P) (x : TakenAs gives digest shop_ b b2 r) (e : Entry) (n : Next h es b2 c e) where
      past_same : x.history ≡ h
      past_same =
          let l = before h es b c at in
          names_determine T.job is.laws b.plan l.0 x.history h
          (lawful_split T.job b.plan (before_all T.job) x.history (x.event ∷ []) x.lawful).0 l.1 (x.was ∙ sym at.was)

      event_same : x.event ≡ n.event
      event_same =
          let l = before (h ++ n.event ∷ []) n.rest b2 c n.at in
          let both = names_determine T.job is.laws b.plan l.0 (x.history ++ x.event ∷ []) (h ++ n.event ∷ []) x.lawful l.1
          (x.now ∙ sym n.at.was) in
          let ends : x.event ∷ [] ≡ n.event ∷ [] =
          append_cancel_left h (x.event ∷ []) (n.event ∷ []) (ap (λ z. z ++ x.event ∷ []) (sym past_same) ∙ both) in
          cc

      taken_record : (y : List ℕ) → RecordOf D J G x.history x.event y → RecordOf D J G h n.event y
      taken_record y k =
          subst (λ z. RecordOf D J G z n.event y) past_same (subst (λ z. RecordOf D J G x.history z y) event_same k)

      taken_would : (rest : List ℕ) × Records D J G (h ++ n.event ∷ []) n.rest rest → (rest : List ℕ) × Records D J G h (n.event ∷ n.rest) rest
      taken_would w =
          let how = somehow x in
          let y = report_record r.number (map (λ (m : Named). desc_view m.desc) r.spawned.items) (told_copies r) how.0 in
          (in_file y ++ w.0, tells n.event y (taken_record y (record_told x how.0 how.1)) w.1)

      taken_ok : (was now : _) (y : List ℕ) → IsRecordOf r was now y
          → Fine D J G h (n.event ∷ n.rest) (h ++ n.event ∷ []) n.rest y ⊎ IsDropped D J G y
      taken_ok was now y (whole how so told made same) =
          inl (told_fine D J G h n.rest n.event y (taken_record y (subst (RecordOf D J G x.history x.event) (sym made) (record_told x how so))))
      taken_ok was now y (dropped loss place worker made seen) = inr (r.number, made)

    -- one that is thrown away
    module _ (x : ThrownAs gives digest shop_ b r) where
      thrown_past : x.history ≡ h
      thrown_past =
          let l = before h es b c at in
          names_determine T.job is.laws b.plan l.0 x.history h x.lawful l.1 (x.journal ∙ sym at.was)

      abbrev Closed : List (Event s.Desc) → Type 0
      Closed past = logs.IsFree D J G past r.number

      closed : Closed h
      closed = subst Closed thrown_past (x.number, x.closed, x.going)

      -- what lies at its places is sound
      end_sound : (how : HowEnded) → EndedSo r.end how → EndSound J.script how
      end_sound how so = places_sound shop_.shelves r.worker J.script r.task r.end x.places.end how so

      thrown_ok : (was now : _) (y : List ℕ) → IsRecordOf r was now y → Fine D J G h es h es y ⊎ IsDropped D J G y
      thrown_ok was now y (whole how so told made same) =
          inl (λ bytes rs. idle y (subst (logs.Idle D J G h) (sym made) (logs.reported r.number closed
          (map (λ (m : Named). desc_view m.desc) r.spawned.items) (told_copies r) how
          (λ short. report_readable J.script bare r.number (map (λ (m : Named). desc_view m.desc) r.spawned.items) (told_copies r) how
          (of_report r how told) x.spawned (end_sound how so) short))) rs)
      thrown_ok was now y (dropped loss place worker made seen) = inr (r.number, made)

  -- ---- records there would be

  would : (h es : List (Event s.Desc)) (b : Board P) (xs : List Call) (c : Board P) → Ms b xs c → At h es b c
      → (rest : List ℕ) × Records D J G h es rest
  would h es b xs c moved.stays at = ([], subst (λ z. Records D J G h z []) (sym (none h es b at)) over)
  would h es b xs c (moved.loses w m) at =
      let b2 = lost_at worker_of w b in
      let n = next h es b b2 c (Entry.Lost w b.closes) at refl (more b2 xs c m) in
      let on = would (h ++ n.event ∷ []) n.rest b2 xs c m n.at in
      (on.0, subst (λ z. Records D J G h z on.0) (sym n.split) (lost_on D J G h n.rest n.event w b.closes n.entry on.0 on.1))
  would h es b xs c (moved.starts {calls = cs} x w order e m) at =
      let b2 = started worker_of b x w in
      let from = wait_number (last_wait x b.table) in
      let n = next h es b b2 c (Entry.Start b.starts w (task_key x) from) at refl (more b2 cs c m) in
      let on = would (h ++ n.event ∷ []) n.rest b2 cs c m n.at in
      let y = start_record b.starts w from x in (
        in_file y ++ on.0,
        subst (λ z. Records D J G h z (in_file y ++ on.0)) (sym n.split)
            (tells n.event y (start_told D J G h n.event b.starts w from x n.entry) on.1),
      )
  would h es b xs c (moved.takes {calls = cs} r x f told m) at =
      let b2 = accepted D worker_of b x r.spawned.items (report_end r) in
      let e = entry_for x.number (report_end r) in
      let n = next h es b b2 c e at (entry_next D b x r.spawned.items (report_end r)) (more b2 cs c m) in
      let on = would (h ++ n.event ∷ []) n.rest b2 cs c m n.at in
      let t = taken_would h es b c at r b2 (told q) e n on in
      (t.0, subst (λ z. Records D J G h z t.0) (sym n.split) t.1)
  would h es b xs c (moved.throws {calls = cs} r f told m) at = would h es b cs c m at

  -- ---- and those that there are

  abbrev Told : List (Event s.Desc) → List (Event s.Desc) → CrewLog R → CrewLog R → Files → Type 0
  Told h es a t files = Grows D J G h es a.log t.log files

  lost_told : (h es : List (Event s.Desc)) (b2 c : Board P) (w m : ℕ) (n : Next h es b2 c (Entry.Lost w m)) (a t : CrewLog R) (files : Files)
      → Told (h ++ n.event ∷ []) n.rest a t files → Told h es a t files
  lost_told h es b2 c w m n a t files g =
      record {
        was = g.was;
        is = g.is;
        more = g.more;
        grew = g.grew;
        piece = subst (λ z. Piece D J G h z t.log.state g.more) (sym n.split)
            (onward D J G (lost_on D J G h n.rest n.event w m n.entry) g.piece);
        full = subst (λ z. FullSo D J G h z t.log.state a.log.held g.more) (sym n.split)
            (full_onward D J G t.log.state a.log.held g.more (lost_on D J G h n.rest n.event w m n.entry) g.full);
      }

  pub runs : (h es : List (Event s.Desc)) (b : Board P) (xs : List Call) (c : Board P) → Ms b xs c → At h es b c → (a t : CrewLog R)
      → Went (GoesOn goes) a xs t → a.log.state ≡ LogState.Whole → (files : Files) → t.log.files ≡ Some files → Told h es a t files
  runs h es b xs c moved.stays at a t went st files f =
      none_grows D J G h es a.log t.log (ap (λ (z : CrewLog R). z.log.path) (sym went)) (ap (λ (z : CrewLog R). z.log.files) (sym went)) files f
      (all [] (subst (λ z. Records D J G h z []) (sym (none h es b at)) over))
      (λ has e. let bad : LogState.Whole ≡ LogState.Full has = sym st ∙ (ap (λ (z : CrewLog R). z.log.state) went ∙ e) in cc)
  runs h es b xs c (moved.loses w m) at a t went st files f =
      let b2 = lost_at worker_of w b in
      let n = next h es b b2 c (Entry.Lost w b.closes) at refl (more b2 xs c m) in
      lost_told h es b2 c w b.closes n a t files (runs (h ++ n.event ∷ []) n.rest b2 xs c m n.at a t went st files f)
  runs h es b xs c (moved.starts {calls = cs} x w order e m) at a t went st files f =
      let b2 = started worker_of b x w in
      let from = wait_number (last_wait x b.table) in
      let n = next h es b b2 c (Entry.Start b.starts w (task_key x) from) at refl (more b2 cs c m) in
      let ok = start_told D J G h n.event order.number order.worker order.from order.task (n.entry ∙ start_same b x w order e) in
      subst (λ z. Told h z a t files) (sym n.split)
      (added D J G h (n.event ∷ n.rest) (h ++ n.event ∷ []) n.rest
      (λ y. y ≡ start_record order.number order.worker order.from order.task)
      (λ y k. inl (told_fine D J G h n.rest n.event y (subst (RecordOf D J G h n.event) (sym k) ok)))
      (would (h ++ n.event ∷ []) n.rest b2 cs c m n.at)
      (subst (λ z. (rest : List ℕ) × Records D J G h z rest) n.split (would h es b (sent order ∷ cs) c (moved.starts x w order e m) at))
      a.log went.0.log t.log went.1.path files f
      (λ k. runs (h ++ n.event ∷ []) n.rest b2 cs c m n.at went.0 t went.2 k files f) (λ ne. all_rest goes went.0 cs t ne went.2) st went.1.log.0)
  runs h es b xs c (moved.takes {calls = cs} r x i told m) at a t went st files f =
      let b2 = accepted D worker_of b x r.spawned.items (report_end r) in
      let e = entry_for x.number (report_end r) in
      let n = next h es b b2 c e at (entry_next D b x r.spawned.items (report_end r)) (more b2 cs c m) in
      subst (λ z. Told h z a t files) (sym n.split)
      (added D J G h (n.event ∷ n.rest) (h ++ n.event ∷ []) n.rest (IsRecordOf r a.log.losses went.0.log.losses)
      (taken_ok h es b c at r b2 (told q) e n a.log.losses went.0.log.losses)
      (would (h ++ n.event ∷ []) n.rest b2 cs c m n.at)
      (subst (λ z. (rest : List ℕ) × Records D J G h z rest) n.split (would h es b (given r ∷ cs) c (moved.takes r x i told m) at))
      a.log went.0.log t.log went.1.path files f
      (λ k. runs (h ++ n.event ∷ []) n.rest b2 cs c m n.at went.0 t went.2 k files f) (λ ne. all_rest goes went.0 cs t ne went.2) st went.1.log)
  runs h es b xs c (moved.throws {calls = cs} r i told m) at a t went st files f =
      added D J G h es h es (IsRecordOf r a.log.losses went.0.log.losses)
      (thrown_ok h es b c at r (told q) a.log.losses went.0.log.losses) (would h es b cs c m at) (would h es b cs c m at)
      a.log went.0.log t.log went.1.path files f (λ k. runs h es b cs c m at went.0 t went.2 k files f)
      (λ ne. all_rest goes went.0 cs t ne went.2) st went.1.log
