-- The record of an event: what is told of it, and what stands then.
use Rattle.std.proofs.Common.{◌≡◌, ◌≤◌, ◌<◌, ◌+◌, ◌^◌, ℕ, zero, suc, List, [], ◌∷◌, false, not, cond, ◌||◌, length, map, nat_eq}
use Rattle.std.proofs.Common.{None, Some, filter, slice_get, refl, ap, sym, ◌∙◌, subst, arith}
use Rattle.sha1.specs.Sha1.{sha1}
use Rattle.sky_base.specs.KitView.{Gives}
use Rattle.sky_base.specs.Name.{canon, digested, low_desc}
use Rattle.sky_base.specs.Res.{Object}
use Rattle.sky_base.specs.See as s
use Rattle.sky_base.specs.Val as v
use Rattle.sky_base.specs.Val.{Desc}
use Rattle.sky_base_law.specs.Tasks as tasks
use Rattle.sky_frozen_bytes.specs.Codes.{Fits32}
use Rattle.ciel_name.specs.Object.{object_bytes}
use Rattle.ciel_journal.specs.Entries.{Entry, low, low_made, low_names, low_task}
use Rattle.ciel_journal.specs.History.{Event, OpenStart, Plan, Save, Standing, after, close_with, closed, done, done_with, ends_show, find_open, lost}
use Rattle.ciel_journal.specs.History.{missed, missed_with, names_of, saved, saved_with, standing, start}
use Rattle.ciel_journal.specs.Job.{Digest, Each, Held, IsJob, Job, ObjectOf, StateOf, Task, of, show}
use Rattle.ciel_journal.specs.Lawful.{Marked, SavedAllowed, Step}
use Rattle.ciel_journal.proofs.Good.{each_join}
use Rattle.ciel_journal.proofs.Unique.{object_unique, same_found, state_unique}
use Rattle.ciel_journal_job.specs.Real.{held_if, mark_if}
use Rattle.ciel_json.specs.Around.{json_around}
use Rattle.ciel_log.specs.Logs.{IsDone, IsObjectOf, IsStackOf, RecordOf}
use Rattle.ciel_log_records.specs.Records.{HowEnded}
use Rattle.ciel_log_read.specs.Recorded.{IsNamed, IsRecord, IsTask, Recorded, record_bytes, reported}
use Rattle.ciel_look_law.specs.Events.{EndTold, EventTold, IsOutcome}
use Rattle.ciel_look_law.specs.Journal.{IsEnd, IsOf, Weighs, id_of}
use Rattle.ciel_look_law.specs.Laws.{NamesFit, WaitFits}
use Rattle.ciel_look_law.proofs.Bytes.{IsReport, Narrow, is_report, is_start}
use Rattle.ciel_look_law.proofs.Left.{J, laws}
use Rattle.ciel_look_law.proofs.Stands.{Agrees, agrees_closed, agrees_start, from_fits, number_below, out_there}
use Rattle.ciel_look_story.specs.Story as story
use Rattle.ciel_look_story.specs.Story.{Stand, after as after_record, is_out, is_shown, tell}
use Rattle.ciel_look_told.specs.Told as told
use Rattle.ciel_look_told.specs.Told.{Told, outcome, weight}
use Rattle.ciel_master_board.specs.Follows.{OneByOne}
use Rattle.sky_base_law.specs.NamesLaws.{no_name}
use Rattle.ciel_task_order.specs.Named.{by_names, frozen_mark, mark_of, name_of}
use Rattle.ciel_want.specs.History.{task_id}

-- ---- small facts

got_below : {A : Type 0} (xs : List A) (i : ℕ) (x : A) → slice_get xs i ≡ Some x → i < length xs
got_below [] i x e = absurd cc
got_below (y ∷ xs) zero x e = omega arith
got_below (y ∷ xs) (suc i) x e = let m = got_below xs i x e in omega (arith, m)

module _ (digest : List ℕ → List ℕ) (named : NamesFit digest) (job : s.Job) (gives : Gives) where
  abbrev Jb : Job s.Desc
  Jb = J digest job gives

  abbrev lw : IsJob Jb
  lw = laws digest job gives

  -- ---- names

  name_fits : (d : s.Desc) → IsNamed (Jb.name d)
  name_fits (v.call f c vs) = named (canon (low_desc no_name (digested digest) (v.call f c vs)))
  name_fits (v.out x a n i) = named (canon (low_desc no_name (digested digest) (v.out x a n i)))
  name_fits (v.input k) = named (canon (low_desc no_name (digested digest) (v.input k)))
  name_fits (v.known b) = absurd b

  task_fits : (t : Task s.Desc) → IsTask (task_id Jb t)
  task_fits show = tt
  task_fits (of d) = name_fits d

  all_named : (ds : List s.Desc) → tasks.Each IsNamed (low_names Jb ds)
  all_named [] = tt
  all_named (d ∷ ds) = (name_fits d, all_named ds)

  id_is : (t : Task s.Desc) → task_id Jb t ≡ id_of (low_task Jb t)
  id_is show = refl
  id_is (of d) = refl

  -- ---- ends

  -- the end of a task has no number that might not fit, and shows the root task's
  done_end : (t : Task s.Desc) (outputs : List s.Desc) (how : HowEnded) → IsDone digest job gives t outputs how
      → Narrow how × (is_shown how ≡ ends_show Jb t)
  done_end show outputs (HowEnded.answered text) d = (tt, refl)
  done_end show outputs (HowEnded.failed fault) d = (tt, refl)
  done_end show outputs (HowEnded.made objects) d = absurd d
  done_end show outputs (HowEnded.saved j stack) d = absurd d
  done_end show outputs (HowEnded.missing name loss) d = absurd d
  done_end (of e) outputs how d = subst (λ h. Narrow h × (is_shown h ≡ false)) (sym d.2) (tt, refl)

  -- the mark of an output is that of its object
  marks_weigh : (ds : List s.Desc) (made : List (s.Desc × Digest)) (objects : List (Object (List ℕ))) → Marked Jb ds made
      → OneByOne (IsObjectOf digest job gives) (names_of made) objects → OneByOne Weighs (map weight objects) (low_made Jb made)
  marks_weigh ds [] [] k o = tt
  marks_weigh ds [] (x ∷ xs) k o = absurd o
  marks_weigh ds (d ∷ made) [] k o = absurd o
  marks_weigh [] (d ∷ made) (x ∷ xs) k o = absurd k
  marks_weigh (c ∷ ds) (d ∷ made) (x ∷ xs) k o =
      let seen : ObjectOf Jb d.0 (mark_of digest o.0.1) =
      (o.0.0, ap (mark_if job (json_around gives) (name_of digest) (mark_of digest) (frozen_mark digest)) o.0.2) in
      let marked : ObjectOf Jb d.0 d.1 = subst (λ z. ObjectOf Jb z d.1) (sym k.0) k.1 in
      let same = object_unique Jb lw d.0 (mark_of digest o.0.1) d.1 seen marked in
      ((x, ap (λ z. sha1 (object_bytes z)) o.0.3 ∙ same, refl), marks_weigh ds made xs k.2 o.1)

  -- the mark of a state at a wait is that of its bytes
  stack_mark : (t : Task s.Desc) (j : ℕ) (h : Held s.Desc) → StateOf Jb t j h → 0 < j → (stack : List ℕ) → IsStackOf digest job gives t j stack
      → sha1 stack ≡ h.mark
  stack_mark show j h st l stack i =
      let one : Held s.Desc = record { names = tasks.held i.1; mark = frozen_mark digest i.1 } in
      let at : StateOf Jb show j one =
      (i.0, ap (held_if job (json_around gives) (name_of digest) (mark_of digest) (frozen_mark digest)) i.2) in
      ap sha1 i.3 ∙ ap (λ (z : Held s.Desc). z.mark) (state_unique Jb lw show j one h at st)
  stack_mark (of (v.call f c vs)) j h st l stack i =
      let one : Held s.Desc = record { names = tasks.held i.1; mark = frozen_mark digest i.1 } in
      let at : StateOf Jb (of (v.call f c vs)) j one =
      (i.0, ap (held_if job (json_around gives) (name_of digest) (mark_of digest) (frozen_mark digest)) i.2) in
      ap sha1 i.3 ∙ ap (λ (z : Held s.Desc). z.mark) (state_unique Jb lw (of (v.call f c vs)) j one h at st)
  stack_mark (of (v.out x a m i)) zero h st l stack k = absurd (omega (arith, l))
  stack_mark (of (v.out x a m i)) (suc j) h st l stack k = let bad : None ≡ Some h = st.1 in absurd cc
  stack_mark (of (v.input y)) j h st l stack i = let bad : None ≡ Some h = st.1 in absurd cc
  stack_mark (of (v.known b)) j h st l stack i = absurd b

  none_made : (made : List (s.Desc × Digest)) → Marked Jb [] made → low_made Jb made ≡ []
  none_made [] m = refl
  none_made (x ∷ xs) m = absurd m

  done_of : (t : Task s.Desc) (made : List (s.Desc × Digest)) (how : HowEnded) → IsDone digest job gives t (names_of made) how
      → Marked Jb (Jb.outputs t) made → (x : told.Outcome) → IsOutcome how x → IsEnd x (low_made Jb made)
  done_of show made (HowEnded.answered text) d m x o = subst (λ z. IsEnd z (low_made Jb made)) (sym o) (none_made made m)
  done_of show made (HowEnded.failed fault) d m x o = subst (λ z. IsEnd z (low_made Jb made)) (sym o.2) (none_made made m)
  done_of show made (HowEnded.made objects) d m x o = absurd d
  done_of show made (HowEnded.saved j stack) d m x o = absurd d
  done_of show made (HowEnded.missing name loss) d m x o = absurd d
  done_of (of e) made how d m x o =
      let is : x ≡ told.made (map weight d.0) = subst (λ h. IsOutcome h x) d.2 o in
      subst (λ z. IsEnd z (low_made Jb made)) (sym is)
      (marks_weigh (Jb.outputs (of e)) made d.0 m d.1)

  -- ---- events

  module _ (p : Plan) (workers : Fits32 p.workers) (losses : length p.losses ≤ 64) (past : List (Event s.Desc)) (w : Stand) where
    abbrev m : Standing s.Desc
    m = standing Jb past

    -- what is told of an event, and what stands then
    pub record Happens (e : Event s.Desc) (r : Recorded) : Type 0 where
      pub event : EventTold digest job gives past e (tell w r)
      pub entry : IsOf (tell w r) (low Jb e)
      pub agrees : Agrees Jb lw (after_record w r) (after Jb m e)

    module _ (a : Agrees Jb lw w m) (few : m.starts < 2 ^ 32) (r : Recorded) (good : IsRecord r) (short : length (record_bytes r) < 2 ^ 32) where
      -- a report of an open Start: what is told, and what stands
      record Closed (k : ℕ) (ds : List (Desc (List ℕ))) (ns : List (List ℕ)) (how : HowEnded) : Type 0 where
        is : IsReport r k ds ns how
        told : tell w r ≡ told.ended k is.descs ns (outcome is.way)
        stands : after_record w r ≡ story.closed w k (is_shown is.way)

      closes : (k : ℕ) (ds : List (Desc (List ℕ))) (ns : List (List ℕ)) (how : HowEnded) → tasks.Each IsNamed ns → Narrow how
          → (o : OpenStart s.Desc) → find_open Jb k m.orders ≡ Some o → record_bytes r ≡ record_bytes (reported k ds ns how)
          → Closed k ds ns how
      closes k ds ns how names narrow o f e =
          let l = number_below Jb lw w m a k o f in
          let q = is_report r good k ds ns how (omega (arith, l, few)) names narrow short e in
          let out = out_there Jb lw w m a k o f in
          record {
            is = q;
            told = ap (tell w) q.is ∙ ap (λ b. cond b (told.ended k q.descs ns (outcome q.way)) (told.late k)) out;
            stands = ap (after_record w) q.is ∙ ap (λ b. cond b (story.closed w k (is_shown q.way)) w) out;
          }

      end_of : (k : ℕ) (ds : List (Desc (List ℕ))) (ns : List (List ℕ)) (how : HowEnded) → Closed k ds ns how → EndTold k ds ns how (tell w r)
      end_of k ds ns how c =
          record { descs = c.is.descs; same = c.is.same; end = outcome c.is.way; ended = c.is.ended; is = c.told }

      stands_so : (k : ℕ) (ds : List (Desc (List ℕ))) (ns : List (List ℕ)) (how : HowEnded) (c : Closed k ds ns how) (u : Standing s.Desc)
          → u.orders ≡ filter (λ (o : OpenStart s.Desc). not (nat_eq k o.number)) m.orders → u.starts ≡ m.starts → u.closes ≡ m.closes + 1
          → u.gone ≡ m.gone → m.over ≡ false → is_shown how ≡ u.over → Each (λ (s : Save s.Desc). Fits32 s.j) u.saves
          → (e : Event s.Desc) → after Jb m e ≡ u → Agrees Jb lw (after_record w r) (after Jb m e)
      stands_so k ds ns how c u orders starts closes gone going over waits e is =
          subst (Agrees Jb lw (after_record w r)) (sym is)
          (subst (λ z. Agrees Jb lw z u) (sym c.stands)
          (agrees_closed Jb lw w m u k (is_shown c.is.way) a orders starts closes gone
          (ap (λ b. b || is_shown c.is.way) (a.over ∙ going) ∙ (c.is.shown ∙ over)) waits))

      pub happens : (e : Event s.Desc) → Step Jb p m e → WaitFits (low Jb e) → (bytes : List ℕ) → RecordOf digest job gives past e bytes
          → record_bytes r ≡ bytes → Happens e r
      happens (start k u t from) st fits bytes o e =
          let x = st.allowed in
          let number = x.number in
          let at = x.worker in
          let is = is_start r good k u from (task_id Jb t) (omega (arith, number, few)) (omega (arith, at, workers))
          (subst Fits32 (sym x.from_last) (from_fits Jb lw w m a t)) (task_fits t) (e ∙ o) in
          let says : tell w r ≡ told.started k u from (task_id Jb t) = ap (tell w) is in
          record {
            event = says;
            entry = subst (λ z. IsOf z (Entry.Start k u (low_task Jb t) from)) (sym says) (refl, refl, id_is t, refl);
            agrees = subst (λ z. Agrees Jb lw z (after Jb m (start k u t from))) (sym (ap (after_record w) is))
                (agrees_start Jb lw w m a k u t from x.number x.here);
          }
      happens (done k made copied spawned) st fits bytes o e =
          let x = st.allowed in
          let same : x.0 ≡ o.0 = same_found Jb lw m k x.0 o.0 x.1 o.1 in
          let how = o.2.0 in
          let d = done_end o.0.task (names_of made) how o.2.1 in
          let c = closes k (map (by_names digest) spawned) (low_names Jb copied) how (all_named copied) d.0 o.0 o.1 (e ∙ o.2.2) in
          record {
            event = (o.0, o.1, (how, o.2.1, end_of k (map (by_names digest) spawned) (low_names Jb copied) how c));
            entry = subst (λ z. IsOf z (Entry.Done k (low_made Jb made) (low_names Jb copied))) (sym c.told) (
              refl,
              refl,
              done_of o.0.task made how o.2.1
                  (subst (λ (q : OpenStart s.Desc). Marked Jb (Jb.outputs q.task) made) same x.2.marked) (outcome c.is.way) c.is.ended,
            );
            agrees = stands_so k (map (by_names digest) spawned) (low_names Jb copied) how c (done_with Jb made copied spawned o.0 (closed Jb m k))
                refl refl refl refl st.going d.1 a.waits (done k made copied spawned)
                (ap (close_with Jb (done_with Jb made copied spawned) m k) o.1);
          }
      happens (saved k j mark refs holds spawned) st fits bytes o e =
          let how : HowEnded = HowEnded.saved j o.2.0 in
          let c = closes k (map (by_names digest) spawned) [] how tt fits o.0 o.1 (e ∙ o.2.2) in
          let x = st.allowed in
          let same : x.0 ≡ o.0 = same_found Jb lw m k x.0 o.0 x.1 o.1 in
          let ok : SavedAllowed Jb o.0 j mark refs holds spawned = subst (λ q. SavedAllowed Jb q j mark refs holds spawned) same x.2 in
          let after_from = ok.next.later in
          let is = stack_mark o.0.task j (record { names = holds; mark = mark }) ok.frozen (omega (arith, after_from)) o.2.0 o.2.1 in
          let new : Save s.Desc = record { task = o.0.task; j = j; worker = o.0.worker; refs = refs; holds = holds } in
          record {
            event = (o.0, o.1, (o.2.0, o.2.1, end_of k (map (by_names digest) spawned) [] how c));
            entry = subst (λ z. IsOf z (Entry.Saved k j mark)) (sym c.told) (refl, refl, (o.2.0, is, c.is.ended));
            agrees = stands_so k (map (by_names digest) spawned) [] how c (saved_with Jb j refs holds spawned o.0 (closed Jb m k))
                refl refl refl refl st.going (sym st.going) (each_join (λ (q : Save s.Desc). Fits32 q.j) m.saves (new ∷ []) a.waits (fits, tt))
                (saved k j mark refs holds spawned) (ap (close_with Jb (saved_with Jb j refs holds spawned) m k) o.1);
          }
      happens (missed k d loss) st fits bytes o e =
          let x = st.allowed in
          let how : HowEnded = HowEnded.missing (Jb.name d) loss in
          let below = got_below p.losses loss (x.2.planned.0, x.2.worker) x.2.planned.1 in
          let c = closes k [] [] how tt (name_fits d, omega (arith, below, losses)) x.0 x.1 (e ∙ o) in
          record {
            event = end_of k [] [] how c;
            entry = subst (λ z. IsOf z (Entry.Missed k (Jb.name d) loss)) (sym c.told) (refl, refl, c.is.ended);
            agrees = stands_so k [] [] how c (closed Jb m k) refl refl refl refl st.going (sym st.going) a.waits (missed k d loss)
                (ap (close_with Jb (missed_with Jb) m k) x.1);
          }
      happens (lost u c) st fits bytes o e = absurd o
