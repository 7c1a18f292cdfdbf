-- A story of a log's records tells the first events of the log's history, and behind them losses that are due.
use Rattle.std.proofs.Common.{◌≡◌, ◌≤◌, ◌<◌, ◌+◌, ◌^◌, ◌⊎◌, ℕ, List, [], ◌∷◌, ◌++◌, true, false, length, map, inl, inr, Option, None, Some}
use Rattle.std.proofs.Common.{refl, ap, ap₂, sym, ◌∙◌, subst, arith, append_assoc, length-append, flat_map}
use Rattle.sky_base.specs.KitView.{Gives}
use Rattle.sky_base.specs.See as s
use Rattle.sky_base_law.specs.Tasks as tasks
use Rattle.sky_frozen_bytes.specs.Codes.{Fits32, NoneAs}
use Rattle.ciel_journal.specs.Entries.{Entry, journal_of, low}
use Rattle.ciel_journal.specs.History.{Event, OpenStart, Plan, Standing, after, after_all, close_with, done, done_with, find_open, lost, missed}
use Rattle.ciel_journal.specs.History.{missed_with, saved, saved_with, standing, start}
use Rattle.ciel_journal.specs.Job.{Each, IsJob, Job}
use Rattle.ciel_journal.specs.Lawful.{Step}
use Rattle.ciel_journal.specs.Turns.{DrivenFrom, FirstDue, Turn}
use Rattle.ciel_journal.proofs.OneWorker.{first_one}
use Rattle.ciel_log.specs.Logs as logs
use Rattle.ciel_log.specs.Logs.{AllFit}
use Rattle.ciel_log_records.specs.Records.{in_file}
use Rattle.ciel_log_read.specs.Recorded.{FitsBlock, IsRecord, Recorded, record_bytes}
use Rattle.ciel_look_law.specs.Events as events
use Rattle.ciel_look_law.specs.Events.{AllLost, AllTold, DueThere, EventTold}
use Rattle.ciel_look_law.specs.Journal as journal
use Rattle.ciel_look_law.specs.Journal.{IsJournal, IsOf}
use Rattle.ciel_look_law.specs.Laws.{NamesFit, WaitFits}
use Rattle.ciel_look_law.proofs.Happened.{happens}
use Rattle.ciel_look_law.proofs.Left as next
use Rattle.ciel_look_law.proofs.Left.{FitRecords, Frees, J, NextIs, Rs, free_on, idle_late, laws, lose_first, next_is, one_more}
use Rattle.ciel_look_law.proofs.Stands.{Agrees, agrees_lost, here_less}
use Rattle.ciel_look_story.specs.Story.{Rests, Stand, Story, after as after_record, lose, tell}
use Rattle.ciel_look_told.specs.Told as told
use Rattle.ciel_look_told.specs.Told.{Told}

abbrev pub bytes_of : List Recorded → List ℕ
bytes_of rs = flat_map in_file (map record_bytes rs)

module _ (digest : List ℕ → List ℕ) (named : NamesFit digest) (job : s.Job) (gives : Gives) (p : Plan) (workers : Fits32 p.workers)
    (losses : length p.losses ≤ 64) where
  abbrev Jb : Job s.Desc
  Jb = J digest job gives

  abbrev lw : IsJob Jb
  lw = laws digest job gives

  abbrev Events : Type 0
  Events = List (Event s.Desc)

  abbrev M : Events → Standing s.Desc
  M past = standing Jb past

  -- ---- losses behind the last event

  abbrev lost_all : ℕ → List ℕ → Events
  lost_all closes due = map (λ w. lost w closes) due

  abbrev entries_lost : ℕ → List ℕ → List Entry
  entries_lost closes due = map (λ w. Entry.Lost w closes) due

  -- these are lost where a story stands; none is where the root task is done
  abbrev DueFrom : Stand → List ℕ → Type 0
  DueFrom v due = (v.over ≡ true → due ≡ []) × (v.over ≡ false → AllLost p.losses v.closes v.gone due)

  -- what isn't open behind the first history isn't open behind the second
  abbrev StaysFree : Events → Events → Type 0
  StaysFree past later = (k : ℕ) → find_open Jb k (M past).orders ≡ None → find_open Jb k (M later).orders ≡ None

  record Beyond (past : Events) (v : Stand) (ts : List Told) : Type 0 where
    due : List ℕ
    from : DueFrom v due
    tells : (later : Events) → StaysFree past later → AllTold digest job gives later (lost_all v.closes due) ts
    own : IsJournal ts (entries_lost v.closes due)

  abbrev AllBeyond : Stand → List Recorded → List Told → Type 0
  AllBeyond v rs ts =
      (past : Events) (rest more : List ℕ) → Frees digest job gives past v → FitRecords digest job gives past [] rest
      → rest ≡ bytes_of rs ++ more → tasks.Each IsRecord rs → length (bytes_of rs) < 2 ^ 32 → Beyond past v ts

  beyond_lose : {v : Stand} (rs : List Recorded) {ts : List Told} (loss w : ℕ) → v.over ≡ false → FirstDue p.losses v.closes v.gone loss w
      → AllBeyond (lose v w) rs ts → AllBeyond v rs (told.lost w v.closes ∷ ts)
  beyond_lose {v} rs {ts} loss w going d ih past rest more free r e good few =
      let b = ih past rest more (λ k n. here_less v.gone w (v.worker_of k) (free k n)) r e good few in
      record {
        due = w ∷ b.due;
        from = (λ over. let bad : true ≡ false = sym over ∙ going in absurd cc, λ not. events.loses loss w d (b.from.1 not));
        tells = λ later free. events.tells (lost w v.closes) (told.lost w v.closes) refl
            (b.tells (later ++ lost w v.closes ∷ []) (λ k h. free_on digest job gives later w v.closes k (free k h)));
        own = journal.tells (told.lost w v.closes) (Entry.Lost w v.closes) (refl, refl) b.own;
      }

  -- the bytes of the records there, the first one before the others
  split : (r : Recorded) (rs : List Recorded) (more rest : List ℕ) → rest ≡ bytes_of (r ∷ rs) ++ more
      → rest ≡ in_file (record_bytes r) ++ (bytes_of rs ++ more)
  split r rs more rest e = e ∙ append_assoc (in_file (record_bytes r)) (bytes_of rs) more

  shorter : (r : Recorded) (rs : List Recorded) (n : ℕ) → n + length (bytes_of (r ∷ rs)) < 2 ^ 32
      → (n + 1 + length (bytes_of rs) < 2 ^ 32) × (length (record_bytes r) < 2 ^ 32) × (n < 2 ^ 32) × (length (bytes_of (r ∷ rs)) < 2 ^ 32)
  shorter r rs n h =
      let l = length-append (in_file (record_bytes r)) (bytes_of rs) in
      (omega (arith, l, h), omega (arith, l, h), omega (arith, h), omega (arith, h))

  beyond_tell : {v : Stand} (rs : List Recorded) {ts : List Told} (r : Recorded) → AllBeyond (after_record v r) rs ts
      → AllBeyond v (r ∷ rs) (tell v r ∷ ts)
  beyond_tell {v} rs {ts} r ih past rest more free left e good few =
      pick (next_is digest job gives left.records left.fit r (bytes_of rs ++ more) (split r rs more rest e) sizes.1)
    where
      sizes : (0 + 1 + length (bytes_of rs) < 2 ^ 32) × (length (record_bytes r) < 2 ^ 32) × (0 < 2 ^ 32) × (length (bytes_of (r ∷ rs)) < 2 ^ 32)
      sizes = shorter r rs 0 (omega (arith, few))

      pick : NextIs digest job gives past r (bytes_of rs ++ more) [] → Beyond past v (tell v r ∷ ts)
      pick (next.idles bytes i q then) =
          let late = idle_late digest job gives past v free r good.0 bytes i q in
          let l = sizes.0 in
          let b : Beyond past v ts =
          subst (λ z. AllBeyond z rs ts) late.still ih past (bytes_of rs ++ more) more free then refl good.1 (omega (arith, l)) in
          record {
            due = b.due;
            from = b.from;
            tells = λ later frees. subst (λ t. AllTold digest job gives later (lost_all v.closes b.due) (t ∷ ts)) (sym late.told)
                (events.late late.number (frees late.number late.free) (b.tells later frees));
            own = subst (λ t. IsJournal (t ∷ ts) (entries_lost v.closes b.due)) (sym late.told) (journal.late late.number b.own);
          }

  -- where a story rests nothing is lost
  none_due : (v : Stand) → Rests p.losses v → DueFrom v []
  none_due v (inl over) =
      (λ _. refl, λ going. let bad : true ≡ false = sym over ∙ going in absurd cc)
  none_due v (inr none) = (λ _. refl, λ going. events.rests none)

  beyond_end : {v : Stand} → Rests p.losses v → AllBeyond v [] []
  beyond_end {v} rests past rest more free left e good few =
      record { due = []; from = none_due v rests; tells = λ later free. events.ends; own = journal.ends }

  beyond : {v : Stand} {rs : List Recorded} {ts : List Told} → Story p.losses v rs ts → AllBeyond v rs ts
  beyond (Story.loses loss w going d s) = beyond_lose _ loss w going d (beyond s)
  beyond (Story.tells r rests s) = beyond_tell _ r (beyond s)
  beyond (Story.ends rests) = beyond_end rests

  -- ---- the first events

  -- what stands behind these events
  abbrev then_stands : Events → Events → Standing s.Desc
  then_stands past first = after_all Jb (M past) first

  pub record Found (past es : Events) (more : List ℕ) (ts : List Told) : Type 0 where
    pub first : Events
    pub then : Events
    pub parts : es ≡ first ++ then
    pub due : List ℕ
    pub there : DueThere p (then_stands past first) due
    pub tells : AllTold digest job gives past (first ++ lost_all (then_stands past first).closes due) ts
    pub own : IsJournal ts (journal_of Jb first ++ entries_lost (then_stands past first).closes due)
    -- no loss is due where events are left
    pub stops : (then ≡ []) ⊎ (due ≡ [])
    -- all of them, where no record stands behind
    pub whole : NoneAs in_file FitsBlock more → then ≡ []

  abbrev pub Finds : Stand → List Recorded → List Told → Type 0
  Finds v rs ts =
      (past es : Events) (rest more : List ℕ) → Agrees Jb lw v (M past) → DrivenFrom Jb p (M past) es → Each WaitFits (journal_of Jb es)
      → FitRecords digest job gives past es rest → rest ≡ bytes_of rs ++ more → tasks.Each IsRecord rs
      → (M past).starts + length (bytes_of rs) < 2 ^ 32
      → Found past es more ts

  due_there : (v : Stand) (m : Standing s.Desc) → Agrees Jb lw v m → (due : List ℕ) → DueFrom v due → DueThere p m due
  due_there v m a due from =
      record {
        done = λ over. from.0 (a.over ∙ over);
        due = λ going. subst (λ c. AllLost p.losses c m.gone due) a.closes
            (subst (λ g. AllLost p.losses v.closes g due) a.gone (from.1 (a.over ∙ going)));
      }

  -- where no event is left
  no_event : {v : Stand} {ts : List Told} (past : Events) (more : List ℕ) → Agrees Jb lw v (M past) → Beyond past v ts → Found past [] more ts
  no_event {v} {ts} past more a b =
      record {
        first = [];
        then = [];
        parts = refl;
        due = b.due;
        there = due_there v (M past) a b.due b.from;
        tells = subst (λ c. AllTold digest job gives past (lost_all c b.due) ts) a.closes (b.tells past (λ k h. h));
        own = subst (λ c. IsJournal ts (entries_lost c b.due)) a.closes b.own;
        stops = inl refl;
        whole = λ none. refl;
      }

  -- one event more
  prepend : (past es : Events) (more : List ℕ) (ts : List Told) (e : Event s.Desc) (t : Told) → EventTold digest job gives past e t
      → IsOf t (low Jb e) → Found (past ++ e ∷ []) es more ts → Found past (e ∷ es) more (t ∷ ts)
  prepend past es more ts e t said entry f =
      let at : M (past ++ e ∷ []) ≡ after Jb (M past) e = one_more digest job gives past e in
      record {
        first = e ∷ f.first;
        then = f.then;
        parts = ap (λ xs. e ∷ xs) f.parts;
        due = f.due;
        there = subst (λ (m : Standing s.Desc). DueThere p (after_all Jb m f.first) f.due) at f.there;
        tells = events.tells e t said
            (subst (λ (m : Standing s.Desc). AllTold digest job gives (past ++ e ∷ []) (f.first ++ lost_all (after_all Jb m f.first).closes f.due) ts)
            at f.tells);
        own = journal.tells t (low Jb e) entry
            (subst (λ (m : Standing s.Desc). IsJournal ts (journal_of Jb f.first ++ entries_lost (after_all Jb m f.first).closes f.due)) at f.own);
        stops = f.stops;
        whole = f.whole;
      }

  -- a late report more
  late_too : (past es : Events) (more : List ℕ) (ts : List Told) (t : Told) (k : ℕ) → find_open Jb k (M past).orders ≡ None → t ≡ told.late k
      → Found past es more ts
      → Found past es more (t ∷ ts)
  late_too past es more ts t k free e f =
      record {
        first = f.first;
        then = f.then;
        parts = f.parts;
        due = f.due;
        there = f.there;
        tells = subst (λ z. AllTold digest job gives past (f.first ++ lost_all (then_stands past f.first).closes f.due) (z ∷ ts)) (sym e)
            (events.late k free f.tells);
        own = subst (λ z. IsJournal (z ∷ ts) (journal_of Jb f.first ++ entries_lost (then_stands past f.first).closes f.due)) (sym e)
            (journal.late k f.own);
        stops = f.stops;
        whole = f.whole;
      }

  -- a driven history has no loss where a story rests
  no_loss : (v : Stand) (m : Standing s.Desc) → Agrees Jb lw v m → Rests p.losses v → (w c : ℕ) → Step Jb p m (lost w c) → Turn Jb p m (lost w c) → ⊥
  no_loss v m a (inl over) w c st t = let bad : true ≡ false = sym over ∙ (a.over ∙ st.going) in absurd cc
  no_loss v m a (inr none) w c st t =
      let d : FirstDue p.losses v.closes v.gone t.0 w =
      subst (λ k. FirstDue p.losses k v.gone t.0 w) (sym a.closes) (subst (λ g. FirstDue p.losses m.closes g t.0 w) (sym a.gone) t.1) in
      none t.0 d.count w d.due

  -- ---- a loss

  found_lose : {v : Stand} (rs : List Recorded) {ts : List Told} (loss w : ℕ) → v.over ≡ false → FirstDue p.losses v.closes v.gone loss w
      → AllBeyond v rs (told.lost w v.closes ∷ ts) → Finds (lose v w) rs ts → Finds v rs (told.lost w v.closes ∷ ts)
  found_lose {v} rs {ts} loss w going d far ih past es rest more a driven fits left e good few = pick es driven fits left
    where
      due : FirstDue p.losses (M past).closes (M past).gone loss w
      due = subst (λ k. FirstDue p.losses k (M past).gone loss w) a.closes (subst (λ g. FirstDue p.losses v.closes g loss w) a.gone d)

      -- of the worker that the history loses
      lost_next : (u c : ℕ) (es : Events) → Step Jb p (M past) (lost u c) → Turn Jb p (M past) (lost u c)
          → DrivenFrom Jb p (after Jb (M past) (lost u c)) es → Each WaitFits (journal_of Jb es)
          → FitRecords digest job gives past (lost u c ∷ es) rest
          → Found past (lost u c ∷ es) more (told.lost w v.closes ∷ ts)
      lost_next u c es st turn dr fs left =
          let same : w ≡ u = first_one Jb lw p (M past) w u loss turn.0 due turn.1 in
          let at : M (past ++ lost u c ∷ []) ≡ after Jb (M past) (lost u c) = one_more digest job gives past (lost u c) in
          let stands : Agrees Jb lw (lose v w) (after Jb (M past) (lost u c)) =
          subst (λ z. Agrees Jb lw (lose v w) (after Jb (M past) (lost z c))) same (agrees_lost Jb lw v (M past) a w c) in
          let f = ih (past ++ lost u c ∷ []) es rest more (subst (Agrees Jb lw (lose v w)) (sym at) stands)
          (subst (λ (m : Standing s.Desc). DrivenFrom Jb p m es) (sym at) dr) fs
          (lose_first digest job gives past es u c rest left.records left.fit) e good
          (subst (λ (m : Standing s.Desc). m.starts + length (bytes_of rs) < 2 ^ 32) (sym at) few) in
          let count : v.closes ≡ c = a.closes ∙ sym st.allowed.now in
          prepend past es more ts (lost u c) (told.lost w v.closes) (ap₂ told.lost same count) (same, count) f

      pick : (es : Events) → DrivenFrom Jb p (M past) es → Each WaitFits (journal_of Jb es) → FitRecords digest job gives past es rest
          → Found past es more (told.lost w v.closes ∷ ts)
      pick [] dr fs left = no_event past more a (far past rest more a.free left e good (omega (arith, few)))
      pick (lost u c ∷ es) dr fs left = lost_next u c es dr.0 dr.1 dr.2 fs.1 left
      pick (start k u t from ∷ es) dr fs left = absurd (dr.1.nothing_due loss due.count w due.due)
      pick (done k made copied spawned ∷ es) dr fs left = absurd (dr.1.0 loss due.count w due.due)
      pick (saved k j mark refs holds spawned ∷ es) dr fs left = absurd (dr.1.0 loss due.count w due.due)
      pick (missed k x i ∷ es) dr fs left = absurd (dr.1.0 loss due.count w due.due)

  -- ---- a record

  found_tell : {v : Stand} (rs : List Recorded) {ts : List Told} (r : Recorded) → Rests p.losses v → AllBeyond v (r ∷ rs) (tell v r ∷ ts)
      → Finds (after_record v r) rs ts → Finds v (r ∷ rs) (tell v r ∷ ts)
  found_tell {v} rs {ts} r rests far ih past es rest more a driven fits left e good few =
      pick es driven fits left
    where
      sizes : ((M past).starts + 1 + length (bytes_of rs) < 2 ^ 32) × (length (record_bytes r) < 2 ^ 32) × ((M past).starts < 2 ^ 32)
          × (length (bytes_of (r ∷ rs)) < 2 ^ 32)
      sizes = shorter r rs (M past).starts few

      -- starts rise by one at most
      rises : (x : Event s.Desc) → (after Jb (M past) x).starts ≤ (M past).starts + 1
      rises (start k u t from) = omega arith
      rises (done k made copied spawned) = same (find_open Jb k (M past).orders)
        where
          same : (o : Option (OpenStart s.Desc))
              → (close_with Jb (done_with Jb made copied spawned) (M past) k o).starts
              ≤ (M past).starts + 1
          same None = omega arith
          same (Some o) = omega arith
      rises (saved k j mark refs holds spawned) = same (find_open Jb k (M past).orders)
        where
          same : (o : Option (OpenStart s.Desc))
              → (close_with Jb (saved_with Jb j refs holds spawned) (M past) k o).starts
              ≤ (M past).starts + 1
          same None = omega arith
          same (Some o) = omega arith
      rises (missed k x i) = same (find_open Jb k (M past).orders)
        where
          same : (o : Option (OpenStart s.Desc))
              → (close_with Jb (missed_with Jb) (M past) k o).starts
              ≤ (M past).starts + 1
          same None = omega arith
          same (Some o) = omega arith
      rises (lost u c) = omega arith

      go : (x : Event s.Desc) (es : Events) → DrivenFrom Jb p (M past) (x ∷ es) → Each WaitFits (journal_of Jb (x ∷ es))
          → NextIs digest job gives past r (bytes_of rs ++ more) (x ∷ es) → Found past (x ∷ es) more (tell v r ∷ ts)
      go x es dr fs (next.idles bytes i q then) =
          let late = idle_late digest job gives past v a.free r good.0 bytes i q in
          let l = sizes.0 in
          late_too past (x ∷ es) more ts (tell v r) late.number late.free late.told
          (subst (λ z. Finds z rs ts) late.still ih past (x ∷ es) (bytes_of rs ++ more) more a dr fs then refl good.1 (omega (arith, l)))
      go x es dr fs (next.loses u c) = absurd (no_loss v (M past) a rests u c dr.0 dr.1)
      go x es dr fs (next.tells y bytes o q then) =
          let h = happens digest named job gives p workers losses past v a sizes.2 r good.0 sizes.1 x dr.0 fs.0 bytes o q in
          let at : M (past ++ x ∷ []) ≡ after Jb (M past) x = one_more digest job gives past x in
          let l = sizes.0 in
          let up = rises x in
          let room : (after Jb (M past) x).starts + length (bytes_of rs) < 2 ^ 32 = omega (arith, l, up) in
          prepend past es more ts x (tell v r) h.event h.entry
          (ih (past ++ x ∷ []) es (bytes_of rs ++ more) more (subst (Agrees Jb lw (after_record v r)) (sym at) h.agrees)
          (subst (λ (m : Standing s.Desc). DrivenFrom Jb p m es) (sym at) dr.2) fs.1 then refl good.1
          (subst (λ (m : Standing s.Desc). m.starts + length (bytes_of rs) < 2 ^ 32) (sym at) room))

      pick : (es : Events) → DrivenFrom Jb p (M past) es → Each WaitFits (journal_of Jb es) → FitRecords digest job gives past es rest
          → Found past es more (tell v r ∷ ts)
      pick [] dr fs left = no_event past more a (far past rest more a.free left e good sizes.3)
      pick (x ∷ es) dr fs left =
          go x es dr fs (next_is digest job gives left.records left.fit r (bytes_of rs ++ more) (split r rs more rest e) sizes.1)

  -- ---- the end

  -- no event is left where no record is, and the story rests
  nothing_left : {past es : Events} {rest : List ℕ} → (l : Rs digest job gives past es rest) → AllFit digest job gives l → (v : Stand)
      → Agrees Jb lw v (M past) → Rests p.losses v → DrivenFrom Jb p (M past) es → (more : List ℕ) → rest ≡ more → NoneAs in_file FitsBlock more
      → es ≡ []
  nothing_left logs.over f v a rests dr more e none = refl
  nothing_left (logs.idle {past} {es} {rest} bytes i then) f v a rests dr more e none = absurd (none bytes rest f.0 (sym e))
  nothing_left (logs.loses {past} {es} {rest} u c then) f v a rests dr more e none = absurd (no_loss v (M past) a rests u c dr.0 dr.1)
  nothing_left (logs.tells {past} {es} {rest} x bytes o then) f v a rests dr more e none = absurd (none bytes rest f.0 (sym e))

  found_end : {v : Stand} → Rests p.losses v → Finds v [] []
  found_end {v} rests past es rest more a driven fits left e good few =
      record {
        first = [];
        then = es;
        parts = refl;
        due = [];
        there = due_there v (M past) a [] (none_due v rests);
        tells = events.ends;
        own = journal.ends;
        stops = inr refl;
        whole = λ none. nothing_left left.records left.fit v a rests driven more e none;
      }

  pub found : {v : Stand} {rs : List Recorded} {ts : List Told} → Story p.losses v rs ts → Finds v rs ts
  found (Story.loses loss w going d s) = found_lose _ loss w going d (beyond (Story.loses loss w going d s)) (found s)
  found (Story.tells r rests s) = found_tell _ r rests (beyond (Story.tells r rests s)) (found s)
  found (Story.ends rests) = found_end rests
