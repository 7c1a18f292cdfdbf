-- What a journal says by its entries alone, and what the history behind it says, are one.
use Rattle.std.proofs.Common.{◌≡◌, ℕ, List, [], ◌∷◌, cond, map, ◌⊎◌, ◌↔◌, inl, inr, refl, ap, sym, ◌∙◌, subst, nat_eq, eq-eqb, eqb-true, Bool, true}
use Rattle.std.proofs.Common.{false}
use Rattle.ciel_journal.specs.Job.{Digest, Task, Job, In, IsJob, Never}
use Rattle.ciel_journal.specs.History.{Event, start, done, saved, missed, lost, Plan, Standing, after, before_all, entered, names_of, standing}
use Rattle.ciel_journal.specs.Lawful.{Copied, Lawful, LawfulFrom}
use Rattle.ciel_journal.specs.Live.{LiveAt, Published}
use Rattle.ciel_journal.specs.Entries.{Entry, journal_of, low, low_made, low_names, low_task}
use Rattle.ciel_journal.specs.Journals.{BookOf, CircleOf, DrivenJournal, LawfulJournal, NameAt, NamePublished, entered_in}
use Rattle.ciel_journal.specs.Turns.{DrivenFrom}
use Rattle.ciel_journal.proofs.Good.{lawful_circle}
use Rattle.ciel_journal.proofs.Members.{any_in, each_of, in_any}
use Rattle.ciel_journal.proofs.Numbers.{found_in}
use Rattle.ciel_journal.proofs.Published.{book_apart, book_later, in_split, lawful_step, publishes}
use Rattle.ciel_journal.proofs.Shelved.{fetched_in, shelved_all, shelved_start}
use Rattle.ciel_journal.proofs.Text.{places_text}
use Rattle.ciel_journal.proofs.Unique.{names_determine}

module _ {D : Type 0} (job : Job D) where
  pub entered_alike : (w : ℕ) (h : List (Event D)) → entered_in w (journal_of job h) ≡ map (low_task job) (entered job w h)
  entered_alike w [] = refl
  entered_alike w (start k u t from ∷ es) = pick (nat_eq w u) (entered_alike w es)
    where
      pick : (b : Bool) → entered_in w (journal_of job es) ≡ map (low_task job) (entered job w es)
          → cond b (low_task job t ∷ entered_in w (journal_of job es)) (entered_in w (journal_of job es))
          ≡ map (low_task job) (cond b (t ∷ entered job w es) (entered job w es))
      pick true e = ap (λ ts. low_task job t ∷ ts) e
      pick false e = e
  entered_alike w (done k made copied spawned ∷ es) = entered_alike w es
  entered_alike w (saved k j mark refs holds spawned ∷ es) = entered_alike w es
  entered_alike w (missed k d loss ∷ es) = entered_alike w es
  entered_alike w (lost u closes ∷ es) = entered_alike w es

  -- ---- from a history to its journal

  low_in : (e : Event D) (h : List (Event D)) → In e h → In (low job e) (journal_of job h)
  low_in e [] i = absurd i
  low_in e (x ∷ xs) (inl s) = inl (ap (low job) s)
  low_in e (x ∷ xs) (inr i) = inr (low_in e xs i)

  name_in : (d : D) (ds : List D) → In d ds → In (job.name d) (low_names job ds)
  name_in d [] i = absurd i
  name_in d (x ∷ xs) (inl s) = inl (ap job.name s)
  name_in d (x ∷ xs) (inr i) = inr (name_in d xs i)

  made_in_low : (d : D) (ms : List (D × Digest)) → In d (names_of ms) → In (job.name d) (names_of (low_made job ms))
  made_in_low d [] i = absurd i
  made_in_low d (m ∷ ms) (inl s) = inl (ap job.name s)
  made_in_low d (m ∷ ms) (inr i) = inr (made_in_low d ms i)

  published_low : (h : List (Event D)) (w : ℕ) (d : D) → Published h w d → NamePublished (journal_of job h) w (job.name d)
  published_low h w d q =
      record {
        number = q.number;
        task = low_task job q.task;
        from = q.from;
        begun = low_in (start q.number w q.task q.from) h q.begun;
        made = low_made job q.made;
        copied = low_names job q.copied;
        ended = low_in (done q.number q.made q.copied q.spawned) h q.ended;
        has = pick q.has;
      }
    where
      pick : (In d (names_of q.made) ⊎ In d q.copied) → In (job.name d) (names_of (low_made job q.made)) ⊎ In (job.name d) (low_names job q.copied)
      pick (inl i) = inl (made_in_low d q.made i)
      pick (inr i) = inr (name_in d q.copied i)

  -- ---- and back

  abbrev StartedAs : List (Event D) → ℕ → ℕ → ℕ → Type 0
  StartedAs h k w from = (t : Task D) × In (start k w t from) h

  start_low : (h : List (Event D)) (k w : ℕ) (t : Task Digest) (from : ℕ) → In (Entry.Start k w t from) (journal_of job h) → StartedAs h k w from
  start_low [] k w t from i = absurd i
  start_low (e ∷ es) k w t from (inr i) = let q = start_low es k w t from i in (q.0, inr q.1)
  start_low (start l u s i ∷ es) k w t from (inl e) =
      let a : k ≡ l = cc in
      let b : w ≡ u = cc in
      let c : from ≡ i = cc in
      (s, inl (ap (λ z. start z w s from) a ∙ (ap (λ z. start l z s from) b ∙ ap (λ z. start l u s z) c)))
  start_low (done l ms c x ∷ es) k w t from (inl s) = cc
  start_low (saved l j m r x y ∷ es) k w t from (inl s) = cc
  start_low (missed l d x ∷ es) k w t from (inl s) = cc
  start_low (lost u x ∷ es) k w t from (inl s) = cc

  abbrev DoneAs : List (Event D) → ℕ → List (Digest × Digest) → List Digest → Type 0
  DoneAs h k made copied =
      (ms : List (D × Digest)) × (c : List D) × (s : List D) × In (done k ms c s) h × (made ≡ low_made job ms) × (copied ≡ low_names job c)

  done_low : (h : List (Event D)) (k : ℕ) (made : List (Digest × Digest)) (copied : List Digest)
      → In (Entry.Done k made copied) (journal_of job h) → DoneAs h k made copied
  done_low [] k made copied i = absurd i
  done_low (e ∷ es) k made copied (inr i) =
      let q = done_low es k made copied i in (q.0, q.1, q.2, inr q.3, q.4, q.5)
  done_low (start l w t from ∷ es) k made copied (inl s) = cc
  done_low (done l ms c x ∷ es) k made copied (inl s) =
      let a : l ≡ k = cc in
      let b : made ≡ low_made job ms = cc in
      let f : copied ≡ low_names job c = cc in
      (ms, c, x, inl (ap (λ z. done z ms c x) (sym a)), b, f)
  done_low (saved l j m r x y ∷ es) k made copied (inl s) = cc
  done_low (missed l d x ∷ es) k made copied (inl s) = cc
  done_low (lost w x ∷ es) k made copied (inl s) = cc

  lost_low : (h : List (Event D)) (w c : ℕ) → In (Entry.Lost w c) (journal_of job h) → In (lost w c) h
  lost_low [] w c i = absurd i
  lost_low (e ∷ es) w c (inr i) = inr (lost_low es w c i)
  lost_low (start k u t from ∷ es) w c (inl s) = cc
  lost_low (done l ms x y ∷ es) w c (inl s) = cc
  lost_low (saved l j m r x y ∷ es) w c (inl s) = cc
  lost_low (missed l d x ∷ es) w c (inl s) = cc
  lost_low (lost u x ∷ es) w c (inl s) =
      let a : w ≡ u = cc in
      let b : c ≡ x = cc in inl (ap (λ z. lost z c) a ∙ ap (λ z. lost u z) b)

  names_low : (n : Digest) (ds : List D) → In n (low_names job ds) → (d : D) × In d ds × (job.name d ≡ n)
  names_low n [] i = absurd i
  names_low n (d ∷ ds) (inl s) = (d, inl refl, sym s)
  names_low n (d ∷ ds) (inr i) = let q = names_low n ds i in (q.0, inr q.1, q.2)

  abbrev Marked : List (D × Digest) → Digest → Type 0
  Marked ms n = (d : D) × (mark : Digest) × In (d, mark) ms × (job.name d ≡ n)

  made_low : (n : Digest) (ms : List (D × Digest)) → In n (names_of (low_made job ms)) → Marked ms n
  made_low n [] i = absurd i
  made_low n (m ∷ ms) (inl s) = (m.0, m.1, inl refl, sym s)
  made_low n (m ∷ ms) (inr i) = let q = made_low n ms i in (q.0, q.1, inr q.2, q.3)

  marked_names : (ms : List (D × Digest)) (d : D) (mark : Digest) → In (d, mark) ms → In d (names_of ms)
  marked_names [] d mark i = absurd i
  marked_names (m ∷ ms) d mark (inl s) = inl (ap (λ (z : D × Digest). z.0) s)
  marked_names (m ∷ ms) d mark (inr i) = inr (marked_names ms d mark i)

module _ {D : Type 0} (job : Job D) (laws : IsJob job) (p : Plan) (h : List (Event D)) (l : Lawful job p h) where
  -- what was copied is in the book
  copied_booked : (k : ℕ) (made : List (D × Digest)) (copied spawned : List D) → In (done k made copied spawned) h → (d : D) → In d copied
      → In d (standing job h).book
  copied_booked k made copied spawned i d j =
      let s = in_split (done k made copied spawned) h i in
      let q = lawful_step job laws p h s.0 s.1 (done k made copied spawned) s.2 l in
      let a = q.1.allowed in
      let sh = shelved_all job laws p (before_all job) s.0 (shelved_start job laws) q.0 in
      let f = found_in job laws k (standing job s.0).orders a.0 a.1 in
      let c = each_of (Copied job a.0) d copied j a.2.fetched in
      book_later job laws p h s.0 (done k made copied spawned ∷ s.1) s.2 l d (fetched_in job laws (standing job s.0) sh a.0 f.0 d c.1.0 c.1.1)

  published_high : (w : ℕ) (d : D) → In d (standing job h).book → NamePublished (journal_of job h) w (job.name d) → Published h w d
  published_high w d i q = pick q.has
    where
      begun : StartedAs job h q.number w q.from
      begun = start_low job h q.number w q.task q.from q.begun

      ended : DoneAs job h q.number q.made q.copied
      ended = done_low job h q.number q.made q.copied q.ended

      same : (e : D) → In e (standing job h).book → job.name e ≡ job.name d → e ≡ d
      same e j n = book_apart job laws p h l e d j i n

      whole : (In d (names_of ended.0) ⊎ In d ended.1) → Published h w d
      whole has =
          record {
            number = q.number;
            task = begun.0;
            from = q.from;
            begun = begun.1;
            made = ended.0;
            copied = ended.1;
            spawned = ended.2;
            ended = ended.3;
            has = has;
          }

      pick : (In (job.name d) (names_of q.made) ⊎ In (job.name d) q.copied) → Published h w d
      pick (inl j) =
          let m = made_low job (job.name d) ended.0 (subst (λ z. In (job.name d) (names_of z)) ended.4 j) in
          let k = publishes job laws p h l q.number ended.0 ended.1 ended.2 m.0 m.1 ended.3 m.2 in
          whole (inl (subst (λ z. In z (names_of ended.0)) (same m.0 k.known m.3) (marked_names job ended.0 m.0 m.1 m.2)))
      pick (inr j) =
          let m = names_low job (job.name d) ended.1 (subst (In (job.name d)) ended.5 j) in
          whole (inr (subst (λ z. In z ended.1) (same m.0 (copied_booked q.number ended.0 ended.1 ended.2 ended.3 m.0 m.1) m.2) m.1))

  -- who has what by what stands is who has it by the text
  pub placed_text : (d : D) (w : ℕ) → In w ((standing job h).places d) ↔ LiveAt h w d
  placed_text d w =
      let q = places_text job laws p h l w d in (
        λ j. q.0 (in_any nat_eq (λ a. eq-eqb a a refl) w ((standing job h).places d) j),
        λ x. any_in nat_eq (λ a b e. eqb-true a b e) w ((standing job h).places d) (q.1 x),
      )

  -- where a description of the book is, its name is
  pub placed_alike : (d : D) → In d (standing job h).book → (w : ℕ) → In w ((standing job h).places d) ↔ NameAt (journal_of job h) w (job.name d)
  placed_alike d i w = (there, back)
    where
      there : In w ((standing job h).places d) → NameAt (journal_of job h) w (job.name d)
      there j =
          let q = (places_text job laws p h l w d).0 (in_any nat_eq (λ a. eq-eqb a a refl) w ((standing job h).places d) j) in
          (published_low job h w d q.0, λ x. q.1 (x.0, lost_low job h w x.0 x.1))

      back : NameAt (journal_of job h) w (job.name d) → In w ((standing job h).places d)
      back q =
          any_in nat_eq (λ a b e. eqb-true a b e) w ((standing job h).places d)
          ((places_text job laws p h l w d).1 (published_high w d i q.0, λ x. q.1 (x.0, low_in job (lost w x.0) h x.1)))

module _ {D : Type 0} (job : Job D) where
  driven_from : (p : Plan) (v : Standing D) (h : List (Event D)) → DrivenFrom job p v h → LawfulFrom job p v h
  driven_from p v [] d = tt
  driven_from p v (e ∷ es) d = (d.0, driven_from p (after job v e) es d.2)

  pub driven_lawful : (p : Plan) (J : List Entry) → DrivenJournal job p J → LawfulJournal job p J
  driven_lawful p J d = (d.0, record { lawful = driven_from p (before_all job) d.0 d.1; journal = d.2 })

module _ {D : Type 0} (job : Job D) (laws : IsJob job) (p : Plan) (J : List Entry) where
  pub book_one : (a b : List D) → BookOf job p J a → BookOf job p J b → a ≡ b
  book_one a b x y =
      let e = names_determine job laws p p x.0 y.0 x.1.lawful y.1.lawful (x.1.journal ∙ sym y.1.journal) in
      sym x.2 ∙ (ap (λ h. (standing job h).book) e ∙ y.2)

  pub never_named : (names : List Digest) → CircleOf job p J names → Never job
  never_named names c = lawful_circle job laws p c.0 c.1.lawful c.2 c.3
