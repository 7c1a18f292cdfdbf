-- What a Done or a Saved of a lawful history publishes: names of single descriptions, and marks that the job alone decides.
use Rattle.std.proofs.Common.{◌≡◌, ℕ, ◌<◌, List, [], ◌∷◌, ◌++◌, inl, inr, ap, sym, ◌∙◌, subst, arith}
use Rattle.ciel_journal.specs.Job.{Digest, Task, Held, Job, In, Each, IsJob, ObjectOf, StateOf, WaitOf}
use Rattle.ciel_journal.specs.History.{Event, start, done, saved, missed, lost, OpenStart, Plan, Standing, before_all, standing}
use Rattle.ciel_journal.specs.Lawful.{Lawful, Step, Marked, NoClash}
use Rattle.ciel_journal.specs.Entries.{Entry, low_made, journal_of}
use Rattle.ciel_journal.specs.Laws.{Publishes}
use Rattle.ciel_journal.proofs.Members.{each_of}
use Rattle.ciel_journal.proofs.Append.{lawful_split, after_join}
use Rattle.ciel_journal.proofs.Numbers.{found_in, in_left}
use Rattle.ciel_journal.proofs.Shelved.{shelved_start, shelved_all, book_all, apart_all, one_name}
use Rattle.ciel_journal.proofs.Text.{says_lawful}
use Rattle.ciel_journal.proofs.Unique.{object_unique, state_unique}

module _ {A : Type 0} where
  -- where an entry stands
  pub in_split : (x : A) (xs : List A) → In x xs → (g h : List A) × (xs ≡ g ++ x ∷ h)
  in_split x [] i = absurd i
  in_split x (y ∷ ys) (inl s) = ([], ys, ap (λ z. z ∷ ys) (sym s))
  in_split x (y ∷ ys) (inr i) = let q = in_split x ys i in (y ∷ q.0, q.1, ap (λ zs. y ∷ zs) q.2)

module _ {D : Type 0} (job : Job D) (laws : IsJob job) where
  marked_at : (ds : List D) (ms : List (D × Digest)) → Marked job ds ms → (m : D × Digest) → In m ms → In m.0 ds × ObjectOf job m.0 m.1
  marked_at [] [] a m i = absurd i
  marked_at [] (x ∷ xs) a m i = absurd a
  marked_at (d ∷ ds) [] a m i = absurd a
  marked_at (d ∷ ds) (x ∷ xs) a m (inl s) = (
    inl (ap (λ (z : D × Digest). z.0) s ∙ a.0),
    subst (λ (z : D × Digest). ObjectOf job z.0 z.1) (sym s) (subst (λ e. ObjectOf job e x.1) (sym a.0) a.1),
  )
  marked_at (d ∷ ds) (x ∷ xs) a m (inr i) = let q = marked_at ds xs a.2 m i in (inr q.0, q.1)

  pub lawful_step : (p : Plan) (h g k : List (Event D)) (e : Event D) → h ≡ g ++ e ∷ k → Lawful job p h → Lawful job p g
      × Step job p (standing job g) e
  lawful_step p h g k e s l =
      let q = lawful_split job p (before_all job) g (e ∷ k) (subst (Lawful job p) s l) in (q.0, q.1.0)

  -- what stands in the book stays there
  pub book_later : (p : Plan) (h g k : List (Event D)) → h ≡ g ++ k → Lawful job p h → (d : D) → In d (standing job g).book
      → In d (standing job h).book
  book_later p h g k s l d i =
      let q = lawful_split job p (before_all job) g k (subst (Lawful job p) s l) in
      subst (λ x. In d (standing job x).book) (sym s)
      (subst (λ (v : Standing D). In d v.book) (sym (after_join job (before_all job) g k)) (book_all job laws p (standing job g) k q.1 d i))

  pub book_apart : (p : Plan) (h : List (Event D)) → Lawful job p h → NoClash job (standing job h).book
  book_apart p h l = apart_all job laws p (before_all job) h (one_name job laws) l

  pub publishes : (p : Plan) (h : List (Event D)) → Lawful job p h
      → (k : ℕ) (made : List (D × Digest)) (copied spawned : List D) (d : D) (mark : Digest) → In (done k made copied spawned) h
      → In (d, mark) made → Publishes job h d mark
  publishes p h l k made copied spawned d mark i j =
      let s = in_split (done k made copied spawned) h i in
      let q = lawful_step p h s.0 s.1 (done k made copied spawned) s.2 l in
      let a = q.1.allowed in
      let m = marked_at (job.outputs a.0.task) made a.2.marked (d, mark) j in
      let sh = shelved_all job laws p (before_all job) s.0 (shelved_start job laws) q.0 in
      let f = found_in job laws k (standing job s.0).orders a.0 a.1 in
      let outs = each_of (λ (o : OpenStart D). Each (λ x. In x (standing job s.0).book) (job.outputs o.task)) a.0 (standing job s.0).orders f.0
      sh.outputs in
      let here : In d (standing job h).book =
      book_later p h s.0 (done k made copied spawned ∷ s.1) s.2 l d (each_of (λ x. In x (standing job s.0).book) d (job.outputs a.0.task) m.0 outs) in
      record {
        known = here;
        single = λ e n b. book_apart p h l e d n here b;
        seen = m.1;
        only = λ n o. object_unique job laws d n mark o m.1;
      }

  made_low : (ms : List (D × Digest)) (n mark : Digest) → In (n, mark) (low_made job ms) → (d : D) × In (d, mark) ms × (job.name d ≡ n)
  made_low [] n mark i = absurd i
  made_low (m ∷ ms) n mark (inl s) =
      let a : n ≡ job.name m.0 = ap (λ (z : Digest × Digest). z.0) s in
      let b : mark ≡ m.1 = ap (λ (z : Digest × Digest). z.1) s in
      (m.0, inl (ap (λ (z : Digest). (m.0, z)) b), sym a)
  made_low (m ∷ ms) n mark (inr i) = let q = made_low ms n mark i in (q.0, inr q.1, q.2)

  abbrev WasDone : List (Event D) → ℕ → List (Digest × Digest) → Type 0
  WasDone h k made =
      (ms : List (D × Digest)) × (c : List D) × (s : List D) × In (done k ms c s) h × (made ≡ low_made job ms)

  done_low : (h : List (Event D)) (k : ℕ) (made : List (Digest × Digest)) (copied : List Digest)
      → In (Entry.Done k made copied) (journal_of job h) → WasDone h k made
  done_low [] k made copied i = absurd i
  done_low (e ∷ es) k made copied (inr i) = let q = done_low es k made copied i in (q.0, q.1, q.2, inr q.3, q.4)
  done_low (start l w t from ∷ es) k made copied (inl s) = cc
  done_low (done l ms c x ∷ es) k made copied (inl s) =
      let a : l ≡ k = cc in
      let b : made ≡ low_made job ms = cc in
      (ms, c, x, inl (ap (λ z. done z ms c x) (sym a)), b)
  done_low (saved l j m r x y ∷ es) k made copied (inl s) = cc
  done_low (missed l d x ∷ es) k made copied (inl s) = cc
  done_low (lost w x ∷ es) k made copied (inl s) = cc

  -- no name stands with two marks
  pub one_mark : (p : Plan) (h : List (Event D)) → Lawful job p h
      → (k l : ℕ) (made more : List (Digest × Digest)) (c e : List Digest) (name a b : Digest) → In (Entry.Done k made c) (journal_of job h)
      → In (Entry.Done l more e) (journal_of job h) → In (name, a) made → In (name, b) more → a ≡ b
  one_mark p h l k m made more c e name a b i j x y =
      let u = done_low h k made c i in
      let v = done_low h m more e j in
      let d = made_low u.0 name a (subst (In (name, a)) u.4 x) in
      let f = made_low v.0 name b (subst (In (name, b)) v.4 y) in
      let g = publishes p h l k u.0 u.1 u.2 d.0 a u.3 d.1 in
      let o = publishes p h l m v.0 v.1 v.2 f.0 b v.3 f.1 in
      let s : f.0 ≡ d.0 = g.single f.0 o.known (f.2 ∙ sym d.2) in
      sym (g.only b (subst (λ z. ObjectOf job z b) s o.seen))

  -- what the task of a Saved waits for there, and its state
  pub saved_task : (p : Plan) (h : List (Event D)) → Lawful job p h → (k j : ℕ) (mark : Digest) (refs holds spawned : List D)
      → In (saved k j mark refs holds spawned) h → (w : ℕ) (t : Task D) (from : ℕ) → In (start k w t from) h
      → StateOf job t j (record { names = holds; mark = mark }) × WaitOf job t j refs × (0 < j)
  saved_task p h l k j mark refs holds spawned i w t from st =
      let s = in_split (saved k j mark refs holds spawned) h i in
      let q = lawful_step p h s.0 s.1 (saved k j mark refs holds spawned) s.2 l in
      let a = q.1.allowed in
      let f = found_in job laws k (standing job s.0).orders a.0 a.1 in
      let old = (says_lawful job laws p s.0 q.0).orders a.0 f.0 in
      let e : Event D = start k a.0.worker a.0.task a.0.from in
      let begun : In (start k a.0.worker a.0.task a.0.from) s.0 = subst (λ n. In (start n a.0.worker a.0.task a.0.from) s.0) (sym f.1) old.0 in
      let here : In (start k a.0.worker a.0.task a.0.from) h =
      subst (In (start k a.0.worker a.0.task a.0.from)) (sym s.2)
      (in_left (start k a.0.worker a.0.task a.0.from) s.0 (saved k j mark refs holds spawned ∷ s.1) begun) in
      let one = says_lawful job laws p h l in
      let same : a.0.task ≡ t = one.one_task k a.0.worker a.0.task a.0.from w t from here st in
      let late = a.2.next.later in (
        subst (λ u. StateOf job u j (record { names = holds; mark = mark })) same a.2.frozen,
        subst (λ u. WaitOf job u j refs) same a.2.next.waits,
        omega (arith, late),
      )

  -- two saved entries of one task and one wait have one mark
  pub one_state : (p : Plan) (h : List (Event D)) → Lawful job p h → (k l w u : ℕ) (t : Task D) (from i : ℕ) → In (start k w t from) h
      → In (start l u t i) h → (j : ℕ) (a b : Digest) (r x s q y z : List D) → In (saved k j a r x s) h → In (saved l j b q y z) h → a ≡ b
  one_state p h l k m w u t from i st tt' j a b r x s q y z c d =
      let e = (saved_task p h l k j a r x s c w t from st).0 in
      let f = (saved_task p h l m j b q y z d u t i tt').0 in
      let g = state_unique job laws t j (record { names = x; mark = a }) (record { names = y; mark = b }) e f in
      ap (λ (v : Held D). v.mark) g
