-- A line of the journal and what stands before it tell the whole event.
use Rattle.std.proofs.Common.{◌≡◌, ℕ, zero, suc, ◌+◌, ◌-◌, ◌≤◌, ◌<◌, List, [], ◌∷◌, ◌++◌, length, Some, ◌⊎◌, inl, inr, refl, ap, sym, ◌∙◌, subst}
use Rattle.std.proofs.Common.{arith, add_comm}
use Rattle.ciel_journal.specs.Job.{Act, Digest, Each, Held, In, IsJob, Job, Task, ObjectOf, StateOf, after_wait, made, made_before, made_in, of, show}
use Rattle.ciel_journal.specs.Job.{wait, waits_in}
use Rattle.ciel_journal.specs.History.{Event, OpenStart, Plan, Standing, after, before_all, done, find_open, lost, missed, saved, start}
use Rattle.ciel_journal.specs.Lawful.{Copied, DoneAllowed, FetchedFrom, HeldAt, Lawful, LawfulFrom, Marked, MissedAllowed, NoClash, SavedAllowed}
use Rattle.ciel_journal.specs.Lawful.{SpawnedTo, SpawnedToEnd, Step, own_name}
use Rattle.ciel_journal.specs.Entries.{journal_of, low, low_names, low_task}
use Rattle.ciel_journal.proofs.Members.{each_of}
use Rattle.ciel_journal.proofs.Circle.{acts_grow, ended_stays}
use Rattle.ciel_journal.proofs.Numbers.{found_in}
use Rattle.ciel_journal.proofs.Shelved.{Shelved, shelved_start, shelved_step, fetched_in, started_own, one_name}
use Rattle.ciel_journal.proofs.Starts.{wait_unique}

module _ {D : Type 0} where
  after_join : (j : ℕ) (xs ys : List (Act D)) → j ≤ length (waits_in xs) → after_wait j (xs ++ ys) ≡ after_wait j xs ++ ys
  after_join zero xs ys l = refl
  after_join (suc j) [] ys l = absurd (omega arith)
  after_join (suc j) (made d ∷ xs) ys l = after_join (suc j) xs ys l
  after_join (suc j) (wait ds ∷ xs) ys l = after_join j xs ys (omega arith)

  after_waits : (j : ℕ) (xs : List (Act D)) → length (waits_in (after_wait j xs)) ≡ length (waits_in xs) - j
  after_waits zero xs = omega arith
  after_waits (suc j) [] = omega arith
  after_waits (suc j) (made d ∷ xs) = after_waits (suc j) xs
  after_waits (suc j) (wait ds ∷ xs) = after_waits j xs ∙ omega arith

  before_join : (j : ℕ) (xs ys : List (Act D)) → j ≤ length (waits_in xs) → made_before j (xs ++ ys) ≡ made_before j xs
  before_join zero xs ys l = refl
  before_join (suc j) [] ys l = absurd (omega arith)
  before_join (suc j) (made d ∷ xs) ys l = ap (λ ds. d ∷ ds) (before_join (suc j) xs ys l)
  before_join (suc j) (wait ds ∷ xs) ys l = before_join j xs ys (omega arith)

module _ {D : Type 0} (job : Job D) (laws : IsJob job) where
  -- what was spawned up to a wait
  spawned_more : (o : OpenStart D) (i : ℕ) (n m : ℕ) → o.from ≤ i → i ≤ length (waits_in (job.acts n o.task))
      → made_before (i - o.from) (after_wait o.from (job.acts (m + n) o.task)) ≡ made_before (i - o.from) (after_wait o.from (job.acts n o.task))
  spawned_more o i n m f l =
      let p = acts_grow job laws m n o.task in
      let w = after_waits o.from (job.acts n o.task) in
      sym (ap (λ xs. made_before (i - o.from) (after_wait o.from xs)) p.1)
      ∙ (ap (made_before (i - o.from)) (after_join o.from (job.acts n o.task) p.0 (omega (arith, f, l)))
      ∙ before_join (i - o.from) (after_wait o.from (job.acts n o.task)) p.0 (omega (arith, w, l)))

  pub spawned_to_unique : (o : OpenStart D) (i : ℕ) (a b : List D) → o.from < i → SpawnedTo job o i a → SpawnedTo job o i b → a ≡ b
  spawned_to_unique o i a b f x y =
      let p = spawned_more o i x.0 y.0 (omega (arith, f)) x.1 in
      let q = spawned_more o i y.0 x.0 (omega (arith, f)) y.1 in
      x.2 ∙ (sym p ∙ (ap (λ n. made_before (i - o.from) (after_wait o.from (job.acts n o.task))) (add_comm y.0 x.0) ∙ (q ∙ sym y.2)))

  pub spawned_end_unique : (o : OpenStart D) (a b : List D) → SpawnedToEnd job o a → SpawnedToEnd job o b → a ≡ b
  spawned_end_unique o a b x y =
      let p = (ended_stays job laws y.0 x.0 o.task x.1).0 in
      let q = (ended_stays job laws x.0 y.0 o.task y.1).0 in
      let r : job.acts x.0 o.task ≡ job.acts y.0 o.task = sym p ∙ (ap (λ n. job.acts n o.task) (add_comm y.0 x.0) ∙ q) in
      x.2 ∙ (ap (λ xs. made_in (after_wait o.from xs)) r ∙ sym y.2)

  at_more : (m n : ℕ) (t : Task D) (j : ℕ) (a : Held D) → job.at n t j ≡ Some a → job.at (m + n) t j ≡ Some a
  at_more zero n t j a h = let e : zero + n ≡ n = omega arith in subst (λ k. job.at k t j ≡ Some a) (sym e) h
  at_more (suc m) n t j a h =
      let e : suc m + n ≡ suc (m + n) = omega arith in subst (λ k. job.at k t j ≡ Some a) (sym e) (laws.held_kept (m + n) t j a (at_more m n t j a h))

  pub state_unique : (t : Task D) (j : ℕ) (a b : Held D) → StateOf job t j a → StateOf job t j b → a ≡ b
  state_unique t j a b x y =
      let p = at_more y.0 x.0 t j a x.1 in
      let q = at_more x.0 y.0 t j b y.1 in
      let e : Some a ≡ Some b = sym p ∙ (ap (λ k. job.at k t j) (add_comm y.0 x.0) ∙ q) in cc

  object_more : (m n : ℕ) (d : D) (a : Digest) → job.object n d ≡ Some a → job.object (m + n) d ≡ Some a
  object_more zero n d a h = let e : zero + n ≡ n = omega arith in subst (λ k. job.object k d ≡ Some a) (sym e) h
  object_more (suc m) n d a h =
      let e : suc m + n ≡ suc (m + n) = omega arith in
      subst (λ k. job.object k d ≡ Some a) (sym e) (laws.object_kept (m + n) d a (object_more m n d a h))

  pub object_unique : (d : D) (a b : Digest) → ObjectOf job d a → ObjectOf job d b → a ≡ b
  object_unique d a b x y =
      let p = object_more y.0 x.0 d a x.1 in
      let q = object_more x.0 y.0 d b y.1 in
      let e : Some a ≡ Some b = sym p ∙ (ap (λ k. job.object k d) (add_comm y.0 x.0) ∙ q) in cc

  pub same_marked : (ds : List D) (xs ys : List (D × Digest)) → Marked job ds xs → Marked job ds ys → xs ≡ ys
  same_marked [] [] [] a b = refl
  same_marked [] [] (y ∷ ys) a b = absurd b
  same_marked [] (x ∷ xs) ys a b = absurd a
  same_marked (d ∷ ds) [] ys a b = absurd a
  same_marked (d ∷ ds) (x ∷ xs) [] a b = absurd b
  same_marked (d ∷ ds) (x ∷ xs) (y ∷ ys) a b =
      let m : x.0 ≡ y.0 = a.0 ∙ sym b.0 in
      let n : x.1 ≡ y.1 = object_unique d x.1 y.1 a.1 b.1 in
      let h : x ≡ y = ap (λ (z : D). (z, x.1)) m ∙ ap (λ (i : Digest). (y.0, i)) n in
      ap (λ z. z ∷ xs) h ∙ ap (λ zs. y ∷ zs) (same_marked ds xs ys a.2 b.2)

  pub same_found : (v : Standing D) (k : ℕ) (o q : OpenStart D) → find_open job k v.orders ≡ Some o → find_open job k v.orders ≡ Some q → o ≡ q
  same_found v k o q a b = let e : Some o ≡ Some q = sym a ∙ b in cc

  -- ---- events with one entry

  pub same_names : (book : List D) → NoClash job book → (xs ys : List D) → Each (λ d. In d book) xs → Each (λ d. In d book) ys → low_names job xs
      ≡ low_names job ys → xs ≡ ys
  same_names book c [] [] a b e = refl
  same_names book c [] (y ∷ ys) a b e = cc
  same_names book c (x ∷ xs) [] a b e = cc
  same_names book c (x ∷ xs) (y ∷ ys) a b e =
      let n : job.name x ≡ job.name y = cc in
      let t : low_names job xs ≡ low_names job ys = cc in
      ap (λ z. z ∷ xs) (c x y a.0 b.0 n) ∙ ap (λ zs. y ∷ zs) (same_names book c xs ys a.1 b.1 t)

  copied_in : (v : Standing D) → Shelved job laws v → (o : OpenStart D) → In o v.orders → (copied : List D) → Each (Copied job o) copied
      → Each (λ d. In d v.book) copied
  copied_in v s o f [] h = tt
  copied_in v s o f (d ∷ ds) h = (fetched_in job laws v s o f d h.0.1.0 h.0.1.1, copied_in v s o f ds h.1)

  missed_in : (p : Plan) (v : Standing D) → Shelved job laws v → (o : OpenStart D) → In o v.orders → (d : D) (loss : ℕ)
      → MissedAllowed job p v o d loss → In d v.book
  missed_in p v s o f d loss a = pick a.reason
    where
      pick : ((HeldAt job o.task o.from d × FetchedFrom job o d a.worker) ⊎ ((d ≡ own_name job o.task) × (o.stack ≡ Some a.worker))) → In d v.book
      pick (inl x) = fetched_in job laws v s o f d a.worker x.1
      pick (inr x) = subst (λ z. In z v.book) (sym x.0) (each_of (λ (q : OpenStart D). In (own_name job q.task) v.book) o v.orders f s.own)

  low_same : (v : Standing D) → NoClash job v.book → (t u : Task D) → In (own_name job t) v.book → In (own_name job u) v.book → low_task job t
      ≡ low_task job u → t ≡ u
  low_same v c show show a b e = refl
  low_same v c show (of d) a b e = cc
  low_same v c (of d) show a b e = cc
  low_same v c (of d) (of x) a b e = let n : job.name d ≡ job.name x = cc in ap of (c d x a b n)

  same_done : (v : Standing D) → NoClash job v.book → Shelved job laws v → (k : ℕ) (o : OpenStart D) → In o v.orders
      → (m n : List (D × Digest)) (c d s t : List D) → DoneAllowed job o m c s → DoneAllowed job o n d t → low_names job c ≡ low_names job d
      → done k m c s ≡ done k n d t
  same_done v clash sh k o f m n c d s t a b y =
      ap (λ z. done k z c s) (same_marked (job.outputs o.task) m n a.marked b.marked)
      ∙ (ap (λ z. done k n z s) (same_names v.book clash c d (copied_in v sh o f c a.fetched) (copied_in v sh o f d b.fetched) y)
      ∙ ap (λ z. done k n d z) (spawned_end_unique o s t a.spawns b.spawns))

  pub same_saved : (k : ℕ) (o : OpenStart D) (j : ℕ) (mark note : Digest) (r q h g s t : List D) → SavedAllowed job o j mark r h s
      → SavedAllowed job o j note q g t → saved k j mark r h s ≡ saved k j note q g t
  same_saved k o j mark note r q h g s t a b =
      let w = wait_unique job laws o.task j r q a.next.waits b.next.waits in
      let x = state_unique o.task j (record { names = h; mark = mark }) (record { names = g; mark = note }) a.frozen b.frozen in
      let y = spawned_to_unique o j s t a.next.later a.spawns b.spawns in
      ap (λ z. saved k j mark z h s) w ∙ (ap (λ (z : Held D). saved k j z.mark q z.names s) x ∙ ap (λ z. saved k j note q g z) y)

  pub same_event : (p q : Plan) (v : Standing D) → NoClash job v.book → Shelved job laws v → (a b : Event D) → Step job p v a → Step job q v b
      → low job a ≡ low job b → a ≡ b
  same_event p q v c sh (start k w t from) (start l u s i) x y e =
      let m : low_task job t ≡ low_task job s = cc in
      let n : t ≡ s = low_same v c t s (started_own job laws p v sh k w t from x.allowed) (started_own job laws q v sh l u s i y.allowed) m in cc
  same_event p q v c sh (done k m d s) (done l n f t) x y e =
      let z : k ≡ l = cc in
      let names : low_names job d ≡ low_names job f = cc in
      let a = x.allowed in
      let b = y.allowed in
      let o : a.0 ≡ b.0 = same_found v k a.0 b.0 a.1 (subst (λ i. find_open job i v.orders ≡ Some b.0) (sym z) b.1) in
      let b' : DoneAllowed job a.0 n f t = subst (λ i. DoneAllowed job i n f t) (sym o) b.2 in
      same_done v c sh k a.0 (found_in job laws k v.orders a.0 a.1).0 m n d f s t a.2 b' names ∙ ap (λ i. done i n f t) z
  same_event p q v c sh (saved k j mark r h s) (saved l i note g f t) x y e =
      let z : k ≡ l = cc in
      let w : j ≡ i = cc in
      let a = x.allowed in
      let b = y.allowed in
      let o : a.0 ≡ b.0 = same_found v k a.0 b.0 a.1 (subst (λ i. find_open job i v.orders ≡ Some b.0) (sym z) b.1) in
      let b' : SavedAllowed job a.0 i note g f t = subst (λ u. SavedAllowed job u i note g f t) (sym o) b.2 in
      let b'' : SavedAllowed job a.0 j note g f t = subst (λ u. SavedAllowed job a.0 u note g f t) (sym w) b' in
      same_saved k a.0 j mark note r g h f s t a.2 b'' ∙ (ap (λ u. saved u j note g f t) z ∙ ap (λ u. saved l u note g f t) w)
  same_event p q v c sh (missed k d i) (missed l f j) x y e =
      let a = x.allowed in
      let b = y.allowed in
      let n : job.name d ≡ job.name f = cc in
      let s : d ≡ f = c d f (missed_in p v sh a.0 (found_in job laws k v.orders a.0 a.1).0 d i a.2)
      (missed_in q v sh b.0 (found_in job laws l v.orders b.0 b.1).0 f j b.2) n in cc
  same_event p q v c sh (lost w i) (lost u j) x y e = cc
  same_event p q v c sh (start k w t from) (done l n f u) x y e = cc
  same_event p q v c sh (start k w t from) (saved l i note g f u) x y e = cc
  same_event p q v c sh (start k w t from) (missed l f j) x y e = cc
  same_event p q v c sh (start k w t from) (lost u j) x y e = cc
  same_event p q v c sh (done k m d s) (start l u z i) x y e = cc
  same_event p q v c sh (done k m d s) (saved l i note g f u) x y e = cc
  same_event p q v c sh (done k m d s) (missed l f j) x y e = cc
  same_event p q v c sh (done k m d s) (lost u j) x y e = cc
  same_event p q v c sh (saved k j mark r h s) (start l u z i) x y e = cc
  same_event p q v c sh (saved k j mark r h s) (done l n f u) x y e = cc
  same_event p q v c sh (saved k j mark r h s) (missed l f i) x y e = cc
  same_event p q v c sh (saved k j mark r h s) (lost u i) x y e = cc
  same_event p q v c sh (missed k d i) (start l u z j) x y e = cc
  same_event p q v c sh (missed k d i) (done l n f u) x y e = cc
  same_event p q v c sh (missed k d i) (saved l j note g f u) x y e = cc
  same_event p q v c sh (missed k d i) (lost u j) x y e = cc
  same_event p q v c sh (lost w i) (start l u z j) x y e = cc
  same_event p q v c sh (lost w i) (done l n f u) x y e = cc
  same_event p q v c sh (lost w i) (saved l j note g f u) x y e = cc
  same_event p q v c sh (lost w i) (missed l f j) x y e = cc

  same_from : (p q : Plan) (v : Standing D) → NoClash job v.book → Shelved job laws v → (g h : List (Event D)) → LawfulFrom job p v g
      → LawfulFrom job q v h → journal_of job g ≡ journal_of job h → g ≡ h
  same_from p q v c sh [] [] x y e = refl
  same_from p q v c sh [] (b ∷ h) x y e = cc
  same_from p q v c sh (a ∷ g) [] x y e = cc
  same_from p q v c sh (a ∷ g) (b ∷ h) x y e =
      let l : low job a ≡ low job b = cc in
      let m : journal_of job g ≡ journal_of job h = cc in
      let s : a ≡ b = same_event p q v c sh a b x.0 y.0 l in
      let y' : LawfulFrom job q (after job v a) h = subst (λ z. LawfulFrom job q (after job v z) h) (sym s) y.1 in
      let r : g ≡ h = same_from p q (after job v a) x.0.apart (shelved_step job laws p v a sh x.0.allowed) g h x.1 y' m in
      ap (λ z. z ∷ g) s ∙ ap (λ z. b ∷ z) r

  -- the journal of names determines the history
  pub names_determine : (p q : Plan) (g h : List (Event D)) → Lawful job p g → Lawful job q h → journal_of job g ≡ journal_of job h → g ≡ h
  names_determine p q g h x y e =
      same_from p q (before_all job) (one_name job laws) (shelved_start job laws) g h x y e
