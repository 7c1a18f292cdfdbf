-- With one worker each turn allows one event.
use Rattle.std.proofs.Common.{◌≡◌, ℕ, ◌+◌, ◌*◌, ◌%◌, ◌≤◌, ◌<◌, List, [], ◌∷◌, ◌++◌, length, Bool, true, false, not, cond, ◌||◌, Option, Some, None}
use Rattle.std.proofs.Common.{slice_get, ◌⊎◌, inl, inr, refl, ap, sym, ◌∙◌, subst, arith, nat_eq, nat_lt, filter, eqb-true, eq-eqb, append-nil}
use Rattle.std.specs.List.{list_any}
use Rattle.ciel_journal.specs.Job.{Digest, Task, Job, In, Each, IsPrefix, IsJob}
use Rattle.ciel_journal.specs.History.{Event, start, done, saved, missed, lost, OpenStart, Plan, Save, Standing, after, before_all, better, closed}
use Rattle.ciel_journal.specs.History.{done_with, saved_with, find_open, last, last_save, names_of, order_of, placed, same_task, stack_of, after_all}
use Rattle.ciel_journal.specs.Lawful.{Copied, DoneAllowed, FetchedFrom, Given, HeldAt, NextWait, SavedAllowed, Step, own_name}
use Rattle.ciel_journal.specs.Turns.{Chosen, Driven, DrivenFrom, FirstDue, Ready, Rests, Turn, draw, idle, tasks_of}
use Rattle.ciel_journal.proofs.Picked.{picks_unique}
use Rattle.ciel_journal.proofs.Members.{bool_cases}
use Rattle.ciel_journal.proofs.Good.{after_done, after_saved, after_missed}
use Rattle.ciel_journal.proofs.Next.{one_wait, not_end}
use Rattle.ciel_journal.proofs.Numbers.{found_in, in_filter, in_last}
use Rattle.ciel_journal.proofs.Shelved.{least_has}
use Rattle.ciel_journal.proofs.Text.{Has, placed_cases, filter_has}
use Rattle.ciel_journal.proofs.Unique.{same_marked, same_saved, spawned_end_unique}

module _ {D : Type 0} (job : Job D) (laws : IsJob job) where
  pub record Lone (v : Standing D) : Type 0 where
    pub workers : (o : OpenStart D) → In o v.orders → o.worker ≡ 0
    pub one : (a b : OpenStart D) → In a v.orders → In b v.orders → a ≡ b
    pub here : (o : OpenStart D) → In o v.orders → list_any (nat_eq o.worker) v.gone ≡ false
    pub places : (d : D) (w : ℕ) → Has v.places w d → w ≡ 0
    pub had : (o : OpenStart D) → In o v.orders → (d : D) (w : ℕ) → Has o.had w d → w ≡ 0
    pub saves : (s : Save D) → In s v.saves → s.worker ≡ 0
    pub stacks : (o : OpenStart D) → In o v.orders → (w : ℕ) → o.stack ≡ Some w → w ≡ 0

  lone_start : Lone (before_all job)
  lone_start =
      record {
        workers = λ o i. absurd i;
        one = λ a b i j. absurd i;
        here = λ o i. absurd i;
        places = λ d w h. cc;
        had = λ o i. absurd i;
        saves =
            λ s i. absurd i;
        stacks = λ o i. absurd i;
      }

  -- ---- what stays

  nobody : (os : List (OpenStart D)) → ((o : OpenStart D) → In o os → o.worker ≡ 0) → list_any (λ (o : OpenStart D). nat_eq 0 o.worker) os
      ≡ false → os ≡ []
  nobody [] h f = refl
  nobody (o ∷ os) h f =
      let a : nat_eq 0 o.worker ≡ true = eq-eqb 0 o.worker (sym (h o (inl refl))) in
      let b : true ≡ false = sym (ap (λ c. c || list_any (λ (q : OpenStart D). nat_eq 0 q.worker) os) a) ∙ f in cc

  only_here : (o q : OpenStart D) → In o (q ∷ []) → o ≡ q
  only_here o q (inl s) = s
  only_here o q (inr i) = absurd i

  stack_zero : (t : Task D) (ss : List (Save D)) → ((s : Save D) → In s ss → s.worker ≡ 0) → (w : ℕ) → stack_of job (last_save job t ss) ≡ Some w
      → w ≡ 0
  stack_zero t [] h w e = cc
  stack_zero t (s ∷ ss) h w e = pick (same_task job t s.task) (last_save job t ss) (stack_zero t ss (λ x i. h x (inr i)) w) e
    where
      mine : Some s.worker ≡ Some w → w ≡ 0
      mine k = let a : s.worker ≡ w = cc in sym a ∙ h s (inl refl)

      choose : (c : Bool) (q : Save D) → (Some q.worker ≡ Some w → w ≡ 0) → stack_of job (cond c (Some s) (Some q)) ≡ Some w → w ≡ 0
      choose true q r k = mine k
      choose false q r k = r k

      pick : (b : Bool) (o : Option (Save D)) → (stack_of job o ≡ Some w → w ≡ 0) → stack_of job (cond b (better job s o) o) ≡ Some w → w ≡ 0
      pick true None r k = mine k
      pick true (Some q) r k = choose (nat_lt q.j s.j) q r k
      pick false o r k = r k

  -- what stays where orders go
  lone_less : (v u : Standing D) (p : OpenStart D → Bool) → Lone v → u.orders ≡ filter p v.orders → u.gone ≡ v.gone
      → ((d : D) (w : ℕ) → Has u.places w d → w ≡ 0) → ((s : Save D) → In s u.saves → s.worker ≡ 0) → Lone u
  lone_less v u p l e g places saves =
      record {
        workers = λ o i. l.workers o (back o i);
        one = λ a b i j. l.one a b (back a i) (back b j);
        here = λ o i. subst (λ ws. list_any (nat_eq o.worker) ws ≡ false) (sym g) (l.here o (back o i));
        places = places;
        had = λ o i. l.had o (back o i);
        saves = saves;
        stacks = λ o i. l.stacks o (back o i);
      }
    where
      back : (o : OpenStart D) → In o u.orders → In o v.orders
      back o i = in_filter p o v.orders (subst (In o) e i)

  none_join : (p : ℕ → Bool) (xs : List ℕ) (y : ℕ) → list_any p xs ≡ false → p y ≡ false → list_any p (xs ++ y ∷ []) ≡ false
  none_join p [] y h k = ap (λ b. b || false) k
  none_join p (x ∷ xs) y h k = pick (p x) h (none_join p xs y)
    where
      pick : (b : Bool) → b || list_any p xs ≡ false → (list_any p xs ≡ false → p y ≡ false → list_any p (xs ++ y ∷ []) ≡ false) → b
          || list_any p (xs ++ y ∷ []) ≡ false
      pick true h r = cc
      pick false h r = r h k

  lone_step : (p : Plan) → p.workers ≡ 1 → (v : Standing D) (e : Event D) → Lone v → Step job p v e → Lone (after job v e)
  lone_step p n v (start k w t from) l step =
      record {
        workers = λ o i. subst (λ (q : OpenStart D). q.worker ≡ 0) (sym (new o i)) zero_worker;
        one = λ a b i j. new a i ∙ sym (new b j);
        here = λ o i. subst (λ (q : OpenStart D). list_any (nat_eq q.worker) v.gone ≡ false) (sym (new o i)) step.allowed.here;
        places = l.places;
        had = λ o i. subst (λ (q : OpenStart D). (d : D) (w : ℕ) → Has q.had w d → w ≡ 0) (sym (new o i)) l.places;
        saves = l.saves;
        stacks = λ o i. subst (λ (q : OpenStart D). (w : ℕ) → q.stack ≡ Some w → w ≡ 0) (sym (new o i)) (stack_zero t v.saves l.saves);
      }
    where
      zero_worker : w ≡ 0
      zero_worker = let a = step.allowed.worker in omega (arith, a, n)

      none : v.orders ≡ []
      none =
          nobody v.orders l.workers (subst (λ x. list_any (λ (o : OpenStart D). nat_eq x o.worker) v.orders ≡ false) zero_worker step.allowed.idle)

      new : (o : OpenStart D) → In o (v.orders ++ order_of job v k w t from ∷ []) → o ≡ order_of job v k w t from
      new o i = only_here o (order_of job v k w t from) (subst (λ os. In o (os ++ order_of job v k w t from ∷ [])) none i)
  lone_step p n v (done k made copied spawned) l step =
      let a = step.allowed in
      subst Lone (sym (after_done job laws v k made copied spawned a.0 a.1))
      (lone_less v (done_with job made copied spawned a.0 (closed job v k)) (λ (o : OpenStart D). not (nat_eq k o.number)) l refl refl here l.saves)
    where
      mine : step.allowed.0.worker ≡ 0
      mine = l.workers step.allowed.0 (found_in job laws k v.orders step.allowed.0 step.allowed.1).0

      here : (d : D) (w : ℕ) → Has (placed job copied step.allowed.0.worker (placed job (names_of made) step.allowed.0.worker v.places)) w d → w ≡ 0
      here d w h =
          pick (placed_cases job laws copied step.allowed.0.worker (placed job (names_of made) step.allowed.0.worker v.places) w d h)
        where
          turn : (Has v.places w d ⊎ ((w ≡ step.allowed.0.worker) × In d (names_of made))) → w ≡ 0
          turn (inl b) = l.places d w b
          turn (inr b) = b.0 ∙ mine

          pick : (Has (placed job (names_of made) step.allowed.0.worker v.places) w d ⊎ ((w ≡ step.allowed.0.worker) × In d copied)) → w ≡ 0
          pick (inl b) = turn (placed_cases job laws (names_of made) step.allowed.0.worker v.places w d b)
          pick (inr b) = b.0 ∙ mine
  lone_step p n v (saved k j mark refs holds spawned) l step =
      let a = step.allowed in
      subst Lone (sym (after_saved job laws v k j mark refs holds spawned a.0 a.1))
      (lone_less v (saved_with job j refs holds spawned a.0 (closed job v k)) (λ (o : OpenStart D). not (nat_eq k o.number)) l refl refl l.places
      (λ s i. turn s (in_last s v.saves (record { task = a.0.task; j = j; worker = a.0.worker; refs = refs; holds = holds }) i)))
    where
      turn : (s : Save D) → (In s v.saves
          ⊎ (s ≡ record { task = step.allowed.0.task; j = j; worker = step.allowed.0.worker; refs = refs; holds = holds })) → s.worker ≡ 0
      turn s (inl i) = l.saves s i
      turn s (inr e) =
          ap (λ (x : Save D). x.worker) e ∙ l.workers step.allowed.0 (found_in job laws k v.orders step.allowed.0 step.allowed.1).0
  lone_step p n v (missed k d loss) l step =
      let a = step.allowed in
      subst Lone (sym (after_missed job laws v k d loss a.0 a.1))
      (lone_less v (closed job v k) (λ (o : OpenStart D). not (nat_eq k o.number)) l refl refl l.places l.saves)
  lone_step p n v (lost w closes) l step =
      record {
        workers = λ o i. l.workers o (back o i);
        one = λ a b i j. l.one a b (back a i) (back b j);
        here = λ o i. none_join (nat_eq o.worker) v.gone w (l.here o (back o i)) (apart o i);
        places = λ d u h. l.places d u (filter_has job laws w u (v.places d) h).0;
        had = λ o i. l.had o (back o i);
        saves = λ s i. l.saves s (in_filter (λ (x : Save D). not (nat_eq w x.worker)) s v.saves i);
        stacks = λ o i. l.stacks o (back o i);
      }
    where
      back : (o : OpenStart D) → In o (filter (λ (x : OpenStart D). not (nat_eq w x.worker)) v.orders) → In o v.orders
      back o i = in_filter (λ (x : OpenStart D). not (nat_eq w x.worker)) o v.orders i

      kept_by : (os : List (OpenStart D)) (o : OpenStart D) → In o (filter (λ (x : OpenStart D). not (nat_eq w x.worker)) os)
          → not (nat_eq w o.worker) ≡ true
      kept_by [] o i = absurd i
      kept_by (x ∷ xs) o i = pick (not (nat_eq w x.worker)) refl i (kept_by xs o)
        where
          pick : (b : Bool) → not (nat_eq w x.worker) ≡ b
              → In o (cond b (x ∷ filter (λ (y : OpenStart D). not (nat_eq w y.worker)) xs)
              (filter (λ (y : OpenStart D). not (nat_eq w y.worker)) xs))
              → (In o (filter (λ (y : OpenStart D). not (nat_eq w y.worker)) xs) → not (nat_eq w o.worker) ≡ true) → not (nat_eq w o.worker)
              ≡ true
          pick true e (inl s) r = subst (λ (y : OpenStart D). not (nat_eq w y.worker) ≡ true) (sym s) e
          pick true e (inr j) r = r j
          pick false e j r = r j

      apart : (o : OpenStart D) → In o (filter (λ (x : OpenStart D). not (nat_eq w x.worker)) v.orders) → nat_eq o.worker w ≡ false
      apart o i = pick (bool_cases (nat_eq o.worker w))
        where
          pick : ((nat_eq o.worker w ≡ true) ⊎ (nat_eq o.worker w ≡ false)) → nat_eq o.worker w ≡ false
          pick (inr f) = f
          pick (inl t) =
              let a : nat_eq w o.worker ≡ true = eq-eqb w o.worker (sym (eqb-true o.worker w t)) in
              let b : not (nat_eq w o.worker) ≡ true = kept_by v.orders o i in
              let c : false ≡ true = sym (ap not a) ∙ b in cc

  -- ---- what can't come

  no_fetch : (v : Standing D) → Lone v → (o : OpenStart D) → In o v.orders → (d : D) (w : ℕ) → FetchedFrom job o d w → ⊥
  no_fetch v l o i d w f =
      let h = least_has job laws (o.had d) w f.0 in
      let z = l.had o i d w h in
      let m = l.workers o i in
      let a : list_any (nat_eq o.worker) (o.had d) ≡ true = subst (λ x. list_any (nat_eq x) (o.had d) ≡ true) (z ∙ sym m) h in
      let b : true ≡ false = sym a ∙ f.1 in cc

  no_copies : (v : Standing D) → Lone v → (o : OpenStart D) → In o v.orders → (copied : List D) → Each (Copied job o) copied → copied ≡ []
  no_copies v l o i [] h = refl
  no_copies v l o i (d ∷ ds) h = absurd (no_fetch v l o i d h.0.1.0 h.0.1.1)

  no_missed : (p : Plan) (v : Standing D) → Lone v → (k : ℕ) (d : D) (loss : ℕ) → Step job p v (missed k d loss) → ⊥
  no_missed p v l k d loss step = pick step.allowed.2.reason
    where
      order : In step.allowed.0 v.orders
      order = (found_in job laws k v.orders step.allowed.0 step.allowed.1).0

      zero_not : step.allowed.2.worker ≡ 0 → ⊥
      zero_not z =
          let m = l.workers step.allowed.0 order in
          let a : list_any (nat_eq step.allowed.0.worker) v.gone ≡ true =
          subst (λ x. list_any (nat_eq x) v.gone ≡ true) (z ∙ sym m) step.allowed.2.since in
          let b : true ≡ false = sym a ∙ l.here step.allowed.0 order in cc

      pick : ((HeldAt job step.allowed.0.task step.allowed.0.from d × FetchedFrom job step.allowed.0 d step.allowed.2.worker)
          ⊎ ((d ≡ own_name job step.allowed.0.task) × (step.allowed.0.stack ≡ Some step.allowed.2.worker))) → ⊥
      pick (inl x) = no_fetch v l step.allowed.0 order d step.allowed.2.worker x.1
      pick (inr x) = zero_not (l.stacks step.allowed.0 order step.allowed.2.worker x.1)

  -- ---- one event for each turn

  pub first_one : (p : Plan) (v : Standing D) (w u i j : ℕ) → FirstDue p.losses v.closes v.gone i w → FirstDue p.losses v.closes v.gone j u → w ≡ u
  first_one p v w u i j x y = pick (x.least j y.count u y.due) (y.least i x.count w x.due)
    where
      at : i ≡ j → w ≡ u
      at e =
          let a : slice_get p.losses j ≡ Some (x.count, w) = subst (λ l. slice_get p.losses l ≡ Some (x.count, w)) e x.due.planned in
          let b : Some (x.count, w) ≡ Some (y.count, u) = sym a ∙ y.due.planned in
          let c : (x.count, w) ≡ (y.count, u) = some_inj b in
          ap (λ (z : ℕ × ℕ). z.1) c
        where
          some_inj : {a b : ℕ × ℕ} → Some a ≡ Some b → a ≡ b
          some_inj e = cc

      pick : ((x.count < y.count) ⊎ ((x.count ≡ y.count) × (i ≤ j))) → ((y.count < x.count) ⊎ ((y.count ≡ x.count) × (j ≤ i))) → w ≡ u
      pick (inl a) (inl b) = absurd (omega (arith, a, b))
      pick (inl a) (inr b) = let c = b.0 in absurd (omega (arith, a, c))
      pick (inr a) (inl b) = let c = a.0 in absurd (omega (arith, b, c))
      pick (inr a) (inr b) = let c = a.1 in let d = b.1 in at (omega (arith, c, d))

  pub not_rests : (p : Plan) (v : Standing D) (w : ℕ) (t : Task D) → Chosen job p v w t → Rests job p v → ⊥
  not_rests p v w t c (n, inl r) =
      let e : c.tasks ≡ [] = picks_unique (Ready job v) (tasks_of job v.book) c.tasks [] c.ready r in
      let a : slice_get [] (draw p.seed (2 * v.starts) % length c.tasks) ≡ Some t =
      subst (λ ts. slice_get ts (draw p.seed (2 * v.starts) % length c.tasks) ≡ Some t) e c.task in cc
  not_rests p v w t c (n, inr r) =
      let a : slice_get [] (draw p.seed (2 * v.starts + 1) % length (idle job p v)) ≡ Some w =
      subst (λ ws. slice_get ws (draw p.seed (2 * v.starts + 1) % length (idle job p v)) ≡ Some w) r c.worker in cc

  pub same_chosen : (p : Plan) (v : Standing D) (w u : ℕ) (t s : Task D) → Chosen job p v w t → Chosen job p v u s → (w ≡ u) × (t ≡ s)
  same_chosen p v w u t s x y = (workers (x.worker), tasks)
    where
      workers : slice_get (idle job p v) (draw p.seed (2 * v.starts + 1) % length (idle job p v)) ≡ Some w → w ≡ u
      workers a = let b : Some w ≡ Some u = sym a ∙ y.worker in cc

      tasks : t ≡ s
      tasks =
          let e : x.tasks ≡ y.tasks = picks_unique (Ready job v) (tasks_of job v.book) x.tasks y.tasks x.ready y.ready in
          let a : slice_get y.tasks (draw p.seed (2 * v.starts) % length y.tasks) ≡ Some t =
          subst (λ ts. slice_get ts (draw p.seed (2 * v.starts) % length ts) ≡ Some t) e x.task in
          let b : Some t ≡ Some s = sym a ∙ y.task in cc

  -- the open order is the only one
  same_order : (v : Standing D) → Lone v → (k l : ℕ) (a b : OpenStart D) → find_open job k v.orders ≡ Some a → find_open job l v.orders ≡ Some b
      → (a ≡ b) × (k ≡ l)
  same_order v o k l a b x y =
      let i = found_in job laws k v.orders a x in
      let j = found_in job laws l v.orders b y in
      let e = o.one a b i.0 j.0 in
      (e, i.1 ∙ (ap (λ (q : OpenStart D). q.number) e ∙ sym j.1))

  same_done : (v : Standing D) → Lone v → (k l : ℕ) (m n : List (D × Digest)) (c d s t : List D) → (o : OpenStart D) → find_open job k v.orders
      ≡ Some o → DoneAllowed job o m c s → (q : OpenStart D) → find_open job l v.orders ≡ Some q → DoneAllowed job q n d t → done k m c s
      ≡ done l n d t
  same_done v lone k l m n c d s t o x a q y b =
      let e = same_order v lone k l o q x y in
      let i = found_in job laws k v.orders o x in
      let b' : DoneAllowed job o n d t = subst (λ z. DoneAllowed job z n d t) (sym e.0) b in
      let f : c ≡ d = no_copies v lone o i.0 c a.fetched ∙ sym (no_copies v lone o i.0 d b'.fetched) in
      ap (λ z. done k z c s) (same_marked job laws (job.outputs o.task) m n a.marked b'.marked)
      ∙ (ap (λ z. done k n z s) f
      ∙ (ap (λ z. done k n d z) (spawned_end_unique job laws o s t a.spawns b'.spawns) ∙ ap (λ z. done z n d t) e.1))

  same_save : (v : Standing D) → Lone v → (k l j i : ℕ) (mark note : Digest) (r q h g s t : List D) → (o : OpenStart D)
      → find_open job k v.orders ≡ Some o → SavedAllowed job o j mark r h s → (u : OpenStart D) → find_open job l v.orders ≡ Some u
      → SavedAllowed job u i note q g t → saved k j mark r h s ≡ saved l i note q g t
  same_save v lone k l j i mark note r q h g s t o x a u y b =
      let e = same_order v lone k l o u x y in
      let b' : SavedAllowed job o i note q g t = subst (λ z. SavedAllowed job z i note q g t) (sym e.0) b in
      let f : j ≡ i = one_wait job laws (Given job o) o.task o.from j i r q a.next b'.next in
      let b'' : SavedAllowed job o j note q g t = subst (λ z. SavedAllowed job o z note q g t) (sym f) b' in
      same_saved job laws k o j mark note r q h g s t a b'' ∙ (ap (λ z. saved z j note q g t) e.1 ∙ ap (λ z. saved l z note q g t) f)

  not_both : (v : Standing D) → Lone v → (k l j : ℕ) (mark : Digest) (m : List (D × Digest)) (c s r h t : List D) → (o : OpenStart D)
      → find_open job k v.orders ≡ Some o → DoneAllowed job o m c s → (q : OpenStart D) → find_open job l v.orders ≡ Some q
      → SavedAllowed job q j mark r h t → ⊥
  not_both v lone k l j mark m c s r h t o x a q y b =
      let e = same_order v lone k l o q x y in
      not_end job laws (Given job o) o.task o.from j r a.next (subst (λ z. NextWait job (Given job z) z.task z.from j r) (sym e.0) b.next)

  same_event : (p : Plan) (v : Standing D) → Lone v → (a b : Event D) → Step job p v a → Turn job p v a → Step job p v b → Turn job p v b → a ≡ b
  same_event p v l (lost w c) (lost u e) x s y t =
      let i : w ≡ u = first_one p v w u s.0 t.0 s.1 t.1 in let j : c ≡ e = x.allowed.now ∙ sym y.allowed.now in cc
  same_event p v l (lost w c) (start k u z from) x s y t = absurd (t.nothing_due s.0 s.1.count w s.1.due)
  same_event p v l (lost w c) (done k m d e) x s y t = absurd (t.0 s.0 s.1.count w s.1.due)
  same_event p v l (lost w c) (saved k j m r h e) x s y t = absurd (t.0 s.0 s.1.count w s.1.due)
  same_event p v l (lost w c) (missed k d i) x s y t = absurd (t.0 s.0 s.1.count w s.1.due)
  same_event p v l (start k w z from) (lost u e) x s y t = absurd (s.nothing_due t.0 t.1.count u t.1.due)
  same_event p v l (start k w z from) (start i u q f) x s y t =
      let c = same_chosen p v w u z q s t in
      let a : w ≡ u = c.0 in
      let b : z ≡ q = c.1 in
      let n : k ≡ i = x.allowed.number ∙ sym y.allowed.number in
      let m : from ≡ f = x.allowed.from_last ∙ (ap (last job v) b ∙ sym y.allowed.from_last) in cc
  same_event p v l (start k w z from) (done i m d e) x s y t = absurd (not_rests p v w z s t)
  same_event p v l (start k w z from) (saved i j m r h e) x s y t = absurd (not_rests p v w z s t)
  same_event p v l (start k w z from) (missed i d e) x s y t = absurd (not_rests p v w z s t)
  same_event p v l (done k m d e) (lost u c) x s y t = absurd (s.0 t.0 t.1.count u t.1.due)
  same_event p v l (done k m d e) (start i u q f) x s y t = absurd (not_rests p v u q t s)
  same_event p v l (done k m d e) (done i n f g) x s y t =
      let a = x.allowed in let b = y.allowed in same_done v l k i m n d f e g a.0 a.1 a.2 b.0 b.1 b.2
  same_event p v l (done k m d e) (saved i j n r h g) x s y t =
      let a = x.allowed in let b = y.allowed in absurd (not_both v l k i j n m d e r h g a.0 a.1 a.2 b.0 b.1 b.2)
  same_event p v l (done k m d e) (missed i f j) x s y t = absurd (no_missed p v l i f j y)
  same_event p v l (saved k j n r h g) (lost u c) x s y t = absurd (s.0 t.0 t.1.count u t.1.due)
  same_event p v l (saved k j n r h g) (start i u q f) x s y t = absurd (not_rests p v u q t s)
  same_event p v l (saved k j n r h g) (done i m d e) x s y t =
      let a = x.allowed in let b = y.allowed in absurd (not_both v l i k j n m d e r h g b.0 b.1 b.2 a.0 a.1 a.2)
  same_event p v l (saved k j n r h g) (saved i e m q f d) x s y t =
      let a = x.allowed in let b = y.allowed in same_save v l k i j e n m r q h f g d a.0 a.1 a.2 b.0 b.1 b.2
  same_event p v l (saved k j n r h g) (missed i f e) x s y t = absurd (no_missed p v l i f e y)
  same_event p v l (missed k d i) b x s y t = absurd (no_missed p v l k d i x)

  same_from : (p : Plan) → p.workers ≡ 1 → (v : Standing D) → Lone v → (g h : List (Event D)) → DrivenFrom job p v g → DrivenFrom job p v h
      → length g ≤ length h → IsPrefix g h
  same_from p n v l [] h x y le = (h, refl)
  same_from p n v l (a ∷ g) [] x y le = absurd (omega (arith, le))
  same_from p n v l (a ∷ g) (b ∷ h) x y le =
      let s : a ≡ b = same_event p v l a b x.0 x.1 y.0 y.1 in
      let y' : DrivenFrom job p (after job v a) h = subst (λ z. DrivenFrom job p (after job v z) h) (sym s) y.2 in
      let r = same_from p n (after job v a) (lone_step p n v a l x.0) g h x.2 y' (omega (arith, le)) in
      (r.0, ap (λ zs. a ∷ zs) r.1 ∙ ap (λ z. z ∷ h) s)

  -- of two driven histories with one worker the shorter begins the longer
  pub one_worker : (p : Plan) → p.workers ≡ 1 → (g h : List (Event D)) → Driven job p g → Driven job p h → length g ≤ length h → IsPrefix g h
  one_worker p n g h x y le = same_from p n (before_all job) lone_start g h x y le

  -- a driven history whose root task is done is not begun by another
  driven_split : (p : Plan) (v : Standing D) (g h : List (Event D)) → DrivenFrom job p v (g ++ h) → DrivenFrom job p (after_all job v g) h
  driven_split p v [] h d = d
  driven_split p v (e ∷ es) h d = driven_split p (after job v e) es h d.2

  ended_prefix : (p : Plan) (g h : List (Event D)) → Driven job p h → (after_all job (before_all job) g).over ≡ true → IsPrefix g h → g ≡ h
  ended_prefix p g h d o x = pick x.0 x.1
    where
      pick : (rest : List (Event D)) → g ++ rest ≡ h → g ≡ h
      pick [] e = sym (append-nil g) ∙ e
      pick (a ∷ as_) e =
          let s = (driven_split p (before_all job) g (a ∷ as_) (subst (Driven job p) (sym e) d)).0.going in
          let bad : true ≡ false = sym o ∙ s in cc

  -- two whole runs are one
  pub one_whole : (p : Plan) → p.workers ≡ 1 → (g h : List (Event D)) → Driven job p g → Driven job p h → (after_all job (before_all job) g).over
      ≡ true → (after_all job (before_all job) h).over ≡ true → g ≡ h
  one_whole p n g h x y a b = pick (cases (length g) (length h))
    where
      cases : (i j : ℕ) → (i ≤ j) ⊎ (j ≤ i)
      cases i j = grind arith

      pick : ((length g ≤ length h) ⊎ (length h ≤ length g)) → g ≡ h
      pick (inl l) = ended_prefix p g h y a (one_worker p n g h x y l)
      pick (inr l) = sym (ended_prefix p h g x b (one_worker p n h g y x l))
