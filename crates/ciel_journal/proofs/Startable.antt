-- What is reached is in the book, so each ready task stands in the list of ready tasks and may be started.
use Rattle.std.proofs.Common.{◌≡◌, ℕ, zero, suc, ◌+◌, ◌≤◌, ◌<◌, List, [], ◌∷◌, ◌++◌, length, Bool, true, false, not, cond, ◌&&◌, ◌||◌, Some, None}
use Rattle.std.proofs.Common.{◌⊎◌, inl, inr, refl, ap, sym, ◌∙◌, subst, arith, nat_eq, eq-eqb}
use Rattle.std.specs.List.{list_any}
use Rattle.ciel_journal.specs.Job.{Task, show, of, Job, In, Each, IsJob}
use Rattle.ciel_journal.specs.History.{Event, start, OpenStart, Plan, Save, Standing, after, after_all, before_all, last, live, needs, needs_of}
use Rattle.ciel_journal.specs.History.{standing, last_save}
use Rattle.ciel_journal.specs.Lawful.{HeldAt, Lawful, LawfulFrom, NoClash, Step, own_name}
use Rattle.ciel_journal.specs.Known.{Begins, Inner, Knows, TellsTo}
use Rattle.ciel_journal.specs.Graph.{root, through}
use Rattle.ciel_journal.specs.Turns.{CircleAtRest, IsReadyList, Reached, Ready, busy, idle, idle_from, is_first, is_idle, tasks_of}
use Rattle.ciel_journal.proofs.Picked.{picks_in}
use Rattle.ciel_journal.proofs.Append.{lawful_append}
use Rattle.ciel_journal.proofs.BookKnown.{Informed, informed_all, informed_start, last_cases}
use Rattle.ciel_journal.proofs.Good.{SaveOk, last_ok, reached_needed}
use Rattle.ciel_journal.proofs.Members.{each_of, in_any}
use Rattle.ciel_journal.proofs.Near.{each_all, ready_or_round}
use Rattle.ciel_journal.proofs.Published.{book_apart}
use Rattle.ciel_journal.proofs.Starts.{wait_unique}
use Rattle.ciel_journal.proofs.Traced.{traced}

and_parts : (b c : Bool) → b && c ≡ true → (b ≡ true) × (c ≡ true)
and_parts true c h = (refl, h)
and_parts false c h = cc

not_true : (b : Bool) → not b ≡ true → b ≡ false
not_true true h = cc
not_true false h = refl

module _ {D : Type 0} (job : Job D) (laws : IsJob job) (inner : Inner D) (knows : Knows job inner) where
  module _ (v : Standing D) (inf : Informed job laws inner knows v) where
    not_show : (d : D) → job.task_of d ≡ Some show → ⊥
    not_show d h = subst (In d) laws.outputs_show (laws.made_by d show h)

    outputs_booked : (d : D) (t : Task D) → In d v.book → job.task_of d ≡ Some t → Each (λ e. In e v.book) (job.outputs t)
    outputs_booked d t i e = (inf.whole d i).1 t e

    own_booked : (d : D) (t : Task D) → In d v.book → job.task_of d ≡ Some t → In (own_name job t) v.book
    own_booked d show i e = absurd (not_show d e)
    own_booked d (of x) i e =
        each_of (λ y. In y v.book) x (job.outputs (of x)) (laws.made_by x (of x) (laws.own x d e)) (outputs_booked d (of x) i e)

    -- before its wait 0 a task saw nothing and made nothing
    nothing_yet : (t : Task D) → Begins job inner v.book t → TellsTo job inner v.book t 0
    nothing_yet t b =
        record { handed = record { begins = b; reads = λ k ds d e m l w i c. absurd (omega (arith, l)) }; makes = λ m l. tt }

    needs_booked : (t : Task D) → In (own_name job t) v.book → (d : D) → In d (needs job v t) → In d v.book
    needs_booked t own d i = pick (last_cases job laws inner knows t v.saves)
      where
        at_first : (u : Task D) → In (own_name job u) v.book → In d (job.first u) → In d v.book
        at_first show o j =
            each_of (λ y. In y v.book) d (job.main ∷ []) (subst (In d) laws.first_show j) (inf.shelved.main, tt)
        at_first (of x) o j =
            each_of (λ y. In y v.book) d (job.first (of x)) j
            (knows.waits_told v.book (of x) 0 (job.first (of x)) (nothing_yet (of x) (inf.whole x o).0) refl)

        pick : ((last_save job t v.saves ≡ None) ⊎ ((s : Save D) × In s v.saves × (s.task ≡ t) × (last_save job t v.saves ≡ Some s))) → In d v.book
        pick (inl n) = at_first t own (subst (λ o. In d (needs_of job t o)) n i)
        pick (inr s) =
            each_of (λ y. In y v.book) d s.0.refs (subst (λ o. In d (needs_of job t o)) s.3 i) (inf.saves s.0 s.1).refs

    reached_booked : (t : Task D) → Reached job v t → In (own_name job t) v.book
    reached_booked t root = inf.shelved.main
    reached_booked t (through {t = u} r o d i l e) = own_booked d t (needs_booked u (reached_booked u r) d i) e

    -- the outputs of a reached task are in the book, and some one isn't live
    reached_outputs : (t : Task D) → Reached job v t → Each (λ d. In d v.book) (job.outputs t)
    reached_outputs t root = subst (Each (λ d. In d v.book)) (sym laws.outputs_show) tt
    reached_outputs t (through {t = u} r o d i l e) = outputs_booked d t (needs_booked u (reached_booked u r) d i) e

    reached_missing : (t : Task D) → Reached job v t → (t ≡ show) ⊎ ((d : D) × In d (job.outputs t) × (live job v d ≡ false))
    reached_missing t root = inl refl
    reached_missing t (through r o d i l e) = inr (d, laws.made_by d t e, l)

    task_there : (book : List D) (x : D) → In x book → job.task_of x ≡ Some (of x) → In (of x) (tasks_of job book)
    task_there [] x i e = absurd i
    task_there (y ∷ ys) x (inl s) e = subst (λ b. In (of x) (cond b (of y ∷ tasks_of job ys) (tasks_of job ys))) (sym first) (inl (ap of s))
      where
        first : is_first job y (job.task_of y) ≡ true
        first =
            subst (λ z. is_first job z (job.task_of z) ≡ true) s (ap (is_first job x) e ∙ laws.same_refl x)
    task_there (y ∷ ys) x (inr i) e = pick (is_first job y (job.task_of y)) (task_there ys x i e)
      where
        pick : (b : Bool) → In (of x) (tasks_of job ys) → In (of x) (cond b (of y ∷ tasks_of job ys) (tasks_of job ys))
        pick true j = inr j
        pick false j = j

    show_there : (book : List D) → In show (tasks_of job book)
    show_there [] = inl refl
    show_there (y ∷ ys) = pick (is_first job y (job.task_of y)) (show_there ys)
      where
        pick : (b : Bool) → In show (tasks_of job ys) → In show (cond b (of y ∷ tasks_of job ys) (tasks_of job ys))
        pick true j = inr j
        pick false j = j

    -- a reached task is one of the book's
    pub reached_listed : (t : Task D) → Reached job v t → In t (tasks_of job v.book)
    reached_listed show r = show_there v.book
    reached_listed (of x) r = task_there v.book x (reached_booked (of x) r) (named (of x) r x refl)
      where
        named : (t : Task D) → Reached job v t → (x : D) → t ≡ of x → job.task_of x ≡ Some (of x)
        named t root x e = cc
        named t (through r o d i l f) x e = laws.own x d (f ∙ ap Some e)

    pub ready_listed : (ts : List (Task D)) → IsReadyList job v ts → (t : Task D) → Ready job v t → In t ts
    ready_listed ts k t r = picks_in (Ready job v) (tasks_of job v.book) ts k t (reached_listed t r.reached) r

    -- ---- a Start

    idle_in : (gone busy : List ℕ) (a n w : ℕ) → In w (idle_from gone busy a n) → (w < a + n) × (is_idle gone busy w ≡ true)
    idle_in gone busy a zero w i = absurd i
    idle_in gone busy a (suc n) w i = pick (is_idle gone busy a) refl i (idle_in gone busy (a + 1) n w)
      where
        later : (In w (idle_from gone busy (a + 1) n) → (w < (a + 1) + n) × (is_idle gone busy w ≡ true)) → In w (idle_from gone busy (a + 1) n)
            → (w < a + suc n) × (is_idle gone busy w ≡ true)
        later r j = let q = r j in let l = q.0 in (omega (arith, l), q.1)

        pick : (b : Bool) → is_idle gone busy a ≡ b → In w (cond b (a ∷ idle_from gone busy (a + 1) n) (idle_from gone busy (a + 1) n))
            → (In w (idle_from gone busy (a + 1) n) → (w < (a + 1) + n) × (is_idle gone busy w ≡ true)) → (w < a + suc n)
            × (is_idle gone busy w ≡ true)
        pick true e (inl s) r = (omega (arith, s), subst (λ x. is_idle gone busy x ≡ true) (sym s) e)
        pick true e (inr j) r = later r j
        pick false e j r = later r j

    busy_test : (os : List (OpenStart D)) (w : ℕ) → list_any (nat_eq w) (busy job os) ≡ list_any (λ (o : OpenStart D). nat_eq w o.worker) os
    busy_test [] w = refl
    busy_test (o ∷ os) w = ap (λ b. nat_eq w o.worker || b) (busy_test os w)

    pub ready_step : (p : Plan) (t : Task D) (w : ℕ) → v.over ≡ false → length v.book ≤ p.limit → NoClash job v.book → Ready job v t
        → In w (idle job p v) → Step job p v (start v.starts w t (last job v t))
    ready_step p t w going room apart ready i =
        let q = idle_in v.gone (busy job v.orders) 0 p.workers w i in
        let l = q.0 in
        let b = and_parts (not (list_any (nat_eq w) v.gone)) (not (list_any (nat_eq w) (busy job v.orders))) q.1 in
        record {
          going = going;
          allowed = record {
            number = refl;
            worker = omega (arith, l);
            here = not_true _ b.0;
            idle = sym (busy_test v.orders w) ∙ not_true _ b.1;
            needed = reached_needed job laws v inf.saves_ok t ready.reached;
            not_out = ready.not_out;
            known = each_all (λ d. list_any (job.same d) v.book ≡ true) (job.outputs t)
                (λ d j. in_any job.same laws.same_refl d v.book
                (each_of (λ e. In e v.book) d (job.outputs t) j (reached_outputs t ready.reached)));
            some_missing = reached_missing t ready.reached;
            from_last = refl;
            met = λ ds h. subst (Each (λ d. live job v d ≡ true))
                (wait_unique job laws t (last job v t) (needs job v t) ds (last_ok job laws t v.saves inf.saves_ok) h) ready.met;
          };
          room = room;
          apart = apart;
        }

  pub informed : (p : Plan) (h : List (Event D)) → Lawful job p h → Informed job laws inner knows (standing job h)
  informed p h l =
      informed_all job laws inner knows p (before_all job) h (informed_start job laws inner knows) l

  -- what a reached task waits for is in the book
  pub reached_needs : (p : Plan) (h : List (Event D)) → Lawful job p h → (t : Task D) → Reached job (standing job h) t
      → Each (λ d. In d (standing job h).book) (needs job (standing job h) t)
  reached_needs p h l t r =
      each_all (λ d. In d (standing job h).book) (needs job (standing job h) t)
      (λ d i. needs_booked (standing job h) (informed p h l) t (reached_booked (standing job h) (informed p h l) t r) d i)

  -- what some worker has is in the book, with all that its object holds
  pub placed_booked : (p : Plan) (h : List (Event D)) → Lawful job p h → (d : D) (w : ℕ) → In w ((standing job h).places d)
      → In d (standing job h).book × ((n : ℕ) → Each (λ e. In e (standing job h).book) (inner.carries n d))
  placed_booked p h l d w i = (
    inf.shelved.places d w has,
    λ n. each_all (λ e. In e (standing job h).book) (inner.carries n d) (λ e c. inf.carried d w has n e c),
  )
    where
      inf : Informed job laws inner knows (standing job h)
      inf = informed p h l

      has : list_any (nat_eq w) ((standing job h).places d) ≡ true
      has = in_any nat_eq (λ a. eq-eqb a a refl) w ((standing job h).places d) i

  -- so is what is waited for at a saved wait, and held there
  pub saved_booked : (p : Plan) (h : List (Event D)) → Lawful job p h → (s : Save D) → In s (standing job h).saves
      → Each (λ d. In d (standing job h).book) s.refs × Each (λ d. In d (standing job h).book) s.holds
  saved_booked p h l s i =
      let k = (informed p h l).saves s i in
      let t = (traced job laws p h l).saves s i in
      let w = each_of (SaveOk job laws) s (standing job h).saves i (informed p h l).saves_ok in
      (k.refs, knows.holds_told (standing job h).book s.task s.j s.refs (record { names = s.holds; mark = t.2 }) k.told w t.3)

  -- and what the task of an open Start held
  pub open_booked : (p : Plan) (h : List (Event D)) → Lawful job p h → (o : OpenStart D) → In o (standing job h).orders → (d : D)
      → HeldAt job o.task o.from d → In d (standing job h).book
  open_booked p h l o i d k =
      let n = (informed p h l).orders o i in
      each_of (λ e. In e (standing job h).book) d k.1.names k.3
      (knows.holds_told (standing job h).book o.task o.from n.here.0 k.1 n.told n.here.1 (k.0, k.2))

  room_all : (p : Plan) (v : Standing D) (h : List (Event D)) → length v.book ≤ p.limit → LawfulFrom job p v h
      → length (after_all job v h).book ≤ p.limit
  room_all p v [] r l = r
  room_all p v (e ∷ es) r l = room_all p (after job v e) es l.0.room l.1

  -- a ready task may be started at an idle worker
  pub ready_starts : (p : Plan) (h : List (Event D)) → 1 ≤ p.limit → Lawful job p h → (standing job h).over ≡ false → (t : Task D)
      → Ready job (standing job h) t → (w : ℕ) → In w (idle job p (standing job h))
      → Lawful job p (h ++ start (standing job h).starts w t (last job (standing job h) t) ∷ [])
  ready_starts p h one l going t r w i =
      lawful_append job p (before_all job) h (start (standing job h).starts w t (last job (standing job h) t)) l
      (ready_step (standing job h) (informed p h l) p t w going (room_all p (before_all job) h one l) (book_apart job laws p h l) r i)

  -- where nothing is open, the list of ready tasks isn't empty or there is a circle
  pub listed_or_circle : (p : Plan) (h : List (Event D)) → Lawful job p h → (standing job h).orders ≡ [] → (ts : List (Task D))
      → IsReadyList job (standing job h) ts → ((t : Task D) × In t ts) ⊎ ((ds : List D) × CircleAtRest job (standing job h) ds)
  listed_or_circle p h l none ts k = pick (ready_or_round job laws (standing job h) none)
    where
      pick : (((t : Task D) × Ready job (standing job h) t) ⊎ ((ds : List D) × CircleAtRest job (standing job h) ds)) → ((t : Task D) × In t ts)
          ⊎ ((ds : List D) × CircleAtRest job (standing job h) ds)
      pick (inl r) = inl (r.0, ready_listed (standing job h) (informed p h l) ts k r.0 r.1)
      pick (inr c) = inr c
