-- All that a worker has is in the book: what a Done made are outputs of a task that was started, and what it copied was had
-- by another worker before.
use Rattle.std.proofs.Common.{◌≡◌, ℕ, List, [], ◌∷◌, Bool, true, false, not, cond, ◌||◌, Option, Some, None, ◌⊎◌, inl, inr, refl, ap, sym, ◌∙◌, subst}
use Rattle.std.proofs.Common.{nat_eq, nat_lt, filter, eq-eqb}
use Rattle.std.specs.List.{list_any}
use Rattle.ciel_journal.specs.Job.{Digest, Task, show, of, Job, In, Each, IsJob, Needed}
use Rattle.ciel_journal.specs.History.{Event, start, done, saved, missed, lost, OpenStart, Plan, Standing, after, after_all, before_all, closed}
use Rattle.ciel_journal.specs.History.{done_with, saved_with, learned, names_of, order_of, placed}
use Rattle.ciel_journal.specs.Lawful.{Allowed, Copied, FetchedFrom, LawfulFrom, Marked, NoClash, StartAllowed, least, least_with, own_name}
use Rattle.ciel_journal.proofs.Members.{any_in, in_any, each_of, or_true}
use Rattle.ciel_journal.proofs.Booked.{each_more, learned_keeps}
use Rattle.ciel_journal.proofs.Good.{after_done, after_saved, after_missed, each_join, each_filter}
use Rattle.ciel_journal.proofs.Numbers.{found_in}
use Rattle.ciel_journal.proofs.Text.{Has, placed_cases, filter_has}

module _ {D : Type 0} (job : Job D) (laws : IsJob job) where
  pub record Shelved (v : Standing D) : Type 0 where
    pub main : In job.main v.book
    pub places : (d : D) (w : ℕ) → Has v.places w d → In d v.book
    pub had : Each (λ (o : OpenStart D). (d : D) (w : ℕ) → Has o.had w d → In d v.book) v.orders
    pub outputs : Each (λ (o : OpenStart D). Each (λ d. In d v.book) (job.outputs o.task)) v.orders
    pub own : Each (λ (o : OpenStart D). In (own_name job o.task) v.book) v.orders

  pub one_name : NoClash job (job.main ∷ [])
  one_name a b (inl x) (inl y) e = x ∙ sym y
  one_name a b (inl x) (inr y) e = absurd y
  one_name a b (inr x) y e = absurd x

  pub shelved_start : Shelved (before_all job)
  shelved_start = record { main = inl refl; places = λ d w h. cc; had = tt; outputs = tt; own = tt }

  pub least_has : (ws : List ℕ) (w : ℕ) → least job ws ≡ Some w → list_any (nat_eq w) ws ≡ true
  least_has [] w e = cc
  least_has (x ∷ xs) w e = pick (least job xs) (least_has xs w) e
    where
      here : Some x ≡ Some w → nat_eq w x || list_any (nat_eq w) xs ≡ true
      here h = let s : x ≡ w = cc in ap (λ b. b || list_any (nat_eq w) xs) (eq-eqb w x (sym s))

      choose : (b : Bool) (u : ℕ) → (Some u ≡ Some w → list_any (nat_eq w) xs ≡ true) → cond b (Some u) (Some x) ≡ Some w → nat_eq w x
          || list_any (nat_eq w) xs ≡ true
      choose true u r h = or_true (nat_eq w x) _ (r h)
      choose false u r h = here h

      pick : (o : Option ℕ) → (o ≡ Some w → list_any (nat_eq w) xs ≡ true) → least_with job x o ≡ Some w → nat_eq w x || list_any (nat_eq w) xs ≡ true
      pick None r h = here h
      pick (Some u) r h = choose (nat_lt u x) u r h

  pub fetched_in : (v : Standing D) → Shelved v → (o : OpenStart D) → In o v.orders → (d : D) (w : ℕ) → FetchedFrom job o d w → In d v.book
  fetched_in v s o i d w f =
      each_of (λ (q : OpenStart D). (d : D) (w : ℕ) → Has q.had w d → In d v.book) o v.orders i s.had d w (least_has (o.had d) w f.0)

  own_task : (d : D) → Needed job (of d) → job.task_of d ≡ Some (of d)
  own_task d (Needed.waited n j ds x w i e) = laws.own d x e

  pub known_in : (book ds : List D) → Each (λ d. list_any (job.same d) book ≡ true) ds → Each (λ d. In d book) ds
  known_in book ds h =
      each_more (λ d. list_any (job.same d) book ≡ true) (λ d. In d book) (λ d k. any_in job.same laws.same_exact d book k) ds h

  pub started_own : (p : Plan) (v : Standing D) → Shelved v → (k w : ℕ) (t : Task D) (from : ℕ) → StartAllowed job p v k w t from
      → In (own_name job t) v.book
  started_own p v s k w show from a = s.main
  started_own p v s k w (of d) from a =
      each_of (λ e. In e v.book) d (job.outputs (of d)) (laws.made_by d (of d) (own_task d a.needed)) (known_in v.book (job.outputs (of d)) a.known)

  pub learned_in : (book ds : List D) (d : D) → In d book → In d (learned job book ds)
  learned_in book ds d i =
      any_in job.same laws.same_exact d (learned job book ds) (learned_keeps job laws book ds d (in_any job.same laws.same_refl d book i))

  pub made_output : (ds : List D) (made : List (D × Digest)) → Marked job ds made → (d : D) → In d (names_of made) → In d ds
  made_output [] [] m d i = i
  made_output [] (x ∷ xs) m d i = absurd m
  made_output (e ∷ es) [] m d i = absurd m
  made_output (e ∷ es) (x ∷ xs) m d (inl s) = inl (s ∙ m.0)
  made_output (e ∷ es) (x ∷ xs) m d (inr i) = inr (made_output es xs m.2 d i)

  -- what stays where the book grows and orders go
  abbrev Grows : Standing D → Standing D → Type 0
  Grows v u = (d : D) → In d v.book → In d u.book

  kept_orders : (v u : Standing D) (p : OpenStart D → Bool) → Grows v u → u.orders ≡ filter p v.orders → Shelved v
      → ((d : D) (w : ℕ) → Has u.places w d → In d u.book) → Shelved u
  kept_orders v u p g e s places =
      record {
        main = g job.main s.main;
        places = places;
        had = back (λ (o : OpenStart D). (d : D) (w : ℕ) → Has o.had w d → In d v.book)
            (λ (o : OpenStart D). (d : D) (w : ℕ) → Has o.had w d → In d u.book) (λ o h d w k. g d (h d w k)) s.had;
        outputs = back (λ (o : OpenStart D). Each (λ d. In d v.book) (job.outputs o.task))
            (λ (o : OpenStart D). Each (λ d. In d u.book) (job.outputs o.task))
            (λ o h. each_more (λ d. In d v.book) (λ d. In d u.book) g (job.outputs o.task) h) s.outputs;
        own = back (λ (o : OpenStart D). In (own_name job o.task) v.book) (λ (o : OpenStart D). In (own_name job o.task) u.book)
            (λ o h. g (own_name job o.task) h) s.own;
      }
    where
      back : (P Q : OpenStart D → Type 0) → ((o : OpenStart D) → P o → Q o) → Each P v.orders → Each Q u.orders
      back P Q f h = subst (Each Q) (sym e) (each_filter Q p v.orders (each_more P Q f v.orders h))

  pub shelved_step : (p : Plan) (v : Standing D) (e : Event D) → Shelved v → Allowed job p v e → Shelved (after job v e)
  shelved_step p v (start k w t from) s step =
      let a = step in
      record {
        main = s.main;
        places = s.places;
        had = each_join (λ (o : OpenStart D). (d : D) (w : ℕ) → Has o.had w d → In d v.book) v.orders (order_of job v k w t from ∷ []) s.had
            (s.places, tt);
        outputs = each_join (λ (o : OpenStart D). Each (λ d. In d v.book) (job.outputs o.task)) v.orders (order_of job v k w t from ∷ [])
            s.outputs (known_in v.book (job.outputs t) a.known, tt);
        own = each_join (λ (o : OpenStart D). In (own_name job o.task) v.book) v.orders (order_of job v k w t from ∷ []) s.own
            (started_own p v s k w t from a, tt);
      }
  shelved_step p v (done k made copied spawned) s step =
      let a = step in
      subst Shelved (sym (after_done job laws v k made copied spawned a.0 a.1))
      (kept_orders v (done_with job made copied spawned a.0 (closed job v k)) (λ (o : OpenStart D). not (nat_eq k o.number))
      (learned_in v.book spawned) refl s (λ d w h. learned_in v.book spawned d (here d w h)))
    where
      order : In step.0 v.orders
      order = (found_in job laws k v.orders step.0 step.1).0

      copy : (d : D) → In d copied → In d v.book
      copy d i =
          let c = each_of (Copied job step.0) d copied i step.2.fetched in
          fetched_in v s step.0 order d c.1.0 c.1.1

      output : (d : D) → In d (names_of made) → In d v.book
      output d i =
          each_of (λ e. In e v.book) d (job.outputs step.0.task) (made_output (job.outputs step.0.task) made step.2.marked d i)
          (each_of (λ (o : OpenStart D). Each (λ e. In e v.book) (job.outputs o.task)) step.0 v.orders order s.outputs)

      here : (d : D) (w : ℕ) → Has (placed job copied step.0.worker (placed job (names_of made) step.0.worker v.places)) w d → In d v.book
      here d w h =
          pick (placed_cases job laws copied step.0.worker (placed job (names_of made) step.0.worker v.places) w d h)
        where
          turn : (Has v.places w d ⊎ ((w ≡ step.0.worker) × In d (names_of made))) → In d v.book
          turn (inl b) = s.places d w b
          turn (inr b) = output d b.1

          pick : (Has (placed job (names_of made) step.0.worker v.places) w d ⊎ ((w ≡ step.0.worker) × In d copied)) → In d v.book
          pick (inl b) = turn (placed_cases job laws (names_of made) step.0.worker v.places w d b)
          pick (inr b) = copy d b.1
  shelved_step p v (saved k j mark refs holds spawned) s step =
      let a = step in
      subst Shelved (sym (after_saved job laws v k j mark refs holds spawned a.0 a.1))
      (kept_orders v (saved_with job j refs holds spawned a.0 (closed job v k)) (λ (o : OpenStart D). not (nat_eq k o.number))
      (learned_in v.book spawned) refl s (λ d w h. learned_in v.book spawned d (s.places d w h)))
  shelved_step p v (missed k d loss) s step =
      let a = step in
      subst Shelved (sym (after_missed job laws v k d loss a.0 a.1))
      (kept_orders v (closed job v k) (λ (o : OpenStart D). not (nat_eq k o.number)) (λ d i. i) refl s s.places)
  shelved_step p v (lost w closes) s step =
      kept_orders v (after job v (lost w closes)) (λ (o : OpenStart D). not (nat_eq w o.worker)) (λ d i. i) refl s
      (λ d u h. s.places d u (filter_has job laws w u (v.places d) h).0)

  pub shelved_all : (p : Plan) (v : Standing D) (h : List (Event D)) → Shelved v → LawfulFrom job p v h → Shelved (after_all job v h)
  shelved_all p v [] s l = s
  shelved_all p v (e ∷ es) s l = shelved_all p (after job v e) es (shelved_step p v e s l.0.allowed) l.1

  -- the book only grows, and no two descriptions of it share a name
  book_step : (p : Plan) (v : Standing D) (e : Event D) → Allowed job p v e → (d : D) → In d v.book → In d (after job v e).book
  book_step p v (start k w t from) step d i = i
  book_step p v (done k made copied spawned) step d i =
      let a = step in subst (λ (u : Standing D). In d u.book) (sym (after_done job laws v k made copied spawned a.0 a.1))
      (learned_in v.book spawned d i)
  book_step p v (saved k j mark refs holds spawned) step d i =
      let a = step in subst (λ (u : Standing D). In d u.book) (sym (after_saved job laws v k j mark refs holds spawned a.0 a.1))
      (learned_in v.book spawned d i)
  book_step p v (missed k e loss) step d i =
      let a = step in subst (λ (u : Standing D). In d u.book) (sym (after_missed job laws v k e loss a.0 a.1)) i
  book_step p v (lost w closes) step d i = i

  pub book_all : (p : Plan) (v : Standing D) (h : List (Event D)) → LawfulFrom job p v h → (d : D) → In d v.book → In d (after_all job v h).book
  book_all p v [] l d i = i
  book_all p v (e ∷ es) l d i = book_all p (after job v e) es l.1 d (book_step p v e l.0.allowed d i)

  pub apart_all : (p : Plan) (v : Standing D) (h : List (Event D)) → NoClash job v.book → LawfulFrom job p v h → NoClash job (after_all job v h).book
  apart_all p v [] c l = c
  apart_all p v (e ∷ es) c l = apart_all p (after job v e) es l.0.apart l.1
