-- A test of histories that is computed: what passes it is lawful and driven. The small histories are shown by it.
use Rattle.std.proofs.Common.{◌≡◌, ℕ, zero, suc, ◌-◌, ◌≤◌, ◌<◌, List, [], ◌∷◌, length, Bool, true, false, not, ◌&&◌, ◌||◌, Option, Some, None}
use Rattle.std.proofs.Common.{is_some, slice_get, ◌⊎◌, inl, inr, refl, ap, sym, ◌∙◌, subst, arith, nat_eq, nat_lt, nat_le, eqb-true, ltb-true}
use Rattle.std.proofs.Common.{leb-true}
use Rattle.std.specs.List.{list_any, IsDistinct}
use Rattle.ciel_journal.specs.Job.{Digest, Task, show, of, Held, Job, In, Each, IsJob, WaitOf, Needed, waits_in, after_wait, made_before, made_in}
use Rattle.ciel_journal.specs.History.{Event, start, done, saved, missed, lost, OpenStart, Plan, Standing, after, find_open, is_out, last, live}
use Rattle.ciel_journal.specs.History.{live_in, needs, same_task}
use Rattle.ciel_journal.specs.Lawful.{Copied, DoneAllowed, FetchedFrom, Given, HeldAt, LawfulFrom, LostAllowed, Marked, MissedAllowed, NextEnd}
use Rattle.ciel_journal.specs.Lawful.{NextWait, NoClash, SavedAllowed, StartAllowed, Step, Allowed, least, own_name}
use Rattle.ciel_journal.proofs.Members.{any_in, bool_cases, distinct_more, distinct_none}
use Rattle.ciel_journal.proofs.Bound.{task_exact}
use Rattle.ciel_journal.proofs.Circle.{wait_at_end}
use Rattle.ciel_journal.proofs.Good.{SavesOk, saves_step, last_ok}
use Rattle.ciel_journal.proofs.Starts.{wait_unique}

-- ---- tests in general

abbrev pub all_true : List Bool → Bool
all_true [] = true
all_true (b ∷ bs) = b && all_true bs

abbrev pub AllTrue : List Bool → Type 0
AllTrue [] = Unit {0}
AllTrue (b ∷ bs) = (b ≡ true) × AllTrue bs

pub parts : (bs : List Bool) → all_true bs ≡ true → AllTrue bs
parts [] h = tt
parts (true ∷ bs) h = (refl, parts bs h)
parts (false ∷ bs) h = cc

pub not_true : (b : Bool) → not b ≡ true → b ≡ false
not_true true h = cc
not_true false h = refl

pub or_cases : (b c : Bool) → b || c ≡ true → (b ≡ true) ⊎ (c ≡ true)
or_cases true c h = inl refl
or_cases false c h = inr h

module _ {A : Type 0} where
  abbrev pub each_passes : (A → Bool) → List A → Bool
  each_passes q [] = true
  each_passes q (x ∷ xs) = q x && each_passes q xs

  pub passes_each : (P : A → Type 0) (q : A → Bool) → ((x : A) → q x ≡ true → P x) → (xs : List A) → each_passes q xs ≡ true → Each P xs
  passes_each P q f [] h = tt
  passes_each P q f (x ∷ xs) h = let a = parts (q x ∷ each_passes q xs ∷ []) (pad (q x) (each_passes q xs) h) in (f x a.0, passes_each P q f xs a.1.0)
    where
      pad : (b c : Bool) → b && c ≡ true → b && (c && true) ≡ true
      pad true true h = refl
      pad true false h = cc
      pad false c h = cc

  pub any_find : (q : A → Bool) (xs : List A) → list_any q xs ≡ true → (x : A) × In x xs × (q x ≡ true)
  any_find q [] h = cc
  any_find q (x ∷ xs) h = pick (bool_cases (q x)) (any_find q xs)
    where
      pick : ((q x ≡ true) ⊎ (q x ≡ false)) → (list_any q xs ≡ true → (y : A) × In y xs × (q y ≡ true)) → (y : A) × In y (x ∷ xs) × (q y ≡ true)
      pick (inl e) r = (x, inl refl, e)
      pick (inr e) r = let a = r (sym (ap (λ b. b || list_any q xs) e) ∙ h) in (a.0, inr a.1, a.2)

  abbrev pub list_same : (A → A → Bool) → List A → List A → Bool
  list_same eq [] [] = true
  list_same eq [] (y ∷ ys) = false
  list_same eq (x ∷ xs) [] = false
  list_same eq (x ∷ xs) (y ∷ ys) = all_true (eq x y ∷ list_same eq xs ys ∷ [])

  pub list_exact : (eq : A → A → Bool) → ((a b : A) → eq a b ≡ true → a ≡ b) → (xs ys : List A) → list_same eq xs ys ≡ true → xs ≡ ys
  list_exact eq x [] [] h = refl
  list_exact eq x [] (b ∷ bs) h = cc
  list_exact eq x (a ∷ as_) [] h = cc
  list_exact eq x (a ∷ as_) (b ∷ bs) h =
      let q = parts (eq a b ∷ list_same eq as_ bs ∷ []) h in
      ap (λ z. z ∷ as_) (x a b q.0) ∙ ap (λ zs. b ∷ zs) (list_exact eq x as_ bs q.1.0)

  abbrev pub is_that : (A → A → Bool) → Option A → A → Bool
  is_that eq None y = false
  is_that eq (Some x) y = eq x y

  pub that_exact : (eq : A → A → Bool) → ((a b : A) → eq a b ≡ true → a ≡ b) → (o : Option A) (y : A) → is_that eq o y ≡ true → o ≡ Some y
  that_exact eq x None y h = cc
  that_exact eq x (Some a) y h = ap (λ (z : A). Some z) (x a y h)

  abbrev pub first_few : ℕ → List A → List A
  first_few zero xs = []
  first_few (suc n) [] = []
  first_few (suc n) (x ∷ xs) = x ∷ first_few n xs

  few_get : (n i : ℕ) (xs : List A) (x : A) → i < n → slice_get xs i ≡ Some x → slice_get (first_few n xs) i ≡ Some x
  few_get zero i xs x l h = absurd (omega (arith, l))
  few_get (suc n) i [] x l h = cc
  few_get (suc n) zero (y ∷ ys) x l h = h
  few_get (suc n) (suc i) (y ∷ ys) x l h = few_get n i ys x (omega (arith, l)) h

  get_short : (xs : List A) (i : ℕ) (x : A) → slice_get xs i ≡ Some x → i < length xs
  get_short [] i x h = cc
  get_short (y ∷ ys) zero x h = omega arith
  get_short (y ∷ ys) (suc i) x h = let a = get_short ys i x h in omega (arith, a)

  get_there : (xs : List A) (i : ℕ) → i < length xs → (x : A) × (slice_get xs i ≡ Some x)
  get_there [] i l = absurd (omega (arith, l))
  get_there (y ∷ ys) zero l = (y, refl)
  get_there (y ∷ ys) (suc i) l = get_there ys i (omega (arith, l))

abbrev pub digest_same : Digest → Digest → Bool
digest_same a b = list_same nat_eq a b

pub digest_exact : (a b : Digest) → digest_same a b ≡ true → a ≡ b
digest_exact a b h = list_exact nat_eq (λ x y e. eqb-true x y e) a b h

module _ {D : Type 0} (job : Job D) (laws : IsJob job) (fuel : ℕ) (needed : List (Task D)) (are : Each (Needed job) needed) (p : Plan) where
  abbrev names_same : List D → List D → Bool
  names_same xs ys = list_same job.same xs ys

  names_exact : (xs ys : List D) → names_same xs ys ≡ true → xs ≡ ys
  names_exact xs ys h = list_exact job.same laws.same_exact xs ys h

  abbrev waits : Task D → List (List D)
  waits t = waits_in (job.acts fuel t)

  -- ---- what an order brings along

  abbrev names_at : Option (Held D) → List D
  names_at None = []
  names_at (Some a) = a.names

  abbrev held_test : Task D → ℕ → D → Bool
  held_test t j d = list_any (job.same d) (names_at (job.at fuel t j))

  held_true : (t : Task D) (j : ℕ) (d : D) → held_test t j d ≡ true → HeldAt job t j d
  held_true t j d h = pick (job.at fuel t j) refl h
    where
      pick : (o : Option (Held D)) → job.at fuel t j ≡ o → list_any (job.same d) (names_at o) ≡ true → HeldAt job t j d
      pick None e k = cc
      pick (Some a) e k = (fuel, a, e, any_in job.same laws.same_exact d a.names k)

  abbrev given_test : OpenStart D → D → Bool
  given_test o d = all_true (held_test o.task o.from d ∷ live_in job o.had d ∷ [])

  given_true : (o : OpenStart D) (d : D) → given_test o d ≡ true → Given job o d
  given_true o d h = let q = parts (held_test o.task o.from d ∷ live_in job o.had d ∷ []) h in (held_true o.task o.from d q.0, q.1.0)

  abbrev after_given : OpenStart D → ℕ → List (List D) → Bool
  after_given o j [] = true
  after_given o zero (ds ∷ ws) = all_true (each_passes (given_test o) ds ∷ after_given o zero ws ∷ [])
  after_given o (suc j) (ds ∷ ws) = after_given o j ws

  after_at : (o : OpenStart D) (j : ℕ) (ws : List (List D)) (i : ℕ) (es : List D) → after_given o j ws ≡ true → j ≤ i → slice_get ws i ≡ Some es
      → Each (Given job o) es
  after_at o j [] i es h l g = cc
  after_at o zero (ds ∷ ws) zero es h l g =
      let q = parts (each_passes (given_test o) ds ∷ after_given o zero ws ∷ []) h in
      let e : ds ≡ es = cc in
      subst (Each (Given job o)) e (passes_each (Given job o) (given_test o) (given_true o) ds q.0)
  after_at o zero (ds ∷ ws) (suc i) es h l g =
      let q = parts (each_passes (given_test o) ds ∷ after_given o zero ws ∷ []) h in after_at o zero ws i es q.1.0 (omega arith) g
  after_at o (suc j) (ds ∷ ws) zero es h l g = absurd (omega (arith, l))
  after_at o (suc j) (ds ∷ ws) (suc i) es h l g = after_at o j ws i es h (omega (arith, l)) g

  -- a wait that is met with this fuel, and no other, has its number
  wait_here : (t : Task D) (j : ℕ) (ds : List D) → j < length (waits t) → WaitOf job t (suc j) ds → slice_get (waits t) j ≡ Some ds
  wait_here t j ds l w =
      let x = get_there (waits t) j l in
      let e : x.0 ≡ ds = wait_unique job laws t (suc j) x.0 ds (fuel, x.1) w in
      subst (λ z. slice_get (waits t) j ≡ Some z) e x.1

  end_next : (o : OpenStart D) → job.ended fuel o.task ≡ true → after_given o o.from (waits o.task) ≡ true → NextEnd job (Given job o) o.task o.from
  end_next o e h = record { ends = (fuel, e); met = met }
    where
      met : (k : ℕ) (es : List D) → o.from < k → WaitOf job o.task k es → Each (Given job o) es
      met zero es l w = absurd (omega (arith, l))
      met (suc k) es l w = after_at o o.from (waits o.task) k es h (omega (arith, l)) (wait_at_end job laws fuel o.task k es e w)

  wait_next : (o : OpenStart D) (j : ℕ) (refs : List D) → o.from < suc j → slice_get (waits o.task) j ≡ Some refs
      → list_any (λ d. not (live_in job o.had d)) refs ≡ true → after_given o o.from (first_few j (waits o.task)) ≡ true
      → NextWait job (Given job o) o.task o.from (suc j) refs
  wait_next o j refs l g u h =
      let x = any_find (λ d. not (live_in job o.had d)) refs u in
      record {
        later = l;
        waits = (fuel, g);
        unmet = (x.0, x.1, λ y. let a = not_true (live_in job o.had x.0) x.2 in let bad : true ≡ false = sym y.1 ∙ a in cc);
        met = met;
      }
    where
      met : (k : ℕ) (es : List D) → o.from < k → k < suc j → WaitOf job o.task k es → Each (Given job o) es
      met zero es a b w = absurd (omega (arith, a))
      met (suc k) es a b w =
          let s = get_short (waits o.task) j refs g in
          let i = wait_here o.task k es (omega (arith, b, s)) w in
          after_at o o.from (first_few j (waits o.task)) k es h (omega (arith, a)) (few_get k_bound k (waits o.task) es (omega (arith, b)) i)
        where
          k_bound : ℕ
          k_bound = j

  -- ---- each event

  abbrev is_show : Task D → Bool
  is_show show = true
  is_show (of d) = false

  show_true : (t : Task D) → is_show t ≡ true → t ≡ show
  show_true show h = refl
  show_true (of d) h = cc

  abbrev start_tests : Standing D → ℕ → ℕ → Task D → ℕ → List Bool
  start_tests v k w t from =
      nat_eq k v.starts ∷ nat_lt w p.workers ∷ not (list_any (nat_eq w) v.gone)
      ∷ not (list_any (λ (o : OpenStart D). nat_eq w o.worker) v.orders) ∷ list_any (same_task job t) needed ∷ not (is_out job v t)
      ∷ each_passes (λ d. list_any (job.same d) v.book) (job.outputs t) ∷ (is_show t || list_any (λ d. not (live job v d)) (job.outputs t))
      ∷ nat_eq from (last job v t) ∷ each_passes (live job v) (needs job v t) ∷ []

  start_true : (v : Standing D) (k w : ℕ) (t : Task D) (from : ℕ) → SavesOk job laws v → all_true (start_tests v k w t from) ≡ true
      → StartAllowed job p v k w t from
  start_true v k w t from saves h =
      let q = parts (start_tests v k w t from) h in
      let n = any_find (same_task job t) needed q.1.1.1.1.0 in
      record {
        number = eqb-true k v.starts q.0;
        worker = ltb-true w p.workers q.1.0;
        here = not_true _ q.1.1.0;
        idle = not_true _ q.1.1.1.0;
        needed = subst (Needed job) (sym (task_exact job laws t n.0 n.2)) (each_needed needed are n.0 n.1);
        not_out = not_true _ q.1.1.1.1.1.0;
        known = passes_each (λ d. list_any (job.same d) v.book ≡ true) (λ d. list_any (job.same d) v.book) (λ d e. e) (job.outputs t) q.1.1.1.1.1.1.0;
        some_missing = missing (or_cases (is_show t) _ q.1.1.1.1.1.1.1.0);
        from_last = eqb-true from (last job v t) q.1.1.1.1.1.1.1.1.0;
        met = λ ds w. subst (Each (λ d. live job v d ≡ true))
            (wait_unique job laws t (last job v t) (needs job v t) ds (last_ok job laws t v.saves saves)
            (subst (λ i. WaitOf job t i ds) (eqb-true from (last job v t) q.1.1.1.1.1.1.1.1.0) w))
            (passes_each (λ d. live job v d ≡ true) (live job v) (λ d e. e) (needs job v t) q.1.1.1.1.1.1.1.1.1.0);
      }
    where
      each_needed : (ts : List (Task D)) → Each (Needed job) ts → (u : Task D) → In u ts → Needed job u
      each_needed [] e u i = absurd i
      each_needed (x ∷ xs) e u (inl s) = subst (Needed job) (sym s) e.0
      each_needed (x ∷ xs) e u (inr i) = each_needed xs e.1 u i

      missing : ((is_show t ≡ true) ⊎ (list_any (λ d. not (live job v d)) (job.outputs t) ≡ true)) → (t ≡ show)
          ⊎ ((d : D) × In d (job.outputs t) × (live job v d ≡ false))
      missing (inl e) = inl (show_true t e)
      missing (inr e) = let x = any_find (λ d. not (live job v d)) (job.outputs t) e in inr (x.0, x.1, not_true _ x.2)

  abbrev marked_test : List D → List (D × Digest) → Bool
  marked_test [] [] = true
  marked_test [] (m ∷ ms) = false
  marked_test (d ∷ ds) [] = false
  marked_test (d ∷ ds) (m ∷ ms) =
      all_true (job.same m.0 d ∷ is_that digest_same (job.object fuel d) m.1 ∷ marked_test ds ms ∷ [])

  marked_true : (ds : List D) (ms : List (D × Digest)) → marked_test ds ms ≡ true → Marked job ds ms
  marked_true [] [] h = tt
  marked_true [] (m ∷ ms) h = cc
  marked_true (d ∷ ds) [] h = cc
  marked_true (d ∷ ds) (m ∷ ms) h =
      let q = parts (job.same m.0 d ∷ is_that digest_same (job.object fuel d) m.1 ∷ marked_test ds ms ∷ []) h in
      (laws.same_exact m.0 d q.0, (fuel, that_exact digest_same digest_exact (job.object fuel d) m.1 q.1.0), marked_true ds ms q.1.1.0)

  abbrev fetch_test : OpenStart D → D → Bool
  fetch_test o d = all_true (is_some (least job (o.had d)) ∷ not (list_any (nat_eq o.worker) (o.had d)) ∷ [])

  fetch_true : (o : OpenStart D) (d : D) → fetch_test o d ≡ true → (w : ℕ) × FetchedFrom job o d w
  fetch_true o d h =
      let q = parts (is_some (least job (o.had d)) ∷ not (list_any (nat_eq o.worker) (o.had d)) ∷ []) h in
      let s = some (least job (o.had d)) q.0 in (s.0, (s.1, not_true _ q.1.0))
    where
      some : (x : Option ℕ) → is_some x ≡ true → (w : ℕ) × (x ≡ Some w)
      some None e = cc
      some (Some w) e = (w, refl)

  -- waited for at a wait after its `from`
  abbrev waited_after : ℕ → List (List D) → D → Bool
  waited_after j [] d = false
  waited_after zero (ds ∷ ws) d = list_any (job.same d) ds || waited_after zero ws d
  waited_after (suc j) (ds ∷ ws) d = waited_after j ws d

  waited_true : (j : ℕ) (ws : List (List D)) (d : D) → waited_after j ws d ≡ true → (i : ℕ) × (ds : List D) × (j ≤ i)
      × (slice_get ws i ≡ Some ds) × In d ds
  waited_true j [] d h = cc
  waited_true zero (ds ∷ ws) d h = pick (or_cases (list_any (job.same d) ds) _ h) (waited_true zero ws d)
    where
      pick : ((list_any (job.same d) ds ≡ true) ⊎ (waited_after zero ws d ≡ true))
          → (waited_after zero ws d ≡ true → (i : ℕ) × (es : List D) × (0 ≤ i) × (slice_get ws i ≡ Some es) × In d es) → (i : ℕ) × (es : List D)
          × (0 ≤ i) × (slice_get (ds ∷ ws) i ≡ Some es) × In d es
      pick (inl e) r = (0, ds, omega arith, refl, any_in job.same laws.same_exact d ds e)
      pick (inr e) r = let a = r e in (suc a.0, a.1, omega arith, a.3, a.4)
  waited_true (suc j) (ds ∷ ws) d h =
      let a = waited_true j ws d h in let l = a.2 in (suc a.0, a.1, omega (arith, l), a.3, a.4)

  abbrev copied_test : OpenStart D → D → Bool
  copied_test o d = all_true (waited_after o.from (job.first o.task ∷ waits o.task) d ∷ fetch_test o d ∷ [])

  copied_true : (o : OpenStart D) (d : D) → copied_test o d ≡ true → Copied job o d
  copied_true o d h =
      let q = parts (waited_after o.from (job.first o.task ∷ waits o.task) d ∷ fetch_test o d ∷ []) h in
      let a = waited_true o.from (job.first o.task ∷ waits o.task) d q.0 in
      ((a.0, a.1, a.2, at a.0 a.1 a.3, a.4), fetch_true o d q.1.0)
    where
      at : (i : ℕ) (ds : List D) → slice_get (job.first o.task ∷ waits o.task) i ≡ Some ds → WaitOf job o.task i ds
      at zero ds e = let s : job.first o.task ≡ ds = cc in sym s
      at (suc i) ds e = (fuel, e)

  abbrev distinct_test : List D → Bool
  distinct_test [] = true
  distinct_test (d ∷ ds) = all_true (not (list_any (job.same d) ds) ∷ distinct_test ds ∷ [])

  distinct_true : (ds : List D) → distinct_test ds ≡ true → IsDistinct job.same ds
  distinct_true [] h = distinct_none job.same
  distinct_true (d ∷ ds) h =
      let q = parts (not (list_any (job.same d) ds) ∷ distinct_test ds ∷ []) h in
      distinct_more job.same d ds (not_true _ q.0) (distinct_true ds q.1.0)

  abbrev done_tests : OpenStart D → List (D × Digest) → List D → List D → List Bool
  done_tests o ms copied spawned =
      job.ended fuel o.task ∷ after_given o o.from (waits o.task) ∷ marked_test (job.outputs o.task) ms ∷ distinct_test copied
      ∷ each_passes (copied_test o) copied ∷ names_same spawned (made_in (after_wait o.from (job.acts fuel o.task))) ∷ []

  done_true : (o : OpenStart D) (ms : List (D × Digest)) (copied spawned : List D) → all_true (done_tests o ms copied spawned) ≡ true
      → DoneAllowed job o ms copied spawned
  done_true o ms copied spawned h =
      let q = parts (done_tests o ms copied spawned) h in
      record {
        next = end_next o q.0 q.1.0;
        marked = marked_true (job.outputs o.task) ms q.1.1.0;
        distinct = distinct_true copied q.1.1.1.0;
        fetched = passes_each (Copied job o) (copied_test o) (copied_true o) copied q.1.1.1.1.0;
        spawns = (fuel, q.0, names_exact spawned (made_in (after_wait o.from (job.acts fuel o.task))) q.1.1.1.1.1.0);
      }

  abbrev held_same : Held D → Held D → Bool
  held_same a b = all_true (names_same a.names b.names ∷ digest_same a.mark b.mark ∷ [])

  held_exact : (a b : Held D) → held_same a b ≡ true → a ≡ b
  held_exact a b h =
      let q = parts (names_same a.names b.names ∷ digest_same a.mark b.mark ∷ []) h in
      ap (λ (x : List D). record { names = x; mark = a.mark }) (names_exact a.names b.names q.0)
      ∙ ap (λ (x : Digest). record { names = b.names; mark = x }) (digest_exact a.mark b.mark q.1.0)

  abbrev saved_tests : OpenStart D → ℕ → Digest → List D → List D → List D → List Bool
  saved_tests o j mark refs holds spawned =
      nat_lt o.from (suc j) ∷ is_that names_same (slice_get (waits o.task) j) refs ∷ list_any (λ d. not (live_in job o.had d)) refs
      ∷ after_given o o.from (first_few j (waits o.task))
      ∷ is_that held_same (job.at fuel o.task (suc j)) (record { names = holds; mark = mark }) ∷ nat_le (suc j) (length (waits o.task))
      ∷ names_same spawned (made_before (suc j - o.from) (after_wait o.from (job.acts fuel o.task))) ∷ []

  saved_true : (o : OpenStart D) (j : ℕ) (mark : Digest) (refs holds spawned : List D) → all_true (saved_tests o j mark refs holds spawned)
      ≡ true → SavedAllowed job o (suc j) mark refs holds spawned
  saved_true o j mark refs holds spawned h =
      let q = parts (saved_tests o j mark refs holds spawned) h in
      record {
        next = wait_next o j refs (ltb-true o.from (suc j) q.0) (that_exact names_same names_exact (slice_get (waits o.task) j) refs q.1.0)
            q.1.1.0 q.1.1.1.0;
        frozen = (fuel, that_exact held_same held_exact (job.at fuel o.task (suc j)) (record { names = holds; mark = mark }) q.1.1.1.1.0);
        spawns = (
          fuel,
          leb-true (suc j) (length (waits o.task)) q.1.1.1.1.1.0,
          names_exact spawned (made_before (suc j - o.from) (after_wait o.from (job.acts fuel o.task))) q.1.1.1.1.1.1.0,
        );
      }

  abbrev reason_test : OpenStart D → D → ℕ → Bool
  reason_test o d w =
      all_true (held_test o.task o.from d ∷ is_that nat_eq (least job (o.had d)) w ∷ not (list_any (nat_eq o.worker) (o.had d)) ∷ [])
      || all_true (job.same d (own_name job o.task) ∷ is_that nat_eq o.stack w ∷ [])

  reason_true : (o : OpenStart D) (d : D) (w : ℕ) → reason_test o d w ≡ true → (HeldAt job o.task o.from d × FetchedFrom job o d w)
      ⊎ ((d ≡ own_name job o.task) × (o.stack ≡ Some w))
  reason_true o d w h = pick (or_cases (all_true
      (held_test o.task o.from d ∷ is_that nat_eq (least job (o.had d)) w ∷ not (list_any (nat_eq o.worker) (o.had d)) ∷ [])) _ h)
    where
      pick : ((all_true (held_test o.task o.from d ∷ is_that nat_eq (least job (o.had d)) w ∷ not (list_any (nat_eq o.worker) (o.had d)) ∷ [])
          ≡ true) ⊎ (all_true (job.same d (own_name job o.task) ∷ is_that nat_eq o.stack w ∷ []) ≡ true))
          → (HeldAt job o.task o.from d × FetchedFrom job o d w) ⊎ ((d ≡ own_name job o.task) × (o.stack ≡ Some w))
      pick (inl e) =
          let q = parts (held_test o.task o.from d ∷ is_that nat_eq (least job (o.had d)) w ∷ not (list_any (nat_eq o.worker) (o.had d)) ∷ []) e in
          inl (held_true o.task o.from d q.0, (that_exact nat_eq (λ x y z. eqb-true x y z) (least job (o.had d)) w q.1.0, not_true _ q.1.1.0))
      pick (inr e) =
          let q = parts (job.same d (own_name job o.task) ∷ is_that nat_eq o.stack w ∷ []) e in
          inr (laws.same_exact d (own_name job o.task) q.0, that_exact nat_eq (λ x y z. eqb-true x y z) o.stack w q.1.0)

  abbrev missed_tests : Standing D → OpenStart D → D → Option (ℕ × ℕ) → List Bool
  missed_tests v o d None = false ∷ []
  missed_tests v o d (Some x) =
      list_any (nat_eq x.1) v.gone ∷ not (list_any (nat_eq x.1) o.gone) ∷ reason_test o d x.1 ∷ []

  missed_true : (v : Standing D) (o : OpenStart D) (d : D) (loss : ℕ) → all_true (missed_tests v o d (slice_get p.losses loss)) ≡ true
      → MissedAllowed job p v o d loss
  missed_true v o d loss h = pick (slice_get p.losses loss) refl h
    where
      pick : (x : Option (ℕ × ℕ)) → slice_get p.losses loss ≡ x → all_true (missed_tests v o d x) ≡ true → MissedAllowed job p v o d loss
      pick None e k = cc
      pick (Some x) e k =
          let q = parts (missed_tests v o d (Some x)) k in
          record { worker = x.1; planned = (x.0, e); since = q.0; not_before = not_true _ q.1.0; reason = reason_true o d x.1 q.1.1.0 }

  abbrev loss_test : ℕ → ℕ → (ℕ × ℕ) → Bool
  loss_test w closes x = all_true (nat_eq x.1 w ∷ nat_le x.0 closes ∷ [])

  abbrev lost_tests : Standing D → ℕ → ℕ → List Bool
  lost_tests v w closes =
      not (list_any (nat_eq w) v.gone) ∷ nat_eq closes v.closes ∷ list_any (loss_test w closes) p.losses ∷ []

  lost_true : (v : Standing D) (w closes : ℕ) → all_true (lost_tests v w closes) ≡ true → LostAllowed job p v w closes
  lost_true v w closes h =
      let q = parts (lost_tests v w closes) h in
      let x = any_find (loss_test w closes) p.losses q.1.1.0 in
      let i = in_get p.losses x.0 x.1 in
      let y = parts (nat_eq x.0.1 w ∷ nat_le x.0.0 closes ∷ []) x.2 in
      record {
        first = not_true _ q.0;
        now = eqb-true closes v.closes q.1.0;
        planned = (i.0, x.0.0, subst (λ u. slice_get p.losses i.0 ≡ Some (x.0.0, u)) (eqb-true x.0.1 w y.0) i.1, leb-true x.0.0 closes y.1.0);
      }
    where
      in_get : (ls : List (ℕ × ℕ)) (x : ℕ × ℕ) → In x ls → (i : ℕ) × (slice_get ls i ≡ Some x)
      in_get [] x i = absurd i
      in_get (y ∷ ys) x (inl s) = (0, ap (λ (z : ℕ × ℕ). Some z) (sym s))
      in_get (y ∷ ys) x (inr i) = let a = in_get ys x i in (suc a.0, a.1)

  abbrev order_tests : Option (OpenStart D) → (OpenStart D → List Bool) → List Bool
  order_tests None f = false ∷ []
  order_tests (Some o) f = f o

  order_true : (P : OpenStart D → Type 0) (f : OpenStart D → List Bool) → ((o : OpenStart D) → all_true (f o) ≡ true → P o)
      → (x : Option (OpenStart D)) → all_true (order_tests x f) ≡ true → (o : OpenStart D) × (x ≡ Some o) × P o
  order_true P f g None h = cc
  order_true P f g (Some o) h = (o, refl, g o h)

  abbrev tests : Standing D → Event D → List Bool
  tests v (start k w t from) = start_tests v k w t from
  tests v (done k ms copied spawned) =
      order_tests (find_open job k v.orders) (λ o. done_tests o ms copied spawned)
  tests v (saved k zero mark refs holds spawned) = false ∷ []
  tests v (saved k (suc j) mark refs holds spawned) =
      order_tests (find_open job k v.orders) (λ o. saved_tests o j mark refs holds spawned)
  tests v (missed k d loss) =
      order_tests (find_open job k v.orders) (λ o. missed_tests v o d (slice_get p.losses loss))
  tests v (lost w closes) = lost_tests v w closes

  -- names that are all different
  abbrev names_apart : List D → Bool
  names_apart [] = true
  names_apart (d ∷ ds) =
      all_true (not (list_any (λ e. digest_same (job.name d) (job.name e) || digest_same (job.name e) (job.name d)) ds) ∷ names_apart ds ∷ [])

  digest_refl : (a : Digest) → digest_same a a ≡ true
  digest_refl [] = refl
  digest_refl (x ∷ xs) = ap (λ b. b && (digest_same xs xs && true)) (nat_refl x) ∙ ap (λ b. b && true) (digest_refl xs)
    where
      nat_refl : (n : ℕ) → nat_eq n n ≡ true
      nat_refl n = grind arith

  apart_true : (ds : List D) → names_apart ds ≡ true → NoClash job ds
  apart_true [] h a b i j e = absurd i
  apart_true (d ∷ ds) h a b i j e = pick i j (apart_true ds q.1.0)
    where
      q : AllTrue (not (list_any (λ e. digest_same (job.name d) (job.name e) || digest_same (job.name e) (job.name d)) ds) ∷ names_apart ds ∷ [])
      q = parts (not (list_any (λ e. digest_same (job.name d) (job.name e) || digest_same (job.name e) (job.name d)) ds) ∷ names_apart ds ∷ []) h

      clash : (xs : List D) (x : D) → In x xs → job.name d ≡ job.name x
          → list_any (λ e. digest_same (job.name d) (job.name e) || digest_same (job.name e) (job.name d)) xs ≡ true
      clash [] x k m = absurd k
      clash (y ∷ ys) x (inl s) m =
          let n : digest_same (job.name d) (job.name y) ≡ true =
          subst (λ z. digest_same (job.name d) z ≡ true) (m ∙ ap job.name s) (digest_refl (job.name d)) in
          ap (λ b. (b || digest_same (job.name y) (job.name d))
          || list_any (λ e. digest_same (job.name d) (job.name e) || digest_same (job.name e) (job.name d)) ys) n
      clash (y ∷ ys) x (inr k) m = skip (digest_same (job.name d) (job.name y) || digest_same (job.name y) (job.name d)) (clash ys x k m)
        where
          skip : (b : Bool) → list_any (λ e. digest_same (job.name d) (job.name e) || digest_same (job.name e) (job.name d)) ys ≡ true → b
              || list_any (λ e. digest_same (job.name d) (job.name e) || digest_same (job.name e) (job.name d)) ys ≡ true
          skip true z = refl
          skip false z = z

      never : (x : D) → In x ds → job.name d ≡ job.name x → ⊥
      never x k m = let y = clash ds x k m in let z = not_true _ q.0 in let bad : true ≡ false = sym y ∙ z in cc

      pick : ((a ≡ d) ⊎ In a ds) → ((b ≡ d) ⊎ In b ds) → NoClash job ds → a ≡ b
      pick (inl x) (inl y) r = x ∙ sym y
      pick (inl x) (inr y) r = absurd (never b y (sym (ap job.name x) ∙ e))
      pick (inr x) (inl y) r = absurd (never a x (sym (ap job.name y) ∙ sym e))
      pick (inr x) (inr y) r = r a b x y e

  abbrev pub step_test : Standing D → Event D → Bool
  step_test v e =
      all_true (not v.over ∷ all_true (tests v e) ∷ nat_le (length (after job v e).book) p.limit ∷ names_apart (after job v e).book ∷ [])

  pub step_true : (v : Standing D) (e : Event D) → SavesOk job laws v → step_test v e ≡ true → Step job p v e
  step_true v e saves h =
      let q = parts (not v.over ∷ all_true (tests v e) ∷ nat_le (length (after job v e).book) p.limit ∷ names_apart (after job v e).book ∷ []) h in
      record {
        going = not_true _ q.0;
        allowed = allowed e q.1.0;
        room = leb-true _ p.limit q.1.1.0;
        apart =
            apart_true (after job v e).book q.1.1.1.0;
      }
    where
      allowed : (e : Event D) → all_true (tests v e) ≡ true → Allowed job p v e
      allowed (start k w t from) t' = start_true v k w t from saves t'
      allowed (done k ms copied spawned) t' =
          order_true (λ o. DoneAllowed job o ms copied spawned) (λ o. done_tests o ms copied spawned) (λ o z. done_true o ms copied spawned z)
          (find_open job k v.orders) t'
      allowed (saved k zero mark refs holds spawned) t' = cc
      allowed (saved k (suc j) mark refs holds spawned) t' =
          order_true (λ o. SavedAllowed job o (suc j) mark refs holds spawned) (λ o. saved_tests o j mark refs holds spawned)
          (λ o z. saved_true o j mark refs holds spawned z) (find_open job k v.orders) t'
      allowed (missed k d loss) t' =
          order_true (λ o. MissedAllowed job p v o d loss) (λ o. missed_tests v o d (slice_get p.losses loss)) (λ o z. missed_true v o d loss z)
          (find_open job k v.orders) t'
      allowed (lost w closes) t' = lost_true v w closes t'

  abbrev pub lawful_test : Standing D → List (Event D) → Bool
  lawful_test v [] = true
  lawful_test v (e ∷ es) = all_true (step_test v e ∷ lawful_test (after job v e) es ∷ [])

  pub lawful_true : (v : Standing D) (es : List (Event D)) → SavesOk job laws v → lawful_test v es ≡ true → LawfulFrom job p v es
  lawful_true v [] s h = tt
  lawful_true v (e ∷ es) s h =
      let q = parts (step_test v e ∷ lawful_test (after job v e) es ∷ []) h in
      let x = step_true v e s q.0 in (x, lawful_true (after job v e) es (saves_step job laws p v e s x.allowed) q.1.0)
