-- Where a job means an answer, its needed tasks are finitely many, with finitely many waits each: it has an amount of work.
use Rattle.std.proofs.Common.{◌≡◌, ◌≢◌, ℕ, zero, suc, ◌+◌, ◌<◌, ◌≤◌, List, [], ◌∷◌, ◌++◌, length, Option, Some, None, is_some, slice_get, sum_by}
use Rattle.std.proofs.Common.{Bool, true, false, ◌↔◌, inl, inr, refl, sym, ap, ◌∙◌, subst, arith}
use Rattle.sky_base.specs.Val.{call, out, input, known}
use Rattle.sky_base.specs.See.{Desc, Job, Around, see, Answered, Means}
use Rattle.sky_base.specs.Needed.{Task, task_of, wait_at, WaitOf, Needed, root, Waits, Work}
use Rattle.sky_base_law.specs.Tasks.{In, Apart, same, first_of, waits_in, acts_of, ended, Ends, WaitsFor}
use Rattle.sky_base_law.proofs.TaskOutputs.{in_contains, contains_in, in_each, same_refl, same_exact}
use Rattle.sky_base_law.proofs.TaskFuel.{ended_stays, first_seen, later_seen, waits_at}
use Rattle.sky_base_law.proofs.NeededEnds.{wait_ended, first_is, task_ended, ends_before, means_ends}
use Rattle.sky_base_law.proofs.Lists.{some_is, none_some}

there : {A : Type 0} (o : Option A) → o ≢ None → is_some o ≡ true
there None h = absurd (h refl)
there (Some a) h = refl

-- what is in one of two lists is in both together
module _ {A : Type 0} where
  pub in_left : (d : A) (xs ys : List A) → In d xs → In d (xs ++ ys)
  in_left d [] ys h = absurd h
  in_left d (x ∷ xs) ys (inl e) = inl e
  in_left d (x ∷ xs) ys (inr h) = inr (in_left d xs ys h)

  pub in_right : (d : A) (xs ys : List A) → In d ys → In d (xs ++ ys)
  in_right d [] ys h = h
  in_right d (x ∷ xs) ys h = inr (in_right d xs ys h)

  in_either : {P : Type 0} (d : A) (xs ys : List A) → In d (xs ++ ys) → (In d xs → P) → (In d ys → P) → P
  in_either d [] ys h f g = g h
  in_either d (x ∷ xs) ys (inl e) f g = f (inl e)
  in_either d (x ∷ xs) ys (inr h) f g = in_either d xs ys h (λ i. f (inr i)) g

  slice_in : (xs : List A) (i : ℕ) (x : A) → slice_get xs i ≡ Some x → In x xs
  slice_in [] i x e = absurd (none_some x e)
  slice_in (y ∷ xs) zero x e = inl (sym (some_is y x e))
  slice_in (y ∷ xs) (suc i) x e = inr (slice_in xs i x e)

  slice_below : (xs : List A) (i : ℕ) (x : A) → slice_get xs i ≡ Some x → i < length xs
  slice_below [] i x e = absurd (none_some x e)
  slice_below (y ∷ xs) zero x e = omega arith
  slice_below (y ∷ xs) (suc i) x e = omega (arith, slice_below xs i x e)

  slice_some : (xs : List A) (i : ℕ) → i < length xs → (x : A) × (slice_get xs i ≡ Some x)
  slice_some [] i lt = absurd (omega arith)
  slice_some (y ∷ xs) zero lt = (y, refl)
  slice_some (y ∷ xs) (suc i) lt = slice_some xs i (omega arith)

  abbrev all_of : List (List A) → List A
  all_of [] = []
  all_of (xs ∷ rest) = xs ++ all_of rest

  in_all : (d : A) (xss : List (List A)) (i : ℕ) (xs : List A) → slice_get xss i ≡ Some xs → In d xs → In d (all_of xss)
  in_all d [] i xs e h = absurd (none_some xs e)
  in_all d (ys ∷ xss) zero xs e h = in_left d ys (all_of xss) (subst (In d) (sym (some_is ys xs e)) h)
  in_all d (ys ∷ xss) (suc i) xs e h = in_right d ys (all_of xss) (in_all d xss i xs e h)

  of_all : {P : Type 0} (d : A) (xss : List (List A)) → In d (all_of xss) → ((i : ℕ) (xs : List A) → slice_get xss i ≡ Some xs → In d xs → P) → P
  of_all d [] h f = absurd h
  of_all d (ys ∷ xss) h f = in_either d ys (all_of xss) h (λ i. f 0 ys refl i) (λ i. of_all d xss i (λ k xs e j. f (suc k) xs e j))

-- ---- distinct tasks

abbrev same_task : Task → Task → Bool
same_task Task.show Task.show = true
same_task Task.show (Task.of e) = false
same_task (Task.of d) Task.show = false
same_task (Task.of d) (Task.of e) = same d e

task_refl : (t : Task) → same_task t t ≡ true
task_refl Task.show = refl
task_refl (Task.of d) = same_refl d

task_exact : (t u : Task) → same_task t u ≡ true → t ≡ u
task_exact Task.show Task.show e = refl
task_exact Task.show (Task.of d) e = absurd cc
task_exact (Task.of d) Task.show e = absurd cc
task_exact (Task.of d) (Task.of e) h = ap Task.of (same_exact d e h)

abbrev add_if : Bool → Task → List Task → List Task
add_if true t ts = ts
add_if false t ts = t ∷ ts

abbrev either_if : Bool → Bool → Bool
either_if true b = true
either_if false b = b

abbrev is_in : Task → List Task → Bool
is_in t [] = false
is_in t (u ∷ us) = either_if (same_task t u) (is_in t us)

abbrev once : List Task → List Task
once [] = []
once (t ∷ ts) = add_if (is_in t (once ts)) t (once ts)

is_in_true : (t : Task) (ts : List Task) → is_in t ts ≡ true → In t ts
is_in_true t [] e = absurd cc
is_in_true t (u ∷ us) e = go (same_task t u) refl e (is_in_true t us)
  where
    go : (b : Bool) → same_task t u ≡ b → either_if b (is_in t us) ≡ true → (is_in t us ≡ true → In t us) → In t (u ∷ us)
    go true q h f = inl (task_exact t u q)
    go false q h f = inr (f h)

in_is_true : (t : Task) (ts : List Task) → In t ts → is_in t ts ≡ true
in_is_true t [] h = absurd h
in_is_true t (u ∷ us) (inl e) = ap (λ b. either_if b (is_in t us)) (subst (λ x. same_task t x ≡ true) e (task_refl t))
in_is_true t (u ∷ us) (inr h) = go (same_task t u) (in_is_true t us h)
  where
    go : (b : Bool) → is_in t us ≡ true → either_if b (is_in t us) ≡ true
    go true e = refl
    go false e = e

once_in : (u : Task) (ts : List Task) → In u (once ts) → In u ts
once_in u [] h = h
once_in u (t ∷ ts) h = go (is_in t (once ts)) h (once_in u ts)
  where
    go : (b : Bool) → In u (add_if b t (once ts)) → (In u (once ts) → In u ts) → In u (t ∷ ts)
    go true i f = inr (f i)
    go false (inl e) f = inl e
    go false (inr i) f = inr (f i)

in_once : (u : Task) (ts : List Task) → In u ts → In u (once ts)
in_once u [] h = h
in_once u (t ∷ ts) h = go (is_in t (once ts)) refl h (in_once u ts)
  where
    go : (b : Bool) → is_in t (once ts) ≡ b → In u (t ∷ ts) → (In u ts → In u (once ts)) → In u (add_if b t (once ts))
    go true q (inl e) f = subst (λ x. In x (once ts)) (sym e) (is_in_true t (once ts) q)
    go true q (inr i) f = f i
    go false q (inl e) f = inl e
    go false q (inr i) f = inr (f i)

apart_once : (ts : List Task) → Apart (once ts)
apart_once [] = tt
apart_once (t ∷ ts) = go (is_in t (once ts)) refl (apart_once ts)
  where
    two : (b : Bool) → b ≡ false → b ≡ true → ⊥
    two true e f = cc
    two false e f = cc

    go : (b : Bool) → is_in t (once ts) ≡ b → Apart (once ts) → Apart (add_if b t (once ts))
    go true q a = a
    go false q a = (λ i. two (is_in t (once ts)) q (in_is_true t (once ts) i), a)

-- ---- tasks with the numbers of their waits

module _ (f : Task → ℕ) where
  abbrev counted : List Task → List (Task × ℕ)
  counted [] = []
  counted (t ∷ ts) = (t, f t) ∷ counted ts

  in_counted : (t : Task) (ts : List Task) → In t ts → In (t, f t) (counted ts)
  in_counted t [] h = absurd h
  in_counted t (u ∷ ts) (inl e) = inl (ap (λ x. (x, f x)) e)
  in_counted t (u ∷ ts) (inr h) = inr (in_counted t ts h)

  counted_in : (t : Task) (k : ℕ) (ts : List Task) → In (t, k) (counted ts) → In t ts × (k ≡ f t)
  counted_in t k [] h = absurd h
  counted_in t k (u ∷ ts) (inl e) =
      let a : t ≡ u = ap (λ p. p.0) e in
      let b : k ≡ f u = ap (λ p. p.1) e in
      (inl a, b ∙ ap f (sym a))
  counted_in t k (u ∷ ts) (inr h) = let r : In t ts × (k ≡ f t) = counted_in t k ts h in (inr r.0, r.1)

  index_apart : (ts : List Task) (i j : ℕ) (t : Task) (a b : ℕ) → Apart ts → slice_get (counted ts) i ≡ Some (t, a) → slice_get (counted ts) j
      ≡ Some (t, b) → i ≡ j
  index_apart [] i j t a b h e g = absurd (none_some (t, a) e)
  index_apart (u ∷ ts) zero zero t a b h e g = refl
  index_apart (u ∷ ts) zero (suc j) t a b h e g =
      let q : u ≡ t = ap (λ p. p.0) (some_is (u, f u) (t, a) e) in
      absurd (h.0 (subst (λ x. In x ts) (sym q) (counted_in t b ts (slice_in (counted ts) j (t, b) g)).0))
  index_apart (u ∷ ts) (suc i) zero t a b h e g =
      let q : u ≡ t = ap (λ p. p.0) (some_is (u, f u) (t, b) g) in
      absurd (h.0 (subst (λ x. In x ts) (sym q) (counted_in t a ts (slice_in (counted ts) i (t, a) e)).0))
  index_apart (u ∷ ts) (suc i) (suc j) t a b h e g = ap suc (index_apart ts i j t a b h.1 e g)

abbrev on_task : (Task → List Task) → Option Task → List Task
on_task f None = []
on_task f (Some u) = f u

abbrev tasks_of : (Task → List Task) → List Desc → List Task
tasks_of f [] = []
tasks_of f (d ∷ ds) = on_task f (task_of d) ++ tasks_of f ds

in_tasks : (f : Task → List Task) (ds : List Desc) (d : Desc) (u x : Task) → In d ds → task_of d ≡ Some u → In x (f u) → In x (tasks_of f ds)
in_tasks f [] d u x h e i = absurd h
in_tasks f (y ∷ ds) d u x (inl q) e i =
    in_left x (on_task f (task_of y)) (tasks_of f ds) (subst (λ o. In x (on_task f o)) (sym (ap task_of (sym q) ∙ e)) i)
in_tasks f (y ∷ ds) d u x (inr h) e i = in_right x (on_task f (task_of y)) (tasks_of f ds) (in_tasks f ds d u x h e i)

of_tasks : {P : Type 0} (f : Task → List Task) (ds : List Desc) (x : Task) → In x (tasks_of f ds)
    → ((d : Desc) (u : Task) → In d ds → task_of d ≡ Some u → In x (f u) → P) → P
of_tasks f [] x h g = absurd h
of_tasks {P = P} f (y ∷ ds) x h g =
    in_either x (on_task f (task_of y)) (tasks_of f ds) h (λ i. go (task_of y) refl i) (λ i. of_tasks f ds x i (λ d u j e k. g d u (inr j) e k))
  where
    go : (o : Option Task) → task_of y ≡ o → In x (on_task f o) → P
    go None e i = absurd i
    go (Some u) e i = g y u (inl refl) e i

module _ (job : Job) (around : Around) where
  -- all that a task waits for
  abbrev awaited : ℕ → Task → List Desc
  awaited n t = first_of t ++ all_of (waits_in (acts_of job around n t))

  -- a task and those that it needs
  abbrev reach : ℕ → Task → List Task
  reach zero t = t ∷ []
  reach (suc n) t = t ∷ tasks_of (λ u. reach n u) (awaited (suc n) t)

  self_reach : (n : ℕ) (t : Task) → In t (reach n t)
  self_reach zero t = inl refl
  self_reach (suc n) t = inl refl

  awaited_seen : (n : ℕ) (t : Task) (d : Desc) → ended job around n t ≡ true → In d (awaited n t) → see job around n d ≢ None
  awaited_seen n t d h i =
      in_either d (first_of t) (all_of (waits_in (acts_of job around n t))) i
      (λ j. in_each (λ x. see job around n x ≢ None) (first_of t) d (first_seen job around n t h) j)
      (λ j. of_all d (waits_in (acts_of job around n t)) j
      (λ k ds e z. in_each (λ x. see job around n x ≢ None) ds d (later_seen job around n t k ds h e) z))

  awaited_all : (n : ℕ) (t u : Task) → ended job around n t ≡ true → (x : WaitsFor job around t u) → In x.what (awaited n t)
  awaited_all n t u h x = go x.wait x.waits x.waited x.is_waited
    where
      go : (j : ℕ) (ds : List Desc) → WaitOf job around t j ds → In x.what ds → In x.what (awaited n t)
      go zero ds (m, e) i = in_left x.what (first_of t) _ (subst (In x.what) (sym (first_is job around m t ds e)) i)
      go (suc j) ds (m, e) i = in_right x.what (first_of t) _
          (in_all x.what (waits_in (acts_of job around n t)) j ds (wait_ended job around n m t j ds h e) i)

  task_ends : (n : ℕ) (t u : Task) (d : Desc) → ended job around (suc n) t ≡ true → In d (awaited (suc n) t) → task_of d ≡ Some u
      → ended job around n u ≡ true
  task_ends n t u d h i e = sym (task_ended job around n d u e) ∙ there (see job around (suc n) d) (awaited_seen (suc n) t d h i)

  reach_ended : (n : ℕ) (t u : Task) → ended job around n t ≡ true → In u (reach n t) → ended job around n u ≡ true
  reach_ended zero t u h (inl e) = subst (λ x. ended job around 0 x ≡ true) (sym e) h
  reach_ended zero t u h (inr i) = absurd i
  reach_ended (suc n) t u h (inl e) = subst (λ x. ended job around (suc n) x ≡ true) (sym e) h
  reach_ended (suc n) t u h (inr i) =
      of_tasks (λ x. reach n x) (awaited (suc n) t) u i (λ d s j e k. ended_stays job around n u (reach_ended n s u (task_ends n t s d h j e) k))

  reach_closed : (n : ℕ) (t u s : Task) → ended job around n t ≡ true → In u (reach n t) → WaitsFor job around u s → In s (reach n t)
  reach_closed zero t u s h (inl e) x =
      let r : (m : ℕ) × (m < 0) × (ended job around m s ≡ true) =
      ends_before job around 0 u s (subst (λ y. ended job around 0 y ≡ true) (sym e) h) x in
      absurd (omega (arith, r.1))
  reach_closed zero t u s h (inr i) x = absurd i
  reach_closed (suc n) t u s h (inl e) x =
      let y : WaitsFor job around t s = subst (λ z. WaitsFor job around z s) e x in
      inr (in_tasks (λ z. reach n z) (awaited (suc n) t) y.what s s (awaited_all (suc n) t s h y) y.is_made (self_reach n s))
  reach_closed (suc n) t u s h (inr i) x =
      of_tasks (λ z. reach n z) (awaited (suc n) t) u i
      (λ d v j e k. inr (in_tasks (λ z. reach n z) (awaited (suc n) t) d v s j e (reach_closed n v u s (task_ends n t v d h j e) k x)))

  first_wait : (n : ℕ) (t : Task) (d : Desc) → In d (first_of t) → wait_at job around n t 0 ≡ Some (first_of t)
  first_wait n Task.show d i = refl
  first_wait n (Task.of (call f c vs)) d i = refl
  first_wait n (Task.of (out x a m k)) d i = refl
  first_wait n (Task.of (input k)) d i = absurd i
  first_wait n (Task.of (known b)) d i = absurd b

  awaited_needed : (n : ℕ) (t u : Task) (d : Desc) → Needed job around t → In d (awaited n t) → task_of d ≡ Some u → Needed job around u
  awaited_needed n t u d need i e =
      in_either d (first_of t) (all_of (waits_in (acts_of job around n t))) i
      (λ j. Needed.waited need 0 (first_of t) d (n, first_wait n t d j) (contains_in d (first_of t) j) e)
      (λ j. of_all d (waits_in (acts_of job around n t)) j
      (λ k ds q z. Needed.waited need (suc k) ds d (n, sym (waits_at job around n t k) ∙ q) (contains_in d ds z) e))

  reach_needed : (n : ℕ) (t u : Task) → Needed job around t → In u (reach n t) → Needed job around u
  reach_needed zero t u need (inl e) = subst (Needed job around) (sym e) need
  reach_needed zero t u need (inr i) = absurd i
  reach_needed (suc n) t u need (inl e) = subst (Needed job around) (sym e) need
  reach_needed (suc n) t u need (inr i) =
      of_tasks (λ x. reach n x) (awaited (suc n) t) u i (λ d s j e k. reach_needed n s u (awaited_needed (suc n) t s d need j e) k)

  needed_reach : (n : ℕ) (t : Task) → ended job around n Task.show ≡ true → Needed job around t → In t (reach n Task.show)
  needed_reach n Task.show h root = self_reach n Task.show
  needed_reach n t h (Needed.waited {t = u} need j ds d wait among is) =
      reach_closed n Task.show u t h (needed_reach n u h need)
      (record { wait = j; waits = ds; waited = wait; what = d; is_waited = in_contains d ds among; is_made = is })

  -- a task that has ended has so many waits
  pub waits_number : (n : ℕ) (t : Task) → ended job around n t ≡ true → Waits job around t (length (waits_in (acts_of job around n t)))
  waits_number n t h = record { each = go }
    where
      back : (j : ℕ) → 0 < j → (ds : List Desc) → WaitOf job around t j ds → j ≤ length (waits_in (acts_of job around n t))
      back zero lt ds w = absurd (omega arith)
      back (suc j) lt ds (m, e) = omega (arith, slice_below (waits_in (acts_of job around n t)) j ds (wait_ended job around n m t j ds h e))

      there_is : (j : ℕ) → 0 < j → j ≤ length (waits_in (acts_of job around n t)) → (ds : List Desc) × WaitOf job around t j ds
      there_is zero lt le = absurd (omega arith)
      there_is (suc j) lt le =
          let r : (ds : List Desc) × (slice_get (waits_in (acts_of job around n t)) j ≡ Some ds) =
          slice_some (waits_in (acts_of job around n t)) j (omega arith) in
          (r.0, (n, sym (waits_at job around n t j) ∙ r.1))

      go : (j : ℕ) → 0 < j → (j ≤ length (waits_in (acts_of job around n t))) ↔ ((ds : List Desc) × WaitOf job around t j ds)
      go j lt = (λ le. there_is j lt le, λ p. back j lt p.0 p.1)

  -- where the job has an answer, it has an amount of work
  pub work_is : (n : ℕ) → ended job around n Task.show ≡ true → (m : ℕ) × Work job around m
  work_is n h = (
    sum_by (λ p. 1 + p.1) list_of,
    record {
      tasks = list_of;
      apart = λ i j t a b e g. index_apart number (once (reach n Task.show)) i j t a b (apart_once (reach n Task.show))
          e g;
      needed = λ t. (
        λ need. (
          number t,
          contains_in (t, number t) list_of
              (in_counted number t (once (reach n Task.show)) (in_once t (reach n Task.show) (needed_reach n t h need))),
        ),
        λ p. reach_needed n Task.show t root (once_in t (reach n Task.show)
            (counted_in number t p.0 (once (reach n Task.show)) (in_contains (t, p.0) list_of p.1)).0),
      );
      waits =
          λ t k c. has t k (counted_in number t k (once (reach n Task.show)) (in_contains (t, k) list_of c));
      total = refl;
    },
  )
    where
      number : Task → ℕ
      number t = length (waits_in (acts_of job around n t))

      list_of : List (Task × ℕ)
      list_of = counted number (once (reach n Task.show))

      has : (t : Task) (k : ℕ) → In t (once (reach n Task.show)) × (k ≡ number t) → Waits job around t k
      has t k (i, e) = subst (Waits job around t) (sym e) (waits_number n t (reach_ended n Task.show t h (once_in t (reach n Task.show) i)))

  pub means_work : (a : Answered) → Means job around a → (m : ℕ) × Work job around m
  means_work a means = let e : Ends job around Task.show = means_ends job around a means in work_is e.0 e.1
