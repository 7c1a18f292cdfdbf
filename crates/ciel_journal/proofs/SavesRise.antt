-- The numbers of a task's saved waits rise.
use Rattle.std.proofs.Common.{◌≡◌, ◌≤◌, ◌<◌, List, [], ◌∷◌, ◌++◌, Bool, true, false, not, cond, filter, nat_eq, Option, ◌⊎◌, inl, inr, refl, ap}
use Rattle.std.proofs.Common.{sym, ◌∙◌, subst, arith, eq-eqb}
use Rattle.ciel_journal.specs.History.{Event, OpenStart, Plan, Save, Standing, after, after_all, before_all, better, closed, done, done_with, last_save}
use Rattle.ciel_journal.specs.History.{lost, missed, order_of, same_task, saved, start, wait_number}
use Rattle.ciel_journal.specs.Job.{Each, In, IsJob, Job, Task}
use Rattle.ciel_journal.specs.Lawful.{LawfulFrom, Step}
use Rattle.ciel_journal.proofs.Bound.{better_low, out_test, task_refl}
use Rattle.ciel_journal.proofs.Good.{after_done, after_missed, after_saved, each_filter, each_join}
use Rattle.ciel_journal.proofs.Numbers.{found_in, in_filter, in_last, kept_test}

module _ {D : Type 0} where
  -- of two of one task the later one has the greater number
  abbrev pub EachRises : List (Save D) → Type 0
  EachRises [] = Unit {0}
  EachRises (q ∷ qs) = Each (λ (r : Save D). q.task ≡ r.task → q.j < r.j) qs × EachRises qs

  rises_push : (qs : List (Save D)) (q : Save D) → EachRises qs → ((r : Save D) → In r qs → r.task ≡ q.task → r.j < q.j) → EachRises (qs ++ q ∷ [])
  rises_push [] q h f = (tt, tt)
  rises_push (x ∷ xs) q h f = (
    each_join (λ (r : Save D). x.task ≡ r.task → x.j < r.j) xs (q ∷ []) h.0 (f x (inl refl), tt),
    rises_push xs q h.1 (λ r i. f r (inr i)),
  )

  rises_filter : (p : Save D → Bool) (qs : List (Save D)) → EachRises qs → EachRises (filter p qs)
  rises_filter p [] h = tt
  rises_filter p (x ∷ xs) h = pick (p x) (rises_filter p xs h.1)
    where
      pick : (b : Bool) → EachRises (filter p xs) → EachRises (cond b (x ∷ filter p xs) (filter p xs))
      pick true r = (each_filter (λ (r : Save D). x.task ≡ r.task → x.j < r.j) p xs h.0, r)
      pick false r = r

module _ {D : Type 0} (job : Job D) (laws : IsJob job) where
  pub record Rising (v : Standing D) : Type 0 where
    pub saves : EachRises v.saves
    -- none is later than where its task goes on
    pub past : (o : OpenStart D) → In o v.orders → (q : Save D) → In q v.saves → q.task ≡ o.task → q.j ≤ o.from
    -- a task has one open Start
    pub one : (a b : OpenStart D) → In a v.orders → In b v.orders → a.task ≡ b.task → a ≡ b

  -- no save of a task is later than its last one
  last_greatest : (t : Task D) (ss : List (Save D)) (q : Save D) → In q ss → q.task ≡ t → q.j ≤ wait_number job (last_save job t ss)
  last_greatest t [] q i e = absurd i
  last_greatest t (s ∷ ss) q (inl f) e =
      let mine : same_task job t s.task ≡ true =
      subst (λ u. same_task job t u ≡ true) (sym e ∙ ap (λ (x : Save D). x.task) f) (task_refl job laws t) in
      let l : s.j ≤ wait_number job (better job s (last_save job t ss)) = (better_low job laws s (last_save job t ss)).0 in
      subst (λ (x : Save D). x.j ≤ wait_number job (last_save job t (s ∷ ss))) (sym f)
      (subst (λ b. s.j ≤ wait_number job (cond b (better job s (last_save job t ss)) (last_save job t ss))) (sym mine) l)
  last_greatest t (s ∷ ss) q (inr i) e = pick (same_task job t s.task) (last_save job t ss) (last_greatest t ss q i e)
    where
      pick : (b : Bool) (o : Option (Save D)) → q.j ≤ wait_number job o → q.j ≤ wait_number job (cond b (better job s o) o)
      pick true o l = let k = (better_low job laws s o).1 in omega (arith, k, l)
      pick false o l = l

  rising_start : Rising (before_all job)
  rising_start = record { saves = tt; past = λ o i. absurd i; one = λ a b i. absurd i }

  -- with fewer open Starts and fewer saves
  fewer : (v u : Standing D) → ((o : OpenStart D) → In o u.orders → In o v.orders) → ((q : Save D) → In q u.saves → In q v.saves)
      → EachRises u.saves → Rising v → Rising u
  fewer v u was had s r =
      record {
        saves = s;
        past = λ o i q j. r.past o (was o i) q (had q j);
        one = λ a b i j. r.one a b (was a i) (was b j);
      }

  rising_step : (p : Plan) (v : Standing D) (e : Event D) → Rising v → Step job p v e → Rising (after job v e)
  rising_step p v (start k w t from) r step =
      record {
        saves = r.saves;
        past = λ o i q j s. past o q (in_last o v.orders (order_of job v k w t from) i) j s;
        one = λ a b i j s. one a b (in_last a v.orders (order_of job v k w t from) i) (in_last b v.orders (order_of job v k w t from) j) s;
      }
    where
      past : (o : OpenStart D) (q : Save D) → (In o v.orders ⊎ (o ≡ order_of job v k w t from)) → In q v.saves → q.task ≡ o.task → q.j ≤ o.from
      past o q (inl i) j s = r.past o i q j s
      past o q (inr f) j s =
          let l : q.j ≤ wait_number job (last_save job t v.saves) = last_greatest t v.saves q j (s ∙ ap (λ (x : OpenStart D). x.task) f) in
          let m : from ≡ wait_number job (last_save job t v.saves) = step.allowed.from_last in
          let n : o.from ≡ from = ap (λ (x : OpenStart D). x.from) f in omega (arith, l, m, n)

      free : (a : OpenStart D) → In a v.orders → a.task ≡ t → ⊥
      free a i s =
          let x = out_test job laws t v.orders a i s in
          let y = step.allowed.not_out in
          let bad : true ≡ false = sym x ∙ y in
          cc

      one : (a b : OpenStart D) → (In a v.orders ⊎ (a ≡ order_of job v k w t from)) → (In b v.orders ⊎ (b ≡ order_of job v k w t from)) → a.task
          ≡ b.task → a ≡ b
      one a b (inl i) (inl j) s = r.one a b i j s
      one a b (inl i) (inr g) s = absurd (free a i (s ∙ ap (λ (x : OpenStart D). x.task) g))
      one a b (inr f) (inl j) s = absurd (free b j (sym s ∙ ap (λ (x : OpenStart D). x.task) f))
      one a b (inr f) (inr g) s = f ∙ sym g
  rising_step p v (done k made copied spawned) r step =
      let a = step.allowed in
      subst Rising (sym (after_done job laws v k made copied spawned a.0 a.1))
      (fewer v (done_with job made copied spawned a.0 (closed job v k))
      (λ o i. in_filter (λ (x : OpenStart D). not (nat_eq k x.number)) o v.orders i) (λ q j. j) r.saves r)
  rising_step p v (saved k j mark refs holds spawned) r step =
      subst Rising (sym (after_saved job laws v k j mark refs holds spawned step.allowed.0 step.allowed.1)) (record {
        saves = rises_push v.saves save r.saves below;
        past = λ o i q n s. past o i q (in_last q v.saves save n) s;
        one = λ a b i n. r.one a b (was a i) (was b n);
      })
    where
      save : Save D
      save = record { task = step.allowed.0.task; j = j; worker = step.allowed.0.worker; refs = refs; holds = holds }

      found : In step.allowed.0 v.orders × (k ≡ step.allowed.0.number)
      found = found_in job laws k v.orders step.allowed.0 step.allowed.1

      was : (o : OpenStart D) → In o (closed job v k).orders → In o v.orders
      was o i = in_filter (λ (x : OpenStart D). not (nat_eq k x.number)) o v.orders i

      below : (q : Save D) → In q v.saves → q.task ≡ step.allowed.0.task → q.j < j
      below q i s =
          let a = r.past step.allowed.0 found.0 q i s in let b = step.allowed.2.next.later in omega (arith, a, b)

      -- the one that is closed was the only one of its task
      past : (o : OpenStart D) → In o (closed job v k).orders → (q : Save D) → (In q v.saves ⊎ (q ≡ save)) → q.task ≡ o.task → q.j ≤ o.from
      past o i q (inl n) s = r.past o (was o i) q n s
      past o i q (inr f) s =
          let same : o ≡ step.allowed.0 = r.one o step.allowed.0 (was o i) found.0 (sym s ∙ ap (λ (x : Save D). x.task) f) in
          let y : nat_eq k o.number ≡ true = eq-eqb k o.number (found.1 ∙ ap (λ (x : OpenStart D). x.number) (sym same)) in
          let z : not (nat_eq k o.number) ≡ true = kept_test (λ (x : OpenStart D). not (nat_eq k x.number)) o v.orders i in
          let bad : false ≡ true = sym (ap not y) ∙ z in
          cc
  rising_step p v (missed k d loss) r step =
      let a = step.allowed in
      subst Rising (sym (after_missed job laws v k d loss a.0 a.1))
      (fewer v (closed job v k) (λ o i. in_filter (λ (x : OpenStart D). not (nat_eq k x.number)) o v.orders i) (λ q j. j) r.saves r)
  rising_step p v (lost w closes) r step =
      fewer v (after job v (lost w closes)) (λ o i. in_filter (λ (x : OpenStart D). not (nat_eq w x.worker)) o v.orders i)
      (λ q j. in_filter (λ (x : Save D). not (nat_eq w x.worker)) q v.saves j)
      (rises_filter (λ (x : Save D). not (nat_eq w x.worker)) v.saves r.saves) r

  rising_all : (p : Plan) (v : Standing D) (h : List (Event D)) → Rising v → LawfulFrom job p v h → Rising (after_all job v h)
  rising_all p v [] r l = r
  rising_all p v (e ∷ es) r l = rising_all p (after job v e) es (rising_step p v e r l.0) l.1

  pub rising : (p : Plan) (h : List (Event D)) → LawfulFrom job p (before_all job) h → Rising (after_all job (before_all job) h)
  rising p h l = rising_all p (before_all job) h rising_start l
