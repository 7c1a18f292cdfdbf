-- What stands after records as a story keeps it, and what stands after the events that they tell.
use Rattle.std.proofs.Common.{◌≡◌, ◌<◌, ◌+◌, ℕ, List, [], ◌∷◌, ◌++◌, Bool, true, false, not, cond, ◌||◌, nat_eq, nat_lt, Option, Some, None}
use Rattle.std.proofs.Common.{filter, ◌⊎◌, inl, inr, refl, ap, sym, ◌∙◌, subst, arith, eqb-true, eq-eqb}
use Rattle.std.specs.List.{list_any}
use Rattle.std.specs.Ordering.{is_eq, nat_cmp}
use Rattle.std.proofs.lemmas.Bool.Decides.{nat_tests}
use Rattle.std.proofs.lemmas.List.Folds.{list_any-append}
use Rattle.sky_frozen_bytes.specs.Codes.{Fits32}
use Rattle.ciel_journal.specs.Job.{Each, IsJob, Job, Task}
use Rattle.ciel_journal.specs.History.{OpenStart, Save, Standing, after, before_all, better, find_open, last, last_save}
use Rattle.ciel_journal.specs.History.{lost, order_of, same_task, start, wait_number}
use Rattle.ciel_journal.proofs.Booked.{each_more}
use Rattle.ciel_journal.proofs.Good.{each_filter, each_join}
use Rattle.ciel_journal.proofs.Members.{bool_cases}
use Rattle.ciel_journal.proofs.Numbers.{each_at, found_in}
use Rattle.ciel_look_story.specs.Story as story
use Rattle.ciel_look_story.specs.Story.{Stand, closed, is_here, is_out, lose, with_open, with_worker}

-- ---- numbers

number_is : (k : ℕ) → is_eq (nat_cmp k k) ≡ true
number_is k = grind (arith, nat_tests)

number_not : (k q : ℕ) → nat_eq k q ≡ false → is_eq (nat_cmp k q) ≡ false
number_not k q h = grind (arith, nat_tests)

less_not : (k q : ℕ) → q < k → nat_eq k q ≡ false
less_not k q h = grind (arith, nat_tests)

-- ---- workers that are lost

or_false : (a b : Bool) → a ≡ false → b ≡ false → (a || (b || false)) ≡ false
or_false false false h g = refl
or_false false true h g = absurd cc
or_false true b h g = absurd cc

stays_here : (gone : List ℕ) (w u : ℕ) → list_any (nat_eq u) gone ≡ false → nat_eq u w ≡ false → list_any (nat_eq u) (gone ++ w ∷ []) ≡ false
stays_here gone w u h g =
    list_any-append (nat_eq u) gone (w ∷ []) ∙ or_false (list_any (nat_eq u) gone) (nat_eq u w) h g

or_true : (a b c : Bool) → cond a false true ≡ false → (a || c) ≡ true
or_true true b c h = refl
or_true false b c h = absurd cc

or_last : (a b : Bool) → b ≡ true → (a || (b || false)) ≡ true
or_last true b h = refl
or_last false true h = refl
or_last false false h = absurd cc

-- one that isn't here stays so
pub here_less : (gone : List ℕ) (w : ℕ) (o : Option ℕ) → is_here gone o ≡ false → is_here (gone ++ w ∷ []) o ≡ false
here_less gone w None h = refl
here_less gone w (Some u) h =
    ap (λ b. cond b false true)
    (list_any-append (nat_eq u) gone (w ∷ []) ∙ or_true (list_any (nat_eq u) gone) true (list_any (nat_eq u) (w ∷ [])) h)

here_not : (gone : List ℕ) (w : ℕ) → is_here (gone ++ w ∷ []) (Some w) ≡ false
here_not gone w =
    ap (λ b. cond b false true)
    (list_any-append (nat_eq w) gone (w ∷ []) ∙ or_last (list_any (nat_eq w) gone) (nat_eq w w) (eq-eqb w w refl))

flip : (u w : ℕ) → nat_eq w u ≡ false → nat_eq u w ≡ false
flip u w h = grind (arith, nat_tests)

not_true : (b : Bool) → not b ≡ true → b ≡ false
not_true false h = refl
not_true true h = absurd cc

not_false : (b : Bool) → not b ≡ false → b ≡ true
not_false true h = refl
not_false false h = absurd cc

each_kept : {A : Type 0} (P Q : A → Type 0) (p : A → Bool) → ((x : A) → P x → p x ≡ true → Q x) → (xs : List A) → Each P xs
    → Each Q (filter p xs)
each_kept P Q p f [] h = tt
each_kept P Q p f (x ∷ xs) h = pick (p x) refl (each_kept P Q p f xs h.1)
  where
    pick : (b : Bool) → p x ≡ b → Each Q (filter p xs) → Each Q (cond b (x ∷ filter p xs) (filter p xs))
    pick true e r = (f x h.0 e, r)
    pick false e r = r

module _ {D : Type 0} (job : Job D) (laws : IsJob job) where
  -- ---- the open Start of a number

  each_found : (P : OpenStart D → Type 0) (os : List (OpenStart D)) → Each P os → (k : ℕ) (o : OpenStart D) → find_open job k os ≡ Some o
      → P o × (k ≡ o.number)
  each_found P os h k o e = let f = found_in job laws k os o e in (each_at P o os f.0 h, f.1)

  -- where none is found behind one more
  none_more : (k : ℕ) (os : List (OpenStart D)) (o : OpenStart D) → find_open job k (os ++ o ∷ []) ≡ None
      → (find_open job k os ≡ None) × (nat_eq k o.number ≡ false)
  none_more k [] o h = pick (bool_cases (nat_eq k o.number))
    where
      pick : ((nat_eq k o.number ≡ true) ⊎ (nat_eq k o.number ≡ false)) → (find_open job k [] ≡ None) × (nat_eq k o.number ≡ false)
      pick (inl t) = let s : Some o ≡ None = sym (ap (λ b. cond b (Some o) None) t) ∙ h in absurd cc
      pick (inr f) = (refl, f)
  none_more k (q ∷ qs) o h = pick (bool_cases (nat_eq k q.number)) (none_more k qs o)
    where
      pick : ((nat_eq k q.number ≡ true) ⊎ (nat_eq k q.number ≡ false))
          → (find_open job k (qs ++ o ∷ []) ≡ None → (find_open job k qs ≡ None) × (nat_eq k o.number ≡ false))
          → (find_open job k (q ∷ qs) ≡ None) × (nat_eq k o.number ≡ false)
      pick (inl t) r = let s : Some q ≡ None = sym (ap (λ b. cond b (Some q) (find_open job k (qs ++ o ∷ []))) t) ∙ h in absurd cc
      pick (inr f) r =
          let m = r (sym (ap (λ b. cond b (Some q) (find_open job k (qs ++ o ∷ []))) f) ∙ h) in
          (ap (λ b. cond b (Some q) (find_open job k qs)) f ∙ m.0, m.1)

  -- one that is found passes no test where none is found among those that do
  none_kept : (p : OpenStart D → Bool) (k : ℕ) (os : List (OpenStart D)) (o : OpenStart D) → find_open job k (filter p os) ≡ None
      → find_open job k os ≡ Some o → p o ≡ false
  none_kept p k [] o h e = absurd cc
  none_kept p k (q ∷ qs) o h e = pick (bool_cases (nat_eq k q.number)) (bool_cases (p q)) (none_kept p k qs o)
    where
      found : find_open job k (cond (p q) (q ∷ filter p qs) (filter p qs)) ≡ None
      found = h

      pick : ((nat_eq k q.number ≡ true) ⊎ (nat_eq k q.number ≡ false)) → ((p q ≡ true) ⊎ (p q ≡ false))
          → (find_open job k (filter p qs) ≡ None → find_open job k qs ≡ Some o → p o ≡ false) → p o ≡ false
      pick (inl t) (inl y) r =
          let s : find_open job k (q ∷ filter p qs) ≡ None = subst (λ b. find_open job k (cond b (q ∷ filter p qs) (filter p qs)) ≡ None) y found in
          let u : Some q ≡ None = sym (ap (λ b. cond b (Some q) (find_open job k (filter p qs))) t) ∙ s in absurd cc
      pick (inl t) (inr n) r =
          let s : Some q ≡ Some o = sym (ap (λ b. cond b (Some q) (find_open job k qs)) t) ∙ e in
          let w : q ≡ o = cc in sym (ap p w) ∙ n
      pick (inr f) (inl y) r =
          let s : find_open job k (q ∷ filter p qs) ≡ None = subst (λ b. find_open job k (cond b (q ∷ filter p qs) (filter p qs)) ≡ None) y found in
          r (sym (ap (λ b. cond b (Some q) (find_open job k (filter p qs))) f) ∙ s) (sym (ap (λ b. cond b (Some q) (find_open job k qs)) f) ∙ e)
      pick (inr f) (inr n) r =
          let s : find_open job k (filter p qs) ≡ None = subst (λ b. find_open job k (cond b (q ∷ filter p qs) (filter p qs)) ≡ None) n found in
          r s (sym (ap (λ b. cond b (Some q) (find_open job k qs)) f) ∙ e)

  -- ---- both

  -- it has another number
  abbrev pub other : ℕ → OpenStart D → Bool
  other k o = not (nat_eq k o.number)

  -- an open Start is out, at its worker, which isn't lost
  abbrev pub Holds : Stand → List ℕ → OpenStart D → Type 0
  Holds v gone o = (v.worker_of o.number ≡ Some o.worker) × (list_any (nat_eq o.worker) gone ≡ false)

  pub record Agrees (v : Stand) (m : Standing D) : Type 0 where
    pub closes : v.closes ≡ m.closes
    pub gone : v.gone ≡ m.gone
    pub over : v.over ≡ m.over
    pub below : Each (λ (o : OpenStart D). o.number < m.starts) m.orders
    pub here : Each (Holds v m.gone) m.orders
    pub free : (k : ℕ) → find_open job k m.orders ≡ None → is_out v k ≡ false
    pub waits : Each (λ (s : Save D). Fits32 s.j) m.saves

  pub agrees_first : Agrees story.before_all (before_all job)
  agrees_first =
      record { closes = refl; gone = refl; over = refl; below = tt; here = tt; free = λ k e. refl; waits = tt }

  -- ---- what is out

  pub number_below : (v : Stand) (m : Standing D) → Agrees v m → (k : ℕ) (o : OpenStart D) → find_open job k m.orders ≡ Some o → k < m.starts
  number_below v m a k o e =
      let f = each_found (λ (x : OpenStart D). x.number < m.starts) m.orders a.below k o e in
      subst (λ n. n < m.starts) (sym f.1) f.0

  worker_there : (v : Stand) (m : Standing D) → Agrees v m → (k : ℕ) (o : OpenStart D) → find_open job k m.orders ≡ Some o
      → (v.worker_of k ≡ Some o.worker) × (list_any (nat_eq o.worker) m.gone ≡ false)
  worker_there v m a k o e =
      let f = each_found (Holds v m.gone) m.orders a.here k o e in (ap v.worker_of f.1 ∙ f.0.0, f.0.1)

  pub out_there : (v : Stand) (m : Standing D) → Agrees v m → (k : ℕ) (o : OpenStart D) → find_open job k m.orders ≡ Some o → is_out v k ≡ true
  out_there v m a k o e =
      let f = worker_there v m a k o e in
      ap (is_here v.gone) f.0
      ∙ (ap (λ g. cond (list_any (nat_eq o.worker) g) false true) a.gone ∙ ap (λ b. cond b false true) f.1)

  -- the wait that a task goes on from
  last_fits : (t : Task D) (ss : List (Save D)) → Each (λ (s : Save D). Fits32 s.j) ss → Fits32 (wait_number job (last_save job t ss))
  last_fits t [] h = omega arith
  last_fits t (s ∷ ss) h = pick (same_task job t s.task) (last_save job t ss) (last_fits t ss h.1)
    where
      pick : (b : Bool) (o : Option (Save D)) → Fits32 (wait_number job o) → Fits32 (wait_number job (cond b (better job s o) o))
      pick true None r = h.0
      pick true (Some q) r = choose (nat_lt q.j s.j)
        where
          choose : (c : Bool) → Fits32 (wait_number job (cond c (Some s) (Some q)))
          choose true = h.0
          choose false = r
      pick false o r = r

  pub from_fits : (v : Stand) (m : Standing D) → Agrees v m → (t : Task D) → Fits32 (last job m t)
  from_fits v m a t = last_fits t m.saves a.waits

  -- ---- one event more

  pub agrees_start : (v : Stand) (m : Standing D) → Agrees v m → (k w : ℕ) (t : Task D) (from : ℕ) → k ≡ m.starts
      → list_any (nat_eq w) m.gone ≡ false → Agrees (with_open v k w) (after job m (start k w t from))
  agrees_start v m a k w t from n h =
      record {
        closes = a.closes;
        gone = a.gone;
        over = a.over;
        below = each_join (λ (o : OpenStart D). o.number < m.starts + 1) m.orders (order_of job m k w t from ∷ [])
            (each_more (λ (o : OpenStart D). o.number < m.starts) (λ (o : OpenStart D). o.number < m.starts + 1) (λ o l. omega (arith, l))
            m.orders a.below)
            (omega (arith, n), tt);
        here = each_join (Holds (with_open v k w) m.gone) m.orders (order_of job m k w t from ∷ []) (both m.orders a.below a.here)
            ((ap (λ b. cond b (Some w) (v.worker_of k)) (number_is k), h), tt);
        free = λ q e. let f = none_more q m.orders (order_of job m k w t from) e in
            ap (λ b. is_here v.gone (cond b (Some w) (v.worker_of q))) (number_not k q (flip k q f.1)) ∙ a.free q f.0;
        waits = a.waits;
      }
    where
      both : (os : List (OpenStart D)) → Each (λ (o : OpenStart D). o.number < m.starts) os → Each (Holds v m.gone) os
          → Each (Holds (with_open v k w) m.gone) os
      both [] b c = tt
      both (o ∷ os) b c =
          let l : o.number < k = let l = b.0 in omega (arith, l, n) in (
            (ap (λ x. cond x (Some w) (v.worker_of o.number)) (number_not k o.number (less_not k o.number l)) ∙ c.0.0, c.0.1),
            both os b.1 c.1,
          )

  pub agrees_closed : (v : Stand) (m u : Standing D) (k : ℕ) (shown : Bool) → Agrees v m
      → u.orders ≡ filter (λ (o : OpenStart D). not (nat_eq k o.number)) m.orders → u.starts ≡ m.starts → u.closes ≡ m.closes + 1
      → u.gone ≡ m.gone → (v.over || shown) ≡ u.over → Each (λ (s : Save D). Fits32 s.j) u.saves → Agrees (closed v k shown) u
  agrees_closed v m u k shown a orders starts closes gone over waits =
      record {
        closes = ap (λ n. n + 1) a.closes ∙ sym closes;
        gone = a.gone ∙ sym gone;
        over = over;
        below = subst (λ os. Each (λ (o : OpenStart D). o.number < u.starts) os) (sym orders)
            (subst (λ n. Each (λ (o : OpenStart D). o.number < n) (filter (other k) m.orders)) (sym starts)
            (each_filter (λ (o : OpenStart D). o.number < m.starts) (other k) m.orders a.below));
        here = subst (λ os. Each (Holds (closed v k shown) u.gone) os) (sym orders)
            (subst (λ g. Each (Holds (closed v k shown) g) (filter (other k) m.orders)) (sym gone)
            (each_kept (Holds v m.gone) (Holds (closed v k shown) m.gone) (other k) still m.orders a.here));
        free = λ q e. none q (bool_cases (nat_eq k q)) (subst (λ os. find_open job q os ≡ None) orders e);
        waits = waits;
      }
    where
      still : (o : OpenStart D) → Holds v m.gone o → other k o ≡ true → Holds (closed v k shown) m.gone o
      still o h e =
          (ap (λ x. cond x None (v.worker_of o.number)) (number_not k o.number (not_true (nat_eq k o.number) e)) ∙ h.0, h.1)

      none : (q : ℕ) → ((nat_eq k q ≡ true) ⊎ (nat_eq k q ≡ false)) → find_open job q (filter (other k) m.orders) ≡ None
          → is_out (closed v k shown) q ≡ false
      none q (inl t) e =
          let s : k ≡ q = eqb-true k q t in
          ap (λ x. is_here v.gone (cond x None (v.worker_of q))) (ap (λ z. is_eq (nat_cmp k z)) (sym s) ∙ number_is k)
      none q (inr f) e =
          ap (λ x. is_here v.gone (cond x None (v.worker_of q))) (number_not k q f) ∙ looked (find_open job q m.orders) refl
        where
          looked : (x : Option (OpenStart D)) → find_open job q m.orders ≡ x → is_out v q ≡ false
          looked None g = a.free q g
          looked (Some o) g =
              let n = each_found (λ (y : OpenStart D). y.number < m.starts) m.orders a.below q o g in
              let r : nat_eq k o.number ≡ true = not_false (nat_eq k o.number) (none_kept (other k) q m.orders o e g) in
              let bad : nat_eq k q ≡ true = ap (nat_eq k) n.1 ∙ r in absurd cc

  pub agrees_lost : (v : Stand) (m : Standing D) → Agrees v m → (w closes : ℕ) → Agrees (lose v w) (after job m (lost w closes))
  agrees_lost v m a w closes =
      record {
        closes = a.closes;
        gone = ap (λ g. g ++ w ∷ []) a.gone;
        over = a.over;
        below = each_filter (λ (o : OpenStart D). o.number < m.starts) (λ (o : OpenStart D). not (nat_eq w o.worker)) m.orders a.below;
        here = each_kept (Holds v m.gone) (Holds (lose v w) (m.gone ++ w ∷ [])) (λ (o : OpenStart D). not (nat_eq w o.worker))
            (λ o h e. (h.0, stays_here m.gone w o.worker h.1 (flip o.worker w (not_true (nat_eq w o.worker) e)))) m.orders a.here;
        free = λ q e. looked q e (find_open job q m.orders) refl;
        waits = each_filter (λ (s : Save D). Fits32 s.j) (λ (s : Save D). not (nat_eq w s.worker)) m.saves a.waits;
      }
    where
      looked : (q : ℕ) → find_open job q (filter (λ (o : OpenStart D). not (nat_eq w o.worker)) m.orders) ≡ None → (x : Option (OpenStart D))
          → find_open job q m.orders ≡ x → is_out (lose v w) q ≡ false
      looked q e None g = here_less v.gone w (v.worker_of q) (a.free q g)
      looked q e (Some o) g =
          let t : not (nat_eq w o.worker) ≡ false = none_kept (λ (y : OpenStart D). not (nat_eq w y.worker)) q m.orders o e g in
          let s : w ≡ o.worker = eqb-true w o.worker (not_false (nat_eq w o.worker) t) in
          let f = worker_there v m a q o g in
          ap (is_here (v.gone ++ w ∷ [])) (f.0 ∙ ap Some (sym s)) ∙ here_not v.gone w
