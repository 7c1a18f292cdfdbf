-- Each number names at most one open Start.
use Rattle.std.proofs.Common.{◌≡◌, ℕ, ◌+◌, ◌<◌, List, [], ◌∷◌, ◌++◌, Bool, true, false, not, cond, nat_eq, Some, ◌⊎◌, inl, inr, refl, ap, sym, ◌∙◌}
use Rattle.std.proofs.Common.{subst, arith, filter, eqb-true}
use Rattle.ciel_journal.specs.Job.{Each, In, IsJob, Job}
use Rattle.ciel_journal.specs.History.{Event, OpenStart, Plan, Standing, after, after_all, closed, done, done_with, find_open, lost, missed}
use Rattle.ciel_journal.specs.History.{saved, saved_with, start}
use Rattle.ciel_journal.specs.Lawful.{LawfulFrom, Step}
use Rattle.ciel_journal.proofs.Members.{bool_cases}
use Rattle.ciel_journal.proofs.Good.{after_done, after_saved, after_missed, each_join, each_filter}
use Rattle.ciel_journal.proofs.Booked.{each_more}

module _ {A : Type 0} where
  pub in_filter : (p : A → Bool) (x : A) (xs : List A) → In x (filter p xs) → In x xs
  in_filter p x [] i = absurd i
  in_filter p x (y ∷ ys) i = pick (p y) i (in_filter p x ys)
    where
      pick : (b : Bool) → In x (cond b (y ∷ filter p ys) (filter p ys)) → (In x (filter p ys) → In x ys) → In x (y ∷ ys)
      pick true (inl s) r = inl s
      pick true (inr i) r = inr (r i)
      pick false i r = inr (r i)

  pub filter_in : (p : A → Bool) (x : A) (xs : List A) → In x xs → p x ≡ true → In x (filter p xs)
  filter_in p x [] i h = absurd i
  filter_in p x (y ∷ ys) (inl s) h =
      let e : p y ≡ true = subst (λ z. p z ≡ true) s h in
      subst (λ b. In x (cond b (y ∷ filter p ys) (filter p ys))) (sym e) (inl s)
  filter_in p x (y ∷ ys) (inr i) h = pick (p y) (filter_in p x ys i h)
    where
      pick : (b : Bool) → In x (filter p ys) → In x (cond b (y ∷ filter p ys) (filter p ys))
      pick true r = inr r
      pick false r = r

  -- what a filter keeps passes the test
  pub kept_test : (p : A → Bool) (x : A) (xs : List A) → In x (filter p xs) → p x ≡ true
  kept_test p x [] i = absurd i
  kept_test p x (y ∷ ys) i = pick (p y) refl i (kept_test p x ys)
    where
      pick : (b : Bool) → p y ≡ b → In x (cond b (y ∷ filter p ys) (filter p ys)) → (In x (filter p ys) → p x ≡ true) → p x ≡ true
      pick true e (inl s) r = subst (λ z. p z ≡ true) (sym s) e
      pick true e (inr j) r = r j
      pick false e j r = r j

  pub in_left : (x : A) (xs ys : List A) → In x xs → In x (xs ++ ys)
  in_left x [] ys i = absurd i
  in_left x (y ∷ xs) ys (inl s) = inl s
  in_left x (y ∷ xs) ys (inr i) = inr (in_left x xs ys i)

  pub last_in : (xs : List A) (y : A) → In y (xs ++ y ∷ [])
  last_in [] y = inl refl
  last_in (x ∷ xs) y = inr (last_in xs y)

  pub in_last : (x : A) (xs : List A) (y : A) → In x (xs ++ y ∷ []) → In x xs ⊎ (x ≡ y)
  in_last x [] y (inl s) = inr s
  in_last x [] y (inr i) = absurd i
  in_last x (z ∷ zs) y (inl s) = inl (inl s)
  in_last x (z ∷ zs) y (inr i) = pick (in_last x zs y i)
    where
      pick : (In x zs ⊎ (x ≡ y)) → In x (z ∷ zs) ⊎ (x ≡ y)
      pick (inl i) = inl (inr i)
      pick (inr s) = inr s

  pub each_at : (P : A → Type 0) (x : A) (xs : List A) → In x xs → Each P xs → P x
  each_at P x [] i h = absurd i
  each_at P x (y ∷ ys) (inl s) h = subst P (sym s) h.0
  each_at P x (y ∷ ys) (inr i) h = each_at P x ys i h.1

module _ {D : Type 0} (job : Job D) (laws : IsJob job) where
  pub record Numbered (v : Standing D) : Type 0 where
    pub below : Each (λ (o : OpenStart D). o.number < v.starts) v.orders
    pub one : (a b : OpenStart D) → In a v.orders → In b v.orders → a.number ≡ b.number → a ≡ b

  pub found_in : (k : ℕ) (os : List (OpenStart D)) (o : OpenStart D) → find_open job k os ≡ Some o → In o os × (k ≡ o.number)
  found_in k [] o e = cc
  found_in k (q ∷ qs) o e = pick (bool_cases (nat_eq k q.number)) (found_in k qs o)
    where
      pick : ((nat_eq k q.number ≡ true) ⊎ (nat_eq k q.number ≡ false)) → (find_open job k qs ≡ Some o → In o qs × (k ≡ o.number))
          → In o (q ∷ qs) × (k ≡ o.number)
      pick (inl t) r =
          let s : Some q ≡ Some o = sym (ap (λ b. cond b (Some q) (find_open job k qs)) t) ∙ e in
          let w : q ≡ o = cc in (inl (sym w), eqb-true k q.number t ∙ ap (λ (x : OpenStart D). x.number) w)
      pick (inr f) r = let a = r (sym (ap (λ b. cond b (Some q) (find_open job k qs)) f) ∙ e) in (inr a.0, a.1)

  -- an open Start stays, or is the one that is closed
  pub stays : (v : Standing D) (k : ℕ) (o q : OpenStart D) → Numbered v → find_open job k v.orders ≡ Some o → In q v.orders
      → In q (closed job v k).orders ⊎ (q ≡ o)
  stays v k o q n e i = pick (bool_cases (nat_eq k q.number))
    where
      pick : ((nat_eq k q.number ≡ true) ⊎ (nat_eq k q.number ≡ false)) → In q (closed job v k).orders ⊎ (q ≡ o)
      pick (inl t) = let f = found_in k v.orders o e in inr (n.one q o i f.0 (sym (eqb-true k q.number t) ∙ f.1))
      pick (inr g) = inl (filter_in (λ (x : OpenStart D). not (nat_eq k x.number)) q v.orders i (ap not g))

  numbered_filter : (v u : Standing D) (p : OpenStart D → Bool) → Numbered v → u.orders ≡ filter p v.orders → u.starts ≡ v.starts → Numbered u
  numbered_filter v u p n e s =
      record {
        below = subst (Each (λ (o : OpenStart D). o.number < u.starts)) (sym e)
            (subst (λ m. Each (λ (o : OpenStart D). o.number < m) (filter p v.orders)) (sym s)
            (each_filter (λ (o : OpenStart D). o.number < v.starts) p v.orders n.below));
        one = λ a b i j q. n.one a b (in_filter p a v.orders (subst (In a) e i)) (in_filter p b v.orders (subst (In b) e j)) q;
      }

  numbered_start : (v u : Standing D) (o : OpenStart D) → Numbered v → o.number ≡ v.starts → u.orders ≡ v.orders ++ o ∷ [] → u.starts
      ≡ v.starts + 1 → Numbered u
  numbered_start v u o n m e s =
      record {
        below = subst (Each (λ (x : OpenStart D). x.number < u.starts)) (sym e)
            (each_join (λ (x : OpenStart D). x.number < u.starts) v.orders (o ∷ [])
            (each_more (λ (x : OpenStart D). x.number < v.starts) (λ (x : OpenStart D). x.number < u.starts) (λ x h. omega (arith, s)) v.orders
            n.below) (omega (arith, m, s), tt));
        one = λ a b i j q. pick a b (in_last a v.orders o (subst (In a) e i)) (in_last b v.orders o (subst (In b) e j)) q;
      }
    where
      far : (a : OpenStart D) → In a v.orders → a.number ≡ o.number → ⊥
      far a i q = let l = each_at (λ (x : OpenStart D). x.number < v.starts) a v.orders i n.below in omega (arith, l, m, q)

      pick : (a b : OpenStart D) → (In a v.orders ⊎ (a ≡ o)) → (In b v.orders ⊎ (b ≡ o)) → a.number ≡ b.number → a ≡ b
      pick a b (inl i) (inl j) q = n.one a b i j q
      pick a b (inl i) (inr t) q = absurd (far a i (q ∙ ap (λ (x : OpenStart D). x.number) t))
      pick a b (inr t) (inl j) q = absurd (far b j (sym q ∙ ap (λ (x : OpenStart D). x.number) t))
      pick a b (inr t) (inr r) q = t ∙ sym r

  pub numbered_step : (p : Plan) (v : Standing D) (e : Event D) → Numbered v → Step job p v e → Numbered (after job v e)
  numbered_step p v (start k w t from) n s = numbered_start v _ _ n s.allowed.number refl refl
  numbered_step p v (done k made copied spawned) n s =
      let a = s.allowed in subst Numbered (sym (after_done job laws v k made copied spawned a.0 a.1))
      (numbered_filter v (done_with job made copied spawned a.0 (closed job v k)) (λ (x : OpenStart D). not (nat_eq k x.number)) n refl refl)
  numbered_step p v (saved k j mark refs holds spawned) n s =
      let a = s.allowed in subst Numbered (sym (after_saved job laws v k j mark refs holds spawned a.0 a.1))
      (numbered_filter v (saved_with job j refs holds spawned a.0 (closed job v k)) (λ (x : OpenStart D). not (nat_eq k x.number)) n refl
      refl)
  numbered_step p v (missed k d loss) n s =
      let a = s.allowed in subst Numbered (sym (after_missed job laws v k d loss a.0 a.1))
      (numbered_filter v (closed job v k) (λ (x : OpenStart D). not (nat_eq k x.number)) n refl refl)
  numbered_step p v (lost w closes) n s = numbered_filter v (after job v (lost w closes)) (λ (x : OpenStart D). not (nat_eq w x.worker)) n refl refl

  pub numbered_all : (p : Plan) (v : Standing D) (h : List (Event D)) → Numbered v → LawfulFrom job p v h → Numbered (after_all job v h)
  numbered_all p v [] n l = n
  numbered_all p v (e ∷ es) n l = numbered_all p (after job v e) es (numbered_step p v e n l.0) l.1
