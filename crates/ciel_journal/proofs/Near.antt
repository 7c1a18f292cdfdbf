-- Where nothing is open, a task is ready or there is a circle: what reached tasks wait for is among finitely many
-- descriptions, since each saved wait names finitely many, and what a task waits for at first is smaller than what it makes.
use Rattle.std.proofs.Common.{◌≡◌, ℕ, zero, suc, ◌≤◌, ◌<◌, List, [], ◌∷◌, ◌++◌, Bool, true, false, cond, nat_lt, Option, Some, None, ◌⊎◌, inl, inr}
use Rattle.std.proofs.Common.{refl, ap, sym, ◌∙◌, subst, arith}
use Rattle.std.specs.List.{list_any}
use Rattle.ciel_journal.specs.Job.{Task, show, Job, In, Each, IsJob}
use Rattle.ciel_journal.specs.History.{Save, Standing, better, last_save, needs_of, needs, same_task}
use Rattle.ciel_journal.specs.Graph.{root, through}
use Rattle.ciel_journal.specs.Turns.{CircleAtRest, Reached, Ready}
use Rattle.ciel_journal.proofs.Members.{in_any}
use Rattle.ciel_journal.proofs.Numbers.{in_left}
use Rattle.ciel_journal.proofs.ReadyOrCircle.{ready_or_circle}

module _ {A : Type 0} where
  pub in_right : (x : A) (xs ys : List A) → In x ys → In x (xs ++ ys)
  in_right x [] ys i = i
  in_right x (y ∷ xs) ys i = inr (in_right x xs ys i)

  pub in_join : (x : A) (xs ys : List A) → In x (xs ++ ys) → In x xs ⊎ In x ys
  in_join x [] ys i = inr i
  in_join x (y ∷ xs) ys (inl s) = inl (inl s)
  in_join x (y ∷ xs) ys (inr i) = pick (in_join x xs ys i)
    where
      pick : (In x xs ⊎ In x ys) → In x (y ∷ xs) ⊎ In x ys
      pick (inl a) = inl (inr a)
      pick (inr b) = inr b

  abbrev pub spread : (A → List A) → List A → List A
  spread f [] = []
  spread f (e ∷ es) = (e ∷ f e) ++ spread f es

  in_spread : (f : A → List A) (es : List A) (y x : A) → In y es → In x (y ∷ f y) → In x (spread f es)
  in_spread f [] y x i j = absurd i
  in_spread f (e ∷ es) y x (inl s) j = in_left x (e ∷ f e) (spread f es) (subst (λ z. In x (z ∷ f z)) s j)
  in_spread f (e ∷ es) y x (inr i) j = in_right x (e ∷ f e) (spread f es) (in_spread f es y x i j)

  spread_in : (f : A → List A) (es : List A) (x : A) → In x (spread f es) → (y : A) × In y es × In x (y ∷ f y)
  spread_in f [] x i = absurd i
  spread_in f (e ∷ es) x i = pick (in_join x (e ∷ f e) (spread f es) i) (spread_in f es x)
    where
      pick : (In x (e ∷ f e) ⊎ In x (spread f es)) → (In x (spread f es) → (y : A) × In y es × In x (y ∷ f y)) → (y : A) × In y (e ∷ es)
          × In x (y ∷ f y)
      pick (inl a) r = (e, inl refl, a)
      pick (inr b) r = let q = r b in (q.0, inr q.1, q.2)

  pub each_all : (P : A → Type 0) (ds : List A) → ((d : A) → In d ds → P d) → Each P ds
  each_all P [] h = tt
  each_all P (d ∷ ds) h = (h d (inl refl), each_all P ds (λ e i. h e (inr i)))

module _ {D : Type 0} (job : Job D) (laws : IsJob job) where
  abbrev first_if : Option (Task D) → List D
  first_if None = []
  first_if (Some t) = job.first t

  abbrev firsts : D → List D
  firsts d = first_if (job.task_of d)

  not_show : (d : D) → job.task_of d ≡ Some show → ⊥
  not_show d h = subst (In d) laws.outputs_show (laws.made_by d show h)

  firsts_smaller : (d e : D) → In e (firsts d) → laws.size e < laws.size d
  firsts_smaller d e i = pick (job.task_of d) refl i
    where
      pick : (o : Option (Task D)) → job.task_of d ≡ o → In e (first_if o) → laws.size e < laws.size d
      pick None h j = absurd j
      pick (Some t) h j = laws.first_smaller d e t h j (λ z. not_show d (h ∙ ap Some z))

  abbrev below : ℕ → D → List D
  below zero d = []
  below (suc n) d = spread (below n) (firsts d)

  below_closed : (n : ℕ) (x d e : D) → laws.size x ≤ n → In d (x ∷ below n x) → In e (firsts d) → In e (below n x)
  below_closed zero x d e l (inl s) i =
      let a = firsts_smaller x e (subst (λ z. In e (firsts z)) s i) in absurd (omega (arith, l, a))
  below_closed zero x d e l (inr j) i = absurd j
  below_closed (suc n) x d e l (inl s) i =
      in_spread (below n) (firsts x) e e (subst (λ z. In e (firsts z)) s i) (inl refl)
  below_closed (suc n) x d e l (inr j) i =
      let q = spread_in (below n) (firsts x) d j in
      let a = firsts_smaller x q.0 q.1 in
      in_spread (below n) (firsts x) q.0 e q.1 (inr (below_closed n q.0 d e (omega (arith, l, a)) q.2 i))

  abbrev saved_refs : List (Save D) → List D
  saved_refs [] = []
  saved_refs (s ∷ ss) = s.refs ++ saved_refs ss

  -- what a task waits for is named by a saved wait, or is what it waits for at first
  needs_cases : (t : Task D) (ss : List (Save D)) (e : D) → In e (needs_of job t (last_save job t ss)) → In e (saved_refs ss) ⊎ In e (job.first t)
  needs_cases t [] e i = inr i
  needs_cases t (s ∷ ss) e i = pick (same_task job t s.task) (last_save job t ss) (needs_cases t ss e) i
    where
      wide : (In e (saved_refs ss) ⊎ In e (job.first t)) → In e (s.refs ++ saved_refs ss) ⊎ In e (job.first t)
      wide (inl a) = inl (in_right e s.refs (saved_refs ss) a)
      wide (inr b) = inr b

      choose : (c : Bool) (q : Save D) → (In e q.refs → In e (saved_refs ss) ⊎ In e (job.first t))
          → In e (needs_of job t (cond c (Some s) (Some q))) → In e (s.refs ++ saved_refs ss) ⊎ In e (job.first t)
      choose true q r j = inl (in_left e s.refs (saved_refs ss) j)
      choose false q r j = wide (r j)

      pick : (b : Bool) (o : Option (Save D)) → (In e (needs_of job t o) → In e (saved_refs ss) ⊎ In e (job.first t))
          → In e (needs_of job t (cond b (better job s o) o)) → In e (s.refs ++ saved_refs ss) ⊎ In e (job.first t)
      pick true None r j = inl (in_left e s.refs (saved_refs ss) j)
      pick true (Some q) r j = choose (nat_lt q.j s.j) q r j
      pick false o r j = wide (r j)

  module _ (v : Standing D) where
    abbrev roots : List D
    roots = job.main ∷ saved_refs v.saves

    abbrev near : List D
    near = spread (λ r. below (laws.size r) r) roots

    near_root : (e : D) → In e roots → In e near
    near_root e i = in_spread (λ r. below (laws.size r) r) roots e e i (inl refl)

    near_first : (d e : D) → In d near → In e (firsts d) → In e near
    near_first d e i j =
        let q = spread_in (λ r. below (laws.size r) r) roots d i in
        in_spread (λ r. below (laws.size r) r) roots q.0 e q.1 (inr (below_closed (laws.size q.0) q.0 d e (omega arith) q.2 j))

    reached_near : (t : Task D) → Reached job v t → (e : D) → In e (needs job v t) → In e near
    reached_near t root e i = pick (needs_cases show v.saves e i)
      where
        pick : (In e (saved_refs v.saves) ⊎ In e (job.first show)) → In e near
        pick (inl a) = near_root e (inr a)
        pick (inr b) = near_root e (one (subst (In e) laws.first_show b))
          where
            one : In e (job.main ∷ []) → In e (job.main ∷ saved_refs v.saves)
            one (inl s) = inl s
            one (inr i) = absurd i
    reached_near t (through {t = u} r o d i l h) e j = pick (needs_cases t v.saves e j) (reached_near u r d i)
      where
        pick : (In e (saved_refs v.saves) ⊎ In e (job.first t)) → In d near → In e near
        pick (inl a) k = near_root e (inr a)
        pick (inr b) k = near_first d e k (subst (λ o. In e (first_if o)) (sym h) b)

    pub ready_or_round : v.orders ≡ [] → ((t : Task D) × Ready job v t) ⊎ ((ds : List D) × CircleAtRest job v ds)
    ready_or_round none =
        ready_or_circle job laws v none near (λ t r. each_all (λ d. list_any (job.same d) near ≡ true) (needs job v t)
        (λ d i. in_any job.same laws.same_refl d near (reached_near t r d i)))
