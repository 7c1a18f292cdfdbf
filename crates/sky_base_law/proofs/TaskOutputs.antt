-- Which task makes a description and what a task makes fit together; no description stands twice in a list of distinct ones.
use Rattle.sky_base.specs.Val as v
use Rattle.std.proofs.Common.{◌≡◌, ℕ, zero, suc, ◌+◌, ◌<◌, ◌≤◌, List, [], ◌∷◌, Some, None, Bool, true, false, ◌||◌, nat_lt, Contains, ◌⊎◌, inl, inr}
use Rattle.std.proofs.Common.{refl, sym, ap, ◌∙◌, subst, arith, ltb-true, lt-ltb}
use Rattle.sky_base.specs.Val.{call, out, input, known, refs, same_desc, stands_in, unless_in, distinct_from, distinct}
use Rattle.sky_base.specs.Eval.{outputs}
use Rattle.sky_base.specs.See.{Val, Desc}
use Rattle.sky_base.specs.Needed.{Task, task_of, distinct_refs, only_if}
use Rattle.sky_base_law.specs.Tasks.{In, Each, Apart, same, maker, outputs_of}
use Rattle.sky_base.proofs.Exact.{exact_desc, self_desc}
use Rattle.sky_base_law.proofs.Lists.{some_is, none_some}

module _ {A : Type 0} where
  pub in_contains : (d : A) (ds : List A) → Contains ds d → In d ds
  in_contains d [] (k, lt, e) = absurd (omega arith)
  in_contains d (x ∷ xs) (zero, lt, e) = inl (sym e)
  in_contains d (x ∷ xs) (suc k, lt, e) = inr (in_contains d xs (k, omega arith, e))

  pub contains_in : (d : A) (ds : List A) → In d ds → Contains ds d
  contains_in d (x ∷ xs) (inl e) = (0, omega arith, sym e)
  contains_in d (x ∷ xs) (inr h) = further (contains_in d xs h)
    where
      further : Contains xs d → Contains (x ∷ xs) d
      further (k, lt, e) = (suc k, omega arith, e)
  contains_in d [] h = absurd h

  pub each_in : (P : A → Type 0) (ds : List A) → ((d : A) → In d ds → P d) → Each P ds
  each_in P [] h = tt
  each_in P (d ∷ ds) h = (h d (inl refl), each_in P ds (λ e i. h e (inr i)))

  pub in_each : (P : A → Type 0) (ds : List A) (d : A) → Each P ds → In d ds → P d
  in_each P [] d h i = absurd i
  in_each P (e ∷ es) d h (inl q) = subst P (sym q) h.0
  in_each P (e ∷ es) d h (inr i) = in_each P es d h.1 i

-- ---- the test whether two descriptions are equal

pub same_refl : (d : Desc) → same d d ≡ true
same_refl d = self_desc (λ a b. true) (λ b. absurd b) d

pub same_exact : (d e : Desc) → same d e ≡ true → d ≡ e
same_exact d e h = exact_desc (λ a b. true) (λ b c h. absurd b) d e h

-- ---- tasks and their outputs

in_outputs : (x : List ℕ) (a : Val) (n m j k i : ℕ) → i ≡ k + j → k < m → In (out x a n i) (outputs x a n j m)
in_outputs x a n zero j k i e lt = absurd (omega arith)
in_outputs x a n (suc m) j zero i e lt = inl (ap (out x a n) (omega arith))
in_outputs x a n (suc m) j (suc k) i e lt = inr (in_outputs x a n m (suc j) k i (omega arith) (omega arith))

out_of : (x : List ℕ) (a : Val) (n m j : ℕ) (d : Desc) → In d (outputs x a n j m) → (i : ℕ) × (j ≤ i) × (i < j + m) × (d ≡ out x a n i)
out_of x a n zero j d h = absurd h
out_of x a n (suc m) j d (inl e) = (j, omega arith, omega arith, e)
out_of x a n (suc m) j d (inr h) = further (out_of x a n m (suc j) d h)
  where
    further : (i : ℕ) × (suc j ≤ i) × (i < suc j + m) × (d ≡ out x a n i) → (i : ℕ) × (j ≤ i) × (i < j + suc m) × (d ≡ out x a n i)
    further (i, le, lt, e) = (i, omega arith, omega arith, e)

-- a description is among the outputs of its task
pub made_by : (d : Desc) (t : Task) → maker d ≡ Some t → In d (outputs_of t)
made_by (call f c vs) t e = subst (λ u. In (call f c vs) (outputs_of u)) (some_is _ t e) (inl refl)
made_by (out x a n i) t e = go (nat_lt i n) refl e
  where
    go : (b : Bool) → nat_lt i n ≡ b → only_if b (Some (Task.of (out x a n 0))) ≡ Some t → In (out x a n i) (outputs_of t)
    go true lt is = subst (λ u. In (out x a n i) (outputs_of u)) (some_is _ t is) (in_outputs x a n n 0 i i (omega arith) (ltb-true i n lt))
    go false lt is = absurd (none_some t is)
made_by (input k) t e = absurd (none_some t e)
made_by (known b) t e = absurd b

-- each output of a task is of this task
pub makes : (d : Desc) (t : Task) → In d (outputs_of t) → maker d ≡ Some t
makes d Task.show h = absurd h
makes d (Task.of (call f c vs)) (inl e) = ap maker e
makes d (Task.of (call f c vs)) (inr h) = absurd h
makes d (Task.of (out x a n zero)) h = go (out_of x a n n 0 d h)
  where
    go : (i : ℕ) × (0 ≤ i) × (i < 0 + n) × (d ≡ out x a n i) → maker d ≡ Some (Task.of (out x a n 0))
    go (i, le, lt, e) = ap maker e ∙ ap (λ b. only_if b (Some (Task.of (out x a n 0)))) (lt-ltb i n (omega arith))
makes d (Task.of (out x a n (suc i))) h = absurd h
makes d (Task.of (input k)) h = absurd h
makes d (Task.of (known b)) h = absurd b

-- an output whose index isn't below the number of outputs is of no task
pub no_maker : (x : List ℕ) (a : Val) (n i : ℕ) → n ≤ i → maker (out x a n i) ≡ None
no_maker x a n i le = go (nat_lt i n) refl
  where
    go : (b : Bool) → nat_lt i n ≡ b → only_if b (Some (Task.of (out x a n 0))) ≡ None
    go true lt = let h : i < n = ltb-true i n lt in absurd (omega arith)
    go false lt = refl

-- a task that makes a description is the one that it names
pub maker_is : (d : Desc) (t : Task) → maker d ≡ Some t → task_of d ≡ Some t
maker_is (call f c vs) t e = e
maker_is (out x a n i) t e = go (nat_lt i n) e
  where
    go : (b : Bool) → only_if b (Some (Task.of (out x a n 0))) ≡ Some t → Some (Task.of (out x a n 0)) ≡ Some t
    go true is = is
    go false is = absurd (none_some t is)
maker_is (input k) t e = e
maker_is (known b) t e = absurd b

pub outputs_apart : (x : List ℕ) (a : Val) (n m j : ℕ) → Apart (outputs x a n j m)
outputs_apart x a n zero j = tt
outputs_apart x a n (suc m) j = (λ h. later (out_of x a n m (suc j) (out x a n j) h), outputs_apart x a n m (suc j))
  where
    same_index : (i k : ℕ) → out x a n i ≡ out x a n k → i ≡ k
    same_index i k e = cc

    later : (i : ℕ) × (suc j ≤ i) × (i < suc j + m) × (out x a n j ≡ out x a n i) → ⊥
    later (i, le, lt, e) = let q : j ≡ i = same_index j i e in omega arith

-- the outputs of a task are distinct
pub apart_outputs : (t : Task) → Apart (outputs_of t)
apart_outputs Task.show = tt
apart_outputs (Task.of (call f c vs)) = (λ h. h, tt)
apart_outputs (Task.of (out x a n zero)) = outputs_apart x a n n 0
apart_outputs (Task.of (out x a n (suc i))) = tt
apart_outputs (Task.of (input k)) = tt
apart_outputs (Task.of (known b)) = absurd b

-- ---- distinct descriptions

module _ {N : Type 0} (same_known : N → N → Bool) (exact_known : (b c : N) → same_known b c ≡ true → b ≡ c)
    (self_known : (b : N) → same_known b b ≡ true) where
  or_either : {P : Type 0} (a b : Bool) → a || b ≡ true → (a ≡ true → P) → (b ≡ true → P) → P
  or_either true b e f g = f refl
  or_either false b e f g = g e

  or_first : (a b : Bool) → a ≡ true → a || b ≡ true
  or_first true b e = refl
  or_first false b e = absurd cc

  or_second : (a b : Bool) → b ≡ true → a || b ≡ true
  or_second true b e = refl
  or_second false b e = e

  -- the test whether a description stands in a list is exact
  pub stands_exact : (d : v.Desc N) (ds : List (v.Desc N)) → stands_in same_known d ds ≡ true → In d ds
  stands_exact d [] h = absurd cc
  stands_exact d (e ∷ es) h =
      or_either (same_desc same_known d e) (stands_in same_known d es) h (λ q. inl (exact_desc same_known exact_known d e q))
      (λ q. inr (stands_exact d es q))

  pub stands_true : (d : v.Desc N) (ds : List (v.Desc N)) → In d ds → stands_in same_known d ds ≡ true
  stands_true d [] h = absurd h
  stands_true d (e ∷ es) (inl q) =
      or_first _ _ (subst (λ x. same_desc same_known d x ≡ true) q (self_desc same_known self_known d))
  stands_true d (e ∷ es) (inr h) = or_second (same_desc same_known d e) _ (stands_true d es h)

  both_answers : (b : Bool) → b ≡ false → b ≡ true → ⊥
  both_answers true e f = cc
  both_answers false e f = cc

  -- what stands in a list once equal ones were left out is of the list, and not of those before
  kept_in : (before ds : List (v.Desc N)) (d : v.Desc N) → In d (distinct_from same_known before ds) → In d ds × (In d before → ⊥)
  kept_in before [] d h = absurd h
  kept_in before (e ∷ es) d h = go (λ i. kept_in (e ∷ before) es d i) (stands_in same_known e before) refl h
    where
      less : In d es × (In d (e ∷ before) → ⊥) → In d (e ∷ es) × (In d before → ⊥)
      less (i, n) = (inr i, λ j. n (inr j))

      go : (In d (distinct_from same_known (e ∷ before) es) → In d es × (In d (e ∷ before) → ⊥)) → (b : Bool) → stands_in same_known e before ≡ b
          → In d (unless_in same_known b e (distinct_from same_known (e ∷ before) es)) → In d (e ∷ es) × (In d before → ⊥)
      go p true s i = less (p i)
      go p false s (inl q) = (inl q, λ j. both_answers (stands_in same_known e before) s (stands_true e before (subst (λ x. In x before) q j)))
      go p false s (inr i) = less (p i)

  in_kept : (before ds : List (v.Desc N)) (d : v.Desc N) → In d ds → In d before ⊎ In d (distinct_from same_known before ds)
  in_kept before [] d h = absurd h
  in_kept before (e ∷ es) d h = go (λ i. in_kept (e ∷ before) es d i) (stands_in same_known e before) refl h
    where
      go : (In d es → In d (e ∷ before) ⊎ In d (distinct_from same_known (e ∷ before) es)) → (b : Bool) → stands_in same_known e before ≡ b
          → In d (e ∷ es) → In d before ⊎ In d (unless_in same_known b e (distinct_from same_known (e ∷ before) es))
      go p true s (inl q) = inl (subst (λ x. In x before) (sym q) (stands_exact e before s))
      go p true s (inr i) = past (p i)
        where
          past : In d (e ∷ before) ⊎ In d (distinct_from same_known (e ∷ before) es) → In d before ⊎ In d (distinct_from same_known (e ∷ before) es)
          past (inl (inl q)) = inl (subst (λ x. In x before) (sym q) (stands_exact e before s))
          past (inl (inr j)) = inl j
          past (inr j) = inr j
      go p false s (inl q) = inr (inl q)
      go p false s (inr i) = past (p i)
        where
          past : In d (e ∷ before) ⊎ In d (distinct_from same_known (e ∷ before) es) → In d before
              ⊎ In d (e ∷ distinct_from same_known (e ∷ before) es)
          past (inl (inl q)) = inr (inl q)
          past (inl (inr j)) = inl j
          past (inr j) = inr (inr j)

  apart_from : (before ds : List (v.Desc N)) → Apart (distinct_from same_known before ds)
  apart_from before [] = tt
  apart_from before (e ∷ es) = go (apart_from (e ∷ before) es) (stands_in same_known e before)
    where
      go : Apart (distinct_from same_known (e ∷ before) es) → (b : Bool) → Apart (unless_in same_known b e (distinct_from same_known (e ∷ before) es))
      go a true = a
      go a false = (λ i. (kept_in (e ∷ before) es e i).1 (inl refl), a)

  -- no description stands twice
  pub distinct_apart : (ds : List (v.Desc N)) → Apart (distinct same_known ds)
  distinct_apart ds = apart_from [] ds

  -- where none stands twice nothing is left out
  apart_kept : (before ds : List (v.Desc N)) → Apart ds → ((d : v.Desc N) → In d before → In d ds → ⊥) → distinct_from same_known before ds ≡ ds
  apart_kept before [] a new = refl
  apart_kept before (e ∷ es) a new = go (apart_kept (e ∷ before) es a.1 later) (stands_in same_known e before) refl
    where
      later : (d : v.Desc N) → In d (e ∷ before) → In d es → ⊥
      later d (inl q) i = a.0 (subst (λ x. In x es) q i)
      later d (inr j) i = new d j (inr i)

      go : distinct_from same_known (e ∷ before) es ≡ es → (b : Bool) → stands_in same_known e before ≡ b
          → unless_in same_known b e (distinct_from same_known (e ∷ before) es) ≡ e ∷ es
      go q true s = absurd (new e (stands_exact e before s) (inl refl))
      go q false s = ap (λ xs. e ∷ xs) q

  pub apart_distinct : (ds : List (v.Desc N)) → Apart ds → distinct same_known ds ≡ ds
  apart_distinct ds a = apart_kept [] ds a (λ d i j. i)

  -- the same ones stand
  pub distinct_in : (ds : List (v.Desc N)) (d : v.Desc N) → In d (distinct same_known ds) → In d ds
  distinct_in ds d h = (kept_in [] ds d h).0

  pub in_distinct : (ds : List (v.Desc N)) (d : v.Desc N) → In d ds → In d (distinct same_known ds)
  in_distinct ds d h = go (in_kept [] ds d h)
    where
      go : In d [] ⊎ In d (distinct same_known ds) → In d (distinct same_known ds)
      go (inl i) = absurd i
      go (inr i) = i

pub distinct_refs_in : (a : Val) (d : Desc) → In d (distinct_refs a) → In d (refs a)
distinct_refs_in a d h = distinct_in (λ b c. true) (λ b c h. absurd b) (λ b. absurd b) (refs a) d h

pub in_distinct_refs : (a : Val) (d : Desc) → In d (refs a) → In d (distinct_refs a)
in_distinct_refs a d h = in_distinct (λ b c. true) (λ b c h. absurd b) (λ b. absurd b) (refs a) d h

pub distinct_refs_apart : (a : Val) → Apart (distinct_refs a)
distinct_refs_apart a = distinct_apart (λ b c. true) (λ b c h. absurd b) (λ b. absurd b) (refs a)

pub apart_refs : (ds : List Desc) → Apart ds → distinct (λ a b. true) ds ≡ ds
apart_refs ds a = apart_distinct (λ b c. true) (λ b c h. absurd b) (λ b. absurd b) ds a
