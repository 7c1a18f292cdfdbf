-- A test of turns that is computed: what passes it is driven.
use Rattle.std.proofs.Common.{◌≡◌, ℕ, zero, suc, ◌+◌, ◌*◌, ◌%◌, ◌≤◌, ◌<◌, List, [], ◌∷◌, ◌++◌, length, Bool, true, false, not, cond, ◌&&◌, ◌||◌}
use Rattle.std.proofs.Common.{Option, Some, None, slice_get, ◌⊎◌, inl, inr, refl, ap, sym, ◌∙◌, subst, arith, nat_eq, nat_lt, nat_le, filter}
use Rattle.std.proofs.Common.{eqb-true, ltb-true, ltb-false, leb-true, le-leb}
use Rattle.std.specs.List.{list_any}
use Rattle.ciel_journal.specs.Job.{Task, show, Job, In, Each, IsJob, Needed}
use Rattle.ciel_journal.specs.History.{Event, start, done, saved, missed, lost, Plan, Standing, after, is_out, live, needs, same_task}
use Rattle.ciel_journal.specs.Graph.{Picks, root, through}
use Rattle.ciel_journal.specs.Turns.{Chosen, DrivenFrom, FirstDue, IsDue, IsReadyList, NothingDue, due_test, Reached, Ready, Rests, Turn, Undue, draw}
use Rattle.ciel_journal.specs.Turns.{idle, tasks_of}
use Rattle.ciel_journal.proofs.Members.{any_in, in_any, bool_cases}
use Rattle.ciel_journal.proofs.Bound.{task_exact, task_refl}
use Rattle.ciel_journal.proofs.Check.{all_true, parts, not_true, each_passes, passes_each, is_that, that_exact, step_test, step_true}
use Rattle.ciel_journal.proofs.Good.{SavesOk, saves_step}

-- ---- losses

module _ (closes : ℕ) (gone : List ℕ) where
  pub due_is : (losses : List (ℕ × ℕ)) (i k u : ℕ) → IsDue losses closes gone i k u → due_test closes gone (k, u) ≡ true
  due_is losses i k u d =
      let a : nat_le k closes ≡ true = le-leb k closes d.reached in
      let b : not (list_any (nat_eq u) gone) ≡ true = ap not d.here in
      ap (λ c. c && not (list_any (nat_eq u) gone)) a ∙ b

  pub is_due : (losses : List (ℕ × ℕ)) (i k u : ℕ) → slice_get losses i ≡ Some (k, u) → due_test closes gone (k, u) ≡ true
      → IsDue losses closes gone i k u
  is_due losses i k u g h =
      let q = both (nat_le k closes) (not (list_any (nat_eq u) gone)) h in
      record { planned = g; reached = leb-true k closes q.0; here = not_true _ q.1 }
    where
      both : (b c : Bool) → b && c ≡ true → (b ≡ true) × (c ≡ true)
      both true c e = (refl, e)
      both false c e = cc

  -- the place and the loss that is first among those that are due
  abbrev pub better_due : Bool → ℕ × ℕ → Option (ℕ × (ℕ × ℕ)) → Option (ℕ × (ℕ × ℕ))
  better_due false x None = None
  better_due false x (Some y) = Some (suc y.0, y.1)
  better_due true x None = Some (0, x)
  better_due true x (Some y) = cond (nat_lt y.1.0 x.0) (Some (suc y.0, y.1)) (Some (0, x))

  abbrev pub pick_due : List (ℕ × ℕ) → Option (ℕ × (ℕ × ℕ))
  pick_due [] = None
  pick_due (x ∷ xs) = better_due (due_test closes gone x) x (pick_due xs)

  abbrev pub DueIs : List (ℕ × ℕ) → Option (ℕ × (ℕ × ℕ)) → Type 0
  DueIs losses None = NothingDue losses closes gone
  DueIs losses (Some x) =
      (f : FirstDue losses closes gone x.0 x.1.1) × (f.count ≡ x.1.0)

  nothing_more : (x : ℕ × ℕ) (xs : List (ℕ × ℕ)) → due_test closes gone x ≡ false → NothingDue xs closes gone → NothingDue (x ∷ xs) closes gone
  nothing_more x xs h n zero k u d =
      let e : Some x ≡ Some (k, u) = d.planned in
      let s : x ≡ (k, u) = some_inj e in
      let t : due_test closes gone x ≡ true = subst (λ z. due_test closes gone z ≡ true) (sym s) (due_is (x ∷ xs) zero k u d) in
      let bad : true ≡ false = sym t ∙ h in cc
    where
      some_inj : {a b : ℕ × ℕ} → Some a ≡ Some b → a ≡ b
      some_inj e = cc
  nothing_more x xs h n (suc i) k u d = n i k u (record { planned = d.planned; reached = d.reached; here = d.here })

  later_due : (x : ℕ × ℕ) (xs : List (ℕ × ℕ)) (i k u : ℕ) → IsDue (x ∷ xs) closes gone (suc i) k u → IsDue xs closes gone i k u
  later_due x xs i k u d = record { planned = d.planned; reached = d.reached; here = d.here }

  due_later : (x : ℕ × ℕ) (xs : List (ℕ × ℕ)) (i k u : ℕ) → IsDue xs closes gone i k u → IsDue (x ∷ xs) closes gone (suc i) k u
  due_later x xs i k u d = record { planned = d.planned; reached = d.reached; here = d.here }

  pair_of : (x : ℕ × ℕ) (k u : ℕ) → Some x ≡ Some (k, u) → (x.0 ≡ k) × (x.1 ≡ u)
  pair_of x k u e =
      let s : x ≡ (k, u) = some_inj e in (ap (λ (z : ℕ × ℕ). z.0) s, ap (λ (z : ℕ × ℕ). z.1) s)
    where
      some_inj : {a b : ℕ × ℕ} → Some a ≡ Some b → a ≡ b
      some_inj e = cc

  pub pick_true : (losses : List (ℕ × ℕ)) → DueIs losses (pick_due losses)
  pick_true [] = λ i k u d. let e = d.planned in cc
  pick_true (x ∷ xs) = choose (due_test closes gone x) refl (pick_due xs) (pick_true xs)
    where
      skip : due_test closes gone x ≡ false → (y : ℕ × (ℕ × ℕ)) → DueIs xs (Some y) → DueIs (x ∷ xs) (Some (suc y.0, y.1))
      skip h y f =
          (record { count = f.0.count; due = due_later x xs y.0 f.0.count y.1.1 f.0.due; least = least }, f.1)
        where
          least : (i k u : ℕ) → IsDue (x ∷ xs) closes gone i k u → (f.0.count < k) ⊎ ((f.0.count ≡ k) × (suc y.0 ≤ i))
          least zero k u d =
              let e = pair_of x k u d.planned in
              let t : due_test closes gone x ≡ true = subst (λ z. due_test closes gone z ≡ true) (back e.0 e.1) (due_is (x ∷ xs) zero k u d) in
              let bad : true ≡ false = sym t ∙ h in cc
            where
              back : x.0 ≡ k → x.1 ≡ u → (k, u) ≡ x
              back a b = ap (λ z. (z, u)) (sym a) ∙ ap (λ z. (x.0, z)) (sym b)
          least (suc i) k u d = turn (f.0.least i k u (later_due x xs i k u d))
            where
              turn : ((f.0.count < k) ⊎ ((f.0.count ≡ k) × (y.0 ≤ i))) → (f.0.count < k) ⊎ ((f.0.count ≡ k) × (suc y.0 ≤ suc i))
              turn (inl a) = inl a
              turn (inr a) = let b = a.1 in inr (a.0, omega (arith, b))

      first : due_test closes gone x ≡ true → ((i k u : ℕ) → IsDue xs closes gone i k u → x.0 ≤ k) → DueIs (x ∷ xs) (Some (0, x))
      first h n = (record { count = x.0; due = is_due (x ∷ xs) 0 x.0 x.1 refl h; least = least }, refl)
        where
          least : (i k u : ℕ) → IsDue (x ∷ xs) closes gone i k u → (x.0 < k) ⊎ ((x.0 ≡ k) × (0 ≤ i))
          least zero k u d = inr ((pair_of x k u d.planned).0, omega arith)
          least (suc i) k u d = cases x.0 k (n i k u (later_due x xs i k u d))
            where
              cases : (a b : ℕ) → a ≤ b → (a < b) ⊎ ((a ≡ b) × (0 ≤ suc i))
              cases a b l = grind arith

      other : due_test closes gone x ≡ true → (y : ℕ × (ℕ × ℕ)) → nat_lt y.1.0 x.0 ≡ true → DueIs xs (Some y) → DueIs (x ∷ xs) (Some (suc y.0, y.1))
      other h y lt f =
          (record { count = f.0.count; due = due_later x xs y.0 f.0.count y.1.1 f.0.due; least = least }, f.1)
        where
          least : (i k u : ℕ) → IsDue (x ∷ xs) closes gone i k u → (f.0.count < k) ⊎ ((f.0.count ≡ k) × (suc y.0 ≤ i))
          least zero k u d =
              let e = (pair_of x k u d.planned).0 in
              let l = ltb-true y.1.0 x.0 lt in
              let c = f.1 in inl (omega (arith, e, l, c))
          least (suc i) k u d = turn (f.0.least i k u (later_due x xs i k u d))
            where
              turn : ((f.0.count < k) ⊎ ((f.0.count ≡ k) × (y.0 ≤ i))) → (f.0.count < k) ⊎ ((f.0.count ≡ k) × (suc y.0 ≤ suc i))
              turn (inl a) = inl a
              turn (inr a) = let b = a.1 in inr (a.0, omega (arith, b))

      choose : (b : Bool) → due_test closes gone x ≡ b → (o : Option (ℕ × (ℕ × ℕ))) → DueIs xs o → DueIs (x ∷ xs) (better_due b x o)
      choose false h None f = nothing_more x xs h f
      choose false h (Some y) f = skip h y f
      choose true h None f = first h (λ i k u d. absurd (f i k u d))
      choose true h (Some y) f = turn (bool_cases (nat_lt y.1.0 x.0))
        where
          turn : ((nat_lt y.1.0 x.0 ≡ true) ⊎ (nat_lt y.1.0 x.0 ≡ false))
              → DueIs (x ∷ xs) (cond (nat_lt y.1.0 x.0) (Some (suc y.0, y.1)) (Some (0, x)))
          turn (inl t) = subst (λ c. DueIs (x ∷ xs) (cond c (Some (suc y.0, y.1)) (Some (0, x)))) (sym t) (other h y t f)
          turn (inr t) =
              subst (λ c. DueIs (x ∷ xs) (cond c (Some (suc y.0, y.1)) (Some (0, x)))) (sym t)
              (first h (λ i k u d. low (f.0.least i k u d)))
            where
              low : {i k : ℕ} → ((f.0.count < k) ⊎ ((f.0.count ≡ k) × (y.0 ≤ i))) → x.0 ≤ k
              low (inl a) = let l = ltb-false y.1.0 x.0 t in let c = f.1 in omega (arith, a, l, c)
              low (inr a) = let l = ltb-false y.1.0 x.0 t in let c = f.1 in let e = a.0 in omega (arith, e, l, c)

module _ {D : Type 0} (job : Job D) (laws : IsJob job) where
  -- ---- reached tasks

  module _ (v : Standing D) where
    abbrev has_task : List (Task D) → Task D → Bool
    has_task S t = list_any (same_task job t) S

    abbrev add_task : Bool → Option (Task D) → List (Task D) → List (Task D)
    add_task true o S = S
    add_task false None S = S
    add_task false (Some u) S = cond (has_task S u) S (S ++ u ∷ [])

    -- with the tasks of those of ds that aren't live
    abbrev add_needs : List D → List (Task D) → List (Task D)
    add_needs [] S = S
    add_needs (d ∷ ds) S = add_needs ds (add_task (live job v d) (job.task_of d) S)

    abbrev add_all : List (Task D) → List (Task D) → List (Task D)
    add_all [] S = S
    add_all (t ∷ ts) S = add_all ts (cond (is_out job v t) S (add_needs (needs job v t) S))

    abbrev pub reach_more : ℕ → List (Task D) → List (Task D)
    reach_more zero S = S
    reach_more (suc n) S = reach_more n (add_all S S)

    abbrev AllReached : List (Task D) → Type 0
    AllReached S = (t : Task D) → In t S → Reached job v t

    joined : (S : List (Task D)) (u : Task D) → AllReached S → Reached job v u → AllReached (S ++ u ∷ [])
    joined S u a r t i = pick (last_of S i)
      where
        last_of : (xs : List (Task D)) → In t (xs ++ u ∷ []) → In t xs ⊎ (t ≡ u)
        last_of [] (inl s) = inr s
        last_of [] (inr i) = absurd i
        last_of (x ∷ xs) (inl s) = inl (inl s)
        last_of (x ∷ xs) (inr i) = turn (last_of xs i)
          where
            turn : (In t xs ⊎ (t ≡ u)) → In t (x ∷ xs) ⊎ (t ≡ u)
            turn (inl j) = inl (inr j)
            turn (inr s) = inr s

        pick : (In t S ⊎ (t ≡ u)) → Reached job v t
        pick (inl j) = a t j
        pick (inr s) = subst (Reached job v) (sym s) r

    needs_reached : (t : Task D) → Reached job v t → is_out job v t ≡ false → (ds : List D) → ((d : D) → In d ds → In d (needs job v t))
        → (S : List (Task D)) → AllReached S → AllReached (add_needs ds S)
    needs_reached t r o [] inside S a = a
    needs_reached t r o (d ∷ ds) inside S a =
        needs_reached t r o ds (λ e i. inside e (inr i)) (add_task (live job v d) (job.task_of d) S) (one (live job v d) refl (job.task_of d) refl)
      where
        one : (b : Bool) → live job v d ≡ b → (x : Option (Task D)) → job.task_of d ≡ x → AllReached (add_task b x S)
        one true e x f = a
        one false e None f = a
        one false e (Some u) f = pick (has_task S u)
          where
            pick : (c : Bool) → AllReached (cond c S (S ++ u ∷ []))
            pick true = a
            pick false = joined S u a (through r o d (inside d (inl refl)) e f)

    all_reached : (ts S : List (Task D)) → AllReached ts → AllReached S → AllReached (add_all ts S)
    all_reached [] S b a = a
    all_reached (t ∷ ts) S b a =
        all_reached ts (cond (is_out job v t) S (add_needs (needs job v t) S)) (λ u i. b u (inr i)) (one (is_out job v t) refl)
      where
        one : (c : Bool) → is_out job v t ≡ c → AllReached (cond c S (add_needs (needs job v t) S))
        one true e = a
        one false e = needs_reached t (b t (inl refl)) e (needs job v t) (λ d i. i) S a

    more_reached : (n : ℕ) (S : List (Task D)) → AllReached S → AllReached (reach_more n S)
    more_reached zero S a = a
    more_reached (suc n) S a = more_reached n (add_all S S) (all_reached S S a a)

    -- nothing is missing
    abbrev need_test : List (Task D) → Bool → Option (Task D) → Bool
    need_test S true o = true
    need_test S false None = true
    need_test S false (Some u) = has_task S u

    abbrev closed_test : List (Task D) → Task D → Bool
    closed_test S t = is_out job v t || each_passes (λ d. need_test S (live job v d) (job.task_of d)) (needs job v t)

    abbrev pub full_test : List (Task D) → Bool
    full_test S = all_true (has_task S show ∷ each_passes (closed_test S) S ∷ [])

    each_at : {A : Type 0} (q : A → Bool) (xs : List A) (x : A) → each_passes q xs ≡ true → In x xs → q x ≡ true
    each_at q [] x h i = absurd i
    each_at q (y ∷ ys) x h (inl s) = subst (λ z. q z ≡ true) (sym s) (left (q y) (each_passes q ys) h)
      where
        left : (b c : Bool) → b && c ≡ true → b ≡ true
        left true c k = refl
        left false c k = cc
    each_at q (y ∷ ys) x h (inr i) = each_at q ys x (right (q y) (each_passes q ys) h) i
      where
        right : (b c : Bool) → b && c ≡ true → c ≡ true
        right true c k = k
        right false c k = cc

    full_has : (S : List (Task D)) → full_test S ≡ true → (t : Task D) → Reached job v t → In t S
    full_has S h t root =
        any_in (same_task job) (task_exact job laws) show S (parts (has_task S show ∷ each_passes (closed_test S) S ∷ []) h).0
    full_has S h t (through {t = s} r o d i l e) = go (full_has S h s r)
      where
        go : In s S → In t S
        go j =
            let q = parts (has_task S show ∷ each_passes (closed_test S) S ∷ []) h in
            let c : closed_test S s ≡ true = each_at (closed_test S) S s q.1.0 j in
            let f : each_passes (λ x. need_test S (live job v x) (job.task_of x)) (needs job v s) ≡ true =
            sym (ap (λ b. b || each_passes (λ x. need_test S (live job v x) (job.task_of x)) (needs job v s)) o) ∙ c in
            let g : need_test S (live job v d) (job.task_of d) ≡ true =
            each_at (λ x. need_test S (live job v x) (job.task_of x)) (needs job v s) d f i in
            let k : has_task S t ≡ true = sym (ap (λ b. need_test S b (job.task_of d)) l ∙ ap (need_test S false) e) ∙ g in
            any_in (same_task job) (task_exact job laws) t S k

    -- ---- ready tasks

    abbrev ready_test : List (Task D) → Task D → Bool
    ready_test S t = all_true (has_task S t ∷ not (is_out job v t) ∷ each_passes (live job v) (needs job v t) ∷ [])

    abbrev pub ready_now : List (Task D) → List (Task D)
    ready_now S = filter (ready_test S) (tasks_of job v.book)

    each_pass : (ds : List D) → Each (λ d. live job v d ≡ true) ds → each_passes (live job v) ds ≡ true
    each_pass [] h = refl
    each_pass (d ∷ ds) h = ap (λ b. b && each_passes (live job v) ds) h.0 ∙ each_pass ds h.1

    pub ready_list : (S : List (Task D)) → AllReached S → full_test S ≡ true → IsReadyList job v (ready_now S)
    ready_list S a h = keeps (tasks_of job v.book)
      where
        sound : (t : Task D) → ready_test S t ≡ true → Ready job v t
        sound t k =
            let q = parts (has_task S t ∷ not (is_out job v t) ∷ each_passes (live job v) (needs job v t) ∷ []) k in
            record {
              reached = a t (any_in (same_task job) (task_exact job laws) t S q.0);
              not_out = not_true _ q.1.0;
              met = passes_each (λ d. live job v d ≡ true) (live job v) (λ d e. e) (needs job v t) q.1.1.0;
            }

        complete : (t : Task D) → Ready job v t → ready_test S t ≡ true
        complete t r =
            let x : has_task S t ≡ true = in_any (same_task job) (task_refl job laws) t S (full_has S h t r.reached) in
            let y : not (is_out job v t) ≡ true = ap not r.not_out in
            let z : each_passes (live job v) (needs job v t) ≡ true = each_pass (needs job v t) r.met in
            ap (λ b. b && (not (is_out job v t) && (each_passes (live job v) (needs job v t) && true))) x
            ∙ (ap (λ b. b && (each_passes (live job v) (needs job v t) && true)) y ∙ ap (λ b. b && true) z)

        keeps : (xs : List (Task D)) → Picks (Ready job v) xs (filter (ready_test S) xs)
        keeps [] = refl
        keeps (x ∷ xs) = pick (ready_test S x) refl (keeps xs)
          where
            pick : (c : Bool) → ready_test S x ≡ c → Picks (Ready job v) xs (filter (ready_test S) xs)
                → Picks (Ready job v) (x ∷ xs) (cond c (x ∷ filter (ready_test S) xs) (filter (ready_test S) xs))
            pick true e k = inl (sound x e, (filter (ready_test S) xs, refl, k))
            pick false e k = inr ((λ r. let y = complete x r in let bad : true ≡ false = sym y ∙ e in cc), k)

    abbrev pub reached_now : ℕ → List (Task D)
    reached_now n = reach_more n (show ∷ [])

    now_reached : (n : ℕ) → AllReached (reached_now n)
    now_reached n = more_reached n (show ∷ []) start_reached
      where
        start_reached : AllReached (show ∷ [])
        start_reached t (inl s) = subst (Reached job v) (sym s) root
        start_reached t (inr i) = absurd i

    pub now_ready : (n : ℕ) → full_test (reached_now n) ≡ true → IsReadyList job v (ready_now (reached_now n))
    now_ready n h = ready_list (reached_now n) (now_reached n) h

  -- ---- turns

  module _ (p : Plan) (n : ℕ) where
    abbrev first_of : Option (ℕ × (ℕ × ℕ)) → ℕ → Bool
    first_of None w = false
    first_of (Some x) w = nat_eq x.1.1 w

    abbrev none_of : Option (ℕ × (ℕ × ℕ)) → Bool
    none_of None = true
    none_of (Some x) = false

    abbrev is_empty : {A : Type 0} → List A → Bool
    is_empty [] = true
    is_empty (x ∷ xs) = false

    abbrev rest_test : Standing D → Bool
    rest_test v =
        all_true (none_of (pick_due v.closes v.gone p.losses) ∷ full_test v (reached_now v n)
        ∷ (is_empty (ready_now v (reached_now v n)) || is_empty (idle job p v)) ∷ [])

    abbrev choice_test : Standing D → ℕ → Task D → Bool
    choice_test v w t =
        all_true (none_of (pick_due v.closes v.gone p.losses) ∷ full_test v (reached_now v n)
        ∷ is_that (same_task job) (slice_get (ready_now v (reached_now v n))
        (draw p.seed (2 * v.starts) % length (ready_now v (reached_now v n)))) t
        ∷ is_that nat_eq (slice_get (idle job p v) (draw p.seed (2 * v.starts + 1) % length (idle job p v))) w ∷ [])

    abbrev turn_test : Standing D → Event D → Bool
    turn_test v (lost w closes) = first_of (pick_due v.closes v.gone p.losses) w
    turn_test v (start k w t from) = choice_test v w t
    turn_test v (done k made copied spawned) = rest_test v
    turn_test v (saved k j mark refs holds spawned) = rest_test v
    turn_test v (missed k d loss) = rest_test v

    undue : (v : Standing D) → none_of (pick_due v.closes v.gone p.losses) ≡ true → Undue job p v
    undue v h = pick (pick_due v.closes v.gone p.losses) (pick_true v.closes v.gone p.losses) h
      where
        pick : (o : Option (ℕ × (ℕ × ℕ))) → DueIs v.closes v.gone p.losses o → none_of o ≡ true → Undue job p v
        pick None f k = f
        pick (Some x) f k = cc

    empty_true : {A : Type 0} (xs : List A) → is_empty xs ≡ true → xs ≡ []
    empty_true [] h = refl
    empty_true (x ∷ xs) h = cc

    rest_true : (v : Standing D) → rest_test v ≡ true → Rests job p v
    rest_true v h =
        let q = parts (none_of (pick_due v.closes v.gone p.losses) ∷ full_test v (reached_now v n)
        ∷ (is_empty (ready_now v (reached_now v n)) || is_empty (idle job p v)) ∷ []) h in
        (undue v q.0, pick (is_empty (ready_now v (reached_now v n))) refl q.1.1.0 q.1.0)
      where
        pick : (b : Bool) → is_empty (ready_now v (reached_now v n)) ≡ b → b || is_empty (idle job p v) ≡ true → full_test v (reached_now v n)
            ≡ true → IsReadyList job v [] ⊎ (idle job p v ≡ [])
        pick true e k f = inl (subst (IsReadyList job v) (empty_true (ready_now v (reached_now v n)) e) (now_ready v n f))
        pick false e k f = inr (empty_true (idle job p v) k)

    choice_true : (v : Standing D) (w : ℕ) (t : Task D) → choice_test v w t ≡ true → Chosen job p v w t
    choice_true v w t h =
        let q = parts (none_of (pick_due v.closes v.gone p.losses) ∷ full_test v (reached_now v n)
        ∷ is_that (same_task job) (slice_get (ready_now v (reached_now v n))
        (draw p.seed (2 * v.starts) % length (ready_now v (reached_now v n)))) t
        ∷ is_that nat_eq (slice_get (idle job p v) (draw p.seed (2 * v.starts + 1) % length (idle job p v))) w ∷ []) h in
        record {
          nothing_due = undue v q.0;
          tasks = ready_now v (reached_now v n);
          ready = now_ready v n q.1.0;
          task = that_exact (same_task job) (task_exact job laws) _ t q.1.1.0;
          worker = that_exact nat_eq (λ x y e. eqb-true x y e) _ w q.1.1.1.0;
        }

    first_true : (v : Standing D) (w : ℕ) → first_of (pick_due v.closes v.gone p.losses) w ≡ true → (loss : ℕ)
        × FirstDue p.losses v.closes v.gone loss w
    first_true v w h = pick (pick_due v.closes v.gone p.losses) (pick_true v.closes v.gone p.losses) h
      where
        pick : (o : Option (ℕ × (ℕ × ℕ))) → DueIs v.closes v.gone p.losses o → first_of o w ≡ true → (loss : ℕ)
            × FirstDue p.losses v.closes v.gone loss w
        pick None f k = cc
        pick (Some x) f k = (x.0, subst (FirstDue p.losses v.closes v.gone x.0) (eqb-true x.1.1 w k) f.0)

    turn_true : (v : Standing D) (e : Event D) → turn_test v e ≡ true → Turn job p v e
    turn_true v (lost w closes) h = first_true v w h
    turn_true v (start k w t from) h = choice_true v w t h
    turn_true v (done k made copied spawned) h = rest_true v h
    turn_true v (saved k j mark refs holds spawned) h = rest_true v h
    turn_true v (missed k d loss) h = rest_true v h

    module _ (fuel : ℕ) (needed : List (Task D)) (are : Each (Needed job) needed) where
      abbrev pub driven_test : Standing D → List (Event D) → Bool
      driven_test v [] = true
      driven_test v (e ∷ es) =
          all_true (step_test job laws fuel needed are p v e ∷ turn_test v e ∷ driven_test (after job v e) es ∷ [])

      pub driven_true : (v : Standing D) (es : List (Event D)) → SavesOk job laws v → driven_test v es ≡ true → DrivenFrom job p v es
      driven_true v [] s h = tt
      driven_true v (e ∷ es) s h =
          let q = parts (step_test job laws fuel needed are p v e ∷ turn_test v e ∷ driven_test (after job v e) es ∷ []) h in
          let x = step_true job laws fuel needed are p v e s q.0 in
          (x, turn_true v e q.1.0, driven_true (after job v e) es (saves_step job laws p v e s x.allowed) q.1.1.0)
