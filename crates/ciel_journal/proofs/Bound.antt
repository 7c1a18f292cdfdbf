-- Between two losses no task is started twice from one wait.
use Rattle.std.proofs.Common.{◌≡◌, ℕ, zero, suc, ◌+◌, ◌*◌, ◌≤◌, ◌<◌, List, [], ◌∷◌, ◌++◌, length, Bool, true, false, cond, ◌&&◌, ◌||◌, zero-add}
use Rattle.std.proofs.Common.{nat_eq, nat_lt, Option, Some, None, ◌⊎◌, inl, inr, refl, ap, sym, ◌∙◌, subst, arith, eqb-true, eq-eqb, suc-mul}
use Rattle.std.proofs.Common.{zero-mul, ltb-true, ltb-false}
use Rattle.std.specs.List.{list_any, IsDistinct}
use Rattle.ciel_journal.specs.Job.{Digest, Each, In, IsJob, Job, Task, WaitOf, of, show}
use Rattle.ciel_journal.specs.History.{Event, OpenStart, Plan, Save, Standing, after, after_all, before_all, better, closed, done, done_with}
use Rattle.ciel_journal.specs.History.{ends_show, last, last_save, live, live_if, lost, missed, names_of, needs, order_of, placed, same_task, saved}
use Rattle.ciel_journal.specs.History.{saved_with, standing, start, wait_number}
use Rattle.ciel_journal.specs.Lawful.{Lawful, LawfulFrom, Marked, Step}
use Rattle.ciel_journal.specs.Work.{Covers, Slot, losses_of, same_slot}
use Rattle.ciel_journal.proofs.Append.{lawful_split}
use Rattle.ciel_journal.proofs.Members.{bool_cases, or_true, any_in, distinct_more, distinct_none, fewer}
use Rattle.ciel_journal.proofs.Good.{after_done, after_saved, after_missed, SavesOk, saves_all, saves_step, saves_start, last_ok}
use Rattle.ciel_journal.proofs.Booked.{each_more}
use Rattle.ciel_journal.proofs.Numbers.{Numbered, numbered_all, numbered_step, stays, in_left, each_at, last_in}

module _ {D : Type 0} (job : Job D) (laws : IsJob job) where
  pub task_refl : (t : Task D) → same_task job t t ≡ true
  task_refl show = refl
  task_refl (of d) = laws.same_refl d

  pub task_exact : (t u : Task D) → same_task job t u ≡ true → t ≡ u
  task_exact show show h = refl
  task_exact show (of e) h = cc
  task_exact (of d) show h = cc
  task_exact (of d) (of e) h = ap of (laws.same_exact d e h)

  pub slot_refl : (s : Slot D) → (same_slot job) s s ≡ true
  slot_refl s = ap (λ b. b && nat_eq s.from s.from) (task_refl s.task) ∙ eq-eqb s.from s.from refl

  pub slot_exact : (s t : Slot D) → (same_slot job) s t ≡ true → s ≡ t
  slot_exact s t h = pick (bool_cases (same_task job s.task t.task))
    where
      pick : ((same_task job s.task t.task ≡ true) ⊎ (same_task job s.task t.task ≡ false)) → s ≡ t
      pick (inr f) = let a : false ≡ true = sym (ap (λ b. b && nat_eq s.from t.from) f) ∙ h in cc
      pick (inl e) =
          let a : nat_eq s.from t.from ≡ true = sym (ap (λ b. b && nat_eq s.from t.from) e) ∙ h in
          let b : s.task ≡ t.task = task_exact s.task t.task e in
          let c : s.from ≡ t.from = eqb-true s.from t.from a in
          ap (λ (x : Task D). record { task = x; from = s.from }) b ∙ ap (λ (n : ℕ). record { task = t.task; from = n }) c

  -- why a slot can't be started again before the next loss
  pub data Spent (v : Standing D) (s : Slot D) : Type 0 where
    is_open : (o : OpenStart D) → In o v.orders → o.task ≡ s.task → o.from ≡ s.from → o.gone ≡ v.gone → Spent v s
    is_over : v.over ≡ true → Spent v s
    is_live : (s.task ≡ show → ⊥) → Each (λ d. live job v d ≡ true) (job.outputs s.task) → Spent v s
    is_past : s.from < last job v s.task → Spent v s

  -- ---- what stays

  live_placed : (o : Option (Task D)) (ns : List D) (w : ℕ) (f : D → List ℕ) (d : D) → live_if job o (f d) ≡ true
      → live_if job o (placed job ns w f d) ≡ true
  live_placed o [] w f d h = h
  live_placed o (n ∷ ns) w f d h = live_placed o ns w (λ e. cond (job.same n e) (f e ++ w ∷ []) (f e)) d (one (job.same n d) o (f d) h)
    where
      one : (b : Bool) (o : Option (Task D)) (ws : List ℕ) → live_if job o ws ≡ true → live_if job o (cond b (ws ++ w ∷ []) ws) ≡ true
      one false o ws h = h
      one true None ws h = refl
      one true (Some t) [] h = refl
      one true (Some t) (u ∷ us) h = refl

  live_at : (o : Option (Task D)) (ns : List D) (w : ℕ) (f : D → List ℕ) (d : D) → In d ns → live_if job o (placed job ns w f d) ≡ true
  live_at o [] w f d i = absurd i
  live_at o (n ∷ ns) w f d (inr i) = live_at o ns w (λ e. cond (job.same n e) (f e ++ w ∷ []) (f e)) d i
  live_at o (n ∷ ns) w f d (inl s) =
      live_placed o ns w (λ e. cond (job.same n e) (f e ++ w ∷ []) (f e)) d
      (ap (λ b. live_if job o (cond b (f d ++ w ∷ []) (f d))) (subst (λ x. job.same x d ≡ true) s (laws.same_refl d)) ∙ one o (f d))
    where
      one : (o : Option (Task D)) (ws : List ℕ) → live_if job o (ws ++ w ∷ []) ≡ true
      one None ws = refl
      one (Some t) [] = refl
      one (Some t) (u ∷ us) = refl

  pub better_low : (s : Save D) (o : Option (Save D)) → (s.j ≤ wait_number job (better job s o)) × (wait_number job o ≤ wait_number job (better job s o))
  better_low s None = (omega arith, omega arith)
  better_low s (Some r) = pick (bool_cases (nat_lt r.j s.j))
    where
      pick : ((nat_lt r.j s.j ≡ true) ⊎ (nat_lt r.j s.j ≡ false)) → (s.j ≤ wait_number job (cond (nat_lt r.j s.j) (Some s) (Some r)))
          × (r.j ≤ wait_number job (cond (nat_lt r.j s.j) (Some s) (Some r)))
      pick (inl e) = let l = ltb-true r.j s.j e in
          subst (λ b. (s.j ≤ wait_number job (cond b (Some s) (Some r))) × (r.j ≤ wait_number job (cond b (Some s) (Some r)))) (sym e)
          (omega arith, omega (arith, l))
      pick (inr e) = let l = ltb-false r.j s.j e in
          subst (λ b. (s.j ≤ wait_number job (cond b (Some s) (Some r))) × (r.j ≤ wait_number job (cond b (Some s) (Some r)))) (sym e)
          (omega (arith, l), omega arith)

  -- a further save takes nothing from the last wait
  last_keeps : (t : Task D) (ss : List (Save D)) (s : Save D)
      → wait_number job (last_save job t ss) ≤ wait_number job (last_save job t (ss ++ s ∷ []))
  last_keeps t [] s = omega arith
  last_keeps t (x ∷ xs) s = pick (same_task job t x.task) (last_save job t xs) (last_save job t (xs ++ s ∷ [])) (last_keeps t xs s)
    where
      grow : (o q : Option (Save D)) → wait_number job o ≤ wait_number job q → wait_number job (better job x o) ≤ wait_number job (better job x q)
      grow None q l = (better_low x q).0
      grow (Some r) q l = turn (bool_cases (nat_lt r.j x.j))
        where
          turn : ((nat_lt r.j x.j ≡ true) ⊎ (nat_lt r.j x.j ≡ false))
              → wait_number job (cond (nat_lt r.j x.j) (Some x) (Some r)) ≤ wait_number job (better job x q)
          turn (inl e) = subst (λ b. wait_number job (cond b (Some x) (Some r)) ≤ wait_number job (better job x q)) (sym e) (better_low x q).0
          turn (inr e) = let k = (better_low x q).1 in
              subst (λ b. wait_number job (cond b (Some x) (Some r)) ≤ wait_number job (better job x q)) (sym e) (omega (arith, k, l))

      pick : (b : Bool) (o q : Option (Save D)) → wait_number job o ≤ wait_number job q
          → wait_number job (cond b (better job x o) o) ≤ wait_number job (cond b (better job x q) q)
      pick true o q l = grow o q l
      pick false o q l = l

  last_has : (t : Task D) (ss : List (Save D)) (s : Save D) → same_task job t s.task ≡ true → s.j ≤ wait_number job (last_save job t (ss ++ s ∷ []))
  last_has t [] s e = subst (λ b. s.j ≤ wait_number job (cond b (Some s) None)) (sym e) (omega arith)
  last_has t (x ∷ xs) s e = pick (same_task job t x.task) (last_save job t (xs ++ s ∷ [])) (last_has t xs s e)
    where
      pick : (b : Bool) (q : Option (Save D)) → s.j ≤ wait_number job q → s.j ≤ wait_number job (cond b (better job x q) q)
      pick true q l = let k = (better_low x q).1 in omega (arith, k, l)
      pick false q l = l

  marked_in : (ds : List D) (made : List (D × Digest)) → Marked job ds made → (d : D) → In d ds → In d (names_of made)
  marked_in [] [] m d i = absurd i
  marked_in [] (x ∷ xs) m d i = absurd m
  marked_in (e ∷ es) [] m d i = absurd m
  marked_in (e ∷ es) (x ∷ xs) m d (inl s) = inl (s ∙ sym m.0)
  marked_in (e ∷ es) (x ∷ xs) m d (inr i) = inr (marked_in es xs m.2 d i)

  all_in : (P : D → Type 0) (ds : List D) → ((d : D) → In d ds → P d) → Each P ds
  all_in P [] h = tt
  all_in P (d ∷ ds) h = (h d (inl refl), all_in P ds (λ e i. h e (inr i)))

  spent_done : (p : Plan) (v : Standing D) (s : Slot D) (k : ℕ) (made : List (D × Digest)) (copied spawned : List D) → Numbered job laws v
      → Step job p v (done k made copied spawned) → Spent v s → Spent (after job v (done k made copied spawned)) s
  spent_done p v s k made copied spawned n step sp =
      let a = step.allowed in
      subst (λ u. Spent u s) (sym (after_done job laws v k made copied spawned a.0 a.1)) (pick sp)
    where
      u : Standing D
      u = done_with job made copied spawned step.allowed.0 (closed job v k)

      ended : (q : OpenStart D) → q.task ≡ s.task → q ≡ step.allowed.0 → Spent (done_with job made copied spawned step.allowed.0 (closed job v k)) s
      ended q e r = turn step.allowed.0.task refl
        where
          turn : (t : Task D) → step.allowed.0.task ≡ t → Spent (done_with job made copied spawned step.allowed.0 (closed job v k)) s
          turn show h = is_over (ap (ends_show job) h)
          turn (of d) h =
              let same : step.allowed.0.task ≡ s.task = ap (λ (x : OpenStart D). x.task) (sym r) ∙ e in
              is_live (λ z. let bad : of d ≡ show = sym h ∙ (same ∙ z) in cc)
              (subst (λ t. Each (λ x. live_if job (job.task_of x)
              (placed job copied step.allowed.0.worker (placed job (names_of made) step.allowed.0.worker v.places) x) ≡ true)
              (job.outputs t)) same
              (all_in (λ x. live_if job (job.task_of x)
              (placed job copied step.allowed.0.worker (placed job (names_of made) step.allowed.0.worker v.places) x) ≡ true)
              (job.outputs step.allowed.0.task)
              (λ x i. live_placed (job.task_of x) copied step.allowed.0.worker (placed job (names_of made) step.allowed.0.worker v.places) x
              (live_at (job.task_of x) (names_of made) step.allowed.0.worker v.places x
              (marked_in (job.outputs step.allowed.0.task) made step.allowed.2.marked x i)))))

      pick : Spent v s → Spent (done_with job made copied spawned step.allowed.0 (closed job v k)) s
      pick (is_open q i e f g) = turn (stays job laws v k step.allowed.0 q n step.allowed.1 i)
        where
          turn : (In q (closed job v k).orders ⊎ (q ≡ step.allowed.0)) → Spent (done_with job made copied spawned step.allowed.0 (closed job v k)) s
          turn (inl j) = is_open q j e f g
          turn (inr r) = ended q e r
      pick (is_over h) = let g = step.going in let bad : true ≡ false = sym h ∙ g in cc
      pick (is_live h l) =
          is_live h (each_more (λ x. live job v x ≡ true)
          (λ x. live_if job (job.task_of x) (placed job copied step.allowed.0.worker
          (placed job (names_of made) step.allowed.0.worker v.places) x) ≡ true)
          (λ x y. live_placed (job.task_of x) copied step.allowed.0.worker (placed job (names_of made) step.allowed.0.worker v.places) x
          (live_placed (job.task_of x) (names_of made) step.allowed.0.worker v.places x y)) (job.outputs s.task) l)
      pick (is_past l) = is_past l

  spent_saved : (p : Plan) (v : Standing D) (s : Slot D) (k j : ℕ) (mark : Digest) (refs holds spawned : List D) → Numbered job laws v
      → Step job p v (saved k j mark refs holds spawned) → Spent v s → Spent (after job v (saved k j mark refs holds spawned)) s
  spent_saved p v s k j mark refs holds spawned n step sp =
      let a = step.allowed in
      subst (λ u. Spent u s) (sym (after_saved job laws v k j mark refs holds spawned a.0 a.1)) (pick sp)
    where
      save : Save D
      save = record { task = step.allowed.0.task; j = j; worker = step.allowed.0.worker; refs = refs; holds = holds }

      pick : Spent v s → Spent (saved_with job j refs holds spawned step.allowed.0 (closed job v k)) s
      pick (is_open q i e f g) = turn (stays job laws v k step.allowed.0 q n step.allowed.1 i)
        where
          turn : (In q (closed job v k).orders ⊎ (q ≡ step.allowed.0)) → Spent (saved_with job j refs holds spawned step.allowed.0 (closed job v k)) s
          turn (inl i) = is_open q i e f g
          turn (inr r) =
              let one : Save D = record { task = step.allowed.0.task; j = j; worker = step.allowed.0.worker; refs = refs; holds = holds } in
              let same : s.task ≡ step.allowed.0.task = sym e ∙ ap (λ (x : OpenStart D). x.task) r in
              let test : same_task job s.task step.allowed.0.task ≡ true = subst (λ t. same_task job s.task t ≡ true) same (task_refl s.task) in
              let up : j ≤ wait_number job (last_save job s.task (v.saves ++ one ∷ [])) = last_has s.task v.saves one test in
              let l = step.allowed.2.next.later in
              let from : step.allowed.0.from ≡ s.from = ap (λ (x : OpenStart D). x.from) (sym r) ∙ f in
              is_past (omega (arith, up, l, from))
      pick (is_over h) = is_over h
      pick (is_live h l) = is_live h l
      pick (is_past l) =
          let one : Save D = record { task = step.allowed.0.task; j = j; worker = step.allowed.0.worker; refs = refs; holds = holds } in
          let up : wait_number job (last_save job s.task v.saves) ≤ wait_number job (last_save job s.task (v.saves ++ one ∷ [])) =
          last_keeps s.task v.saves one in
          is_past (omega (arith, up, l))

  spent_missed : (p : Plan) (v : Standing D) (s : Slot D) (k : ℕ) (d : D) (loss : ℕ) → Numbered job laws v → Step job p v (missed k d loss)
      → Spent v s → Spent (after job v (missed k d loss)) s
  spent_missed p v s k d loss n step sp =
      let a = step.allowed in
      subst (λ u. Spent u s) (sym (after_missed job laws v k d loss a.0 a.1)) (pick sp)
    where
      pick : Spent v s → Spent (closed job v k) s
      pick (is_open q i e f g) = turn (stays job laws v k step.allowed.0 q n step.allowed.1 i)
        where
          turn : (In q (closed job v k).orders ⊎ (q ≡ step.allowed.0)) → Spent (closed job v k) s
          turn (inl j) = is_open q j e f g
          turn (inr r) =
              let m = step.allowed.2 in
              let same : step.allowed.0.gone ≡ v.gone = ap (λ (x : OpenStart D). x.gone) (sym r) ∙ g in
              let bad : true ≡ false = sym m.since ∙ (ap (λ ws. list_any (nat_eq m.worker) ws) (sym same) ∙ m.not_before) in
              cc
      pick (is_over h) = is_over h
      pick (is_live h l) = is_live h l
      pick (is_past l) = is_past l

  spent_start : (v : Standing D) (s : Slot D) (k w : ℕ) (t : Task D) (from : ℕ) → Spent v s → Spent (after job v (start k w t from)) s
  spent_start v s k w t from (is_open o i e f g) = is_open o (in_left o v.orders (order_of job v k w t from ∷ []) i) e f g
  spent_start v s k w t from (is_over h) = is_over h
  spent_start v s k w t from (is_live h l) = is_live h l
  spent_start v s k w t from (is_past l) = is_past l

  pub out_test : (t : Task D) (os : List (OpenStart D)) (o : OpenStart D) → In o os → o.task ≡ t
      → list_any (λ (q : OpenStart D). same_task job t q.task) os ≡ true
  out_test t [] o i e = absurd i
  out_test t (q ∷ qs) o (inl s) e =
      ap (λ b. b || list_any (λ (q : OpenStart D). same_task job t q.task) qs)
      (subst (λ u. same_task job t u ≡ true) (sym e ∙ ap (λ (x : OpenStart D). x.task) s) (task_refl t))
  out_test t (q ∷ qs) o (inr i) e = or_true (same_task job t q.task) _ (out_test t qs o i e)

  -- a Start is not of a slot that is spent
  not_spent : (p : Plan) (v : Standing D) (k w : ℕ) (t : Task D) (from : ℕ) (s : Slot D) → Step job p v (start k w t from) → s.task ≡ t → s.from
      ≡ from → Spent v s → ⊥
  not_spent p v k w t from s step e f (is_open o i a b g) =
      let x = out_test t v.orders o i (a ∙ e) in let y = step.allowed.not_out in let bad : true ≡ false = sym x ∙ y in cc
  not_spent p v k w t from s step e f (is_over h) = let g = step.going in let bad : true ≡ false = sym h ∙ g in cc
  not_spent p v k w t from s step e f (is_live h l) = pick step.allowed.some_missing
    where
      pick : ((t ≡ show) ⊎ ((d : D) × In d (job.outputs t) × (live job v d ≡ false))) → ⊥
      pick (inl z) = h (e ∙ z)
      pick (inr x) =
          let a = each_at (λ d. live job v d ≡ true) x.0 (job.outputs s.task) (subst (λ u. In x.0 (job.outputs u)) (sym e) x.1) l in
          let b = x.2 in
          let bad : true ≡ false = sym a ∙ b in cc
  not_spent p v k w t from s step e f (is_past l) =
      let a = step.allowed.from_last in
      let b : last job v s.task ≡ last job v t = ap (last job v) e in omega (arith, a, b, f, l)

  swap : (a c : ℕ) → a + suc c ≡ suc a + c
  swap a c = omega arith

  abbrev pub budget : ℕ → ℕ → ℕ
  budget zero n = 0
  budget (suc c) n = budget c n + n

  budget_times : (c n : ℕ) → budget c n ≡ c * n
  budget_times zero n = sym (zero-mul n)
  budget_times (suc c) n = ap (λ x. x + n) (budget_times c n) ∙ sym (suc-mul c n)

  -- counted from what there were before, `base`
  module _ (slots : List (Slot D)) (covers : Covers job slots) (base : ℕ) where
    pub record Paced (v : Standing D) (used : List (Slot D)) (c : ℕ) : Type 0 where
      pub numbered : Numbered job laws v
      pub saves : SavesOk job laws v
      pub spent : Each (Spent v) used
      pub distinct : IsDistinct (same_slot job) used
      pub inside : Each (λ s. list_any ((same_slot job) s) slots ≡ true) used
      pub count : v.starts ≤ base + (budget c (length slots) + length used)

    few : (v : Standing D) (used : List (Slot D)) (c : ℕ) → Paced v used c → v.starts ≤ base + budget (suc c) (length slots)
    few v used c q = let n = fewer (same_slot job) slot_refl slot_exact used slots q.distinct q.inside in let k = q.count in omega (arith, n, k)

    unused : (p : Plan) (v : Standing D) (k w : ℕ) (t : Task D) (from : ℕ) (used : List (Slot D)) → Step job p v (start k w t from)
        → Each (Spent v) used → (s : Slot D) → s.task ≡ t → s.from ≡ from → list_any ((same_slot job) s) used ≡ false
    unused p v k w t from used step sp s e f = pick (bool_cases (list_any ((same_slot job) s) used))
      where
        pick : ((list_any ((same_slot job) s) used ≡ true) ⊎ (list_any ((same_slot job) s) used ≡ false)) → list_any ((same_slot job) s) used ≡ false
        pick (inr h) = h
        pick (inl h) = absurd (not_spent p v k w t from s step e f (each_at (Spent v) s used (any_in (same_slot job) slot_exact s used h) sp))

    paced_all : (p : Plan) (v : Standing D) (h : List (Event D)) (used : List (Slot D)) (c : ℕ) → Paced v used c → LawfulFrom job p v h
        → (after_all job v h).starts ≤ base + budget (suc (losses_of job h + c)) (length slots)
    paced_all p v [] used c q l = subst (λ n. v.starts ≤ base + budget (suc n) (length slots)) (sym (zero-add c)) (few v used c q)
    paced_all p v (start k w t from ∷ es) used c q l =
        let s : Slot D = record { task = t; from = from } in
        let u : Standing D = after job v (start k w t from) in
        let a = l.0.allowed in
        let me : Spent u s = is_open (order_of job v k w t from) (last_in v.orders (order_of job v k w t from)) refl refl refl in
        paced_all p u es (s ∷ used) c
        (record {
          numbered = numbered_step job laws p v (start k w t from) q.numbered l.0;
          saves = saves_step job laws p v (start k w t from) q.saves l.0.allowed;
          spent = (me, each_more (Spent v) (Spent u) (λ x y. spent_start v x k w t from y) used q.spent);
          distinct = distinct_more (same_slot job) s used (unused p v k w t from used l.0 q.spent s refl refl) q.distinct;
          inside = (
            covers t from (needs job v t) a.needed
                (subst (λ n. WaitOf job t n (needs job v t)) (sym a.from_last) (last_ok job laws t v.saves q.saves)) s refl refl,
            q.inside,
          );
          count = let k = q.count in omega (arith, k);
        }) l.1
    paced_all p v (done k made copied spawned ∷ es) used c q l =
        paced_all p (after job v (done k made copied spawned)) es used c
        (record {
          numbered = numbered_step job laws p v (done k made copied spawned) q.numbered l.0;
          saves = saves_step job laws p v (done k made copied spawned) q.saves l.0.allowed;
          spent = each_more (Spent v) (Spent (after job v (done k made copied spawned)))
              (λ x y. spent_done p v x k made copied spawned q.numbered l.0 y) used q.spent;
          distinct = q.distinct;
          inside = q.inside;
          count = subst (λ (u : Standing D). u.starts ≤ base + (budget c (length slots) + length used))
              (sym (after_done job laws v k made copied spawned l.0.allowed.0 l.0.allowed.1)) q.count;
        }) l.1
    paced_all p v (saved k j mark refs holds spawned ∷ es) used c q l =
        paced_all p (after job v (saved k j mark refs holds spawned)) es used c
        (record {
          numbered = numbered_step job laws p v (saved k j mark refs holds spawned) q.numbered l.0;
          saves = saves_step job laws p v (saved k j mark refs holds spawned) q.saves l.0.allowed;
          spent = each_more (Spent v) (Spent (after job v (saved k j mark refs holds spawned)))
              (λ x y. spent_saved p v x k j mark refs holds spawned q.numbered l.0 y) used q.spent;
          distinct = q.distinct;
          inside = q.inside;
          count = subst (λ (u : Standing D). u.starts ≤ base + (budget c (length slots) + length used))
              (sym (after_saved job laws v k j mark refs holds spawned l.0.allowed.0 l.0.allowed.1)) q.count;
        }) l.1
    paced_all p v (missed k d loss ∷ es) used c q l =
        paced_all p (after job v (missed k d loss)) es used c
        (record {
          numbered = numbered_step job laws p v (missed k d loss) q.numbered l.0;
          saves = saves_step job laws p v (missed k d loss) q.saves l.0.allowed;
          spent = each_more (Spent v) (Spent (after job v (missed k d loss))) (λ x y. spent_missed p v x k d loss q.numbered l.0 y) used q.spent;
          distinct = q.distinct;
          inside = q.inside;
          count = subst (λ (u : Standing D). u.starts ≤ base + (budget c (length slots) + length used))
              (sym (after_missed job laws v k d loss l.0.allowed.0 l.0.allowed.1)) q.count;
        }) l.1
    paced_all p v (lost w closes ∷ es) used c q l =
        subst (λ n. (after_all job (after job v (lost w closes)) es).starts ≤ base + budget (suc n) (length slots))
        (swap (losses_of job es) c)
        (paced_all p (after job v (lost w closes)) es [] (suc c)
        (record {
          numbered = numbered_step job laws p v (lost w closes) q.numbered l.0;
          saves = saves_step job laws p v (lost w closes) q.saves l.0.allowed;
          spent = tt;
          distinct = distinct_none (same_slot job);
          inside = tt;
          count = let k = few v used c q in omega (arith, k);
        }) l.1)

  module _ (slots : List (Slot D)) (covers : Covers job slots) where
    -- from what stands after a lawful history on, at most one Start for each slot, and again for each loss
    starts_from : (p : Plan) (v : Standing D) (h : List (Event D)) → Numbered job laws v → SavesOk job laws v → LawfulFrom job p v h
        → (after_all job v h).starts ≤ v.starts + (losses_of job h + 1) * length slots
    starts_from p v h n s l =
        let b = paced_all slots covers v.starts p v h [] 0
        (record {
          numbered = n;
          saves = s;
          spent = tt;
          distinct =
              distinct_none (same_slot job);
          inside = tt;
          count = omega arith;
        }) l in
        let e : suc (losses_of job h + 0) ≡ losses_of job h + 1 = omega arith in
        subst (λ n. (after_all job v h).starts ≤ v.starts + n)
        (budget_times (suc (losses_of job h + 0)) (length slots) ∙ ap (λ n. n * length slots) e) b

    -- so of what comes after any part of a lawful history
    pub starts_bound : (p : Plan) (g h : List (Event D)) → Lawful job p (g ++ h)
        → (after_all job (standing job g) h).starts ≤ (standing job g).starts + (losses_of job h + 1) * length slots
    starts_bound p g h l =
        let q = lawful_split job p (before_all job) g h l in
        starts_from p (standing job g) h
        (numbered_all job laws p (before_all job) g (record { below = tt; one = λ a b i j q. absurd i }) q.0)
        (saves_all job laws p (before_all job) g (saves_start job laws) q.0) q.1
