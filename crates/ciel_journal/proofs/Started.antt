-- What a lawful history says of each of its Starts, and how many there are.
use Rattle.std.proofs.Common.{◌≡◌, ℕ, zero, suc, ◌+◌, ◌*◌, ◌≤◌, List, [], ◌∷◌, ◌++◌, length, length-append, true, false, ◌||◌, nat_eq, Option, Some}
use Rattle.std.proofs.Common.{None, ◌⊎◌, inl, inr, refl, ap, sym, ◌∙◌, subst, arith, ◌↔◌, eq-eqb}
use Rattle.std.specs.List.{list_any}
use Rattle.ciel_journal.specs.Job.{Task, show, Job, In, IsJob, WaitOf, Needed}
use Rattle.ciel_journal.specs.History.{Event, start, done, saved, missed, lost, OpenStart, Plan, Standing, live, live_if, after, after_all}
use Rattle.ciel_journal.specs.History.{before_all, standing, find_open, close_with, done_with, saved_with, missed_with}
use Rattle.ciel_journal.specs.Lawful.{Lawful}
use Rattle.ciel_journal.specs.Live.{Live}
use Rattle.ciel_journal.specs.Work.{Slot, same_slot, Covers, Work, total, starts_of, losses_of}
use Rattle.ciel_journal.proofs.Append.{lawful_split}
use Rattle.ciel_journal.proofs.Text.{places_text}
use Rattle.ciel_journal.proofs.Bound.{slot_refl, starts_bound}
use Rattle.ciel_journal.proofs.Members.{in_any}
use Rattle.ciel_journal.proofs.Numbers.{in_left}
use Rattle.ciel_journal.proofs.Near.{in_right}

module _ {D : Type 0} (job : Job D) (laws : IsJob job) where
  some_has : (ws : List ℕ) (t : Task D) → live_if job (Some t) ws ≡ true → (w : ℕ) × (list_any (nat_eq w) ws ≡ true)
  some_has [] t h = cc
  some_has (w ∷ ws) t h = (w, ap (λ b. b || list_any (nat_eq w) ws) (eq-eqb w w refl))

  has_some : (ws : List ℕ) (t : Task D) (w : ℕ) → list_any (nat_eq w) ws ≡ true → live_if job (Some t) ws ≡ true
  has_some [] t w h = cc
  has_some (x ∷ ws) t w h = refl

  -- what is live by the fold is live by the text
  pub live_text : (p : Plan) (h : List (Event D)) → Lawful job p h → (d : D) → (live job (standing job h) d ≡ true) ↔ Live job h d
  live_text p h l d = pick (job.task_of d) refl
    where
      pick : (o : Option (Task D)) → job.task_of d ≡ o → (live_if job (job.task_of d) ((standing job h).places d) ≡ true) ↔ Live job h d
      pick None e = ((λ a. inl e), λ a. ap (λ o. live_if job o ((standing job h).places d)) e)
      pick (Some t) e = (there, back)
        where
          there : live_if job (job.task_of d) ((standing job h).places d) ≡ true → Live job h d
          there a =
              let w = some_has ((standing job h).places d) t (sym (ap (λ o. live_if job o ((standing job h).places d)) e) ∙ a) in
              inr (w.0, (places_text job laws p h l w.0 d).0 w.1)

          back : Live job h d → live_if job (job.task_of d) ((standing job h).places d) ≡ true
          back (inl n) = let bad : Some t ≡ None = sym e ∙ n in cc
          back (inr x) =
              ap (λ o. live_if job o ((standing job h).places d)) e
              ∙ has_some ((standing job h).places d) t x.0 ((places_text job laws p h l x.0 d).1 x.1)

  -- each task started is needed, and some output of it isn't live
  pub started : (p : Plan) (g h : List (Event D)) (k w : ℕ) (t : Task D) (from : ℕ) → Lawful job p (g ++ start k w t from ∷ h) → Needed job t
      × ((t ≡ show) ⊎ ((d : D) × In d (job.outputs t) × (Live job g d → ⊥)))
  started p g h k w t from l =
      let q = lawful_split job p (before_all job) g (start k w t from ∷ h) l in
      let a = q.1.0.allowed in
      (a.needed, pick q.0 a.some_missing)
    where
      pick : Lawful job p g → ((t ≡ show) ⊎ ((d : D) × In d (job.outputs t) × (live job (standing job g) d ≡ false))) → (t ≡ show)
          ⊎ ((d : D) × In d (job.outputs t) × (Live job g d → ⊥))
      pick m (inl s) = inl s
      pick m (inr x) = inr (x.0, x.1, λ y. let z = (live_text p g m x.0).1 y in let n = x.2 in let bad : true ≡ false = sym z ∙ n in cc)

  -- ---- counts

  pub starts_after : (v : Standing D) (h : List (Event D)) → (after_all job v h).starts ≡ v.starts + starts_of job h
  starts_after v [] = omega arith
  starts_after v (start k w t from ∷ es) =
      let a = starts_after (after job v (start k w t from)) es in omega (arith, a)
  starts_after v (done k made copied spawned ∷ es) =
      starts_after (after job v (done k made copied spawned)) es ∙ ap (λ n. n + starts_of job es) (same (find_open job k v.orders))
    where
      same : (o : Option (OpenStart D)) → (close_with job (done_with job made copied spawned) v k o).starts ≡ v.starts
      same None = refl
      same (Some o) = refl
  starts_after v (saved k j mark refs holds spawned ∷ es) =
      starts_after (after job v (saved k j mark refs holds spawned)) es ∙ ap (λ n. n + starts_of job es) (same (find_open job k v.orders))
    where
      same : (o : Option (OpenStart D)) → (close_with job (saved_with job j refs holds spawned) v k o).starts ≡ v.starts
      same None = refl
      same (Some o) = refl
  starts_after v (missed k d loss ∷ es) =
      starts_after (after job v (missed k d loss)) es ∙ ap (λ n. n + starts_of job es) (same (find_open job k v.orders))
    where
      same : (o : Option (OpenStart D)) → (close_with job (missed_with job) v k o).starts ≡ v.starts
      same None = refl
      same (Some o) = refl
  starts_after v (lost w closes ∷ es) = starts_after (after job v (lost w closes)) es

  -- the slots of a task, from 0 up to k
  abbrev slots_to : Task D → ℕ → List (Slot D)
  slots_to t zero = record { task = t; from = 0 } ∷ []
  slots_to t (suc k) = record { task = t; from = suc k } ∷ slots_to t k

  abbrev all_slots : List (Task D × ℕ) → List (Slot D)
  all_slots [] = []
  all_slots (x ∷ xs) = slots_to x.0 x.1 ++ all_slots xs

  slots_length : (t : Task D) (k : ℕ) → length (slots_to t k) ≡ suc k
  slots_length t zero = refl
  slots_length t (suc k) = ap suc (slots_length t k)

  all_length : (xs : List (Task D × ℕ)) → length (all_slots xs) ≡ total job xs
  all_length [] = refl
  all_length (x ∷ xs) =
      length-append (slots_to x.0 x.1) (all_slots xs)
      ∙ (ap (λ n. n + length (all_slots xs)) (slots_length x.0 x.1) ∙ ap (λ n. suc x.1 + n) (all_length xs))

  slot_in : (s : Slot D) (t : Task D) (k : ℕ) → s.task ≡ t → s.from ≤ k → In s (slots_to t k)
  slot_in s t zero e l =
      let z : s.from ≡ 0 = omega (arith, l) in
      inl (ap (λ (u : Task D). record { task = u; from = s.from }) e ∙ ap (λ (n : ℕ). record { task = t; from = n }) z)
  slot_in s t (suc k) e l = turn (cases s.from l) (slot_in s t k e)
    where
      cases : (n : ℕ) → n ≤ suc k → (n ≡ suc k) ⊎ (n ≤ k)
      cases n m = grind arith

      turn : ((s.from ≡ suc k) ⊎ (s.from ≤ k)) → (s.from ≤ k → In s (slots_to t k)) → In s (slots_to t (suc k))
      turn (inl z) r = inl (ap (λ (u : Task D). record { task = u; from = s.from }) e ∙ ap (λ (n : ℕ). record { task = t; from = n }) z)
      turn (inr m) r = inr (r m)

  all_in : (xs : List (Task D × ℕ)) (s : Slot D) (k : ℕ) → In (s.task, k) xs → s.from ≤ k → In s (all_slots xs)
  all_in [] s k i l = absurd i
  all_in (x ∷ xs) s k (inl e) l =
      let a : s.task ≡ x.0 = ap (λ (z : Task D × ℕ). z.0) e in
      let b : k ≡ x.1 = ap (λ (z : Task D × ℕ). z.1) e in
      in_left s (slots_to x.0 x.1) (all_slots xs) (slot_in s x.0 x.1 a (subst (λ n. s.from ≤ n) b l))
  all_in (x ∷ xs) s k (inr i) l = in_right s (slots_to x.0 x.1) (all_slots xs) (all_in xs s k i l)

  covered : (m : ℕ) (work : Work job m) → Covers job (all_slots work.tasks)
  covered m work t j ds n w s e f =
      let k = (work.needed t).0 n in
      in_any (same_slot job) (slot_refl job laws) s (all_slots work.tasks)
      (all_in work.tasks s k.0 (subst (λ u. In (u, k.0) work.tasks) (sym e) k.1) (subst (λ i. i ≤ k.0) (sym f) (below j w)))
    where
      below : (i : ℕ) → WaitOf job t i ds → i ≤ ((work.needed t).0 n).0
      below zero x = omega arith
      below (suc i) x = (work.waits t ((work.needed t).0 n).0 ((work.needed t).0 n).1 (suc i) (omega arith)).1 (ds, x)

  -- after any part of a lawful history, at most so much work for each loss, and once more
  few_after : (m : ℕ) → Work job m → (p : Plan) (g h : List (Event D)) → Lawful job p (g ++ h) → starts_of job h ≤ (losses_of job h + 1) * m
  few_after m work p g h l =
      let b = starts_bound job laws (all_slots work.tasks) (covered m work) p g h l in
      let c = starts_after (standing job g) h in
      let e : length (all_slots work.tasks) ≡ m = all_length work.tasks ∙ work.sum in
      subst (λ n. starts_of job h ≤ (losses_of job h + 1) * n) e (rest _ _ _ ((losses_of job h + 1) * length (all_slots work.tasks)) c b)
    where
      rest : (a s n r : ℕ) → a ≡ s + n → a ≤ s + r → n ≤ r
      rest a s n r c b = omega (arith, c, b)

  pub few_starts : (m : ℕ) → Work job m → (p : Plan) (h : List (Event D)) → Lawful job p h → starts_of job h ≤ (losses_of job h + 1) * m
  few_starts m work p h l = few_after m work p [] h l

  -- and no more than the work where there is no loss
  pub few_between : (m : ℕ) → Work job m → (p : Plan) (g h i : List (Event D)) → Lawful job p (g ++ h ++ i) → losses_of job h ≡ 0
      → starts_of job h ≤ m
  few_between m work p g h i l none =
      let b = few_after m work p g h (lawful_split job p (before_all job) (g ++ h) i l).0 in
      subst (λ n. starts_of job h ≤ n) (ap (λ n. (n + 1) * m) none ∙ once m) b
    where
      once : (n : ℕ) → (0 + 1) * n ≡ n
      once n = omega arith
