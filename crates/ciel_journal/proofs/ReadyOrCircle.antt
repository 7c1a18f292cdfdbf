-- Where nothing is open, a task is ready or the waits have a circle.
use Rattle.std.proofs.Common.{◌≡◌, ℕ, zero, suc, ◌+◌, ◌<◌, List, [], ◌∷◌, length, true, false, Option, Some, None, ◌⊎◌, inl, inr, refl, ap, subst}
use Rattle.std.proofs.Common.{arith}
use Rattle.std.specs.List.{list_any, IsDistinct}
use Rattle.ciel_journal.specs.Job.{Each, In, IsJob, Job, Task, show}
use Rattle.ciel_journal.specs.History.{OpenStart, Standing, is_out, live, live_if, needs, same_task}
use Rattle.ciel_journal.specs.Graph.{Chain, WaitsOn, root, standing_graph, through}
use Rattle.ciel_journal.specs.Turns.{CircleAtRest, Reached, Ready}
use Rattle.ciel_journal.proofs.Members.{bool_cases, any_in, distinct_more, distinct_none, fewer, each_of}

module _ {D : Type 0} (job : Job D) (laws : IsJob job) (v : Standing D) where
  unmet : (ds : List D) → Each (λ d. live job v d ≡ true) ds ⊎ ((d : D) × In d ds × (live job v d ≡ false))
  unmet [] = inl tt
  unmet (d ∷ ds) = pick (bool_cases (live job v d)) (unmet ds)
    where
      pick : ((live job v d ≡ true) ⊎ (live job v d ≡ false))
          → (Each (λ d. live job v d ≡ true) ds ⊎ ((e : D) × In e ds × (live job v e ≡ false))) → Each (λ d. live job v d ≡ true) (d ∷ ds)
          ⊎ ((e : D) × In e (d ∷ ds) × (live job v e ≡ false))
      pick (inr h) r = inr (d, inl refl, h)
      pick (inl h) (inl e) = inl (h, e)
      pick (inl h) (inr x) = inr (x.0, inr x.1, x.2)

  task_unlive : (d : D) (o : Option (Task D)) → job.task_of d ≡ o → live job v d ≡ false → (u : Task D) × (job.task_of d ≡ Some u)
  task_unlive d None e h = let k : live_if job None (v.places d) ≡ false = subst (λ o. live_if job o (v.places d) ≡ false) e h in cc
  task_unlive d (Some u) e h = (u, e)

  abbrev pub Linked : List D → Type 0
  Linked [] = Unit {0}
  Linked (d ∷ []) = Unit {0}
  Linked (d ∷ e ∷ rest) = WaitsOn (standing_graph job v) e d × Linked (e ∷ rest)

  closing : (first d : D) (es rest : List D) → v.orders ≡ [] → Chain (standing_graph job v) first d es → Linked (d ∷ rest) → In first (d ∷ rest)
      → (ds : List D) × CircleAtRest job v ds
  closing first d es rest o c l (inl s) = (d ∷ es, (o, subst (λ x. Chain (standing_graph job v) x d es) s c))
  closing first d es [] o c l (inr i) = absurd i
  closing first d es (e ∷ rest) o c l (inr i) = closing first e (d ∷ es) rest o (l.0, c) l.1 i

  abbrev pub Head : Task D → List D → Type 0
  Head t [] = Unit {0}
  Head t (d ∷ rest) = (job.task_of d ≡ Some t) × (live job v d ≡ false)

  -- known lists all that a reached task waits for
  module _ (none_out : v.orders ≡ []) (known : List D)
      (closed : (t : Task D) → Reached job v t → Each (λ d. list_any (job.same d) known ≡ true) (needs job v t)) where
    abbrev pub Booked : D → Type 0
    Booked d = list_any (job.same d) known ≡ true

    abbrev pub Answer : Type 0
    Answer = ((t : Task D) × Ready job v t) ⊎ ((ds : List D) × CircleAtRest job v ds)

    none_is_out : (t : Task D) → is_out job v t ≡ false
    none_is_out t = ap (λ os. list_any (λ (o : OpenStart D). same_task job t o.task) os) none_out

    link : (t : Task D) (r : Reached job v t) (d : D) → In d (needs job v t) → (trail : List D) → Head t trail → Linked trail → Linked (d ∷ trail)
    link t r d i [] h l = tt
    link t r d i (e ∷ rest) h l = ((t, h.0, r, h.1, i), l)

    meets : (t : Task D) (r : Reached job v t) (d : D) → In d (needs job v t) → (trail : List D) → Head t trail → Linked trail → In d trail → Answer
    meets t r d i [] h l j = absurd j
    meets t r d i (e ∷ rest) h l j = inr (closing d e [] rest none_out (t, h.0, r, h.1, i) l j)

    follow : (k : ℕ) (t : Task D) → Reached job v t → (trail : List D) → Head t trail → Linked trail → IsDistinct job.same trail
        → Each Booked trail → length known < k + length trail → Answer
    follow zero t r trail h l dis bo far =
        let n = fewer job.same laws.same_refl laws.same_exact trail known dis bo in absurd (omega arith)
    follow (suc k) t r trail h l dis bo far = turn (unmet (needs job v t)) (follow k)
      where
        Next : Type 0
        Next = (u : Task D) → Reached job v u → (tr : List D) → Head u tr → Linked tr → IsDistinct job.same tr → Each Booked tr
            → length known < k + length tr → Answer

        again : Next → (x : (d : D) × In d (needs job v t) × (live job v d ≡ false))
            → ((list_any (job.same x.0) trail ≡ true) ⊎ (list_any (job.same x.0) trail ≡ false)) → Answer
        again go x (inl e) = meets t r x.0 x.1 trail h l (any_in job.same laws.same_exact x.0 trail e)
        again go x (inr e) =
            let u = task_unlive x.0 (job.task_of x.0) refl x.2 in
            go u.0 (through r (none_is_out t) x.0 x.1 x.2 u.1) (x.0 ∷ trail) (u.1, x.2) (link t r x.0 x.1 trail h l)
            (distinct_more job.same x.0 trail e dis) (each_of Booked x.0 (needs job v t) x.1 (closed t r), bo) (omega arith)

        turn : (Each (λ d. live job v d ≡ true) (needs job v t) ⊎ ((d : D) × In d (needs job v t) × (live job v d ≡ false))) → Next → Answer
        turn (inl met) go = inl (t, record { reached = r; not_out = none_is_out t; met = met })
        turn (inr x) go = again go x (bool_cases (list_any (job.same x.0) trail))

    pub ready_or_circle : Answer
    ready_or_circle = follow (suc (length known)) show root [] tt tt (distinct_none job.same) tt (omega arith)
