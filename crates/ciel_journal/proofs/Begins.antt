-- Each open Start says what stood when it was made.
use Rattle.std.proofs.Common.{◌≡◌, List, [], ◌∷◌, ◌++◌, Option, Some, None, ◌⊎◌, inl, inr, refl, ap, sym, subst, not, nat_eq}
use Rattle.ciel_journal.specs.Job.{Job, In}
use Rattle.ciel_journal.specs.History.{Event, start, done, saved, missed, lost, OpenStart, Standing, after, after_all, before_all, close_with}
use Rattle.ciel_journal.specs.History.{done_with, saved_with, missed_with, find_open, order_of, standing}
use Rattle.ciel_journal.proofs.Numbers.{in_filter, in_last}

module _ {D : Type 0} (job : Job D) where
  -- it was made by an event of the list, before which this stood
  pub record MadeIn (v : Standing D) (h : List (Event D)) (o : OpenStart D) : Type 0 where
    pub before : List (Event D)
    pub rest : List (Event D)
    pub whole : h ≡ before ++ start o.number o.worker o.task o.from ∷ rest
    pub stood : o ≡ order_of job (after_all job v before) o.number o.worker o.task o.from

  later : (v : Standing D) (e : Event D) (es : List (Event D)) (o : OpenStart D) → MadeIn (after job v e) es o → MadeIn v (e ∷ es) o
  later v e es o m =
      record { before = e ∷ m.before; rest = m.rest; whole = ap (λ x. e ∷ x) m.whole; stood = m.stood }

  -- an event makes the Start that it says, and no other
  one_event : (v : Standing D) (e : Event D) (es : List (Event D)) (o : OpenStart D) → In o (after job v e).orders → In o v.orders
      ⊎ MadeIn v (e ∷ es) o
  one_event v (start k w t from) es o i = pick (in_last o v.orders (order_of job v k w t from) i)
    where
      made : o ≡ order_of job v k w t from → MadeIn v (start k w t from ∷ es) o
      made s =
          subst (MadeIn v (start k w t from ∷ es)) (sym s) (record { before = []; rest = es; whole = refl; stood = refl })

      pick : (In o v.orders ⊎ (o ≡ order_of job v k w t from)) → In o v.orders ⊎ MadeIn v (start k w t from ∷ es) o
      pick (inl j) = inl j
      pick (inr s) = inr (made s)
  one_event v (done k made copied spawned) es o i = inl (go (find_open job k v.orders) i)
    where
      go : (x : Option (OpenStart D)) → In o (close_with job (done_with job made copied spawned) v k x).orders → In o v.orders
      go None j = in_filter (λ (q : OpenStart D). not (nat_eq k q.number)) o v.orders j
      go (Some q) j = in_filter (λ (q : OpenStart D). not (nat_eq k q.number)) o v.orders j
  one_event v (saved k j mark refs holds spawned) es o i = inl (go (find_open job k v.orders) i)
    where
      go : (x : Option (OpenStart D)) → In o (close_with job (saved_with job j refs holds spawned) v k x).orders → In o v.orders
      go None i = in_filter (λ (q : OpenStart D). not (nat_eq k q.number)) o v.orders i
      go (Some q) i = in_filter (λ (q : OpenStart D). not (nat_eq k q.number)) o v.orders i
  one_event v (missed k d loss) es o i = inl (go (find_open job k v.orders) i)
    where
      go : (x : Option (OpenStart D)) → In o (close_with job (missed_with job) v k x).orders → In o v.orders
      go None i = in_filter (λ (q : OpenStart D). not (nat_eq k q.number)) o v.orders i
      go (Some q) i = in_filter (λ (q : OpenStart D). not (nat_eq k q.number)) o v.orders i
  one_event v (lost w closes) es o i = inl (in_filter (λ (q : OpenStart D). not (nat_eq w q.worker)) o v.orders i)

  made_from : (v : Standing D) (h : List (Event D)) (o : OpenStart D) → In o (after_all job v h).orders → In o v.orders ⊎ MadeIn v h o
  made_from v [] o i = inl i
  made_from v (e ∷ es) o i = pick (made_from (after job v e) es o i)
    where
      pick : (In o (after job v e).orders ⊎ MadeIn (after job v e) es o) → In o v.orders ⊎ MadeIn v (e ∷ es) o
      pick (inl j) = one_event v e es o j
      pick (inr m) = inr (later v e es o m)

  pub began : (h : List (Event D)) (o : OpenStart D) → In o (standing job h).orders → MadeIn (before_all job) h o
  began h o i = pick (made_from (before_all job) h o i)
    where
      pick : (In o [] ⊎ MadeIn (before_all job) h o) → MadeIn (before_all job) h o
      pick (inl j) = absurd j
      pick (inr m) = m
