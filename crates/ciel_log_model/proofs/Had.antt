-- What some worker has was made: by a task that came to its end earlier.
use Rattle.std.proofs.Common.{◌≡◌, ℕ, List, [], ◌∷◌, ◌++◌, not, nat_eq, Some, ◌⊎◌, inl, inr}
use Rattle.std.proofs.Common.{refl, sym, ◌∙◌, subst}
use Rattle.std.proofs.lemmas.List.{append_assoc, append-nil}
use Rattle.ciel_journal.specs.History.{Event, OpenStart, Plan, Standing, after, after_all, before_all, done, lost, missed, names_of}
use Rattle.ciel_journal.specs.History.{order_of, placed, saved, standing, start}
use Rattle.ciel_journal.specs.Job.{Digest, In, IsJob, Job, Task}
use Rattle.ciel_journal.specs.Lawful.{Allowed, Copied, Lawful, LawfulFrom, Marked}
use Rattle.ciel_journal.proofs.Good.{after_done, after_missed, after_saved}
use Rattle.ciel_journal.proofs.Members.{each_of}
use Rattle.ciel_journal.proofs.Near.{in_right}
use Rattle.ciel_journal.proofs.Numbers.{found_in, in_filter, in_last, in_left}
use Rattle.ciel_journal.proofs.Shelved.{least_has}
use Rattle.ciel_journal.proofs.Text.{Has, filter_has, placed_cases}

module _ {D : Type 0} (job : Job D) (laws : IsJob job) where
  -- it is an output of a task that came to its end
  pub record MadeAt (h : List (Event D)) (d : D) : Type 0 where
    pub number : ℕ
    pub made : List (D × Digest)
    pub copied : List D
    pub spawned : List D
    pub ended : In (done number made copied spawned) h
    pub has : In d (names_of made)
    pub by : (t : Task D) × (job.task_of d ≡ Some t)

  -- so is what is on a shelf, and what was when an open Start was made
  pub record AllMade (h : List (Event D)) (v : Standing D) : Type 0 where
    pub places : (d : D) (w : ℕ) → Has v.places w d → MadeAt h d
    pub had : (o : OpenStart D) → In o v.orders → (d : D) (w : ℕ) → Has o.had w d → MadeAt h d

  later : (h : List (Event D)) (e : Event D) (d : D) → MadeAt h d → MadeAt (h ++ e ∷ []) d
  later h e d m =
      record {
        number = m.number;
        made = m.made;
        copied = m.copied;
        spawned = m.spawned;
        ended = in_left (done m.number m.made m.copied m.spawned) h (e ∷ []) m.ended;
        has = m.has;
        by = m.by;
      }

  names_marked : (ds : List D) (ms : List (D × Digest)) → Marked job ds ms → (d : D) → In d (names_of ms) → In d ds
  names_marked [] [] k d i = i
  names_marked [] (m ∷ ms) k d i = absurd k
  names_marked (x ∷ xs) [] k d i = absurd i
  names_marked (x ∷ xs) (m ∷ ms) k d (inl q) = inl (q ∙ k.0)
  names_marked (x ∷ xs) (m ∷ ms) k d (inr i) = inr (names_marked xs ms k.2 d i)

  -- with other orders, each of which was there
  module _ (h : List (Event D)) (v : Standing D) (all : AllMade h v) (e : Event D) where
    fewer : (o : OpenStart D) → In o v.orders → (d : D) (w : ℕ) → Has o.had w d → MadeAt (h ++ e ∷ []) d
    fewer o i d w x = later h e d (all.had o i d w x)

  made_step : (p : Plan) (h : List (Event D)) (v : Standing D) (e : Event D) → AllMade h v → Allowed job p v e → AllMade (h ++ e ∷ []) (after job v e)
  made_step p h v (start k w t from) all ok =
      record {
        places = λ d u x. later h (start k w t from) d (all.places d u x);
        had = λ o i. pick o (in_last o v.orders (order_of job v k w t from) i);
      }
    where
      pick : (o : OpenStart D) → (In o v.orders ⊎ (o ≡ order_of job v k w t from)) → (d : D) (u : ℕ) → Has o.had u d
          → MadeAt (h ++ start k w t from ∷ []) d
      pick o (inl i) d u x = later h (start k w t from) d (all.had o i d u x)
      pick o (inr q) d u x = later h (start k w t from) d (all.places d u (subst (λ (z : OpenStart D). Has z.had u d) q x))
  made_step p h v (done k made copied spawned) all ok =
      subst (AllMade (h ++ done k made copied spawned ∷ [])) (sym (after_done job laws v k made copied spawned ok.0 ok.1)) (record {
        places = λ d w x. turn d (placed_cases job laws copied ok.0.worker (placed job (names_of made) ok.0.worker v.places) w d x);
        had = λ o i. fewer h v all (done k made copied spawned) o (in_filter (λ (z : OpenStart D). not (nat_eq k z.number)) o v.orders i);
      })
    where
      here : (d : D) → In d (names_of made) → MadeAt (h ++ done k made copied spawned ∷ []) d
      here d i =
          record {
            number = k;
            made = made;
            copied = copied;
            spawned = spawned;
            ended = in_right (done k made copied spawned) h (done k made copied spawned ∷ []) (inl refl);
            has = i;
            by = (ok.0.task, laws.makes d ok.0.task (names_marked (job.outputs ok.0.task) made ok.2.marked d i));
          }

      copy : (d : D) → In d copied → MadeAt (h ++ done k made copied spawned ∷ []) d
      copy d i =
          let c : Copied job ok.0 d = each_of (Copied job ok.0) d copied i ok.2.fetched in
          later h (done k made copied spawned) d
          (all.had ok.0 (found_in job laws k v.orders ok.0 ok.1).0 d c.1.0 (least_has job laws (ok.0.had d) c.1.0 c.1.1.0))

      turn : (d : D) {w : ℕ} → (Has (placed job (names_of made) ok.0.worker v.places) w d ⊎ ((w ≡ ok.0.worker) × In d copied))
          → MadeAt (h ++ done k made copied spawned ∷ []) d
      turn d {w} (inr c) = copy d c.1
      turn d {w} (inl x) = next (placed_cases job laws (names_of made) ok.0.worker v.places w d x)
        where
          next : (Has v.places w d ⊎ ((w ≡ ok.0.worker) × In d (names_of made))) → MadeAt (h ++ done k made copied spawned ∷ []) d
          next (inl y) = later h (done k made copied spawned) d (all.places d w y)
          next (inr c) = here d c.1
  made_step p h v (saved k j mark refs holds spawned) all ok =
      subst (AllMade (h ++ saved k j mark refs holds spawned ∷ [])) (sym (after_saved job laws v k j mark refs holds spawned ok.0 ok.1)) (record {
        places = λ d w x. later h (saved k j mark refs holds spawned) d (all.places d w x);
        had = λ o i. fewer h v all (saved k j mark refs holds spawned) o (in_filter (λ (z : OpenStart D). not (nat_eq k z.number)) o v.orders i);
      })
  made_step p h v (missed k d loss) all ok =
      subst (AllMade (h ++ missed k d loss ∷ [])) (sym (after_missed job laws v k d loss ok.0 ok.1)) (record {
        places = λ x w y. later h (missed k d loss) x (all.places x w y);
        had = λ o i. fewer h v all (missed k d loss) o (in_filter (λ (z : OpenStart D). not (nat_eq k z.number)) o v.orders i);
      })
  made_step p h v (lost w closes) all ok =
      record {
        places = λ d u x. later h (lost w closes) d (all.places d u (filter_has job laws w u (v.places d) x).0);
        had = λ o i. fewer h v all (lost w closes) o (in_filter (λ (z : OpenStart D). not (nat_eq w z.worker)) o v.orders i);
      }

  made_start : AllMade [] (before_all job)
  made_start = record { places = λ d w x. cc; had = λ o i. absurd i }

  made_from : (p : Plan) (past : List (Event D)) (v : Standing D) (h : List (Event D)) → AllMade past v → LawfulFrom job p v h
      → AllMade (past ++ h) (after_all job v h)
  made_from p past v [] all l = subst (λ z. AllMade z v) (sym (append-nil past)) all
  made_from p past v (e ∷ es) all l =
      subst (λ z. AllMade z (after_all job (after job v e) es)) (append_assoc past (e ∷ []) es)
      (made_from p (past ++ e ∷ []) (after job v e) es (made_step p past v e all l.0.allowed) l.1)

  -- after a lawful history
  pub all_made : (p : Plan) (h : List (Event D)) → Lawful job p h → AllMade h (standing job h)
  all_made p h l = made_from p [] (before_all job) h made_start l
