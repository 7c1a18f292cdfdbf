-- Counts and the book of what stands after a history, said of the whole history.
use Rattle.std.proofs.Common.{◌≡◌, ℕ, suc, ◌+◌, List, [], ◌∷◌, ◌++◌, cond, Option, Some, None, refl, ap, sym, ◌∙◌, arith}
use Rattle.std.specs.List.{list_any}
use Rattle.ciel_journal.specs.Job.{Job, IsJob}
use Rattle.ciel_journal.specs.History.{Event, OpenStart, Plan, Standing, after, after_all, before_all, close_with, done, done_with, find_open}
use Rattle.ciel_journal.specs.History.{learned, lost, missed, missed_with, saved, saved_with, standing, start}
use Rattle.ciel_journal.specs.Lawful.{Lawful, LawfulFrom}
use Rattle.ciel_journal.specs.Live.{closes_of, spawned_of}
use Rattle.ciel_journal.specs.Work.{starts_of}
use Rattle.ciel_journal.proofs.Good.{after_done, after_missed, after_saved}
use Rattle.ciel_journal.proofs.Started.{starts_after}

module _ {D : Type 0} (job : Job D) where
  swap : (a c n : ℕ) → a ≡ c + 1 → a + n ≡ c + suc n
  swap a c n e = omega (arith, e)

  closes_after : (v : Standing D) (h : List (Event D)) → (after_all job v h).closes ≡ v.closes + closes_of h
  closes_after v [] = omega arith
  closes_after v (start k w t from ∷ es) = closes_after (after job v (start k w t from)) es
  closes_after v (done k made copied spawned ∷ es) =
      closes_after (after job v (done k made copied spawned)) es
      ∙ swap (after job v (done k made copied spawned)).closes v.closes (closes_of es) (same (find_open job k v.orders))
    where
      same : (o : Option (OpenStart D)) → (close_with job (done_with job made copied spawned) v k o).closes ≡ v.closes + 1
      same None = refl
      same (Some o) = refl
  closes_after v (saved k j mark refs holds spawned ∷ es) =
      closes_after (after job v (saved k j mark refs holds spawned)) es
      ∙ swap (after job v (saved k j mark refs holds spawned)).closes v.closes (closes_of es) (same (find_open job k v.orders))
    where
      same : (o : Option (OpenStart D)) → (close_with job (saved_with job j refs holds spawned) v k o).closes ≡ v.closes + 1
      same None = refl
      same (Some o) = refl
  closes_after v (missed k d loss ∷ es) =
      closes_after (after job v (missed k d loss)) es
      ∙ swap (after job v (missed k d loss)).closes v.closes (closes_of es) (same (find_open job k v.orders))
    where
      same : (o : Option (OpenStart D)) → (close_with job (missed_with job) v k o).closes ≡ v.closes + 1
      same None = refl
      same (Some o) = refl
  closes_after v (lost w closes ∷ es) = closes_after (after job v (lost w closes)) es

  zero_left : (n : ℕ) → 0 + n ≡ n
  zero_left n = omega arith

  pub closes_told : (h : List (Event D)) → (standing job h).closes ≡ closes_of h
  closes_told h = closes_after (before_all job) h ∙ zero_left (closes_of h)

  learned_join : (book xs ys : List D) → learned job book (xs ++ ys) ≡ learned job (learned job book xs) ys
  learned_join book [] ys = refl
  learned_join book (x ∷ xs) ys = learned_join (cond (list_any (job.same x) book) book (book ++ x ∷ [])) xs ys

module _ {D : Type 0} (job : Job D) (laws : IsJob job) where
  pub starts_told : (h : List (Event D)) → (standing job h).starts ≡ starts_of job h
  starts_told h = starts_after job laws (before_all job) h ∙ zero_left job (starts_of job h)

  book_after : (p : Plan) (v : Standing D) (h : List (Event D)) → LawfulFrom job p v h → (after_all job v h).book ≡ learned job v.book (spawned_of h)
  book_after p v [] l = refl
  book_after p v (start k w t from ∷ es) l = book_after p (after job v (start k w t from)) es l.1
  book_after p v (done k made copied spawned ∷ es) l =
      book_after p (after job v (done k made copied spawned)) es l.1
      ∙ (ap (λ (u : Standing D). learned job u.book (spawned_of es)) (after_done job laws v k made copied spawned l.0.allowed.0 l.0.allowed.1)
      ∙ sym (learned_join job v.book spawned (spawned_of es)))
  book_after p v (saved k j mark refs holds spawned ∷ es) l =
      book_after p (after job v (saved k j mark refs holds spawned)) es l.1
      ∙ (ap (λ (u : Standing D). learned job u.book (spawned_of es)) (after_saved job laws v k j mark refs holds spawned l.0.allowed.0 l.0.allowed.1)
      ∙ sym (learned_join job v.book spawned (spawned_of es)))
  book_after p v (missed k d loss ∷ es) l =
      book_after p (after job v (missed k d loss)) es l.1
      ∙ ap (λ (u : Standing D). learned job u.book (spawned_of es)) (after_missed job laws v k d loss l.0.allowed.0 l.0.allowed.1)
  book_after p v (lost w closes ∷ es) l = book_after p (after job v (lost w closes)) es l.1

  pub book_told : (p : Plan) (h : List (Event D)) → Lawful job p h → (standing job h).book ≡ learned job (job.main ∷ []) (spawned_of h)
  book_told p h l = book_after p (before_all job) h l
