-- What the teller's parts stand for, after each change.
use Rattle.std.proofs.Common.{◌≡◌, ◌+◌, ℕ, List, [], Bool, false, ◌||◌, true, ◌⊎◌, Option, Some, None, MatchOption, option_map, slice_get, ap, sym, subst, ◌∙◌}
use Rattle.std.specs.BTreeMap.{BTreeMap, Updates, UpdatesBy, get, is_at}
use Rattle.std.specs.Map.{lookup}
use Rattle.std.specs.Ordering.{nat_cmp}
use Rattle.ciel_journal.specs.Turns.{FirstDue, NothingDue}
use Rattle.ciel_look_story.specs.Story.{Stand, before_all, closed, with_open}

abbrev pub stand : BTreeMap ℕ ℕ → List ℕ → ℕ → Bool → Stand
stand m gone closes over = record { worker_of = λ k. get nat_cmp m k; gone = gone; closes = closes; over = over }

pub stand_new : (m : BTreeMap ℕ ℕ) (gone : List ℕ) → m.entries ≡ [] → gone ≡ [] → stand m gone 0 false ≡ before_all
stand_new m gone e h = λ i. record { worker_of = λ k. lookup (is_at (nat_cmp k)) (e i); gone = h i; closes = 0; over = false }

pub stand_open : (m n : BTreeMap ℕ ℕ) (gone : List ℕ) (closes : ℕ) (over : Bool) (k w : ℕ) → Updates nat_cmp m n k (Some w)
    → stand n gone closes over ≡ with_open (stand m gone closes over) k w
stand_open m n gone closes over k w u = λ i. record { worker_of = λ q. u.0 q i; gone = gone; closes = closes; over = over }

pub stand_closed : (m n : BTreeMap ℕ ℕ) (gone : List ℕ) (closes : ℕ) (over shown : Bool) (k : ℕ) → UpdatesBy nat_cmp (nat_cmp k) m n None
    → stand n gone (closes + 1) (over || shown) ≡ closed (stand m gone closes over) k shown
stand_closed m n gone closes over shown k u =
    λ i. record { worker_of = λ q. u.0 q i; gone = gone; closes = closes + 1; over = over || shown }

-- ---- the loss that comes next

pub due_next : (planned : List (ℕ × ℕ)) (closes : ℕ) (gone : List ℕ) (over : Bool) (place : ℕ) (r : Option ℕ) → over ≡ false
    → r ≡ option_map (λ (l : ℕ × ℕ). l.1) (slice_get planned place) → (worker : ℕ) × FirstDue planned closes gone place worker
    → MatchOption r ((over ≡ true) ⊎ NothingDue planned closes gone) (λ w. (loss : ℕ) × ((over ≡ false) × FirstDue planned closes gone loss w))
due_next planned closes gone over place r o q d =
    let e : r ≡ Some d.0 = q ∙ ap (option_map (λ (l : ℕ × ℕ). l.1)) d.1.due.planned in
    subst (λ x. MatchOption x ((over ≡ true) ⊎ NothingDue planned closes gone)
    (λ w. (loss : ℕ) × ((over ≡ false) × FirstDue planned closes gone loss w))) (sym e) (place, (o, d.1))
