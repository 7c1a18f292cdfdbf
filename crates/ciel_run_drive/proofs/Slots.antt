-- The orders that workers have, and the slots that the turns see.
use Rattle.std.proofs.Common.{◌≡◌, ℕ, zero, suc, ◌<◌, List, [], ◌∷◌, length, Option, Some, None, ◌⊎◌, inl, inr, refl, ap, ◌∙◌, arith, slice_get}
use Rattle.std.proofs.Common.{slice_index_or, slice_set}
use Rattle.std.specs.Option.{option_map}
use Rattle.ciel_master_board.specs.Board as board
use Rattle.ciel_task_crew.specs.Crews.{order_at}
use Rattle.ciel_task_order.specs.Views.{P, order_view}
use Rattle.ciel_task_order.specs.declared.order.Order.{Order}
use Rattle.ciel_master_board.specs.Left.{Has}
use Rattle.ciel_run_drive.specs.Kept.{slots_of}

pub slots_at : (out : List (Option Order)) (w : ℕ) (order : Order) → order_at out w ≡ Some order → Has (slots_of out) w (order_view order)
slots_at [] w order e = cc
slots_at (o ∷ os) zero order e = ap (λ z. Some (option_map order_view z)) e
slots_at (o ∷ os) (suc w) order e = slots_at os w order e

pub at_slots : (out : List (Option Order)) (w : ℕ) (x : board.Order P) → Has (slots_of out) w x → (order : Order) × (order_at out w ≡ Some order)
    × (order_view order ≡ x)
at_slots [] w x e = let bad : None ≡ Some (Some x) = e in cc
at_slots (None ∷ os) zero x e = let bad : Some None ≡ Some (Some x) = e in cc
at_slots (Some o ∷ os) zero x e = let q : order_view o ≡ x = cc in (o, refl, q)
at_slots (o ∷ os) (suc w) x e = at_slots os w x e

pub free_at : (out : List (Option Order)) (w : ℕ) → slice_get (slots_of out) w ≡ Some None → order_at out w ≡ None
free_at [] w e = refl
free_at (None ∷ os) zero e = refl
free_at (Some o ∷ os) zero e = cc
free_at (o ∷ os) (suc w) e = free_at os w e

pub below_slots : (out : List (Option Order)) (w : ℕ) (o : Option (board.Order P)) → slice_get (slots_of out) w ≡ Some o → w < length out
below_slots [] w o e = let bad : None ≡ Some o = e in cc
below_slots (x ∷ xs) zero o e = omega arith
below_slots (x ∷ xs) (suc w) o e = let l = below_slots xs w o e in omega (arith, l)

pub slots_set : (out : List (Option Order)) (w : ℕ) (o : Option Order) → slots_of (slice_set out w o)
    ≡ slice_set (slots_of out) w (option_map order_view o)
slots_set [] w o = refl
slots_set (x ∷ xs) zero o = refl
slots_set (x ∷ xs) (suc w) o = ap (λ z. option_map order_view x ∷ z) (slots_set xs w o)

-- with an order more, at its worker
pub slots_sent : (out : List (Option Order)) (order : Order) (w : ℕ) (x : board.Order P) → order.worker ≡ w → order_view order ≡ x
    → {then : List (Option Order)} → then ≡ slice_set out order.worker (Some order) → slots_of then ≡ slice_set (slots_of out) w (Some x)
slots_sent out order w x at view sent =
    ap slots_of sent ∙ (slots_set out order.worker (Some order)
    ∙ (ap (λ n. slice_set (slots_of out) n (Some (order_view order))) at ∙ ap (λ z. slice_set (slots_of out) w (Some z)) view))

pub set_at : (out : List (Option Order)) (w u : ℕ) (o : Option Order) (order : Order) → order_at (slice_set out w o) u ≡ Some order
    → ((u ≡ w) × (o ≡ Some order)) ⊎ (order_at out u ≡ Some order)
set_at [] w u o order e = inr e
set_at (x ∷ xs) zero zero o order e = inl (refl, e)
set_at (x ∷ xs) zero (suc u) o order e = inr e
set_at (x ∷ xs) (suc w) zero o order e = inr e
set_at (x ∷ xs) (suc w) (suc u) o order e = pick (set_at xs w u o order e)
  where
    pick : ((u ≡ w) × (o ≡ Some order)) ⊎ (order_at xs u ≡ Some order) → ((suc u ≡ suc w) × (o ≡ Some order)) ⊎ (order_at xs u ≡ Some order)
    pick (inl q) = inl (ap suc q.0, q.1)
    pick (inr q) = inr q

pub got_index : {A : Type 0} (xs : List A) (i : ℕ) (d : A) → i < length xs → slice_get xs i ≡ Some (slice_index_or xs i d)
got_index [] i d l = absurd (omega (arith, l))
got_index (y ∷ ys) zero d l = refl
got_index (y ∷ ys) (suc i) d l = got_index ys i d (omega (arith, l))
