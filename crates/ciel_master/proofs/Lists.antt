-- Lists of orders that are out, by what they stand for.
use Rattle.std.proofs.Common.{◌≡◌, ℕ, List, [], ◌∷◌, Bool, true, false, cond, map, filter, not, nat_eq, refl, ap}
use Rattle.ciel_master_board.specs.Board as board
use Rattle.ciel_master_board.specs.Moves.{without}
use Rattle.ciel_master.specs.Views.{kept_view}
use Rattle.ciel_master.specs.declared.orders.OrderOut.{OrderOut}

-- those that a test of what they stand for keeps
filter_map : (p : board.OrderOut → Bool) (xs : List OrderOut) → map kept_view (filter (λ (x : OrderOut). p (kept_view x)) xs)
    ≡ filter p (map kept_view xs)
filter_map p [] = refl
filter_map p (x ∷ xs) = pick (p (kept_view x)) (filter_map p xs)
  where
    pick : (b : Bool) → map kept_view (filter (λ (y : OrderOut). p (kept_view y)) xs) ≡ filter p (map kept_view xs)
        → map kept_view (cond b (x ∷ filter (λ (y : OrderOut). p (kept_view y)) xs) (filter (λ (y : OrderOut). p (kept_view y)) xs))
        ≡ cond b (kept_view x ∷ filter p (map kept_view xs)) (filter p (map kept_view xs))
    pick true r = ap (λ ys. kept_view x ∷ ys) r
    pick false r = r

pub without_map : (k : ℕ) (xs : List OrderOut) → map kept_view (filter (λ (x : OrderOut). not (nat_eq k x.number)) xs) ≡ without k (map kept_view xs)
without_map k xs = filter_map (λ (x : board.OrderOut). not (nat_eq k x.number)) xs

pub elsewhere_map : (w : ℕ) (xs : List OrderOut) → map kept_view (filter (λ (x : OrderOut). not (nat_eq w x.worker)) xs)
    ≡ filter (λ (x : board.OrderOut). not (nat_eq w x.worker)) (map kept_view xs)
elsewhere_map w xs = filter_map (λ (x : board.OrderOut). not (nat_eq w x.worker)) xs
