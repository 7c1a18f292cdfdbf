-- Operators that give numbers of 64 bits and truth values, whatever they are given.
use Rattle.std.proofs.Common.{◌≡◌, ℕ, ℤ, zero, suc, ◌^◌, Bool, true, false, not, ◌&&◌, List, Ok, Err, FitsSigned, pos, negsuc, ◌-ℤ◌, ◌*ℤ◌, int_div}
use Rattle.std.proofs.Common.{refl, ltb-true}
use Rattle.std.specs.Int.{w64}
use Rattle.std.specs.Ordering.{is_lt, is_le, is_gt, is_ge}
use Rattle.std.specs.declared.cmp.Ordering.{Ordering}
use Rattle.sky_base.specs.Val.{Val, Pairs, null, truth, num, text, list, dict, fun, ref, is_plain, same_val}
use Rattle.sky_base.specs.Op.{Answer, if_fits, fits, checked, minus, times, over, over_num, equal_if, ordered, compare, Order, negated, opposite, has}

-- a number that fits has 64 bits
pub fits_signed : (z : ℤ) → fits z ≡ true → FitsSigned w64 z
fits_signed (pos n) e = record { sfits = ltb-true n (2 ^ 63) e }
fits_signed (negsuc n) e = record { sfits = ltb-true n (2 ^ 63) e }

module _ (N : Type 0) where
  abbrev pub Atom : Val N → Type 0
  Atom null = Unit {0}
  Atom (truth b) = Unit {0}
  Atom (num z) = FitsSigned w64 z
  Atom (text t) = ⊥
  Atom (list vs) = ⊥
  Atom (dict ps) = ⊥
  Atom (fun f c) = ⊥
  Atom (ref d) = ⊥

  -- a fault, null, a truth value or a number of 64 bits
  abbrev pub Simple : Answer N → Type 0
  Simple (Ok v) = Atom v
  Simple (Err k) = Unit {0}

  pub checked_simple : (z : ℤ) → Simple (checked z)
  checked_simple z = go (fits z) refl
    where
      go : (b : Bool) → fits z ≡ b → Simple (if_fits b z)
      go true e = fits_signed z e
      go false e = tt

  num_minus : (a : ℤ) (v : Val N) → Simple (minus (num a) v)
  num_minus a (num b) = checked_simple (a -ℤ b)
  num_minus a null = tt
  num_minus a (truth b) = tt
  num_minus a (text t) = tt
  num_minus a (list vs) = tt
  num_minus a (dict ps) = tt
  num_minus a (fun f c) = tt
  num_minus a (ref d) = tt

  pub minus_simple : (v w : Val N) → Simple (minus v w)
  minus_simple (num a) w = num_minus a w
  minus_simple null w = tt
  minus_simple (truth b) w = tt
  minus_simple (text t) w = tt
  minus_simple (list vs) w = tt
  minus_simple (dict ps) w = tt
  minus_simple (fun f c) w = tt
  minus_simple (ref d) w = tt

  num_times : (a : ℤ) (v : Val N) → Simple (times (num a) v)
  num_times a (num b) = checked_simple (a *ℤ b)
  num_times a null = tt
  num_times a (truth b) = tt
  num_times a (text t) = tt
  num_times a (list vs) = tt
  num_times a (dict ps) = tt
  num_times a (fun f c) = tt
  num_times a (ref d) = tt

  pub times_simple : (v w : Val N) → Simple (times v w)
  times_simple (num a) w = num_times a w
  times_simple null w = tt
  times_simple (truth b) w = tt
  times_simple (text t) w = tt
  times_simple (list vs) w = tt
  times_simple (dict ps) w = tt
  times_simple (fun f c) w = tt
  times_simple (ref d) w = tt

  quotient_simple : (a b : ℤ) → Simple (over_num a b)
  quotient_simple a (pos zero) = tt
  quotient_simple a (pos (suc b)) = checked_simple (int_div a (pos (suc b)))
  quotient_simple a (negsuc b) = checked_simple (int_div a (negsuc b))

  num_over : (a : ℤ) (v : Val N) → Simple (over (num a) v)
  num_over a (num b) = quotient_simple a b
  num_over a null = tt
  num_over a (truth b) = tt
  num_over a (text t) = tt
  num_over a (list vs) = tt
  num_over a (dict ps) = tt
  num_over a (fun f c) = tt
  num_over a (ref d) = tt

  pub over_simple : (v w : Val N) → Simple (over v w)
  over_simple (num a) w = num_over a w
  over_simple null w = tt
  over_simple (truth b) w = tt
  over_simple (text t) w = tt
  over_simple (list vs) w = tt
  over_simple (dict ps) w = tt
  over_simple (fun f c) w = tt
  over_simple (ref d) w = tt

  equal_if_simple : (b c : Bool) → Simple (equal_if b c)
  equal_if_simple true c = tt
  equal_if_simple false c = tt

  num_ordered : (t : Ordering → Bool) (a : ℤ) (v : Val N) → Simple (ordered t (num a) v)
  num_ordered t a (num b) = tt
  num_ordered t a null = tt
  num_ordered t a (truth b) = tt
  num_ordered t a (text s) = tt
  num_ordered t a (list vs) = tt
  num_ordered t a (dict ps) = tt
  num_ordered t a (fun f c) = tt
  num_ordered t a (ref d) = tt

  text_ordered : (t : Ordering → Bool) (a : List ℕ) (v : Val N) → Simple (ordered t (text a) v)
  text_ordered t a (text b) = tt
  text_ordered t a null = tt
  text_ordered t a (truth b) = tt
  text_ordered t a (num z) = tt
  text_ordered t a (list vs) = tt
  text_ordered t a (dict ps) = tt
  text_ordered t a (fun f c) = tt
  text_ordered t a (ref d) = tt

  ordered_simple : (t : Ordering → Bool) (v w : Val N) → Simple (ordered t v w)
  ordered_simple t (num a) w = num_ordered t a w
  ordered_simple t (text a) w = text_ordered t a w
  ordered_simple t null w = tt
  ordered_simple t (truth b) w = tt
  ordered_simple t (list vs) w = tt
  ordered_simple t (dict ps) w = tt
  ordered_simple t (fun f c) w = tt
  ordered_simple t (ref d) w = tt

  pub compare_simple : (o : Order) (v w : Val N) → Simple (compare o v w)
  compare_simple Order.eq v w = equal_if_simple (is_plain v && is_plain w) (same_val (λ x y. false) v w)
  compare_simple Order.ne v w = equal_if_simple (is_plain v && is_plain w) (not (same_val (λ x y. false) v w))
  compare_simple Order.lt v w = ordered_simple is_lt v w
  compare_simple Order.le v w = ordered_simple is_le v w
  compare_simple Order.gt v w = ordered_simple is_gt v w
  compare_simple Order.ge v w = ordered_simple is_ge v w

  pub negated_simple : (v : Val N) → Simple (negated v)
  negated_simple (num z) = checked_simple (pos 0 -ℤ z)
  negated_simple null = tt
  negated_simple (truth b) = tt
  negated_simple (text t) = tt
  negated_simple (list vs) = tt
  negated_simple (dict ps) = tt
  negated_simple (fun f c) = tt
  negated_simple (ref d) = tt

  pub opposite_simple : (v : Val N) → Simple (opposite v)
  opposite_simple (truth b) = tt
  opposite_simple null = tt
  opposite_simple (num z) = tt
  opposite_simple (text t) = tt
  opposite_simple (list vs) = tt
  opposite_simple (dict ps) = tt
  opposite_simple (fun f c) = tt
  opposite_simple (ref d) = tt

  dict_has : (ps : Pairs N) (k : Val N) → Simple (has (dict ps) k)
  dict_has ps (text k) = tt
  dict_has ps null = tt
  dict_has ps (truth b) = tt
  dict_has ps (num z) = tt
  dict_has ps (list vs) = tt
  dict_has ps (dict qs) = tt
  dict_has ps (fun f c) = tt
  dict_has ps (ref d) = tt

  pub has_simple : (v k : Val N) → Simple (has v k)
  has_simple (dict ps) k = dict_has ps k
  has_simple null k = tt
  has_simple (truth b) k = tt
  has_simple (num z) k = tt
  has_simple (text t) k = tt
  has_simple (list vs) k = tt
  has_simple (fun f c) k = tt
  has_simple (ref d) k = tt
