-- The sign of a step, by its place in the code's list.
use Rattle.std.proofs.Common.{◌≡◌, ◌≤◌, ◌<◌, ◌+◌, ◌-◌, ℕ, zero, suc, List, [], ◌∷◌, length, reverse, Some, None, slice_get, get_or, refl, sym, ap}
use Rattle.std.proofs.Common.{◌∙◌, arith}
use Rattle.std.proofs.lemmas.List.{get_or-reverse, length-reverse}
use Rattle.std.proofs.lemmas.Option.{slice_get-get_or, get_or_from_slice_get, slice_get_past}
use Rattle.sky_base.specs.Tree.{SignAt}
use Rattle.sky_base.specs.TreeView.{signs_view}
use Rattle.sky_base.specs.declared.tree.SignAt as rust
use Rattle.sky_machine_waits.specs.Waits.{sign_at, sign_of}

pub many_signs : (ss : List rust.SignAt) → length (signs_view ss) ≡ length ss
many_signs [] = refl
many_signs (s ∷ ss) = ap suc (many_signs ss)

sign_there : (ss : List rust.SignAt) (j : ℕ) (s : rust.SignAt) → slice_get ss j ≡ Some s → slice_get (signs_view ss) j ≡ Some (sign_of s)
sign_there [] j s e = absurd cc
sign_there (x ∷ ss) zero s e = some_sign x s e
  where
    some_sign : (x s : rust.SignAt) → Some x ≡ Some s → Some (sign_of x) ≡ Some (sign_of s)
    some_sign x s e = cc
sign_there (x ∷ ss) (suc j) s e = sign_there ss j s e

behind_it : (xs : List SignAt) (i j : ℕ) (x : SignAt) → i < length xs → j ≡ length xs - 1 - i → slice_get xs j ≡ Some x
    → slice_get (reverse xs) i ≡ Some x
behind_it xs i j x within is e =
    slice_get-get_or (reverse xs) i x (omega (arith, length-reverse xs, within))
    ∙ ap Some (get_or-reverse xs i x within ∙ ap (λ k. get_or xs k x) (sym is) ∙ get_or_from_slice_get xs j x x e)

pub nth_sign : (ss : List rust.SignAt) (k j : ℕ) (d : rust.SignAt) → 2 ≤ k → k ≤ length ss + 1 → j ≡ length ss + 1 - k
    → sign_at (signs_view ss) k ≡ Some (sign_of (get_or ss j d))
nth_sign ss zero j d low high is = absurd (omega (arith, low))
nth_sign ss (suc zero) j d low high is = absurd (omega (arith, low))
nth_sign ss (suc (suc i)) j d low high is =
    behind_it (signs_view ss) i j (sign_of (get_or ss j d)) (omega (arith, many_signs ss, high)) (omega (arith, many_signs ss, is))
    (sign_there ss j (get_or ss j d) (slice_get-get_or ss j d (omega (arith, high, low, is))))

pub no_sign_below : (ss : List rust.SignAt) (k : ℕ) → k < 2 → sign_at (signs_view ss) k ≡ None
no_sign_below ss zero low = refl
no_sign_below ss (suc zero) low = refl
no_sign_below ss (suc (suc i)) low = absurd (omega (arith, low))

pub no_sign_above : (ss : List rust.SignAt) (k : ℕ) → length ss + 1 < k → sign_at (signs_view ss) k ≡ None
no_sign_above ss zero high = refl
no_sign_above ss (suc zero) high = refl
no_sign_above ss (suc (suc i)) high =
    slice_get_past (reverse (signs_view ss)) i (omega (arith, length-reverse (signs_view ss), many_signs ss, high))
