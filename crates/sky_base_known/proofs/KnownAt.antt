-- Numbers in names, and known objects.
use Rattle.std.proofs.Common.{◌≡◌, ℕ, zero, suc, ◌+◌, ◌*◌, ◌-◌, ◌<◌, ◌≤◌, ◌^◌, min, List, [], ◌∷◌, ◌++◌, length, take, map, Option, Some, None, refl}
use Rattle.std.proofs.Common.{ap, ◌∙◌, subst, arith, get_or, set}
use Rattle.std.specs.Option.{option_map}
use Rattle.std.proofs.lemmas.List.{length-map}
use Rattle.sky_base.specs.ObjectView.{object_view}
use Rattle.sky_base.specs.declared.object.Object.{Object}
use Rattle.sky_base_known.specs.Walk.{number_of, from_digits, object_at}
use Rattle.sky_base_known.specs.Walk.{Obj}
use Rattle.sky_base_known.specs.Known.{with_object, KeptOption, KeptObjects, KeptObject}

from_digits-append : (n : ℕ) (xs : List ℕ) (b : ℕ) → from_digits n (xs ++ b ∷ []) ≡ from_digits n xs * 256 + b
from_digits-append n [] b = refl
from_digits-append n (x ∷ xs) b = from_digits-append (n * 256 + x) xs b

pub number_of-append : (xs : List ℕ) (b : ℕ) → number_of (xs ++ b ∷ []) ≡ number_of xs * 256 + b
number_of-append xs b = from_digits-append 0 xs b

take_more : (xs : List ℕ) (i d : ℕ) → i < length xs → take (i + 1) xs ≡ take i xs ++ get_or xs i d ∷ []
take_more [] i d h = absurd (omega arith)
take_more (x ∷ xs) zero d h = refl
take_more (x ∷ xs) (suc i) d h = let n : suc i + 1 ≡ suc (i + 1) = omega arith in rw n (ap (λ ys. x ∷ ys) (take_more xs i d (omega arith)))

pub number_more : (xs : List ℕ) (i d : ℕ) → i < length xs → number_of (take (i + 1) xs) ≡ number_of (take i xs) * 256 + get_or xs i d
number_more xs i d h = ap number_of (take_more xs i d h) ∙ number_of-append (take i xs) (get_or xs i d)

pub ruleset digits = (number_more, number_more)

-- ---- objects

pub object_at-past : (os : List (Option Obj)) (k : ℕ) → length os ≤ k → object_at os k ≡ None
object_at-past [] k h = refl
object_at-past (o ∷ os) zero h = absurd (omega arith)
object_at-past (o ∷ os) (suc k) h = object_at-past os k (omega arith)

pub object_at-here : (os : List (Option Object)) (k : ℕ) (d : Option Object) → k < length os → object_at (map (option_map object_view) os) k
    ≡ option_map object_view (get_or os k d)
object_at-here [] k d h = absurd (omega arith)
object_at-here (o ∷ os) zero d h = refl
object_at-here (o ∷ os) (suc k) d h = object_at-here os k d (omega arith)

pub kept_object_at : (os : List (Option Obj)) (k : ℕ) (o : Obj) → object_at os k ≡ Some o → KeptObjects os → KeptObject o
kept_object_at [] k o e h = absurd cc
kept_object_at (x ∷ os) zero o e h = subst KeptOption e h.0
kept_object_at (x ∷ os) (suc k) o e h = kept_object_at os k o e h.1

pub known_past : (os : List (Option Object)) (n k : ℕ) → k ≡ min n (2 ^ 64 - 1) → length os ≤ k → object_at (map (option_map object_view) os) n ≡ None
known_past os n k e h = object_at-past (map (option_map object_view) os) n (omega (arith, length-map os (option_map object_view)))

pub known_here : (os : List (Option Object)) (n k : ℕ) (d : Option Object) → k ≡ min n (2 ^ 64 - 1) → k < length os → length os ≤ 2 ^ 64 - 1
    → object_at (map (option_map object_view) os) n ≡ option_map object_view (get_or os k d)
known_here os n k d e h b = let m : n ≡ k = omega arith in rw m (object_at-here os k d h)

pub kept_push : (os : List (Option Object)) → KeptObjects (map (option_map object_view) os)
    → KeptObjects (map (option_map object_view) (os ++ None ∷ []))
kept_push [] h = (tt, tt)
kept_push (o ∷ os) h = (h.0, kept_push os h.1)

pub object_pad : (os : List (Option Object)) (k : ℕ) (o : Obj) → length os ≤ k → with_object k o (map (option_map object_view) (os ++ None ∷ []))
    ≡ with_object k o (map (option_map object_view) os)
object_pad [] zero o h = refl
object_pad [] (suc k) o h = refl
object_pad (x ∷ os) zero o h = absurd (omega arith)
object_pad (x ∷ os) (suc k) o h = ap (λ r. option_map object_view x ∷ r) (object_pad os k o (omega arith))

pub object_set : (os : List (Option Object)) (k : ℕ) (o : Object) → k < length os → map (option_map object_view) (set os k (Some o))
    ≡ with_object k (object_view o) (map (option_map object_view) os)
object_set [] k o h = absurd (omega arith)
object_set (x ∷ os) zero o h = refl
object_set (x ∷ os) (suc k) o h = ap (λ r. option_map object_view x ∷ r) (object_set os k o (omega arith))

pub kept_set : (os : List (Option Object)) (k : ℕ) (o : Object) → KeptObject (object_view o) → KeptObjects (map (option_map object_view) os)
    → KeptObjects (map (option_map object_view) (set os k (Some o)))
kept_set [] k o a h = tt
kept_set (x ∷ os) zero o a h = (a, h.1)
kept_set (x ∷ os) (suc k) o a h = (h.0, kept_set os k o a h.1)

pub ruleset knowns = (known_past, known_here, kept_object_at, kept_push, object_pad, object_set, kept_set)
