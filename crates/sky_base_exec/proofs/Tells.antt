-- Outputs that become known one after the other.
use Rattle.std.proofs.Common.{◌≡◌, ◌≤◌, ◌<◌, ℕ, zero, suc, ◌+◌, List, [], ◌∷◌, length, Bool, true, false, Option, Some, Result, slice_get}
use Rattle.std.proofs.Common.{slice_index_or, ◌⊎◌, inl, inr, refl, sym, ap, ◌∙◌, arith}
use Rattle.sky_base.specs.Res.{Object}
use Rattle.sky_base.specs.Val.{Val, out}
use Rattle.sky_base.specs.declared.fault.Fault.{Fault}
use Rattle.sky_base_law.specs.Tasks.{Apart}
use Rattle.sky_base_law.proofs.Lists.{some_is}
use Rattle.sky_base_known.specs.Known.{with_object}
use Rattle.sky_base_known.specs.Walk.{Row, Obj, object_at, is_known, is_held}
use Rattle.sky_base_known.proofs.Learn.{in_held}
use Rattle.sky_base_known.proofs.Numbers.{got_in, got_below, index_at}
use Rattle.sky_base_exec.specs.Perform.{output_at, output_of}
use Rattle.sky_base_exec.specs.Outputs.{Keeps, InRoom, OnlyOf, KnownOf, OnlyOutputs, KnownOutputs}
use Rattle.sky_base_exec.proofs.Withs.{length_with, with_here, with_there, nat_same, known_some}

-- ---- nothing changes

pub keeps-self : (os : List (Option Obj)) → Keeps os os
keeps-self os k o e = e

pub only-self : (rows : List Row) (d : Row) (u : Obj) (os : List (Option Obj)) → OnlyOf rows d u os os
only-self rows d u os k o e = inl e

pub room-self : (rows : List Row) (os : List (Option Obj)) → InRoom rows os os
room-self rows os m a b = a

-- ---- a description that isn't held, and one whose object is known

no_true : (b : Bool) → b ≡ false → b ≡ true → ⊥
no_true true e f = absurd cc
no_true false e f = absurd cc

pub known-none : (rows : List Row) (d : Row) (os : List (Option Obj)) → is_held d rows ≡ false → KnownOf rows d os
known-none rows d os e k at = absurd (no_true (is_held d rows) e (in_held d rows (got_in rows k d at)))

-- a description stands once
same_place : (rows : List Row) (d : Row) (k j : ℕ) → Apart rows → slice_get rows k ≡ Some d → slice_get rows j ≡ Some d → j ≡ k
same_place rows d k j apart e f = sym (index_at rows j d apart f) ∙ index_at rows k d apart e

pub known-here : (rows : List Row) (d : Row) (k : ℕ) (os : List (Option Obj)) → Apart rows → slice_get rows k ≡ Some d
    → is_known (object_at os k) ≡ true → KnownOf rows d os
known-here rows d k os apart at has j e = ap (λ i. is_known (object_at os i)) (same_place rows d k j apart at e) ∙ has

-- ---- one more object

pub keeps-with : (k : ℕ) (u : Obj) (os : List (Option Obj)) → is_known (object_at os k) ≡ false → Keeps os (with_object k u os)
keeps-with k u os isnt j o e = go (nat_same j k)
  where
    go : (j ≡ k) ⊎ (j ≡ k → ⊥) → object_at (with_object k u os) j ≡ Some o
    go (inl q) = absurd (no_true (is_known (object_at os k)) isnt (ap is_known (ap (object_at os) (sym q) ∙ e)))
    go (inr n) = with_there k j u os n ∙ e

pub only-with : (rows : List Row) (d : Row) (k : ℕ) (u : Obj) (os : List (Option Obj)) → slice_get rows k ≡ Some d
    → OnlyOf rows d u os (with_object k u os)
only-with rows d k u os at j o e = go (nat_same j k)
  where
    go : (j ≡ k) ⊎ (j ≡ k → ⊥) → (object_at os j ≡ Some o) ⊎ ((slice_get rows j ≡ Some d) × (o ≡ u))
    go (inl q) =
        inr (ap (slice_get rows) q ∙ at, some_is o u (sym e ∙ ap (object_at (with_object k u os)) q ∙ with_here k u os))
    go (inr n) = inl (sym (with_there k j u os n) ∙ e)

pub known-with : (rows : List Row) (d : Row) (k : ℕ) (u : Obj) (os : List (Option Obj)) → Apart rows → slice_get rows k ≡ Some d
    → KnownOf rows d (with_object k u os)
known-with rows d k u os apart at = known-here rows d k (with_object k u os) apart at (ap is_known (with_here k u os))

pub room-with : (rows : List Row) (d : Row) (k : ℕ) (u : Obj) (os : List (Option Obj)) → slice_get rows k ≡ Some d
    → InRoom rows os (with_object k u os)
room-with rows d k u os at m a b =
    let h : k < length rows = got_below rows k d at in length_with k m u os (omega (arith, h, b)) a

-- ---- one output after the other

pub keeps-over : (a b c : List (Option Obj)) → Keeps a b → Keeps b c → Keeps a c
keeps-over a b c f g k o e = g k o (f k o e)

pub room-over : (rows : List Row) (a b c : List (Option Obj)) → InRoom rows a b → InRoom rows b c → InRoom rows a c
room-over rows a b c f g m h l = g m (f m h l) l

module _ (rows : List Row) (x : List ℕ) (v : Val (List ℕ)) (n : ℕ) where
  pub no-outputs : (os : List (Option Obj)) → KnownOutputs rows x v n 0 os
  no-outputs os i h = absurd (omega (arith, h))

  pub known-more : (m : ℕ) (a b : List (Option Obj)) → KnownOutputs rows x v n m a → Keeps a b → KnownOf rows (out x v n m) b
      → KnownOutputs rows x v n (m + 1) b
  known-more m a b all keeps here i h k at = go (nat_same i m)
    where
      of_some : (o : Obj) × (object_at a k ≡ Some o) → is_known (object_at b k) ≡ true
      of_some (o, e) = ap is_known (keeps k o e)

      go : (i ≡ m) ⊎ (i ≡ m → ⊥) → is_known (object_at b k) ≡ true
      go (inl q) = here k (at ∙ ap (λ j. Some (out x v n j)) q)
      go (inr d) = of_some (known_some (object_at a k) (all i (below i m h d) k at))
        where
          below : (i m : ℕ) → i < m + 1 → (i ≡ m → ⊥) → i < m
          below zero zero h d = absurd (d refl)
          below zero (suc m) h d = omega arith
          below (suc i) zero h d = absurd (omega (arith, h))
          below (suc i) (suc m) h d = let g : i < m = below i m (omega (arith, h)) (λ e. d (ap suc e)) in omega (arith, g)

  module _ (made : Result (List (List ℕ)) Fault) where
    pub only-none : (os : List (Option Obj)) → OnlyOutputs rows x v n made 0 os os
    only-none os k o e = inl e

    pub only-less : (m l : ℕ) (a b : List (Option Obj)) → m ≤ l → OnlyOutputs rows x v n made m a b → OnlyOutputs rows x v n made l a b
    only-less m l a b le only k o e = go (only k o e)
      where
        go : (object_at a k ≡ Some o) ⊎ ((i : ℕ) × (i < m) × (slice_get rows k ≡ Some (out x v n i)) × (o ≡ output_of made i))
            → (object_at a k ≡ Some o) ⊎ ((i : ℕ) × (i < l) × (slice_get rows k ≡ Some (out x v n i)) × (o ≡ output_of made i))
        go (inl h) = inl h
        go (inr (i, h, at, is)) = inr (i, omega (arith, h, le), at, is)

    pub only-more : (m : ℕ) (a b c : List (Option Obj)) → OnlyOutputs rows x v n made m a b → OnlyOf rows (out x v n m) (output_of made m) b c
        → OnlyOutputs rows x v n made (m + 1) a c
    only-more m a b c only one k o e = go (one k o e)
      where
        go : (object_at b k ≡ Some o) ⊎ ((slice_get rows k ≡ Some (out x v n m)) × (o ≡ output_of made m)) → (object_at a k ≡ Some o)
            ⊎ ((i : ℕ) × (i < m + 1) × (slice_get rows k ≡ Some (out x v n i)) × (o ≡ output_of made i))
        go (inl h) = only-less m (m + 1) a b (omega arith) only k o h
        go (inr (at, is)) = inr (m, omega arith, at, is)

pub ruleset puts = (keeps-self, only-self, room-self, known-none, known-here, keeps-with, only-with, known-with, room-with)

-- ---- an output

pub output-here : (bs : List (List ℕ)) (i : ℕ) (b : List ℕ) → i < length bs → b ≡ slice_index_or bs i b → Object.bytes b ≡ output_at bs i
output-here [] i b h e = absurd (omega (arith, h))
output-here (c ∷ bs) zero b h e = ap Object.bytes e
output-here (c ∷ bs) (suc i) b h e = output-here bs i b (omega (arith, h)) e

pub ruleset ats = (output-here, output-here)
