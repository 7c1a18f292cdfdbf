-- What isn't known of a value's references.
use Rattle.std.proofs.Common.{◌≡◌, ◌≤◌, ◌<◌, ℕ, zero, suc, ◌+◌, List, [], ◌∷◌, length, Option, Some, slice_index_or, inl, inr, refl, sym, subst}
use Rattle.std.proofs.Common.{arith}
use Rattle.sky_base.specs.Val.{known, distinct, same_text}
use Rattle.sky_base.specs.Names as names
use Rattle.sky_base.specs.Res.{Object}
use Rattle.sky_base_law.specs.Tasks.{In}
use Rattle.sky_base.proofs.Exact.{exact_text, self_text}
use Rattle.sky_base_law.proofs.TaskOutputs.{in_distinct, distinct_in}
use Rattle.sky_base_known.specs.Walk.{Row, known_of}
use Rattle.sky_plain.specs.Stage.{AllKnown}

-- ---- names that are known, from the front

abbrev pub KnownTo : List (Option (Object (List ℕ))) → ℕ → List (List ℕ) → Type 0
KnownTo objects zero ns = Unit {0}
KnownTo objects (suc i) [] = Unit {0}
KnownTo objects (suc i) (n ∷ ns) = ((o : Object (List ℕ)) × (known_of objects (known n) ≡ Some o)) × KnownTo objects i ns

suc_is : (i : ℕ) → suc i ≡ i + 1
suc_is i = omega arith

known_suc : (objects : List (Option (Object (List ℕ)))) (ns : List (List ℕ)) (i : ℕ) (z : List ℕ) (o : Object (List ℕ)) → i < length ns
    → known_of objects (known (slice_index_or ns i z)) ≡ Some o → KnownTo objects i ns → KnownTo objects (suc i) ns
known_suc objects [] i z o h k to = absurd (omega (arith, h))
known_suc objects (m ∷ ns) zero z o h k to = ((o, k), tt)
known_suc objects (m ∷ ns) (suc i) z o h k to = (to.0, known_suc objects ns i z o (omega (arith, h)) k to.1)

pub known-step : (objects : List (Option (Object (List ℕ)))) (ns : List (List ℕ)) (i : ℕ) (z : List ℕ) (o : Object (List ℕ)) → i < length ns
    → known_of objects (known (slice_index_or ns i z)) ≡ Some o → KnownTo objects i ns → KnownTo objects (i + 1) ns
known-step objects ns i z o h k to = subst (λ j. KnownTo objects j ns) (suc_is i) (known_suc objects ns i z o h k to)

known_all : (objects : List (Option (Object (List ℕ)))) (ns : List (List ℕ)) (i : ℕ) → length ns ≤ i → KnownTo objects i ns
    → AllKnown objects (names.known_of ns)
known_all objects [] i h to d is = absurd is
known_all objects (n ∷ ns) zero h to d is = absurd (omega (arith, h))
known_all objects (n ∷ ns) (suc i) h to d (inl e) = subst (λ z. (o : Object (List ℕ)) × (known_of objects z ≡ Some o)) (sym e) to.0
known_all objects (n ∷ ns) (suc i) h to d (inr is) = known_all objects ns i (omega (arith, h)) to.1 d is

-- all distinct references are known: so all are
pub known-done : (objects : List (Option (Object (List ℕ)))) (ns : List (List ℕ)) (i : ℕ) (ds : List Row) → length ns ≤ i → KnownTo objects i ns
    → names.known_of ns ≡ distinct same_text ds → AllKnown objects ds
known-done objects ns i ds h to e d is =
    known_all objects ns i h to d (subst (In d) (sym e) (in_distinct same_text exact_text self_text ds d is))

name_in : (ns : List (List ℕ)) (i : ℕ) (z : List ℕ) → i < length ns → In (known (slice_index_or ns i z)) (names.known_of ns)
name_in [] i z h = absurd (omega (arith, h))
name_in (m ∷ ns) zero z h = inl refl
name_in (m ∷ ns) (suc i) z h = inr (name_in ns i z (omega (arith, h)))

pub lacks-here : (ns : List (List ℕ)) (i : ℕ) (z : List ℕ) (ds : List Row) → i < length ns → names.known_of ns ≡ distinct same_text ds
    → In (known (slice_index_or ns i z)) ds
lacks-here ns i z ds h q =
    distinct_in same_text exact_text self_text ds (known (slice_index_or ns i z)) (subst (In (known (slice_index_or ns i z))) q (name_in ns i z h))

pub ruleset lacks = (known-step, known-done, lacks-here)
