-- What a search finds, against `contains`.
use Rattle.std.proofs.Common.{◌≡◌, ℕ, zero, suc, ◌+◌, ◌<◌, true, false, List, [], ◌∷◌, Option, Some, None, is_some, length, take, slice_index, sym}
use Rattle.std.proofs.Common.{ap, ◌∙◌, arith, ⊎_elim, length-take}
use Rattle.std.proofs.lemmas.Bool.{cases_Bool, or_from}
use Rattle.std.proofs.lemmas.Slice.Eq.{bytes_eq-Decides}
use Rattle.memchr.specs.Find.{OccursAt, FindsNeedle}
use Rattle.memchr.proofs.lemmas.MatchLemmas.{OccursAt-part, OccursAt-from_part}
use Rattle.line_kit.proofs.Truth.{or_right}
use Rattle.line_kit.specs.Lines.{begins, contains}

begins-true : (hay needle : List ℕ) → OccursAt hay needle 0 → begins hay needle ≡ true
begins-true hay needle h = (bytes_eq-Decides _ needle).1 (OccursAt-part hay needle 0 h)

true-begins : (hay needle : List ℕ) → begins hay needle ≡ true → OccursAt hay needle 0
true-begins hay needle e =
    let same : take (length needle) hay ≡ needle = (bytes_eq-Decides _ needle).0 e in
    OccursAt-from_part hay needle 0 (omega (arith, length-take (length needle) hay, ap length same)) same

later : (x : ℕ) (xs needle : List ℕ) (k : ℕ) → OccursAt (x ∷ xs) needle (suc k) → OccursAt xs needle k
later x xs needle k h = record {
  fits = omega (arith, h.fits);
  reads = λ j l. let e : suc k + j ≡ suc (k + j) = omega arith in sym (ap (slice_index (x ∷ xs)) e) ∙ h.reads j l;
}

sooner : (x : ℕ) (xs needle : List ℕ) (k : ℕ) → OccursAt xs needle k → OccursAt (x ∷ xs) needle (suc k)
sooner x xs needle k h = record {
  fits = omega (arith, h.fits);
  reads = λ j l. let e : suc k + j ≡ suc (k + j) = omega arith in ap (slice_index (x ∷ xs)) e ∙ h.reads j l;
}

contains-some : (hay needle : List ℕ) (k : ℕ) → OccursAt hay needle k → contains hay needle ≡ true
contains-some [] needle zero h = begins-true [] needle h
contains-some [] needle (suc k) h = absurd (omega (arith, h.fits))
contains-some (x ∷ xs) needle zero h = rw (begins-true (x ∷ xs) needle h)
contains-some (x ∷ xs) needle (suc k) h =
    let rest : contains xs needle ≡ true = contains-some xs needle k (later x xs needle k h) in
    or_right (begins (x ∷ xs) needle) (contains xs needle) rest

contains-none : (hay needle : List ℕ) → ((k : ℕ) → k < length hay + 1 → OccursAt hay needle k → ⊥) → contains hay needle ≡ false
contains-none [] needle h = ⊎_elim (λ t. absurd (h 0 (omega arith) (true-begins [] needle t))) (λ f. f) (cases_Bool (begins [] needle))
contains-none (x ∷ xs) needle h =
    or_from (begins (x ∷ xs) needle) (contains xs needle)
    (⊎_elim (λ t. absurd (h 0 (omega arith) (true-begins (x ∷ xs) needle t))) (λ f. f) (cases_Bool (begins (x ∷ xs) needle)))
    (contains-none xs needle (λ k below occurs. h (suc k) (omega arith) (sooner x xs needle k occurs)))

pub contains-found : (hay needle : List ℕ) (r : Option ℕ) → FindsNeedle hay needle 0 r → is_some r ≡ contains hay needle
contains-found hay needle None h = sym (contains-none hay needle (λ k below occurs. h k (omega arith) below occurs))
contains-found hay needle (Some k) h = sym (contains-some hay needle k h.1)
