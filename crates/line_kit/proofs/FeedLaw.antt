-- The places of a byte are as many as there are such bytes.
use Rattle.std.proofs.Common.{◌≡◌, ℕ, zero, suc, ◌+◌, ◌-◌, List, [], ◌∷◌, Bool, true, false, if◌then◌else◌, length, refl, sym, ap, ◌∙◌, arith}
use Rattle.std.specs.Prelude.{count_by, ◌==◌, cond}
use Rattle.std.proofs.lemmas.List.Sums.{sum_by-cons}
use Rattle.memchr.specs.Find.{places, places_from, is_byte}

one_more : (b : Bool) (i k : ℕ) (xs ys : List ℕ) → length xs ≡ length ys → length (if b then i ∷ xs else xs) ≡ length (if b then k ∷ ys else ys)
one_more true i k xs ys e = ap suc e
one_more false i k xs ys e = e

-- one byte in front moves all places by one
behind : (t : ℕ → Bool) (x : ℕ) (hay : List ℕ) (i n : ℕ) → length (places_from t (x ∷ hay) (suc i) n) ≡ length (places_from t hay i n)
unfolding places_from
behind t x hay i zero = refl
behind t x hay i (suc n) =
    let next : suc i + 1 ≡ suc (i + 1) = omega arith in
    rw next (one_more (t _) (suc i) i (places_from t (x ∷ hay) (suc (i + 1)) n) (places_from t hay (i + 1) n) (behind t x hay (i + 1) n))

counted : (b : Bool) (xs ys : List ℕ) (n : ℕ) → length xs ≡ n → length (if b then 0 ∷ xs else xs) ≡ cond b 1 0 + n
counted true xs ys n e = ap suc e ∙ omega arith
counted false xs ys n e = e ∙ omega arith

count_from : (a : ℕ) (hay : List ℕ) → length (places_from (is_byte a) hay 0 (length hay)) ≡ count_by (λ b. b == a) hay
unfolding places_from
count_from a [] = refl
count_from a (x ∷ hay) =
    counted (is_byte a x) (places_from (is_byte a) (x ∷ hay) 1 (length hay)) [] (count_by (λ b. b == a) hay)
    (behind (is_byte a) x hay 0 (length hay) ∙ count_from a hay)
    ∙ sym (sum_by-cons (λ b. cond (b == a) 1 0) x hay)

pub places_count : (a : ℕ) (hay : List ℕ) → length (places (is_byte a) hay) ≡ count_by (λ b. b == a) hay
places_count a hay = let all : length hay - 0 ≡ length hay = omega arith in rw all (count_from a hay)

pub ruleset feeds = (places_count)
