-- Values and pairs that are put one after another.
use Rattle.std.proofs.Common.{◌≡◌, ◌≤◌, ◌<◌, ◌+◌, ℕ, zero, suc, List, [], ◌∷◌, ◌++◌, Bool, true, false, length, get_or, take, drop, refl, ap, sym, ◌∙◌, subst}
use Rattle.std.proofs.Common.{append_assoc, arith, codes}
use Rattle.sky_base.specs.Val.{Vals, Pairs}
use Rattle.sky_base.specs.View.{pairs_of, vals_of, view}
use Rattle.sky_base.specs.declared.value.Pair.{Pair}
use Rattle.sky_base.specs.declared.value.Value.{Value}
use Rattle.ciel_look_words.specs.Kept.{Puts}
use Rattle.ciel_look_words.specs.Words.{between, pairs_words, vals_words, value_words}
use Rattle.ciel_look_words.proofs.KeptBytes.{puts_full}

pub dropped : {A : Type 0} (xs : List A) (i : ℕ) (x : A) → i < length xs → x ≡ get_or xs i x → drop i xs ≡ x ∷ drop (i + 1) xs
dropped [] i x h e = absurd (omega (arith, h))
dropped (y ∷ xs) zero x h e = ap (λ z. z ∷ xs) (sym e)
dropped (y ∷ xs) (suc i) x h e =
    let next : suc i + 1 ≡ suc (i + 1) = omega arith in
    rw next (dropped xs i x (omega (arith, h)) e)

pub dropped_all : {A : Type 0} (xs : List A) (i : ℕ) → length xs ≤ i → drop i xs ≡ []
dropped_all [] zero h = refl
dropped_all [] (suc i) h = refl
dropped_all (x ∷ xs) zero h = absurd (omega (arith, h))
dropped_all (x ∷ xs) (suc i) h = dropped_all xs i (omega (arith, h))

-- what is left was put behind: all of it is
module _ (old all : List ℕ) where
  abbrev Left : List ℕ → List ℕ → Type 0
  Left out rest = (more : List ℕ) → take 61 (out ++ (rest ++ more)) ≡ take 61 (old ++ (all ++ more))

  left_full : (out rest : List ℕ) → Left out rest → 61 ≤ length out → Puts old all out
  left_full out rest f h = record { kept = λ more. (puts_full out rest h).kept more ∙ f more }

  left_none : (out : List ℕ) → Left out [] → Puts old all out
  left_none out f = record { kept = f }

  -- two pieces more
  left_two : (out m n a b rest : List ℕ) → Left out (a ++ (b ++ rest)) → Puts out a m → Puts m b n → Left n rest
  left_two out m n a b rest f p q more =
      q.kept (rest ++ more) ∙ p.kept (b ++ (rest ++ more))
      ∙ ap (λ z. take 61 (out ++ z)) (sym (append_assoc a (b ++ rest) more ∙ ap (λ z. a ++ z) (append_assoc b rest more))) ∙ f more

  left_four : (out m n s t a b c d rest : List ℕ) → Left out (a ++ (b ++ (c ++ (d ++ rest)))) → Puts out a m → Puts m b n → Puts n c s → Puts s d t
      → Left t rest
  left_four out m n s t a b c d rest f p q r u = left_two n s t c d rest (left_two out m n a b (c ++ (d ++ rest)) f p q) r u

module _ (old : List ℕ) (items : List Value) where
  abbrev ValuesLeft : ℕ → Bool → List ℕ → Type 0
  ValuesLeft i first out = Left old (vals_words true (vals_of items)) out (vals_words first (vals_of (drop i items)))

  pub values_next : (i : ℕ) (first : Bool) (x : Value) (out m n : List ℕ) → i < length items → x ≡ get_or items i x → ValuesLeft i first out
      → Puts out (between first) m → Puts m (value_words (view x)) n → ValuesLeft (i + 1) false n
  values_next i first x out m n l e f p q =
      left_two old (vals_words true (vals_of items)) out m n (between first) (value_words (view x)) (vals_words false (vals_of (drop (i + 1) items)))
      (subst (λ vs. Left old (vals_words true (vals_of items)) out (vals_words first (vals_of vs))) (dropped items i x l e) f) p q

  pub values_full : (vs : Vals (List ℕ)) (i : ℕ) (first : Bool) (out : List ℕ) → vals_of items ≡ vs → ValuesLeft i first out → 61 ≤ length out
      → Puts old (vals_words true vs) out
  values_full vs i first out e f h =
      subst (λ ws. Puts old (vals_words true ws) out) e
      (left_full old (vals_words true (vals_of items)) out (vals_words first (vals_of (drop i items))) f h)

  pub values_end : (vs : Vals (List ℕ)) (i : ℕ) (first : Bool) (out : List ℕ) → vals_of items ≡ vs → ValuesLeft i first out → length items ≤ i
      → Puts old (vals_words true vs) out
  values_end vs i first out e f h =
      subst (λ ws. Puts old (vals_words true ws) out) e
      (left_none old (vals_words true (vals_of items)) out
      (subst (λ ws. Left old (vals_words true (vals_of items)) out (vals_words first (vals_of ws))) (dropped_all items i h) f))

module _ (old : List ℕ) (items : List Pair) where
  abbrev PairsLeft : ℕ → Bool → List ℕ → Type 0
  PairsLeft i first out = Left old (pairs_words true (pairs_of items)) out (pairs_words first (pairs_of (drop i items)))

  pub pairs_next : (i : ℕ) (first : Bool) (x : Pair) (out m n s t : List ℕ) → i < length items → x ≡ get_or items i x → PairsLeft i first out
      → Puts out (between first) m → Puts m x.key n → Puts n (codes ": ") s → Puts s (value_words (view x.value)) t → PairsLeft (i + 1) false t
  pairs_next i first x out m n s t l e f p q r u =
      left_four old (pairs_words true (pairs_of items)) out m n s t (between first) x.key (codes ": ") (value_words (view x.value))
      (pairs_words false (pairs_of (drop (i + 1) items)))
      (subst (λ ps. Left old (pairs_words true (pairs_of items)) out (pairs_words first (pairs_of ps))) (dropped items i x l e) f) p q r u

  pub pairs_full : (ps : Pairs (List ℕ)) (i : ℕ) (first : Bool) (out : List ℕ) → pairs_of items ≡ ps → PairsLeft i first out → 61 ≤ length out
      → Puts old (pairs_words true ps) out
  pairs_full ps i first out e f h =
      subst (λ qs. Puts old (pairs_words true qs) out) e
      (left_full old (pairs_words true (pairs_of items)) out (pairs_words first (pairs_of (drop i items))) f h)

  pub pairs_end : (ps : Pairs (List ℕ)) (i : ℕ) (first : Bool) (out : List ℕ) → pairs_of items ≡ ps → PairsLeft i first out → length items ≤ i
      → Puts old (pairs_words true ps) out
  pairs_end ps i first out e f h =
      subst (λ qs. Puts old (pairs_words true qs) out) e
      (left_none old (pairs_words true (pairs_of items)) out
      (subst (λ qs. Left old (pairs_words true (pairs_of items)) out (pairs_words first (pairs_of qs))) (dropped_all items i h) f))
