-- Bytes in ordered sets.
use Rattle.std.proofs.Common.{◌≡◌, ℕ, List, [], ◌∷◌, Bool, true, false, ◌||◌, refl, sym, ap, ◌∙◌}
use Rattle.std.specs.Ordering.{nat_cmp, is_eq, match_ordering}
use Rattle.std.specs.Cmp.Lexicographic.{slice_cmp}
use Rattle.std.specs.List.{list_any}
use Rattle.std.specs.BTreeMap.{is_at}
use Rattle.std.specs.BTreeSet.{insert_key}
use Rattle.std.specs.declared.cmp.Ordering.{Ordering}
use Rattle.sky_base.specs.Names.{is_among}
use Rattle.sky_base.specs.Val.{same_text}
use Rattle.sky_base.proofs.Exact.{exact_text}

abbrev cmp : List ℕ → List ℕ → Ordering
cmp a b = slice_cmp nat_cmp a b

pub among_is : (x : List ℕ) (ks : List (List ℕ)) → list_any (is_at (cmp x)) ks ≡ is_among x ks
among_is x [] = refl
among_is x (k ∷ ks) = ap (λ b. same_text x k || b) (among_is x ks)

swap : (a b c : Bool) → a || (b || c) ≡ b || (a || c)
swap true true c = refl
swap true false c = refl
swap false b c = refl

twice : (a c : Bool) → a || c ≡ a || (a || c)
twice true c = refl
twice false c = refl

-- bytes are in a set with one more where they are that one, or were there
pub insert_has : (z x : List ℕ) (ks : List (List ℕ)) → is_among z (insert_key cmp ks x) ≡ same_text z x || is_among z ks
insert_has z x [] = refl
insert_has z x (k ∷ ks) = go (cmp x k) refl (insert_has z x ks)
  where
    go : (o : Ordering) → cmp x k ≡ o → is_among z (insert_key cmp ks x) ≡ same_text z x || is_among z ks
        → is_among z (match_ordering o (x ∷ k ∷ ks) (k ∷ ks) (k ∷ insert_key cmp ks x)) ≡ same_text z x || (same_text z k || is_among z ks)
    go Ordering.Less e h = refl
    go Ordering.Equal e h =
        let same : x ≡ k = exact_text x k (ap is_eq e) in
        twice (same_text z k) (is_among z ks) ∙ ap (λ t. same_text z t || (same_text z k || is_among z ks)) (sym same)
    go Ordering.Greater e h = ap (λ b. same_text z k || b) h ∙ swap (same_text z k) (same_text z x) (is_among z ks)
