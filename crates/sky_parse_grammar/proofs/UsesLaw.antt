-- What a body uses: the names that stand in it, without its parameters, rising.
use Rattle.std.proofs.Common.{◌≡◌, ℕ, List, [], ◌∷◌, Bool, true, false, not, ◌||◌, ◌&&◌, refl, sym, ap, ◌∙◌}
use Rattle.std.specs.Ordering.{nat_cmp, match_ordering, is_eq}
use Rattle.std.specs.Cmp.Lexicographic.{slice_cmp}
use Rattle.std.specs.declared.cmp.Ordering.{Ordering}
use Rattle.std.specs.BTreeSet.{insert_key}
use Rattle.sky_base.specs.Val.{same_text}
use Rattle.sky_base.specs.Eval.{is_one_of}
use Rattle.sky_base.proofs.Exact.{exact_text}
use Rattle.sky_parse_grammar.specs.Laws.{UsesTheNames}
use Rattle.sky_parse_grammar.specs.Lifted.{text_cmp, use_unless, uses_from}

pub one_of : (z x : List ℕ) (us : List (List ℕ)) → is_one_of z (x ∷ us) ≡ same_text z x || is_one_of z us
one_of z x us = go (same_text z x) refl
  where
    go : (b : Bool) → same_text z x ≡ b → is_one_of z (x ∷ us) ≡ same_text z x || is_one_of z us
    go true e = rw e refl
    go false e = rw e refl

swap : (a b c : Bool) → a || (b || c) ≡ b || (a || c)
swap true true c = refl
swap true false c = refl
swap false b c = refl

twice : (a c : Bool) → a || c ≡ a || (a || c)
twice true c = refl
twice false c = refl

pub insert_has : (z x : List ℕ) (us : List (List ℕ)) → is_one_of z (insert_key text_cmp us x) ≡ same_text z x || is_one_of z us
insert_has z x [] = one_of z x []
insert_has z x (y ∷ us) = go (slice_cmp nat_cmp x y) refl (insert_has z x us)
  where
    go : (o : Ordering) → slice_cmp nat_cmp x y ≡ o → is_one_of z (insert_key text_cmp us x) ≡ same_text z x || is_one_of z us
        → is_one_of z (match_ordering o (x ∷ y ∷ us) (y ∷ us) (y ∷ insert_key text_cmp us x)) ≡ same_text z x || is_one_of z (y ∷ us)
    go Ordering.Less e h = one_of z x (y ∷ us)
    go Ordering.Equal e h =
        let same : x ≡ y = exact_text x y (ap is_eq e) in
        one_of z y us ∙ twice (same_text z y) (is_one_of z us) ∙ ap (λ t. same_text z t || (same_text z y || is_one_of z us)) (sym same)
        ∙ ap (λ b. same_text z x || b) (sym (one_of z y us))
    go Ordering.Greater e h =
        one_of z y (insert_key text_cmp us x) ∙ ap (λ b. same_text z y || b) h ∙ swap (same_text z y) (same_text z x) (is_one_of z us)
        ∙ ap (λ b. same_text z x || b) (sym (one_of z y us))

-- what is used is what was, and the names that are no parameters
uses_more : (z : List ℕ) (xs us ys : List (List ℕ)) → is_one_of z (uses_from xs us ys) ≡ is_one_of z us || (is_one_of z ys && not (is_one_of z xs))
uses_more z xs us [] = sym (or_false (is_one_of z us))
  where
    or_false : (b : Bool) → b || false ≡ b
    or_false true = refl
    or_false false = refl
uses_more z xs us (y ∷ ys) = uses_more z xs (use_unless (is_one_of y xs) us y) ys ∙ go (is_one_of y xs) refl (same_text z y) refl
    ∙ ap (λ b. is_one_of z us || (b && not (is_one_of z xs))) (sym (one_of z y ys))
  where
    none : (b : Bool) → b && false ≡ false
    none true = refl
    none false = refl

    go : (b : Bool) → is_one_of y xs ≡ b → (s : Bool) → same_text z y ≡ s → is_one_of z (use_unless b us y)
        || (is_one_of z ys && not (is_one_of z xs)) ≡ is_one_of z us || ((s || is_one_of z ys) && not (is_one_of z xs))
    go true e true s =
        let in_xs : is_one_of z xs ≡ true = ap (λ t. is_one_of t xs) (exact_text z y s) ∙ e in
        rw in_xs (ap (λ b. is_one_of z us || b) (none (is_one_of z ys)))
    go true e false s = refl
    go false e true s =
        let out : is_one_of z xs ≡ false = ap (λ t. is_one_of t xs) (exact_text z y s) ∙ e in
        let has : is_one_of z (insert_key text_cmp us y) ≡ true = insert_has z y us ∙ ap (λ b. b || is_one_of z us) s in
        rw (out, has) (sym (or_true (is_one_of z us)))
      where
        or_true : (b : Bool) → b || true ≡ true
        or_true true = refl
        or_true false = refl
    go false e false s = ap (λ b. b || (is_one_of z ys && not (is_one_of z xs))) (insert_has z y us ∙ ap (λ b. b || is_one_of z us) s)

-- a name is used where it stands in the body and is no parameter
pub uses_has : UsesTheNames
uses_has = λ z xs ys. uses_more z xs [] ys
