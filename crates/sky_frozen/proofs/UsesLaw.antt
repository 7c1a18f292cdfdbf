-- Names as the keys of a dictionary: a name has a value exactly where it was put.
use Rattle.std.proofs.Common.{◌≡◌, ℕ, List, ◌∷◌, Bool, true, false, ◌||◌, Option, Some, None, is_some, refl, sym, ap, ◌∙◌}
use Rattle.std.specs.Ordering.{nat_cmp, match_ordering, ordering_reverse, is_eq}
use Rattle.std.specs.Cmp.Lexicographic.{slice_cmp}
use Rattle.std.proofs.lemmas.Cmp.{nat_list_cmp_total}
use Rattle.std.specs.declared.cmp.Ordering.{Ordering}
use Rattle.sky_base.specs.Val.{Val, Pairs, no_pairs, pair}
use Rattle.sky_base.specs.Op.{put, find}
use Rattle.sky_base.specs.Eval.{is_one_of}
use Rattle.sky_base.proofs.Keys.{same_key}

abbrev cmp : List ℕ → List ℕ → Ordering
cmp a b = slice_cmp nat_cmp a b

abbrev V : Type 0
V = Val (List ℕ)

or_true : (b : Bool) → true ≡ b || true
or_true true = refl
or_true false = refl

one : (q : Ordering) (v : V) → is_some (match_ordering q None (Some v) None) ≡ is_eq q || false
one Ordering.Less v = refl
one Ordering.Equal v = refl
one Ordering.Greater v = refl

front : (q p : Ordering) (o : Option V) (v w : V) → (q ≡ Ordering.Less → p ≡ Ordering.Less)
    → is_some (match_ordering q None (Some v) (match_ordering p None (Some w) o)) ≡ is_eq q || is_some (match_ordering p None (Some w) o)
front Ordering.Less p o v w h = sym (ap (λ r. is_some (match_ordering r None (Some w) o)) (h refl))
front Ordering.Equal p o v w h = refl
front Ordering.Greater p o v w h = refl

same : (p : Ordering) (o : Option V) (v w : V) → is_some (match_ordering p None (Some v) o) ≡ is_eq p || is_some (match_ordering p None (Some w) o)
same Ordering.Less o v w = refl
same Ordering.Equal o v w = refl
same Ordering.Greater o v w = refl

behind : (p q : Ordering) (a b : Option V) (w : V) → is_some a ≡ is_eq q || is_some b → (p ≡ Ordering.Less → q ≡ Ordering.Less)
    → is_some (match_ordering p None (Some w) a) ≡ is_eq q || is_some (match_ordering p None (Some w) b)
behind Ordering.Less q a b w ih h = sym (ap (λ r. is_eq r || false) (h refl))
behind Ordering.Equal q a b w ih h = or_true (is_eq q)
behind Ordering.Greater q a b w ih h = ih

put_step : (o p q : Ordering) (k x l : List ℕ) (v w : V) (ps : Pairs (List ℕ)) → cmp x l ≡ o → cmp k l ≡ p → cmp k x ≡ q
    → is_some (find k (put x v ps)) ≡ is_eq q || is_some (find k ps)
    → is_some (find k (match_ordering o (pair x v (pair l w ps)) (pair l v ps) (pair l w (put x v ps)))) ≡ is_eq q
    || is_some (match_ordering p None (Some w) (find k ps))
put_step Ordering.Less p q k x l v w ps e f g ih =
    ap (λ r. is_some (match_ordering r None (Some v) (match_ordering (cmp k l) None (Some w) (find k ps)))) g
    ∙ ap (λ r. is_some (match_ordering q None (Some v) (match_ordering r None (Some w) (find k ps)))) f
    ∙ front q p (find k ps) v w (λ h. sym f ∙ nat_list_cmp_total.trans k x l (g ∙ h) e)
put_step Ordering.Equal p q k x l v w ps e f g ih =
    let is : q ≡ p = sym g ∙ ap (λ y. cmp k y) (same_key x l e) ∙ f in
    ap (λ r. is_some (match_ordering r None (Some v) (find k ps))) f ∙ same p (find k ps) v w
    ∙ ap (λ r. is_eq r || is_some (match_ordering p None (Some w) (find k ps))) (sym is)
put_step Ordering.Greater p q k x l v w ps e f g ih =
    let less : cmp l x ≡ Ordering.Less = nat_list_cmp_total.antisymm l x ∙ ap ordering_reverse e in
    ap (λ r. is_some (match_ordering r None (Some w) (find k (put x v ps)))) f
    ∙ behind p q (find k (put x v ps)) (find k ps) w ih (λ h. sym g ∙ nat_list_cmp_total.trans k l x (f ∙ h) less)

-- a name has a value exactly where it is this one, or had one
pub find_put : (k x : List ℕ) (v : V) (ps : Pairs (List ℕ)) → is_some (find k (put x v ps)) ≡ is_eq (cmp k x) || is_some (find k ps)
find_put k x v no_pairs = one (cmp k x) v
find_put k x v (pair l w ps) = put_step (cmp x l) (cmp k l) (cmp k x) k x l v w ps refl refl refl (find_put k x v ps)

-- a name is one of some exactly where it is the first or one of the others
pub one_of_more : (k x : List ℕ) (xs : List (List ℕ)) → is_one_of k (x ∷ xs) ≡ is_eq (cmp k x) || is_one_of k xs
one_of_more k x xs = go (cmp k x) refl
  where
    go : (o : Ordering) → cmp k x ≡ o → is_one_of k (x ∷ xs) ≡ is_eq (cmp k x) || is_one_of k xs
    go Ordering.Less e = rw e refl
    go Ordering.Equal e = rw e refl
    go Ordering.Greater e = rw e refl

pub turned : (a b c : Bool) → (a || b) || c ≡ b || (a || c)
turned true true c = refl
turned true false c = refl
turned false true c = refl
turned false false c = refl
