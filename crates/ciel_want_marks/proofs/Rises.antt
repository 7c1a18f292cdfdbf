-- Rising lists: what is put in and taken out.
use Rattle.std.proofs.Common.{◌≡◌, ◌≤◌, ℕ, zero, suc, ◌<◌, List, [], ◌∷◌, ◌++◌, Bool, true, false, cond, is_ok, Result, Ok, Err, OnOk, length, get_or}
use Rattle.std.proofs.Common.{take, drop, refl, sym, ◌∙◌, subst, arith, ◌⊎◌, inl, inr, ◌↔◌}
use Rattle.std.specs.List.{AllByRecursion}
use Rattle.std.specs.List.Sorted.{IsBinarySearchResult}
use Rattle.std.specs.Ordering.{nat_cmp}
use Rattle.std.specs.Result.{MatchResult}
use Rattle.std.proofs.lemmas.List.Sorted.{searched}
use Rattle.ciel_journal.specs.Job.{In}
use Rattle.ciel_want_marks.specs.Lists.{HasAlso, HasBut, Rising}

all_of : (P : ℕ → Type 0) (xs : List ℕ) (y : ℕ) → AllByRecursion P xs → In y xs → P y
all_of P [] y a h = absurd h
all_of P (x ∷ xs) y a (inl s) = subst P (sym s) a.0
all_of P (x ∷ xs) y a (inr h) = all_of P xs y a.1 h

of_all : (P : ℕ → Type 0) (xs : List ℕ) → ((y : ℕ) → In y xs → P y) → AllByRecursion P xs
of_all P [] f = tt
of_all P (x ∷ xs) f = (f x (inl refl), of_all P xs (λ y h. f y (inr h)))

pub above : (x : ℕ) (xs : List ℕ) → Rising (x ∷ xs) → (y : ℕ) → In y xs → x < y
above x xs r y h = all_of (λ z. x < z) xs y r.0 h

pub got_in : (xs : List ℕ) (i : ℕ) → i < length xs → In (get_or xs i 0) xs
got_in [] i l = absurd (omega (arith, l))
got_in (x ∷ xs) zero l = inl refl
got_in (x ∷ xs) (suc i) l = inr (got_in xs i (omega (arith, l)))

pub got : (xs : List ℕ) (i x : ℕ) → (i < length xs) × (get_or xs i 0 ≡ x) → In x xs
got xs i x q = subst (λ y. In y xs) q.1 (got_in xs i q.0)

-- what stands later isn't below
pub in_order : (xs : List ℕ) → Rising xs → (i j : ℕ) → i ≤ j → j < length xs → get_or xs i 0 ≤ get_or xs j 0
in_order [] r i j a b = absurd (omega (arith, b))
in_order (x ∷ xs) r zero zero a b = omega arith
in_order (x ∷ xs) r zero (suc j) a b =
    let l = above x xs r (get_or xs j 0) (got_in xs j (omega (arith, b))) in omega (arith, l)
in_order (x ∷ xs) r (suc i) zero a b = absurd (omega (arith, a))
in_order (x ∷ xs) r (suc i) (suc j) a b = in_order xs r.1 i j (omega (arith, a)) (omega (arith, b))

-- ---- one more, at a place behind those below it

abbrev pub Fits : ℕ → List ℕ → ℕ → Type 0
Fits i xs x =
    (i ≤ length xs) × ((k : ℕ) → k < i → get_or xs k 0 < x) × ((k : ℕ) → i ≤ k → k < length xs → x < get_or xs k 0)

fits_tail : (i y x : ℕ) (xs : List ℕ) → Fits (suc i) (y ∷ xs) x → Fits i xs x
fits_tail i y x xs f =
    let l = f.0 in
    (omega (arith, l), λ k b. f.1 (suc k) (omega (arith, b)), λ k b c. f.2 (suc k) (omega (arith, b)) (omega (arith, c)))

abbrev pub put_in : ℕ → List ℕ → ℕ → List ℕ
put_in i xs x = take i xs ++ x ∷ drop i xs

pub put_has : (i : ℕ) (xs : List ℕ) (x : ℕ) → HasAlso x xs (put_in i xs x)
put_has zero xs x y = (λ h. h, λ h. h)
put_has (suc i) [] x y = (λ h. h, λ h. h)
put_has (suc i) (z ∷ zs) x y = (there (put_has i zs x y).0, back (put_has i zs x y).1)
  where
    there : (In y (put_in i zs x) → (y ≡ x) ⊎ In y zs) → In y (z ∷ put_in i zs x) → (y ≡ x) ⊎ In y (z ∷ zs)
    there f (inl s) = inr (inl s)
    there f (inr h) = turn (f h)
      where
        turn : ((y ≡ x) ⊎ In y zs) → (y ≡ x) ⊎ In y (z ∷ zs)
        turn (inl s) = inl s
        turn (inr k) = inr (inr k)

    back : ((y ≡ x) ⊎ In y zs → In y (put_in i zs x)) → (y ≡ x) ⊎ In y (z ∷ zs) → In y (z ∷ put_in i zs x)
    back f (inl s) = inr (f (inl s))
    back f (inr (inl s)) = inl s
    back f (inr (inr h)) = inr (f (inr h))

all_above : (xs : List ℕ) (x : ℕ) → ((k : ℕ) → 0 ≤ k → k < length xs → x < get_or xs k 0) → AllByRecursion (λ y. x < y) xs
all_above [] x f = tt
all_above (y ∷ ys) x f =
    (f 0 (omega arith) (omega arith), all_above ys x (λ k a b. f (suc k) (omega arith) (omega (arith, b))))

pub put_rises : (i : ℕ) (xs : List ℕ) (x : ℕ) → Rising xs → Fits i xs x → Rising (put_in i xs x)
put_rises zero xs x r f = (all_above xs x f.2, r)
put_rises (suc i) [] x r f = let l = f.0 in absurd (omega (arith, l))
put_rises (suc i) (z ∷ zs) x r f =
    (of_all (λ y. z < y) (put_in i zs x) (λ y h. turn y ((put_has i zs x y).0 h)), put_rises i zs x r.1 (fits_tail i z x zs f))
  where
    turn : (y : ℕ) → ((y ≡ x) ⊎ In y zs) → z < y
    turn y (inl s) = let l = f.1 0 (omega arith) in omega (arith, l, s)
    turn y (inr h) = above z zs r y h

-- ---- one less

abbrev pub out_of : ℕ → List ℕ → List ℕ
out_of i xs = take i xs ++ drop (suc i) xs

out_in : (i : ℕ) (xs : List ℕ) (y : ℕ) → In y (out_of i xs) → In y xs
out_in zero [] y h = absurd h
out_in zero (z ∷ zs) y h = inr h
out_in (suc i) [] y h = absurd h
out_in (suc i) (z ∷ zs) y (inl s) = inl s
out_in (suc i) (z ∷ zs) y (inr h) = inr (out_in i zs y h)

pub out_rises : (i : ℕ) (xs : List ℕ) → Rising xs → Rising (out_of i xs)
out_rises zero [] r = tt
out_rises zero (z ∷ zs) r = r.1
out_rises (suc i) [] r = tt
out_rises (suc i) (z ∷ zs) r =
    (of_all (λ y. z < y) (out_of i zs) (λ y h. above z zs r y (out_in i zs y h)), out_rises i zs r.1)

pub out_has : (i : ℕ) (xs : List ℕ) (x : ℕ) → Rising xs → (i < length xs) × (get_or xs i 0 ≡ x) → HasBut x xs (out_of i xs)
out_has i [] x r q y = let l = q.0 in absurd (omega (arith, l))
out_has zero (z ∷ zs) x r q y = (there, back)
  where
    there : In y zs → In y (z ∷ zs) × (y ≡ x → ⊥)
    there h = (inr h, λ s. let l = above z zs r y h in let e = q.1 in absurd (omega (arith, l, s, e)))

    back : In y (z ∷ zs) × (y ≡ x → ⊥) → In y zs
    back (inl s, f) = absurd (f (s ∙ q.1))
    back (inr h, f) = h
out_has (suc i) (z ∷ zs) x r q y =
    (there (out_has i zs x r.1 (omega (arith, q.0), q.1) y).0, back (out_has i zs x r.1 (omega (arith, q.0), q.1) y).1)
  where
    there : (In y (out_of i zs) → In y zs × (y ≡ x → ⊥)) → In y (z ∷ out_of i zs) → In y (z ∷ zs) × (y ≡ x → ⊥)
    there f (inl s) = (inl s, λ e. let l = above z zs r x (got zs i x (omega (arith, q.0), q.1)) in absurd (omega (arith, l, s, e)))
    there f (inr h) = (inr (f h).0, (f h).1)

    back : (In y zs × (y ≡ x → ⊥) → In y (out_of i zs)) → In y (z ∷ zs) × (y ≡ x → ⊥) → In y (z ∷ out_of i zs)
    back f (inl s, g) = inl s
    back f (inr h, g) = inr (f (h, g))

-- what isn't there needn't be taken out
pub out_none : (xs : List ℕ) (x : ℕ) → (In x xs → ⊥) → HasBut x xs xs
out_none xs x f y = (λ h. (h, λ s. f (subst (λ z. In z xs) s h)), λ q. q.0)

-- what is there needn't be put in
pub put_none : (xs : List ℕ) (x : ℕ) → In x xs → HasAlso x xs xs
put_none xs x h y = (λ k. inr k, turn)
  where
    turn : ((y ≡ x) ⊎ In y xs) → In y xs
    turn (inl s) = subst (λ z. In z xs) (sym s) h
    turn (inr k) = k

-- what is neither below the place nor behind it isn't there
pub fits_none : (i : ℕ) (xs : List ℕ) (x : ℕ) → Fits i xs x → In x xs → ⊥
fits_none i [] x f h = h
fits_none zero (z ∷ zs) x f (inl s) = let l = f.2 0 (omega arith) (omega arith) in absurd (omega (arith, l, s))
fits_none zero (z ∷ zs) x f (inr h) =
    fits_none zero zs x (omega arith, λ k b. absurd (omega (arith, b)), λ k b c. f.2 (suc k) (omega arith) (omega (arith, c))) h
fits_none (suc i) (z ∷ zs) x f (inl s) = let l = f.1 0 (omega arith) in absurd (omega (arith, l, s))
fits_none (suc i) (z ∷ zs) x f (inr h) = fits_none i zs x (fits_tail i z x zs f) h

-- ---- what a search by halves finds

searched_there : (xs : List ℕ) (x : ℕ) (r : Result ℕ ℕ) → Rising xs → IsBinarySearchResult (λ y. nat_cmp y x) xs r
    → MatchResult r (λ i. (i < length xs) × (get_or xs i 0 ≡ x)) (λ i. Fits i xs x)
searched_there xs x r s h = searched xs x r h (in_order xs s)

pub search_found : (xs : List ℕ) (x : ℕ) (r : Result ℕ ℕ) → Rising xs → IsBinarySearchResult (λ y. nat_cmp y x) xs r
    → (is_ok r ≡ true) ↔ In x xs
search_found xs x (Ok i) s h = (λ e. got xs i x (searched_there xs x (Ok i) s h), λ k. refl)
search_found xs x (Err i) s h =
    (λ e. cc, λ k. absurd (fits_none i xs x (searched_there xs x (Err i) s h) k))

pub search_at : (xs : List ℕ) (x : ℕ) (r : Result ℕ ℕ) (i : ℕ) → Rising xs → IsBinarySearchResult (λ y. nat_cmp y x) xs r → r ≡ Ok i
    → (i < length xs) × (get_or xs i 0 ≡ x)
search_at xs x (Ok j) i s h e =
    let p : j ≡ i = cc in
    subst (λ k. (k < length xs) × (get_or xs k 0 ≡ x)) p (searched_there xs x (Ok j) s h)
search_at xs x (Err j) i s h e = cc

pub search_place : (xs : List ℕ) (x : ℕ) (r : Result ℕ ℕ) (i : ℕ) → Rising xs → IsBinarySearchResult (λ y. nat_cmp y x) xs r → r ≡ Err i → Fits i xs x
search_place xs x (Ok j) i s h e = cc
search_place xs x (Err j) i s h e = let p : j ≡ i = cc in subst (λ k. Fits k xs x) p (searched_there xs x (Err j) s h)

pub put_rises_either : (b : Bool) (i : ℕ) (xs new : List ℕ) (x : ℕ) → new ≡ cond b (put_in i xs x) xs → Rising xs → Fits i xs x → Rising new
put_rises_either true i xs new x e r f = subst Rising (sym e) (put_rises i xs x r f)
put_rises_either false i xs new x e r f = subst Rising (sym e) r

pub put_on_ok : {T E : Type 0} (r : Result T E) (i : ℕ) (xs new : List ℕ) (x : ℕ) → new ≡ cond (is_ok r) (put_in i xs x) xs
    → OnOk r (HasAlso x xs new)
put_on_ok (Ok o) i xs new x e = subst (HasAlso x xs) (sym e) (put_has i xs x)
put_on_ok (Err o) i xs new x e = tt
