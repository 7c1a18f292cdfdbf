-- Membership in a list by a test that is exact.
use Rattle.std.proofs.Common.{◌≡◌, ◌≤◌, List, [], ◌∷◌, length, Bool, true, false, ◌||◌, ◌⊎◌, inl, inr, refl, ap, sym, ◌∙◌, subst}
use Rattle.std.specs.List.{list_any, IsDistinct, AllByRecursion}
use Rattle.std.specs.Cmp.{IsEquivalence}
use Rattle.std.proofs.lemmas.Map.Made.{length-le_from_is_member}
use Rattle.ciel_journal.specs.Job.{Each, In}

pub bool_cases : (b : Bool) → (b ≡ true) ⊎ (b ≡ false)
bool_cases true = inl refl
bool_cases false = inr refl

pub agree : (b c : Bool) → (b ≡ true → c ≡ true) → (c ≡ true → b ≡ true) → b ≡ c
agree true c f g = sym (f refl)
agree false true f g = g refl
agree false false f g = refl

pub same_laws : {A : Type 0} (eq : A → A → Bool) → ((a : A) → eq a a ≡ true) → ((a b : A) → eq a b ≡ true → a ≡ b) → IsEquivalence eq
same_laws {A} eq r x =
    record {
      refl = r;
      symm = λ a b. agree _ _ (λ h. subst (λ c. eq c a ≡ true) (x a b h) (r a)) (λ h. subst (λ c. eq c b ≡ true) (x b a h) (r b));
      congr = λ a b c h. ap (λ d. eq d c) (x a b h);
    }

pub or_true : (b c : Bool) → c ≡ true → b || c ≡ true
or_true true c h = refl
or_true false c h = h

module _ {A : Type 0} where
  pub any_in : (eq : A → A → Bool) → ((a b : A) → eq a b ≡ true → a ≡ b) → (d : A) (xs : List A) → list_any (eq d) xs ≡ true → In d xs
  any_in eq x d [] h = cc
  any_in eq x d (y ∷ ys) h = pick (bool_cases (eq d y)) (any_in eq x d ys)
    where
      pick : ((eq d y ≡ true) ⊎ (eq d y ≡ false)) → (list_any (eq d) ys ≡ true → In d ys) → In d (y ∷ ys)
      pick (inl e) r = inl (x d y e)
      pick (inr e) r = inr (r (sym (ap (λ b. b || list_any (eq d) ys) e) ∙ h))

  pub in_any : (eq : A → A → Bool) → ((a : A) → eq a a ≡ true) → (d : A) (xs : List A) → In d xs → list_any (eq d) xs ≡ true
  in_any eq r d [] i = absurd i
  in_any eq r d (y ∷ ys) (inl s) = ap (λ b. b || list_any (eq d) ys) (subst (λ z. eq d z ≡ true) s (r d))
  in_any eq r d (y ∷ ys) (inr i) = or_true (eq d y) _ (in_any eq r d ys i)

  pub apart : (p : A → Bool) (xs : List A) → list_any p xs ≡ false → AllByRecursion (λ y. p y ≡ false) xs
  apart p [] h = tt
  apart p (y ∷ ys) h = pick (bool_cases (p y)) (apart p ys)
    where
      pick : ((p y ≡ true) ⊎ (p y ≡ false)) → (list_any p ys ≡ false → AllByRecursion (λ y. p y ≡ false) ys)
          → AllByRecursion (λ y. p y ≡ false) (y ∷ ys)
      pick (inl e) r = let a : true ≡ false = sym (ap (λ b. b || list_any p ys) e) ∙ h in cc
      pick (inr e) r = (e, r (sym (ap (λ b. b || list_any p ys) e) ∙ h))

  pub each_of : (P : A → Type 0) (d : A) (ds : List A) → In d ds → Each P ds → P d
  each_of P d [] i e = absurd i
  each_of P d (x ∷ xs) (inl s) e = subst P (sym s) e.0
  each_of P d (x ∷ xs) (inr i) e = each_of P d xs i e.1

  pub distinct_more : (eq : A → A → Bool) (d : A) (xs : List A) → list_any (eq d) xs ≡ false → IsDistinct eq xs → IsDistinct eq (d ∷ xs)
  unfolding IsDistinct
  distinct_more eq d xs h k = (apart (eq d) xs h, k)

  pub distinct_none : (eq : A → A → Bool) → IsDistinct eq []
  unfolding IsDistinct
  distinct_none eq = tt

  -- a distinct list inside another is no longer
  pub fewer : (eq : A → A → Bool) → ((a : A) → eq a a ≡ true) → ((a b : A) → eq a b ≡ true → a ≡ b) → (xs ys : List A) → IsDistinct eq xs
      → Each (λ d. list_any (eq d) ys ≡ true) xs → length xs ≤ length ys
  fewer eq r x xs ys k e =
      length-le_from_is_member (same_laws eq r x) xs ys k (λ q h. each_of (λ d. list_any (eq d) ys ≡ true) q xs (any_in eq x q xs h) e)
