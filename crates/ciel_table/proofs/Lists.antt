-- What holds of each item of a list.
use Rattle.std.proofs.Common.{◌≡◌, ℕ, zero, suc, ◌<◌, List, [], ◌∷◌, ◌++◌, Bool, true, false, cond, ◌||◌, filter, map, length, get_or, nat_eq, refl}
use Rattle.std.proofs.Common.{ap, sym, subst, ◌⊎◌, inl, inr, arith, eqb-true, eq-eqb, Result, Ok, Err, OnOk, OnErr}
use Rattle.std.specs.List.{AllByRecursion, list_any}

pub bool_cases : (b : Bool) → (b ≡ true) ⊎ (b ≡ false)
bool_cases true = inl refl
bool_cases false = inr refl

pub flip_nat : (a b : ℕ) → nat_eq a b ≡ false → nat_eq b a ≡ false
flip_nat a b h = pick (bool_cases (nat_eq b a))
  where
    pick : ((nat_eq b a ≡ true) ⊎ (nat_eq b a ≡ false)) → nat_eq b a ≡ false
    pick (inr f) = f
    pick (inl t) = let s : nat_eq a b ≡ true = eq-eqb a b (sym (eqb-true b a t)) in cc

pub any_last : (p : ℕ → Bool) (xs : List ℕ) (x : ℕ) → list_any p xs ≡ false → p x ≡ false → list_any p (xs ++ x ∷ []) ≡ false
any_last p [] x h k = ap (λ b. b || false) k
any_last p (y ∷ ys) x h k = turn (p y) h (any_last p ys x)
  where
    turn : (b : Bool) → b || list_any p ys ≡ false → (list_any p ys ≡ false → p x ≡ false → list_any p (ys ++ x ∷ []) ≡ false) → b
        || list_any p (ys ++ x ∷ []) ≡ false
    turn true h r = cc
    turn false h r = r h k

pub on_ok : {T E A B : Type 0} (r : Result T E) → (A → B) → OnOk r A → OnOk r B
on_ok (Ok x) f h = f h
on_ok (Err e) f h = h

pub on_err : {T E A B : Type 0} (r : Result T E) → (A → B) → OnErr r A → OnErr r B
on_err (Ok x) f h = h
on_err (Err e) f h = f h

-- one of two, by how a call went
pub either : {T E A : Type 0} (Q : A → Type 0) (x y z : A) (r : Result T E) → OnOk r (z ≡ x) → OnErr r (z ≡ y) → Q x → Q y → Q z
either Q x y z (Ok o) a b p q = subst Q (sym a) p
either Q x y z (Err e) a b p q = subst Q (sym b) q

module _ {X : Type 0} where
  pub all_push : (P : X → Type 0) (xs : List X) (x : X) → AllByRecursion P xs → P x → AllByRecursion P (xs ++ x ∷ [])
  all_push P [] x h p = (p, tt)
  all_push P (y ∷ ys) x h p = (h.0, all_push P ys x h.1 p)

  pub all_more : (P Q : X → Type 0) → ((x : X) → P x → Q x) → (xs : List X) → AllByRecursion P xs → AllByRecursion Q xs
  all_more P Q f [] h = tt
  all_more P Q f (x ∷ xs) h = (f x h.0, all_more P Q f xs h.1)

  pub all_map : {Y : Type 0} (P : X → Type 0) (Q : Y → Type 0) (f : X → Y) → ((x : X) → P x → Q (f x)) → (xs : List X) → AllByRecursion P xs
      → AllByRecursion Q (map f xs)
  all_map P Q f h [] a = tt
  all_map P Q f h (x ∷ xs) a = (h x a.0, all_map P Q f h xs a.1)

  -- what passes a test keeps what held of it
  pub all_filter : (P Q : X → Type 0) (test : X → Bool) → ((x : X) → P x → test x ≡ true → Q x) → (xs : List X) → AllByRecursion P xs
      → AllByRecursion Q (filter test xs)
  all_filter P Q test f [] h = tt
  all_filter P Q test f (x ∷ xs) h = turn (test x) refl (all_filter P Q test f xs h.1)
    where
      turn : (b : Bool) → test x ≡ b → AllByRecursion Q (filter test xs) → AllByRecursion Q (cond b (x ∷ filter test xs) (filter test xs))
      turn true e r = (f x h.0 e, r)
      turn false e r = r

  pub all_at : (P : X → Type 0) (xs : List X) (i : ℕ) (d : X) → AllByRecursion P xs → i < length xs → P (get_or xs i d)
  all_at P [] i d h l = absurd (omega (arith, l))
  all_at P (x ∷ xs) zero d h l = h.0
  all_at P (x ∷ xs) (suc i) d h l = all_at P xs i d h.1 (omega (arith, l))
