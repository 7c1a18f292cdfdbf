-- The numbers of descriptions that are held.
use Rattle.std.proofs.Common.{◌≡◌, ◌<◌, ℕ, zero, suc, List, [], ◌∷◌, ◌++◌, length, Bool, true, false, Some, slice_get, ◌⊎◌, inl, inr, refl, sym, ap}
use Rattle.std.proofs.Common.{subst, ◌∙◌, arith}
use Rattle.sky_base.specs.Val.{known, same_text, same_desc}
use Rattle.sky_base.specs.See.{slot}
use Rattle.ciel_json.specs.Tasks.{In, Apart}
use Rattle.sky_base.proofs.Exact.{exact_text, self_text, exact_desc, self_desc}
use Rattle.ciel_json.proofs.Lists.{some_is}
use Rattle.sky_base_known.specs.Walk.{Row, number_of, Numbers}
use Rattle.sky_base_known.specs.Number.{index_if, index_of, tag_of}

-- the test of equality at two descriptions
same_is : (d e : Row) → same_desc same_text d e ≡ true → d ≡ e
same_is d e h = exact_desc same_text exact_text d e h

same_self : (d : Row) → same_desc same_text d d ≡ true
same_self d = self_desc same_text self_text d

pub index_found : (d : Row) (rows : List Row) → (slice_get rows (index_of d rows) ≡ Some d) ⊎ (index_of d rows ≡ length rows)
index_found d [] = inr refl
index_found d (r ∷ rs) = go (same_desc same_text d r) refl (index_found d rs)
  where
    go : (b : Bool) → same_desc same_text d r ≡ b → (slice_get rs (index_of d rs) ≡ Some d) ⊎ (index_of d rs ≡ length rs)
        → (slice_get (r ∷ rs) (index_if b (index_of d rs)) ≡ Some d) ⊎ (index_if b (index_of d rs) ≡ suc (length rs))
    go true e h = inl (ap Some (sym (same_is d r e)))
    go false e (inl h) = inl h
    go false e (inr h) = inr (ap suc h)

pub got_in : {A : Type 0} (xs : List A) (k : ℕ) (x : A) → slice_get xs k ≡ Some x → In x xs
got_in [] k x e = absurd cc
got_in (y ∷ ys) zero x e = inl (some_is x y (sym e))
got_in (y ∷ ys) (suc k) x e = inr (got_in ys k x e)

pub got_below : {A : Type 0} (xs : List A) (k : ℕ) (x : A) → slice_get xs k ≡ Some x → k < length xs
got_below [] k x e = absurd cc
got_below (y ∷ ys) zero x e = omega arith
got_below (y ∷ ys) (suc k) x e = let h : k < length ys = got_below ys k x e in omega (arith, h)

pub got_more : {A : Type 0} (xs ys : List A) (k : ℕ) (x : A) → slice_get xs k ≡ Some x → slice_get (xs ++ ys) k ≡ Some x
got_more [] ys k x e = absurd cc
got_more (y ∷ xs) ys zero x e = e
got_more (y ∷ xs) ys (suc k) x e = got_more xs ys k x e

-- below the length of the front, what stands in the whole stands in the front
pub got_front : {A : Type 0} (xs ys : List A) (k : ℕ) (x : A) → k < length xs → slice_get (xs ++ ys) k ≡ Some x → slice_get xs k ≡ Some x
got_front [] ys k x h e = absurd (omega (arith, h))
got_front (y ∷ xs) ys zero x h e = e
got_front (y ∷ xs) ys (suc k) x h e = got_front xs ys k x (omega (arith, h)) e

-- where each description stands once, a description has the number of its place
pub index_at : (rows : List Row) (k : ℕ) (d : Row) → Apart rows → slice_get rows k ≡ Some d → index_of d rows ≡ k
index_at [] k d a e = absurd cc
index_at (r ∷ rs) zero d a e = ap (λ b. index_if b (index_of d rs)) (ap (λ x. same_desc same_text d x) is ∙ same_self d)
  where
    is : r ≡ d
    is = cc
index_at (r ∷ rs) (suc k) d a e = go (same_desc same_text d r) refl (index_at rs k d a.1 e)
  where
    go : (b : Bool) → same_desc same_text d r ≡ b → index_of d rs ≡ k → index_if b (index_of d rs) ≡ suc k
    go true g h = absurd (a.0 (subst (λ x. In x rs) (same_is d r g) (got_in rs k d e)))
    go false g h = ap suc h

pub numbers_hold : (rows : List Row) → Apart rows → Numbers rows (λ d. known (tag_of rows d))
numbers_hold rows a k d e = ap (λ i. known (slot i)) (index_at rows k d a e)

pub numbers_front : (rows more : List Row) (make : Row → Row) → Numbers (rows ++ more) make → Numbers rows make
numbers_front rows more make h k d e = h k d (got_more rows more k d e)

pub number_slot : (k : ℕ) → k < 4294967296 → number_of (slot k) ≡ k
number_slot k h = omega (arith, h)
