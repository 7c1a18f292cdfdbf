-- A map of places grows with its list.
use Rattle.std.proofs.Common.{◌≡◌, ◌<◌, ℕ, zero, suc, ◌+◌, List, [], ◌∷◌, ◌++◌, length, take, Bool, true, false, cond, is_some, Option, Some, None}
use Rattle.std.proofs.Common.{get_or, option_map, refl, sym, ap, subst, ◌∙◌, arith}
use Rattle.std.specs.BTreeMap.{BTreeMap, Updates, get}
use Rattle.sky_base.specs.NameOrder.{name_cmp}
use Rattle.sky_base.specs.Val.{same_text}
use Rattle.sky_base.proofs.Exact.{exact_text}
use Rattle.ciel_table.specs.Named.{place_of}
use Rattle.ciel_table.specs.Inside.{IsIndex}
use Rattle.ciel_table.proofs.ByName.{place_still}
use Rattle.ciel_table.proofs.Index.{index_more}
use Rattle.ciel_task_inputs.specs.Index.{Added, AddedIf}

module _ {X : Type 0} (name : X → List ℕ) where
  -- what has a place keeps it where more comes behind
  place_kept : (n : List ℕ) (xs ys : List X) (j : ℕ) → place_of name n xs ≡ Some j → place_of name n (xs ++ ys) ≡ Some j
  place_kept n [] ys j e = absurd cc
  place_kept n (x ∷ xs) ys j e = go (same_text n (name x)) (place_of name n xs) refl e (place_kept n xs ys)
    where
      go : (b : Bool) (o : Option ℕ) → place_of name n xs ≡ o → cond b (Some 0) (option_map suc o) ≡ Some j
          → ((i : ℕ) → place_of name n xs ≡ Some i → place_of name n (xs ++ ys) ≡ Some i)
          → cond b (Some 0) (option_map suc (place_of name n (xs ++ ys))) ≡ Some j
      go true o h e later = e
      go false None h e later = absurd cc
      go false (Some i) h e later = ap (option_map suc) (later i h) ∙ e

  index_old : (old : BTreeMap (List ℕ) ℕ) (xs : List X) (x : X) (k : List ℕ) (j : ℕ) → name x ≡ k → IsIndex name old xs → place_of name k xs
      ≡ Some j → IsIndex name old (xs ++ x ∷ [])
  index_old old xs x k j s h e n = go (same_text n k) refl
    where
      go : (b : Bool) → same_text n k ≡ b → get name_cmp old n ≡ place_of name n (xs ++ x ∷ [])
      go true t =
          let q : n ≡ k = exact_text n k t in
          h n ∙ ap (λ m. place_of name m xs) q ∙ e ∙ sym (place_kept k xs (x ∷ []) j e) ∙ ap (λ m. place_of name m (xs ++ x ∷ [])) (sym q)
      go false f = h n ∙ sym (place_still name n k xs x s f)

  pub index_step : (old new : BTreeMap (List ℕ) ℕ) (xs : List X) (x : X) (k : List ℕ) (i : ℕ) → name x ≡ k → i ≡ length xs → IsIndex name old xs
      → Added old k i new → IsIndex name new (xs ++ x ∷ [])
  index_step old new xs x k i s l h a = go (get name_cmp old k) refl a
    where
      go : (o : Option ℕ) → get name_cmp old k ≡ o → AddedIf o old k i new → IsIndex name new (xs ++ x ∷ [])
      go None g u = index_more name old new xs x k i s l h (sym (h k) ∙ g) u
      go (Some j) g e = subst (λ m. IsIndex name m (xs ++ x ∷ [])) (sym e) (index_old old xs x k j s h (sym (h k) ∙ g))

  -- one more entry
  pub take_next : (xs : List X) (i : ℕ) (x : X) → i < length xs → x ≡ get_or xs i x → take (i + 1) xs ≡ take i xs ++ x ∷ []
  take_next [] i x h e = absurd (omega (arith, h))
  take_next (y ∷ xs) zero x h e = ap (λ z. z ∷ []) (sym e)
  take_next (y ∷ xs) (suc i) x h e =
      let next : suc i + 1 ≡ suc (i + 1) = omega arith in
      rw next (ap (λ ys. y ∷ ys) (take_next xs i x (omega (arith, h)) e))

  take_length : (xs : List X) (i : ℕ) → i < length xs → i ≡ length (take i xs)
  take_length [] i h = absurd (omega (arith, h))
  take_length (x ∷ xs) zero h = refl
  take_length (x ∷ xs) (suc i) h = ap suc (take_length xs i (omega (arith, h)))

  -- one more of the list
  pub index_next : (old new : BTreeMap (List ℕ) ℕ) (xs : List X) (i : ℕ) (x : X) → i < length xs → x ≡ get_or xs i x
      → IsIndex name old (take i xs) → Added old (name x) i new → IsIndex name new (take (i + 1) xs)
  index_next old new xs i x h e is a =
      subst (IsIndex name new) (sym (take_next xs i x h e)) (index_step old new (take i xs) x (name x) i refl (take_length xs i h) is a)

-- what is added
pub added_new : (old new : BTreeMap (List ℕ) ℕ) (n : List ℕ) (i : ℕ) → Updates name_cmp old new n (Some i) → is_some (get name_cmp old n) ≡ false
    → Added old n i new
added_new old new n i u h = go (get name_cmp old n) h
  where
    go : (o : Option ℕ) → is_some o ≡ false → AddedIf o old n i new
    go None e = u
    go (Some j) e = absurd cc

pub added_old : (old : BTreeMap (List ℕ) ℕ) (n : List ℕ) (i : ℕ) → is_some (get name_cmp old n) ≡ true → Added old n i old
added_old old n i h = go (get name_cmp old n) h
  where
    go : (o : Option ℕ) → is_some o ≡ true → AddedIf o old n i old
    go None e = absurd cc
    go (Some j) e = refl
