-- The map from names to places.
use Rattle.std.proofs.Common.{◌≡◌, ℕ, List, [], ◌∷◌, ◌++◌, true, false, cond, length, map, ap, sym, ◌∙◌, subst, ◌⊎◌, inl, inr, Some, None}
use Rattle.std.specs.BTreeMap.{BTreeMap, get, is_at, Updates}
use Rattle.std.specs.Map.{lookup}
use Rattle.sky_base.specs.NameOrder.{name_cmp}
use Rattle.sky_base.specs.Val.{same_text}
use Rattle.sky_base.proofs.Exact.{exact_text}
use Rattle.sky_base.proofs.NameTests.{same_test}
use Rattle.ciel_table.specs.Named.{place_of}
use Rattle.ciel_table.specs.Inside.{IsIndex}
use Rattle.ciel_table.proofs.Lists.{bool_cases}
use Rattle.ciel_table.proofs.ByName.{place_new, place_still, place_same}

module _ {X : Type 0} (name : X → List ℕ) where
  -- a new name comes to the end
  pub index_more : (old new : BTreeMap (List ℕ) ℕ) (xs : List X) (x : X) (k : List ℕ) (i : ℕ) → name x ≡ k → i ≡ length xs → IsIndex name old xs
      → place_of name k xs ≡ None → Updates name_cmp old new k (Some i) → IsIndex name new (xs ++ x ∷ [])
  index_more old new xs x k i s l h e u n =
      u.0 n
      ∙ (ap (λ b. cond b (Some i) (get name_cmp old n)) (same_test k n)
      ∙ (ap (λ o. cond (same_text n k) (Some i) o) (h n) ∙ turn (bool_cases (same_text n k))))
    where
      turn : ((same_text n k ≡ true) ⊎ (same_text n k ≡ false)) → cond (same_text n k) (Some i) (place_of name n xs) ≡ place_of name n (xs ++ x ∷ [])
      turn (inl t) =
          ap (λ b. cond b (Some i) (place_of name n xs)) t
          ∙ (ap (λ j. Some j) l
          ∙ sym (place_new name n k xs x s t (ap (λ m. place_of name m xs) (exact_text n k t) ∙ e)))
      turn (inr f) =
          ap (λ b. cond b (Some i) (place_of name n xs)) f ∙ sym (place_still name n k xs x s f)

  -- where the names stay the map stays
  pub index_same : (index : BTreeMap (List ℕ) ℕ) (xs ys : List X) → map name ys ≡ map name xs → IsIndex name index xs → IsIndex name index ys
  index_same index xs ys e h n = h n ∙ sym (place_same name n xs ys e)

  -- a map that is as it was
  pub index_kept : (old new : BTreeMap (List ℕ) ℕ) (xs : List X) → new.entries ≡ old.entries → IsIndex name old xs → IsIndex name new xs
  index_kept old new xs e h n = ap (lookup (is_at (name_cmp n))) e ∙ h n
