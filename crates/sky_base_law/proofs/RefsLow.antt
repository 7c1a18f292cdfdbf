-- The references of a lowered value are those of the value, lowered, in the same order.
use Rattle.std.proofs.Common.{◌≡◌, ℕ, List, [], ◌∷◌, ◌++◌, map, Bool, true, false, ◌||◌, ◌⊎◌, inl, inr, refl, sym, ap, subst, ◌∙◌}
use Rattle.std.proofs.lemmas.List.{map-append}
use Rattle.sky_base.specs.Val.{Val, Vals, Pairs, Desc, null, truth, num, text, list, dict, fun, ref, no_vals, val, no_pairs, pair, refs, vals_refs}
use Rattle.sky_base.specs.Val.{pairs_refs, same_text, same_desc, stands_in, unless_in, distinct_from, distinct}
use Rattle.sky_base.specs.Name.{low, low_vals, low_pairs, name}
use Rattle.sky_base_law.specs.Lower.{low_ref}
use Rattle.sky_base_law.specs.Tasks.{In}
use Rattle.sky_base.proofs.Exact.{exact_text, self_text, exact_desc, self_desc}
use Rattle.sky_base.proofs.NameTests.{bools_alike}

module _ {N : Type 0} (spell : N → List ℕ) (tag : Desc (List ℕ) → List ℕ) where
  mutual
    pub refs_low : (v : Val N) → refs (low spell tag v) ≡ map (low_ref spell tag) (refs v)
    refs_low null = refl
    refs_low (truth b) = refl
    refs_low (num z) = refl
    refs_low (text t) = refl
    refs_low (list vs) = vals_refs_low vs
    refs_low (dict ps) = pairs_refs_low ps
    refs_low (fun f c) = pairs_refs_low c
    refs_low (ref d) = refl

    pub vals_refs_low : (vs : Vals N) → vals_refs (low_vals spell tag vs) ≡ map (low_ref spell tag) (vals_refs vs)
    vals_refs_low no_vals = refl
    vals_refs_low (val v vs) =
        (λ i. refs_low v i ++ vals_refs_low vs i) ∙ sym (map-append (low_ref spell tag) (refs v) (vals_refs vs))

    pub pairs_refs_low : (ps : Pairs N) → pairs_refs (low_pairs spell tag ps) ≡ map (low_ref spell tag) (pairs_refs ps)
    pairs_refs_low no_pairs = refl
    pairs_refs_low (pair k v ps) =
        (λ i. refs_low v i ++ pairs_refs_low ps i) ∙ sym (map-append (low_ref spell tag) (refs v) (pairs_refs ps))

-- ---- distinct references, where no two of them that differ have one name

module _ {N : Type 0} (spell : N → List ℕ) (tag : Desc (List ℕ) → List ℕ) (same_known : N → N → Bool)
    (exact_known : (b c : N) → same_known b c ≡ true → b ≡ c) (self_known : (b : N) → same_known b b ≡ true) where
  -- no two of these descriptions that differ have one name
  abbrev pub NoClash : List (Desc N) → Type 0
  NoClash ds = (d e : Desc N) → In d ds → In e ds → name spell tag d ≡ name spell tag e → d ≡ e

  -- the test by names is the test by descriptions
  same_low : (d e : Desc N) → (name spell tag d ≡ name spell tag e → d ≡ e) → same_text (name spell tag d) (name spell tag e)
      ≡ same_desc same_known d e
  same_low d e apart =
      bools_alike (same_text (name spell tag d) (name spell tag e)) (same_desc same_known d e)
      (λ t. subst (λ c. same_desc same_known d c ≡ true) (apart (exact_text (name spell tag d) (name spell tag e) t))
      (self_desc same_known self_known d)) (λ t. subst (λ c. same_text (name spell tag d) (name spell tag c) ≡ true)
      (exact_desc same_known exact_known d e t) (self_text (name spell tag d)))

  stands_low : (d : Desc N) (es : List (Desc N)) → ((e : Desc N) → In e es → name spell tag d ≡ name spell tag e → d ≡ e)
      → stands_in same_text (low_ref spell tag d) (map (low_ref spell tag) es) ≡ stands_in same_known d es
  stands_low d [] apart = refl
  stands_low d (e ∷ es) apart =
      λ i. same_low d e (apart e (inl refl)) i || stands_low d es (λ c h. apart c (inr h)) i

  unless_low : (b : Bool) (d : Desc N) (ds : List (Desc N)) → unless_in same_text b (low_ref spell tag d) (map (low_ref spell tag) ds)
      ≡ map (low_ref spell tag) (unless_in same_known b d ds)
  unless_low true d ds = refl
  unless_low false d ds = refl

  distinct_from_low : (before ds : List (Desc N))
      → ((d e : Desc N) → In d ds → In e before ⊎ In e ds → name spell tag d ≡ name spell tag e → d ≡ e)
      → distinct_from same_text (map (low_ref spell tag) before) (map (low_ref spell tag) ds)
      ≡ map (low_ref spell tag) (distinct_from same_known before ds)
  distinct_from_low before [] apart = refl
  distinct_from_low before (d ∷ ds) apart =
      (λ i. unless_in same_text (stands_low d before (λ e h. apart d e (inl refl) (inl h)) i) (low_ref spell tag d)
      (distinct_from_low (d ∷ before) ds later i)) ∙ unless_low (stands_in same_known d before) d (distinct_from same_known (d ∷ before) ds)
    where
      later : (c e : Desc N) → In c ds → In e (d ∷ before) ⊎ In e ds → name spell tag c ≡ name spell tag e → c ≡ e
      later c e h (inl (inl g)) = apart c e (inr h) (inr (inl g))
      later c e h (inl (inr g)) = apart c e (inr h) (inl g)
      later c e h (inr g) = apart c e (inr h) (inr (inr g))

  pub distinct_low : (ds : List (Desc N)) → NoClash ds → distinct same_text (map (low_ref spell tag) ds)
      ≡ map (low_ref spell tag) (distinct same_known ds)
  distinct_low ds apart = distinct_from_low [] ds open_apart
    where
      open_apart : (d e : Desc N) → In d ds → In e [] ⊎ In e ds → name spell tag d ≡ name spell tag e → d ≡ e
      open_apart d e h (inl g) = absurd g
      open_apart d e h (inr g) = apart d e h g

  -- so the distinct references of a lowered value are those of the value, lowered
  pub distinct_refs_low : (v : Val N) → NoClash (refs v) → distinct same_text (refs (low spell tag v))
      ≡ map (low_ref spell tag) (distinct same_known (refs v))
  distinct_refs_low v apart = ap (distinct same_text) (refs_low spell tag v) ∙ distinct_low (refs v) apart
