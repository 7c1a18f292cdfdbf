-- A frame that fits a script fits it over names too.
use Rattle.std.proofs.Common.{ℕ, List, [], ◌∷◌, map, take, drop, sym, subst, pos, negsuc}
use Rattle.std.proofs.lemmas.List.{take-map, drop-map}
use Rattle.sky_base.specs.Val.{Val, Vals, Desc, null, truth, num, text, list, dict, fun, ref, no_vals, val, count}
use Rattle.sky_base.specs.Name.{low, low_vals}
use Rattle.sky_base_law.specs.Tasks.{Each}
use Rattle.sky_base_law.proofs.Low.{count_low}
use Rattle.sky_state.specs.Table.{Row, part, turn, star, outputs, open_call, no_step, keeps}
use Rattle.sky_state.specs.Fits.{IsList, IsNumber, IsReference, AllReferences, IsListOfReferences, One, Two, OfKinds, UpTo, UpToLength, TakenFrom}
use Rattle.sky_state.specs.Fits.{shares}

module _ {N : Type 0} (spell : N → List ℕ) (tag : Desc (List ℕ) → List ℕ) where
  -- ---- kinds

  is_list_low : (v : Val N) → IsList v → IsList (low spell tag v)
  is_list_low null h = absurd h
  is_list_low (truth b) h = absurd h
  is_list_low (num z) h = absurd h
  is_list_low (text t) h = absurd h
  is_list_low (list us) h = tt
  is_list_low (dict ps) h = absurd h
  is_list_low (fun f c) h = absurd h
  is_list_low (ref d) h = absurd h

  is_number_low : (v : Val N) → IsNumber v → IsNumber (low spell tag v)
  is_number_low null h = absurd h
  is_number_low (truth b) h = absurd h
  is_number_low (num z) h = tt
  is_number_low (text t) h = absurd h
  is_number_low (list us) h = absurd h
  is_number_low (dict ps) h = absurd h
  is_number_low (fun f c) h = absurd h
  is_number_low (ref d) h = absurd h

  is_reference_low : (v : Val N) → IsReference v → IsReference (low spell tag v)
  is_reference_low null h = absurd h
  is_reference_low (truth b) h = absurd h
  is_reference_low (num z) h = absurd h
  is_reference_low (text t) h = absurd h
  is_reference_low (list us) h = absurd h
  is_reference_low (dict ps) h = absurd h
  is_reference_low (fun f c) h = absurd h
  is_reference_low (ref d) h = tt

  all_low : (us : Vals N) → AllReferences us → AllReferences (low_vals spell tag us)
  all_low no_vals h = tt
  all_low (val v vs) h = (is_reference_low v h.0, all_low vs h.1)

  list_of_low : (v : Val N) → IsListOfReferences v → IsListOfReferences (low spell tag v)
  list_of_low null h = absurd h
  list_of_low (truth b) h = absurd h
  list_of_low (num z) h = absurd h
  list_of_low (text t) h = absurd h
  list_of_low (list us) h = all_low us h
  list_of_low (dict ps) h = absurd h
  list_of_low (fun f c) h = absurd h
  list_of_low (ref d) h = absurd h

  up_to_low : (n : ℕ) (v : Val N) → UpTo n v → UpTo n (low spell tag v)
  up_to_low n null h = absurd h
  up_to_low n (truth b) h = absurd h
  up_to_low n (num (pos t)) h = h
  up_to_low n (num (negsuc t)) h = absurd h
  up_to_low n (text t) h = absurd h
  up_to_low n (list us) h = absurd h
  up_to_low n (dict ps) h = absurd h
  up_to_low n (fun f c) h = absurd h
  up_to_low n (ref d) h = absurd h

  up_to_length_low : (v u : Val N) → UpToLength v u → UpToLength (low spell tag v) (low spell tag u)
  up_to_length_low null u h = absurd h
  up_to_length_low (truth b) u h = absurd h
  up_to_length_low (num z) u h = absurd h
  up_to_length_low (text t) u h = absurd h
  up_to_length_low (list us) u h = subst (λ n. UpTo n (low spell tag u)) (sym (count_low spell tag us)) (up_to_low (count us) u h)
  up_to_length_low (dict ps) u h = absurd h
  up_to_length_low (fun f c) u h = absurd h
  up_to_length_low (ref d) u h = absurd h

  one_low : (P : Val N → Type 0) (Q : Val (List ℕ) → Type 0) → ((v : Val N) → P v → Q (low spell tag v)) → (vs : List (Val N)) → One P vs
      → One Q (map (low spell tag) vs)
  one_low P Q f [] h = absurd h
  one_low P Q f (v ∷ []) h = f v h
  one_low P Q f (v ∷ u ∷ vs) h = absurd h

  two_low : (P : Val N → Val N → Type 0) (Q : Val (List ℕ) → Val (List ℕ) → Type 0)
      → ((v u : Val N) → P v u → Q (low spell tag v) (low spell tag u)) → (vs : List (Val N)) → Two P vs → Two Q (map (low spell tag) vs)
  two_low P Q f [] h = absurd h
  two_low P Q f (v ∷ []) h = absurd h
  two_low P Q f (v ∷ u ∷ []) h = f v u h
  two_low P Q f (v ∷ u ∷ x ∷ vs) h = absurd h

  kinds_low : (r : Row) (vs : List (Val N)) → OfKinds r vs → OfKinds r (map (low spell tag) vs)
  kinds_low (part k ms) vs h = tt
  kinds_low (turn m) vs h =
      two_low (λ v u. IsList v × IsNumber u) (λ v u. IsList v × IsNumber u) (λ v u p. (is_list_low v p.0, is_number_low u p.1)) vs h
  kinds_low star vs h = one_low IsReference IsReference is_reference_low vs h
  kinds_low outputs vs h = one_low IsListOfReferences IsListOfReferences list_of_low vs h
  kinds_low open_call vs h = tt
  kinds_low no_step vs h = tt

  taken_low : (r : Row) (vs : List (Val N)) → TakenFrom r vs → TakenFrom r (map (low spell tag) vs)
  taken_low (part k ms) vs h = tt
  taken_low (turn m) vs h = two_low UpToLength UpToLength up_to_length_low vs h
  taken_low star vs h = tt
  taken_low outputs vs h = tt
  taken_low open_call vs h = tt
  taken_low no_step vs h = tt

  pub shares_kinds_low : (rs : List Row) (vs : List (Val N)) → Each (λ s. OfKinds s.0 s.1) (shares rs vs)
      → Each (λ s. OfKinds s.0 s.1) (shares rs (map (low spell tag) vs))
  shares_kinds_low [] vs h = tt
  shares_kinds_low (r ∷ rs) vs h = (
    subst (OfKinds r) (sym (take-map (low spell tag) (keeps r) vs)) (kinds_low r (take (keeps r) vs) h.0),
    subst (λ ws. Each (λ s. OfKinds s.0 s.1) (shares rs ws)) (sym (drop-map (low spell tag) (keeps r) vs))
        (shares_kinds_low rs (drop (keeps r) vs) h.1),
  )

  pub shares_taken_low : (rs : List Row) (vs : List (Val N)) → Each (λ s. TakenFrom s.0 s.1) (shares rs vs)
      → Each (λ s. TakenFrom s.0 s.1) (shares rs (map (low spell tag) vs))
  shares_taken_low [] vs h = tt
  shares_taken_low (r ∷ rs) vs h = (
    subst (TakenFrom r) (sym (take-map (low spell tag) (keeps r) vs)) (taken_low r (take (keeps r) vs) h.0),
    subst (λ ws. Each (λ s. TakenFrom s.0 s.1) (shares rs ws)) (sym (drop-map (low spell tag) (keeps r) vs))
        (shares_taken_low rs (drop (keeps r) vs) h.1),
  )
