-- Inputs that are put one after the other.
use Rattle.std.proofs.Common.{◌≡◌, ◌≤◌, ◌<◌, ℕ, ◌+◌, List, [], ◌∷◌, ◌++◌, length, drop, Result, Ok, Err, slice_index_or, refl, sym, ap, ◌∙◌}
use Rattle.std.proofs.lemmas.List.{append_assoc, append-nil, at_drop_more, at_drop_all}
use Rattle.sky_base.specs.Val.{refs, vals_refs, pairs_refs}
use Rattle.sky_base.specs.View.{view, vals_of, pairs_of}
use Rattle.sky_base.specs.declared.value.Value.{Value}
use Rattle.sky_base.specs.declared.value.Pair.{Pair}
use Rattle.sky_base.specs.declared.fault.Fault.{Fault}
use Rattle.sky_base_known.specs.Walk.{Row}
use Rattle.sky_base_exec.specs.Perform.{one_more, collect}
use Rattle.sky_base_exec.specs.Puts.{behind}

-- ---- what is collected of one list and then of another

abbrev Collected : Type 0
Collected = Result (List (List ℕ)) Fault

abbrev both : Collected → Collected → Collected
both (Err f) r = Err f
both (Ok us) r = behind us r

one_both : (a : Result (List ℕ) Fault) (r s : Collected) → one_more a (both r s) ≡ both (one_more a r) s
one_both (Err f) r s = refl
one_both (Ok a) (Err f) s = refl
one_both (Ok a) (Ok us) (Err f) = refl
one_both (Ok a) (Ok us) (Ok ws) = refl

none_behind : (r : Collected) → behind [] r ≡ r
none_behind (Err f) = refl
none_behind (Ok us) = refl

abbrev pub Grabs : Type 0
Grabs = Row → Result (List ℕ) Fault

collect_both : (g : Grabs) (ds es : List Row) → collect g (ds ++ es) ≡ both (collect g ds) (collect g es)
collect_both g [] es = sym (none_behind (collect g es))
collect_both g (d ∷ ds) es = ap (one_more (g d)) (collect_both g ds es) ∙ one_both (g d) (collect g ds) (collect g es)

behind_both : (front more : List (List ℕ)) (a r : Collected) → behind front a ≡ Ok more → behind front (both a r) ≡ behind more r
behind_both front more (Err f) r e = absurd cc
behind_both front more (Ok us) (Err f) e = refl
behind_both front more (Ok us) (Ok ws) e = ap Ok (sym (append_assoc front us ws) ∙ ap (λ x. x ++ ws) (ok_is (front ++ us) more e))
  where
    ok_is : (x y : List (List ℕ)) → ◌≡◌ {A = Collected} (Ok x) (Ok y) → x ≡ y
    ok_is x y q = cc

behind_faulty : (front : List (List ℕ)) (a r : Collected) (f : Fault) → behind front a ≡ Err f → behind front (both a r) ≡ Err f
behind_faulty front (Err g) r f e = e
behind_faulty front (Ok us) r f e = absurd cc

-- ---- the i-th of several comes next

-- a function of what is left, where x is the i-th
pub at_next : {A B : Type 0} (F : List A → B) (xs : List A) (i : ℕ) (x : A) → i < length xs → x ≡ slice_index_or xs i x → F (drop i xs)
    ≡ F (x ∷ drop (i + 1) xs)
at_next F xs i x h e = at_drop_more F xs i x h ∙ ap (λ y. F (y ∷ drop (i + 1) xs)) (sym e)

module _ (g : Grabs) (front : List (List ℕ)) where
  pub values_more : (more : List (List ℕ)) (xs : List Value) (i : ℕ) (x : Value) → i < length xs → x ≡ slice_index_or xs i x
      → behind front (collect g (refs (view x))) ≡ Ok more → behind front (collect g (vals_refs (vals_of (drop i xs))))
      ≡ behind more (collect g (vals_refs (vals_of (drop (i + 1) xs))))
  values_more more xs i x h e q =
      at_next (λ ys. behind front (collect g (vals_refs (vals_of ys)))) xs i x h e
      ∙ ap (behind front) (collect_both g (refs (view x)) (vals_refs (vals_of (drop (i + 1) xs))))
      ∙ behind_both front more (collect g (refs (view x))) (collect g (vals_refs (vals_of (drop (i + 1) xs)))) q

  pub values_fault : (f : Fault) (xs : List Value) (i : ℕ) (x : Value) → i < length xs → x ≡ slice_index_or xs i x
      → behind front (collect g (refs (view x))) ≡ Err f → behind front (collect g (vals_refs (vals_of (drop i xs)))) ≡ Err f
  values_fault f xs i x h e q =
      at_next (λ ys. behind front (collect g (vals_refs (vals_of ys)))) xs i x h e
      ∙ ap (behind front) (collect_both g (refs (view x)) (vals_refs (vals_of (drop (i + 1) xs))))
      ∙ behind_faulty front (collect g (refs (view x))) (collect g (vals_refs (vals_of (drop (i + 1) xs)))) f q

  pub values_done : (xs : List Value) (i : ℕ) → length xs ≤ i → behind front (collect g (vals_refs (vals_of (drop i xs)))) ≡ Ok front
  values_done xs i h = at_drop_all (λ ys. behind front (collect g (vals_refs (vals_of ys)))) xs i h ∙ ap Ok (append-nil front)

  pub pairs_more : (more : List (List ℕ)) (xs : List Pair) (i : ℕ) (x : Pair) → i < length xs → x ≡ slice_index_or xs i x
      → behind front (collect g (refs (view x.value))) ≡ Ok more → behind front (collect g (pairs_refs (pairs_of (drop i xs))))
      ≡ behind more (collect g (pairs_refs (pairs_of (drop (i + 1) xs))))
  pairs_more more xs i x h e q =
      at_next (λ ys. behind front (collect g (pairs_refs (pairs_of ys)))) xs i x h e
      ∙ ap (behind front) (collect_both g (refs (view x.value)) (pairs_refs (pairs_of (drop (i + 1) xs))))
      ∙ behind_both front more (collect g (refs (view x.value))) (collect g (pairs_refs (pairs_of (drop (i + 1) xs)))) q

  pub pairs_fault : (f : Fault) (xs : List Pair) (i : ℕ) (x : Pair) → i < length xs → x ≡ slice_index_or xs i x
      → behind front (collect g (refs (view x.value))) ≡ Err f → behind front (collect g (pairs_refs (pairs_of (drop i xs)))) ≡ Err f
  pairs_fault f xs i x h e q =
      at_next (λ ys. behind front (collect g (pairs_refs (pairs_of ys)))) xs i x h e
      ∙ ap (behind front) (collect_both g (refs (view x.value)) (pairs_refs (pairs_of (drop (i + 1) xs))))
      ∙ behind_faulty front (collect g (refs (view x.value))) (collect g (pairs_refs (pairs_of (drop (i + 1) xs)))) f q

  pub pairs_done : (xs : List Pair) (i : ℕ) → length xs ≤ i → behind front (collect g (pairs_refs (pairs_of (drop i xs)))) ≡ Ok front
  pairs_done xs i h = at_drop_all (λ ys. behind front (collect g (pairs_refs (pairs_of ys)))) xs i h ∙ ap Ok (append-nil front)

pub none-behind : (r : Collected) → behind [] r ≡ r
none-behind r = none_behind r

pub ruleset inputs = (values_done, pairs_done)
