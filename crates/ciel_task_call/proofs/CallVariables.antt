-- What a call's variables refer to at its start: what its function captured and its arguments refer to.
use Rattle.std.proofs.Common.{ℕ, List, [], ◌∷◌, ◌++◌, ◌⊎◌, inl, inr}
use Rattle.std.specs.Ordering.{match_ordering, nat_cmp}
use Rattle.std.specs.Cmp.Lexicographic.{slice_cmp}
use Rattle.std.specs.declared.cmp.Ordering.{Ordering}
use Rattle.sky_base.specs.Eval.{bind}
use Rattle.sky_base.specs.Op.{put}
use Rattle.sky_base.specs.Val.{Desc, Pairs, Val, Vals, no_pairs, no_vals, pair, pairs_refs, refs, val, vals_refs}
use Rattle.sky_base_law.specs.Tasks.{In}

module _ {A : Type 0} where
  pub in_front : (d : A) (xs ys : List A) → In d xs → In d (xs ++ ys)
  in_front d [] ys i = absurd i
  in_front d (z ∷ xs) ys (inl e) = inl e
  in_front d (z ∷ xs) ys (inr i) = inr (in_front d xs ys i)

  pub behind : (d : A) (xs ys : List A) → In d ys → In d (xs ++ ys)
  behind d [] ys i = i
  behind d (z ∷ xs) ys i = inr (behind d xs ys i)

  in_join : (d : A) (xs ys : List A) → In d (xs ++ ys) → In d xs ⊎ In d ys
  in_join d [] ys i = inr i
  in_join d (z ∷ xs) ys (inl e) = inl (inl e)
  in_join d (z ∷ xs) ys (inr i) = further (in_join d xs ys i)
    where
      further : (In d xs ⊎ In d ys) → In d (z ∷ xs) ⊎ In d ys
      further (inl j) = inl (inr j)
      further (inr j) = inr j

module _ {N : Type 0} where
  -- a variable more
  put_from : (x : List ℕ) (v : Val N) (ps : Pairs N) (d : Desc N) → In d (pairs_refs (put x v ps)) → In d (refs v) ⊎ In d (pairs_refs ps)
  put_from x v no_pairs d i = in_join d (refs v) [] i
  put_from x v (pair l w ps) d i = pick (slice_cmp nat_cmp x l) i (put_from x v ps d)
    where
      right : (In d (refs v) ⊎ In d (pairs_refs ps)) → In d (refs v) ⊎ In d (refs w ++ pairs_refs ps)
      right (inl j) = inl j
      right (inr j) = inr (behind d (refs w) (pairs_refs ps) j)

      later : (In d (refs w) ⊎ In d (pairs_refs (put x v ps))) → (In d (pairs_refs (put x v ps)) → In d (refs v) ⊎ In d (pairs_refs ps))
          → In d (refs v) ⊎ In d (refs w ++ pairs_refs ps)
      later (inl j) r = inr (in_front d (refs w) (pairs_refs ps) j)
      later (inr j) r = right (r j)

      pick : (o : Ordering) → In d (pairs_refs (match_ordering o (pair x v (pair l w ps)) (pair l v ps) (pair l w (put x v ps))))
          → (In d (pairs_refs (put x v ps)) → In d (refs v) ⊎ In d (pairs_refs ps)) → In d (refs v) ⊎ In d (refs w ++ pairs_refs ps)
      pick Ordering.Less j r = in_join d (refs v) (refs w ++ pairs_refs ps) j
      pick Ordering.Equal j r = right (in_join d (refs v) (pairs_refs ps) j)
      pick Ordering.Greater j r = later (in_join d (refs w) (pairs_refs (put x v ps)) j) r

  -- all parameters
  pub bound_from : (xs : List (List ℕ)) (vs : Vals N) (ps : Pairs N) (d : Desc N) → In d (pairs_refs (bind xs vs ps)) → In d (vals_refs vs)
      ⊎ In d (pairs_refs ps)
  bound_from [] vs ps d i = inr i
  bound_from (x ∷ xs) no_vals ps d i = inr i
  bound_from (x ∷ xs) (val v vs) ps d i = pick (bound_from xs vs (put x v ps) d i)
    where
      turn : (In d (refs v) ⊎ In d (pairs_refs ps)) → In d (refs v ++ vals_refs vs) ⊎ In d (pairs_refs ps)
      turn (inl j) = inl (in_front d (refs v) (vals_refs vs) j)
      turn (inr j) = inr j

      pick : (In d (vals_refs vs) ⊎ In d (pairs_refs (put x v ps))) → In d (refs v ++ vals_refs vs) ⊎ In d (pairs_refs ps)
      pick (inl j) = inl (behind d (refs v) (vals_refs vs) j)
      pick (inr j) = turn (put_from x v ps d j)
