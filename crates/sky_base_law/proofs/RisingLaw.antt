-- Keys rise still where a pair is put, and where pairs are left out.
use Rattle.std.proofs.Common.{◌≡◌, ℕ, List, Bool, true, false, refl, ◌∙◌, ap}
use Rattle.std.specs.Ordering.{nat_cmp, match_ordering, ordering_reverse}
use Rattle.std.specs.Cmp.Lexicographic.{slice_cmp}
use Rattle.std.specs.declared.cmp.Ordering.{Ordering}
use Rattle.std.proofs.lemmas.Cmp.{nat_list_cmp_total}
use Rattle.sky_base.specs.Val.{Val, Pairs, no_pairs, pair, Rising, RisingFrom}
use Rattle.sky_base.specs.Op.{put}
use Rattle.sky_base.specs.Eval.{is_one_of, caught_if, caught_by}

flipped : (k l : List ℕ) → slice_cmp nat_cmp k l ≡ Ordering.Greater → slice_cmp nat_cmp l k ≡ Ordering.Less
flipped k l h = nat_list_cmp_total.antisymm l k ∙ ap ordering_reverse h

module _ {N : Type 0} where
  from_step : (o : Ordering) (j k l : List ℕ) (v w : Val N) (ps rest : Pairs N) → slice_cmp nat_cmp k l ≡ o → slice_cmp nat_cmp j k
      ≡ Ordering.Less → RisingFrom j (pair l w ps) → (slice_cmp nat_cmp l k ≡ Ordering.Less → RisingFrom l rest)
      → RisingFrom j (match_ordering o (pair k v (pair l w ps)) (pair l v ps) (pair l w rest))
  from_step Ordering.Less j k l v w ps rest e h r further = (h, (e, r.1))
  from_step Ordering.Equal j k l v w ps rest e h r further = r
  from_step Ordering.Greater j k l v w ps rest e h r further = (r.0, further (flipped k l e))

  put_from : (j k : List ℕ) (v : Val N) (ps : Pairs N) → slice_cmp nat_cmp j k ≡ Ordering.Less → RisingFrom j ps → RisingFrom j (put k v ps)
  put_from j k v no_pairs h r = (h, tt)
  put_from j k v (pair l w ps) h r =
      from_step (slice_cmp nat_cmp k l) j k l v w ps (put k v ps) refl h r (λ g. put_from l k v ps g r.1)

  top_step : (o : Ordering) (k l : List ℕ) (v w : Val N) (ps rest : Pairs N) → slice_cmp nat_cmp k l ≡ o → RisingFrom l ps
      → (slice_cmp nat_cmp l k ≡ Ordering.Less → RisingFrom l rest)
      → Rising (match_ordering o (pair k v (pair l w ps)) (pair l v ps) (pair l w rest))
  top_step Ordering.Less k l v w ps rest e r further = (e, r)
  top_step Ordering.Equal k l v w ps rest e r further = r
  top_step Ordering.Greater k l v w ps rest e r further = further (flipped k l e)

  pub rising_put : (k : List ℕ) (v : Val N) (ps : Pairs N) → Rising ps → Rising (put k v ps)
  rising_put k v no_pairs r = tt
  rising_put k v (pair l w ps) r =
      top_step (slice_cmp nat_cmp k l) k l v w ps (put k v ps) refl r (λ g. put_from l k v ps g r)

  from_below : (j l : List ℕ) (ps : Pairs N) → slice_cmp nat_cmp j l ≡ Ordering.Less → RisingFrom l ps → RisingFrom j ps
  from_below j l no_pairs h r = tt
  from_below j l (pair k v ps) h r = (nat_list_cmp_total.trans j l k h r.0, r.1)

  from_caught : (xs : List (List ℕ)) (j : List ℕ) (ps : Pairs N) → RisingFrom j ps → RisingFrom j (caught_by xs ps)
  from_caught xs j no_pairs r = tt
  from_caught xs j (pair k v ps) r = go (is_one_of k xs) (from_caught xs k ps r.1)
    where
      go : (b : Bool) → RisingFrom k (caught_by xs ps) → RisingFrom j (caught_if b k v (caught_by xs ps))
      go true h = (r.0, h)
      go false h = from_below j k (caught_by xs ps) r.0 h

  rising_of : (k : List ℕ) (ps : Pairs N) → RisingFrom k ps → Rising ps
  rising_of k no_pairs r = tt
  rising_of k (pair l v ps) r = r.1

  pub rising_caught : (xs : List (List ℕ)) (ps : Pairs N) → Rising ps → Rising (caught_by xs ps)
  rising_caught xs no_pairs r = tt
  rising_caught xs (pair k v ps) r = go (is_one_of k xs)
    where
      go : (b : Bool) → Rising (caught_if b k v (caught_by xs ps))
      go true = from_caught xs k ps r
      go false = rising_of k (caught_by xs ps) (from_caught xs k ps r)
