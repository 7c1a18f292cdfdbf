-- The test whether two values are equal: lists of different lengths are not, and of values without references
-- it is the same whatever the test of references is.
use Rattle.std.proofs.Common.{◌≡◌, ◌≢◌, ℕ, suc, List, [], ◌∷◌, length, Bool, false, true, ◌&&◌, refl, ap}
use Rattle.sky_base.specs.Val.{Val, Vals, Pairs, null, truth, num, text, list, dict, fun, ref, no_vals, val, no_pairs, pair, is_plain, vals_plain}
use Rattle.sky_base.specs.Val.{pairs_plain, same_val, same_vals, same_pairs, same_text}
use Rattle.sky_base.specs.View.{view, vals_of, pairs_of}
use Rattle.sky_base.specs.declared.value.Value.{Value}
use Rattle.sky_base.specs.declared.value.Pair.{Pair}
use Rattle.sky_base.proofs.Exact.{both_first, both_second}

and_false : (a b : Bool) → b ≡ false → a && b ≡ false
and_false true b e = e
and_false false b e = refl

pub same_vals-uneven : (vs ws : List Value) → length vs ≢ length ws → same_vals {N = List ℕ} same_text (vals_of vs) (vals_of ws) ≡ false
same_vals-uneven [] [] n = absurd (n refl)
same_vals-uneven [] (w ∷ ws) n = refl
same_vals-uneven (v ∷ vs) [] n = refl
same_vals-uneven (v ∷ vs) (w ∷ ws) n =
    and_false (same_val same_text (view v) (view w)) _ (same_vals-uneven vs ws (λ e. n (ap suc e)))

pub same_pairs-uneven : (ps qs : List Pair) → length ps ≢ length qs → same_pairs {N = List ℕ} same_text (pairs_of ps) (pairs_of qs) ≡ false
same_pairs-uneven [] [] n = absurd (n refl)
same_pairs-uneven [] (q ∷ qs) n = refl
same_pairs-uneven (p ∷ ps) [] n = refl
same_pairs-uneven (p ∷ ps) (q ∷ qs) n =
    and_false (same_text p.key q.key) _ (and_false (same_val same_text (view p.value) (view q.value)) _ (same_pairs-uneven ps qs (λ e. n (ap suc e))))

pub ruleset uneven = (same_vals-uneven, same_pairs-uneven)

module _ {N : Type 0} (s r : N → N → Bool) where
  mutual
    pub plain_val : (a b : Val N) → is_plain a ≡ true → same_val s a b ≡ same_val r a b
    plain_val null b h = refl
    plain_val (truth x) b h = refl
    plain_val (num z) b h = refl
    plain_val (text t) b h = refl
    plain_val (list vs) null h = refl
    plain_val (list vs) (truth y) h = refl
    plain_val (list vs) (num z) h = refl
    plain_val (list vs) (text t) h = refl
    plain_val (list vs) (list ws) h = plain_vals vs ws h
    plain_val (list vs) (dict qs) h = refl
    plain_val (list vs) (fun g d) h = refl
    plain_val (list vs) (ref e) h = refl
    plain_val (dict ps) null h = refl
    plain_val (dict ps) (truth y) h = refl
    plain_val (dict ps) (num z) h = refl
    plain_val (dict ps) (text t) h = refl
    plain_val (dict ps) (list ws) h = refl
    plain_val (dict ps) (dict qs) h = plain_pairs ps qs h
    plain_val (dict ps) (fun g d) h = refl
    plain_val (dict ps) (ref e) h = refl
    plain_val (fun f c) b h = absurd cc
    plain_val (ref d) b h = absurd cc

    plain_vals : (vs ws : Vals N) → vals_plain vs ≡ true → same_vals s vs ws ≡ same_vals r vs ws
    plain_vals no_vals ws h = refl
    plain_vals (val v vs) no_vals h = refl
    plain_vals (val v vs) (val w ws) h = λ i. plain_val v w (both_first _ _ h) i && plain_vals vs ws (both_second _ _ h) i

    plain_pairs : (ps qs : Pairs N) → pairs_plain ps ≡ true → same_pairs s ps qs ≡ same_pairs r ps qs
    plain_pairs no_pairs qs h = refl
    plain_pairs (pair k v ps) no_pairs h = refl
    plain_pairs (pair k v ps) (pair l w qs) h =
        λ i. same_text k l && (plain_val v w (both_first _ _ h) i && plain_pairs ps qs (both_second _ _ h) i)

-- what the code tests is what the operators ask
pub plain_same : (a b : Val (List ℕ)) → is_plain a ≡ true → same_val same_text a b ≡ same_val (λ x y. false) a b
plain_same a b h = plain_val same_text (λ x y. false) a b h

pub ruleset plain = (plain_same)
