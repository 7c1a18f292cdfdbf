-- A value inside a list holds fewer lists and pairs than the list.
use Rattle.std.proofs.Common.{◌≡◌, ◌<◌, ℕ, List, [], ◌∷◌, drop, suc, zero, true, ap, ◌∙◌, arith}
use Rattle.sky_base.specs.Val.{val_nodes, vals_nodes, pairs_nodes, is_plain, pairs_plain}
use Rattle.std.specs.Prelude.{◌&&◌}
use Rattle.sky_base.specs.View.{view, vals_of, pairs_of}
use Rattle.sky_base.specs.declared.value.Value.{Value}
use Rattle.sky_base.specs.declared.value.Pair.{Pair}

pub value_within : (vs : List Value) (i : ℕ) (v : Value) (rest : List Value) → drop i vs ≡ v ∷ rest
    → val_nodes (view v) < vals_nodes (vals_of vs)
value_within [] zero v rest e = absurd cc
value_within [] (suc i) v rest e = absurd cc
value_within (w ∷ vs) zero v rest e =
    let same : vals_nodes (vals_of (w ∷ vs)) ≡ vals_nodes (vals_of (v ∷ rest)) = ap (λ xs. vals_nodes (vals_of xs)) e in
    omega arith
value_within (w ∷ vs) (suc i) v rest e = omega (arith, value_within vs i v rest e)

pub pair_within : (ps : List Pair) (i : ℕ) (p : Pair) (rest : List Pair) → drop i ps ≡ p ∷ rest
    → val_nodes (view p.value) < pairs_nodes (pairs_of ps)
pair_within [] zero p rest e = absurd cc
pair_within [] (suc i) p rest e = absurd cc
pair_within (q ∷ ps) zero p rest e =
    let same : pairs_nodes (pairs_of (q ∷ ps)) ≡ pairs_nodes (pairs_of (p ∷ rest)) = ap (λ xs. pairs_nodes (pairs_of xs)) e in
    omega arith
pair_within (q ∷ ps) (suc i) p rest e = omega (arith, pair_within ps i p rest e)

-- a pair whose value is plain changes nothing of whether all are
pub pairs_plain-drop : (ps : List Pair) (i : ℕ) (p : Pair) (rest : List Pair) → drop i ps ≡ p ∷ rest
    → is_plain (view p.value) ≡ true → pairs_plain (pairs_of (drop i ps)) ≡ pairs_plain (pairs_of rest)
pairs_plain-drop ps i p rest e plain =
    ap (λ xs. pairs_plain (pairs_of xs)) e ∙ ap (λ b. b && pairs_plain (pairs_of rest)) plain
