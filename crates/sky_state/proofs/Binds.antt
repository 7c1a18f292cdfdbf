-- Parameters and arguments, one at a time.
use Rattle.std.proofs.Common.{◌≡◌, ℕ, zero, suc, ◌+◌, ◌≤◌, List, [], ◌∷◌, length, drop, Some, None, refl, ap, arith}
use Rattle.sky_base.specs.Val.{Val, Vals, Pairs, no_vals, val}
use Rattle.sky_base.specs.Op.{val_at, put}
use Rattle.sky_base.specs.Eval.{bind, left}

left_here : (vs : Vals (List ℕ)) (i : ℕ) (v : Val (List ℕ)) → val_at vs i ≡ Some v → left i vs ≡ val v (left (i + 1) vs)
left_here no_vals i v e = absurd cc
left_here (val u vs) zero v e = let f : u ≡ v = cc in ap (λ x. val x vs) f
left_here (val u vs) (suc i) v e = let n : suc i + 1 ≡ suc (i + 1) = omega arith in rw n (left_here vs i v e)

pub left_past : (vs : Vals (List ℕ)) (i : ℕ) → val_at vs i ≡ None → left i vs ≡ no_vals
left_past no_vals zero e = refl
left_past no_vals (suc i) e = refl
left_past (val u vs) zero e = absurd cc
left_past (val u vs) (suc i) e = left_past vs i e

pub bind_past : (xs : List (List ℕ)) (ps : Pairs (List ℕ)) → bind xs no_vals ps ≡ ps
bind_past [] ps = refl
bind_past (x ∷ xs) ps = refl

pub drop_past : (xs : List (List ℕ)) (i : ℕ) → length xs ≤ i → drop i xs ≡ []
drop_past [] zero h = refl
drop_past [] (suc i) h = refl
drop_past (x ∷ xs) zero h = absurd (omega arith)
drop_past (x ∷ xs) (suc i) h = drop_past xs i (omega arith)

pub bind_here : (x : List ℕ) (xs : List (List ℕ)) (vs : Vals (List ℕ)) (i : ℕ) (v : Val (List ℕ)) (ps : Pairs (List ℕ)) → val_at vs i ≡ Some v
    → bind (x ∷ xs) (left i vs) ps ≡ bind xs (left (i + 1) vs) (put x v ps)
bind_here x xs vs i v ps e = ap (λ us. bind (x ∷ xs) us ps) (left_here vs i v e)
