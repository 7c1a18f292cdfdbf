-- Signs, the last of them first.
use Rattle.std.proofs.Common.{◌≡◌, ℕ, zero, suc, ◌+◌, ◌-◌, ◌<◌, ◌≤◌, List, [], ◌∷◌, ◌++◌, length, get_or, take, reverse, refl, ap, ◌∙◌, arith}
use Rattle.std.proofs.lemmas.List.{reverse-append}
use Rattle.sky_base.specs.Tree as logic
use Rattle.sky_base.specs.TreeView.{signs_view, sign_view, at}
use Rattle.sky_base.specs.declared.tree.SignAt.{SignAt}

abbrev pub one_sign : SignAt → logic.SignAt
one_sign s = record { sign = sign_view s.sign; place = at s.line s.col }

signs_take : (ss : List SignAt) (i : ℕ) (d : SignAt) → i < length ss → signs_view (take (i + 1) ss) ≡ signs_view (take i ss)
    ++ one_sign (get_or ss i d) ∷ []
signs_take [] i d h = absurd (omega arith)
signs_take (s ∷ ss) zero d h = refl
signs_take (s ∷ ss) (suc i) d h = let n : suc i + 1 ≡ suc (i + 1) = omega arith in rw n (ap (λ r. one_sign s ∷ r) (signs_take ss i d (omega arith)))

pub signs_back : (ss : List SignAt) (i : ℕ) (d : SignAt) → i < length ss → reverse (signs_view (take (i + 1) ss)) ≡ one_sign (get_or ss i d)
    ∷ reverse (signs_view (take i ss))
signs_back ss i d h = ap reverse (signs_take ss i d h) ∙ reverse-append (signs_view (take i ss)) (one_sign (get_or ss i d) ∷ [])

pub signs_one : (ss : List SignAt) (i : ℕ) (d : SignAt) → 0 < i → i ≤ length ss → reverse (signs_view (take i ss))
    ≡ one_sign (get_or ss (i - 1) d) ∷ reverse (signs_view (take (i - 1) ss))
signs_one ss i d h k =
    let e : i ≡ i - 1 + 1 = omega arith in ap (λ j. reverse (signs_view (take j ss))) e ∙ signs_back ss (i - 1) d (omega arith)
