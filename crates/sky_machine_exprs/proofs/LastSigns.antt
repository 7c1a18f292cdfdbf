-- Signs, the last of them first.
use Rattle.std.proofs.Common.{◌≡◌, ℕ, zero, suc, ◌+◌, ◌-◌, ◌<◌, ◌≤◌, List, [], ◌∷◌, ◌++◌, length, get_or, take, reverse, refl, ap, ◌∙◌, arith}
use Rattle.std.proofs.lemmas.List.{reverse-append, length-reverse}
use Rattle.sky_base.specs.Tree as logic
use Rattle.sky_base.specs.Val.{Val}
use Rattle.sky_base.specs.Res.{visit}
use Rattle.sky_base.specs.Eval.{World, signs, signed, deref}
use Rattle.sky_base.specs.declared.tree.SignOp.{SignOp}
use Rattle.sky_machine_entries.specs.Config.{Run}
use Rattle.sky_base_scope.specs.Plain.{Vars}
use Rattle.sky_base.specs.TreeView.{signs_view, sign_view, at}
use Rattle.sky_base.specs.declared.tree.SignAt.{SignAt}

abbrev pub one_sign : SignAt → logic.SignAt
one_sign s = record { sign = sign_view s.sign; place = at s.line s.col }

signs_take : (ss : List SignAt) (i : ℕ) (d : SignAt) → i < length ss → signs_view (take (i + 1) ss) ≡ signs_view (take i ss)
    ++ one_sign (get_or ss i d) ∷ []
signs_take [] i d h = absurd (omega arith)
signs_take (s ∷ ss) zero d h = refl
signs_take (s ∷ ss) (suc i) d h = let n : suc i + 1 ≡ suc (i + 1) = omega arith in rw n (ap (λ r. one_sign s ∷ r) (signs_take ss i d (omega arith)))

pub signs_back : (ss : List SignAt) (i : ℕ) (d : SignAt) → i < length ss → reverse (signs_view (take (i + 1) ss)) ≡ one_sign (get_or ss i d)
    ∷ reverse (signs_view (take i ss))
signs_back ss i d h = ap reverse (signs_take ss i d h) ∙ reverse-append (signs_view (take i ss)) (one_sign (get_or ss i d) ∷ [])

pub signs_one : (ss : List SignAt) (i : ℕ) (d : SignAt) → 0 < i → i ≤ length ss → reverse (signs_view (take i ss))
    ≡ one_sign (get_or ss (i - 1) d) ∷ reverse (signs_view (take (i - 1) ss))
signs_one ss i d h k =
    let e : i ≡ i - 1 + 1 = omega arith in ap (λ j. reverse (signs_view (take j ss))) e ∙ signs_back ss (i - 1) d (omega arith)

-- what the last of some signs does, and then those before it
pub sign_next : (w : World (List ℕ)) (ss : List SignAt) (i n k : ℕ) (d : SignAt) (v : Val (List ℕ)) (st : Vars) → 0 < i → i ≤ length ss
    → signs w (reverse (signs_view (take i ss))) n k v st
    ≡ visit (at (get_or ss (i - 1) d).line (get_or ss (i - 1) d).col) st
    (λ t. signed w (sign_view (get_or ss (i - 1) d).sign) v n k (reverse (signs_view (take (i - 1) ss)))
    (at (get_or ss (i - 1) d).line (get_or ss (i - 1) d).col) t (λ u z. signs w (reverse (signs_view (take (i - 1) ss))) n (k + 1) u z))
sign_next w ss i n k d v st h le = ap (λ xs. signs w xs n k v st) (signs_one ss i d h le)

pub signs_length : (ss : List SignAt) → length (reverse (signs_view ss)) ≡ length ss
signs_length ss = length-reverse (signs_view ss) ∙ views ss
  where
    views : (xs : List SignAt) → length (signs_view xs) ≡ length xs
    views [] = refl
    views (x ∷ xs) = ap suc (views xs)

pub star_signed : (w : World (List ℕ)) (o : SignOp) (v : Val (List ℕ)) (n k : ℕ) (ss : List logic.SignAt) (p : logic.Place) (st : Vars)
    (go : Val (List ℕ) → Vars → Run) → o ≡ SignOp.Star → deref w v n k ss p st go ≡ signed w (sign_view o) v n k ss p st go
star_signed w o v n k ss p st go e = rw e refl
