-- Signs, the last of them first.
use Rattle.std.proofs.Common.{◌≡◌, ◌<◌, ◌≤◌, ◌+◌, ◌-◌, ◌⊎◌, inl, inr, ℕ, zero, suc, List, [], ◌∷◌, ◌++◌, length, take, reverse, Some, get_or, refl}
use Rattle.std.proofs.Common.{sym, ap, ◌∙◌, arith}
use Rattle.std.proofs.lemmas.List.{reverse-append, length-reverse}
use Rattle.std.specs.Option.{option_and_then}
use Rattle.sky_base.specs.Tree as logic
use Rattle.sky_base.specs.TreeView.{signs_view, sign_view, at}
use Rattle.sky_base.specs.declared.tree.SignAt.{SignAt}
use Rattle.sky_base.specs.declared.tree.SignOp.{SignOp}
use Rattle.sky_base_law.specs.Opened.{next_sign, times}
use Rattle.sky_state.specs.Table.{no_step, on_by, past_sign, sign_is, sign_row}
use Rattle.sky_machine_open.proofs.LastSigns.{signs_but, view_length}
use Rattle.sky_frozen_fits.proofs.Walks.{on_none}

-- ---- as many steps as there are signs, and no more

signs_less : (i : ℕ) (ss : List logic.SignAt) → i ≤ length ss → length (times next_sign i ss) + i ≡ length ss
signs_less zero ss h = omega arith
signs_less (suc i) ss h = go (times next_sign i ss) (signs_less i ss (omega (arith, h)))
  where
    go : (xs : List logic.SignAt) → length xs + i ≡ length ss → length (next_sign xs) + suc i ≡ length ss
    go [] e = absurd (omega (arith, e, h))
    go (x ∷ xs) e = omega (arith, e)

on_times : (i : ℕ) (ss : List logic.SignAt) → i ≤ length ss → on_by past_sign i ss ≡ Some (times next_sign i ss)
on_times zero ss h = refl
on_times (suc i) ss h = ap (option_and_then past_sign) (on_times i ss (omega (arith, h)))
    ∙ go (times next_sign i ss) (signs_less i ss (omega (arith, h)))
  where
    go : (xs : List logic.SignAt) → length xs + i ≡ length ss → past_sign xs ≡ Some (next_sign xs)
    go [] e = absurd (omega (arith, e, h))
    go (x ∷ xs) e = refl

all_gone : (xs : List logic.SignAt) → length xs ≡ 0 → xs ≡ []
all_gone [] e = refl
all_gone (x ∷ xs) e = absurd (omega (arith, e))

whether : (i n : ℕ) → n ≤ i → (n ≡ i) ⊎ (n < i)
whether zero n h = inl (omega (arith, h))
whether (suc i) zero h = inr (omega arith)
whether (suc i) (suc n) h = more (whether i n (omega (arith, h)))
  where
    more : (n ≡ i) ⊎ (n < i) → (suc n ≡ suc i) ⊎ (suc n < suc i)
    more (inl e) = inl (ap suc e)
    more (inr g) = inr (omega (arith, g))

none_left : (i : ℕ) (ss : List logic.SignAt) → length ss ≤ i → sign_row (on_by past_sign i ss) ≡ no_step
none_left i ss h = go (whether i (length ss) h)
  where
    end : on_by past_sign (length ss) ss ≡ Some []
    end = on_times (length ss) ss (omega arith)
        ∙ ap Some (all_gone (times next_sign (length ss) ss) (omega (arith, signs_less (length ss) ss (omega arith))))

    go : (length ss ≡ i) ⊎ (length ss < i) → sign_row (on_by past_sign i ss) ≡ no_step
    go (inl e) = ap (λ n. sign_row (on_by past_sign n ss)) (sym e) ∙ ap sign_row end
    go (inr l) = ap sign_row (on_none past_sign (length ss) i ss [] end refl l)

pub sign_end : (ss : List SignAt) (i : ℕ) → length ss ≤ i → sign_row (on_by past_sign i (reverse (signs_view ss))) ≡ no_step
sign_end ss i h = none_left i (reverse (signs_view ss)) (omega (arith, h, length-reverse (signs_view ss), view_length ss))

-- ---- the sign at a place

abbrev one_sign : SignAt → logic.SignAt
one_sign s = record { sign = sign_view s.sign; place = at s.line s.col }

signs_take : (ss : List SignAt) (j : ℕ) (s : SignAt) → s ≡ get_or ss j s → j < length ss → signs_view (take (j + 1) ss) ≡ signs_view (take j ss)
    ++ one_sign s ∷ []
signs_take [] j s e h = absurd (omega (arith, h))
signs_take (x ∷ ss) zero s e h = ap (λ y. one_sign y ∷ []) (sym e)
signs_take (x ∷ ss) (suc j) s e h = let n : suc j + 1 ≡ suc (j + 1) = omega arith in
    rw n (ap (λ r. one_sign x ∷ r) (signs_take ss j s e (omega (arith, h))))

pub sign_got : (ss : List SignAt) (i : ℕ) (s : SignAt) → s ≡ get_or ss (length ss - 1 - i) s → i < length ss
    → sign_row (on_by past_sign i (reverse (signs_view ss))) ≡ sign_is (sign_view s.sign)
sign_got ss i s e h =
    let all = signs_view ss in
    let j = length ss - 1 - i in
    let n : length ss - i ≡ j + 1 = omega (arith, h) in
    let is : times next_sign i (reverse all) ≡ one_sign s ∷ reverse (signs_view (take j ss)) = sym (signs_but ss i (j + 1) (sym n))
    ∙ ap reverse (signs_take ss j s e (omega (arith, h))) ∙ reverse-append (signs_view (take j ss)) (one_sign s ∷ []) in
    ap sign_row (on_times i (reverse all) (omega (arith, h, length-reverse all, view_length ss)) ∙ ap Some is)

pub sign_other : (s : SignOp) → (s ≡ SignOp.Not) ⊎ (s ≡ SignOp.Minus) → sign_is (sign_view s) ≡ no_step
sign_other s (inl e) = ap (λ x. sign_is (sign_view x)) e
sign_other s (inr e) = ap (λ x. sign_is (sign_view x)) e
