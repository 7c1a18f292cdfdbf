-- The signs before a `*`, from the text's end.
use Rattle.std.proofs.Common.{◌≡◌, ◌≤◌, ◌-◌, ◌⊎◌, inl, inr, ℕ, zero, suc, List, [], ◌∷◌, ◌++◌, length, take, drop, reverse, refl, sym, ap, ◌∙◌, arith}
use Rattle.std.proofs.lemmas.List.{reverse-append, take-append-drop, drop_all, length-reverse, length-drop}
use Rattle.std.proofs.Math.Seq.{drop-append_seam}
use Rattle.sky_base.specs.Tree as logic
use Rattle.sky_base.specs.TreeView.{signs_view, sign_view, at}
use Rattle.sky_base.specs.declared.tree.SignAt.{SignAt}
use Rattle.sky_base.specs.Val.{Val}
use Rattle.sky_base_law.specs.Opened.{next_sign, times, sign_open, prefix_open}

next_drop : (i : ℕ) (ss : List logic.SignAt) → next_sign (drop i ss) ≡ drop (suc i) ss
next_drop zero [] = refl
next_drop zero (s ∷ ss) = refl
next_drop (suc i) [] = refl
next_drop (suc i) (s ∷ ss) = next_drop i ss

times_drop : (i : ℕ) (ss : List logic.SignAt) → times next_sign i ss ≡ drop i ss
times_drop zero ss = refl
times_drop (suc i) ss = ap next_sign (times_drop i ss) ∙ next_drop i ss

view_take : (n : ℕ) (ss : List SignAt) → signs_view (take n ss) ≡ take n (signs_view ss)
view_take zero ss = refl
view_take (suc n) [] = refl
view_take (suc n) (s ∷ ss) = ap (λ r. record { sign = sign_view s.sign; place = at s.line s.col } ∷ r) (view_take n ss)

pub view_length : (ss : List SignAt) → length (signs_view ss) ≡ length ss
view_length [] = refl
view_length (s ∷ ss) = ap suc (view_length ss)

which : (i n : ℕ) → (i ≤ n) ⊎ (n ≤ i)
which zero n = inl (omega arith)
which (suc i) zero = inr (omega arith)
which (suc i) (suc n) = more (which i n)
  where
    more : (i ≤ n) ⊎ (n ≤ i) → (suc i ≤ suc n) ⊎ (suc n ≤ suc i)
    more (inl h) = inl (omega (arith, h))
    more (inr h) = inr (omega (arith, h))

module _ {A : Type 0} where
  -- where the list falls in two, the second of which has so many
  back_two : (xs ys : List A) (i : ℕ) → length ys ≡ i → drop i (reverse (xs ++ ys)) ≡ reverse xs
  back_two xs ys i e =
      ap (λ zs. drop i zs) (reverse-append xs ys) ∙ ap (λ k. drop k (reverse ys ++ reverse xs)) (sym (length-reverse ys ∙ e))
      ∙ drop-append_seam (reverse ys) (reverse xs)

  back : (xs : List A) (i : ℕ) → (i ≤ length xs) ⊎ (length xs ≤ i) → drop i (reverse xs) ≡ reverse (take (length xs - i) xs)
  back xs i (inl h) =
      let n = length xs - i in
      ap (λ zs. drop i (reverse zs)) (sym (take-append-drop n xs)) ∙ back_two (take n xs) (drop n xs) i (omega (arith, length-drop n xs, h))
  back xs i (inr h) =
      let z : length xs - i ≡ 0 = omega (arith, h) in
      drop_all i (reverse xs) (omega (arith, length-reverse xs, h)) ∙ ap (λ n. reverse (take n xs)) (sym z)

-- the last ones are left out, so many
pub signs_but : (ss : List SignAt) (i n : ℕ) → n ≡ length ss - i → reverse (signs_view (take n ss)) ≡ times next_sign i (reverse (signs_view ss))
signs_but ss i n e =
    let all = signs_view ss in
    ap reverse (view_take n ss) ∙ ap (λ k. reverse (take k all)) (e ∙ ap (λ k. k - i) (sym (view_length ss)))
    ∙ sym (back all i (which i (length all))) ∙ sym (times_drop i (reverse all))

pub prefix_two : (ss : List logic.SignAt) (n k : ℕ) (vs : List (Val (List ℕ))) → 2 ≤ k → sign_open (times next_sign (k - 1) (reverse ss)) n k vs
    ≡ prefix_open ss n k vs
prefix_two ss n zero vs h = absurd (omega (arith, h))
prefix_two ss n (suc zero) vs h = absurd (omega (arith, h))
prefix_two ss n (suc (suc i)) vs h = let g : suc (suc i) - 1 ≡ suc i = omega arith in rw g refl
