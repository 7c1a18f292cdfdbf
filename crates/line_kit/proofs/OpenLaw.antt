-- Bytes against their lines: how many there are, and what they are written one after the other.
use Rattle.std.proofs.Common.{◌≡◌, ℕ, suc, ◌+◌, ◌-◌, Bool, true, false, cond, List, [], ◌∷◌, ◌++◌, length, Some, None, refl, sym, ap, ◌∙◌, arith}
use Rattle.std.specs.Prelude.{◌==◌, not, count_by, slice_get}
use Rattle.std.proofs.lemmas.Bool.{eqb-true}
use Rattle.std.proofs.lemmas.List.Sums.{sum_by-cons}
use Rattle.line_kit.specs.Lines.{is_feed, lines, with_byte, joined, is_open}

-- where there are bytes there is a line
some_line : (x : ℕ) (b : Bool) (ms : List (List ℕ)) → (l : List ℕ) × (ls : List (List ℕ)) × (cond b ([] ∷ ms) (with_byte x ms) ≡ l ∷ ls)
some_line x true ms = ([], ms, refl)
some_line x false [] = (x ∷ [], [], refl)
some_line x false (m ∷ ms) = (x ∷ m, ms, refl)

pub lines_some : (x : ℕ) (xs : List ℕ) → (l : List ℕ) × (ls : List (List ℕ)) × (lines (x ∷ xs) ≡ l ∷ ls)
lines_some x xs = some_line x (x == 10) (lines xs)

joined-with_byte : (x : ℕ) (ls : List (List ℕ)) (l : List ℕ) (ms : List (List ℕ)) → ls ≡ l ∷ ms → joined (with_byte x ls) ≡ x ∷ joined ls
joined-with_byte x ls l ms e = rw e refl

length-with_byte : (x : ℕ) (ls : List (List ℕ)) (l : List ℕ) (ms : List (List ℕ)) → ls ≡ l ∷ ms → length (with_byte x ls) ≡ length ls
length-with_byte x ls l ms e = rw e refl

abbrev whole : List ℕ → List ℕ
whole xs = cond (is_open xs) (xs ++ 10 ∷ []) xs

whole-cons : (b : Bool) (x : ℕ) (xs : List ℕ) → x ∷ cond b (xs ++ 10 ∷ []) xs ≡ cond b ((x ∷ xs) ++ 10 ∷ []) (x ∷ xs)
whole-cons true x xs = refl
whole-cons false x xs = refl

joined-one : (x : ℕ) (b : Bool) → (x == 10) ≡ b → joined (cond b ([] ∷ []) ((x ∷ []) ∷ [])) ≡ cond (not b) (x ∷ 10 ∷ []) (x ∷ [])
joined-one x true e = ap (λ y. y ∷ []) (sym (eqb-true x 10 e))
joined-one x false e = refl

joined-more : (x y : ℕ) (ys : List ℕ) (b : Bool) → (x == 10) ≡ b → joined (cond b ([] ∷ lines (y ∷ ys)) (with_byte x (lines (y ∷ ys)))) ≡ x
    ∷ joined (lines (y ∷ ys))
joined-more x y ys true e = ap (λ z. z ∷ joined (lines (y ∷ ys))) (sym (eqb-true x 10 e))
joined-more x y ys false e = let s = lines_some y ys in joined-with_byte x (lines (y ∷ ys)) s.0 s.1 s.2

pub joined-lines : (xs : List ℕ) → joined (lines xs) ≡ cond (is_open xs) (xs ++ 10 ∷ []) xs
joined-lines [] = refl
joined-lines (x ∷ []) = joined-one x (x == 10) refl
joined-lines (x ∷ y ∷ ys) = joined-more x y ys (x == 10) refl ∙ ap (λ (zs : List ℕ). x ∷ zs) (joined-lines (y ∷ ys))
    ∙ whole-cons (is_open (y ∷ ys)) x (y ∷ ys)

length-one : (x : ℕ) (b : Bool) → length (cond b ([] ∷ []) ((x ∷ []) ∷ [])) ≡ (cond b 1 0 + 0) + cond (not b) 1 0
length-one x true = refl
length-one x false = refl

length-more : (x y : ℕ) (ys : List ℕ) (b : Bool) → length (cond b ([] ∷ lines (y ∷ ys)) (with_byte x (lines (y ∷ ys))))
    ≡ cond b 1 0 + length (lines (y ∷ ys))
length-more x y ys true = omega arith
length-more x y ys false = let s = lines_some y ys in length-with_byte x (lines (y ∷ ys)) s.0 s.1 s.2 ∙ omega arith

pub count_by-cons : (x : ℕ) (xs : List ℕ) → count_by is_feed (x ∷ xs) ≡ cond (is_feed x) 1 0 + count_by is_feed xs
count_by-cons x xs = sum_by-cons (λ y. cond (is_feed y) 1 0) x xs

pub length-lines : (xs : List ℕ) → length (lines xs) ≡ count_by is_feed xs + cond (is_open xs) 1 0
length-lines [] = refl
length-lines (x ∷ []) = length-one x (x == 10) ∙ sym (ap (λ n. n + cond (not (x == 10)) 1 0) (count_by-cons x []))
length-lines (x ∷ y ∷ ys) = let e = length-lines (y ∷ ys) in let f = length-more x y ys (x == 10) in let g = count_by-cons x (y ∷ ys) in
    omega (arith, e, f, g)

further : (x y : ℕ) (ys : List ℕ) → slice_get (y ∷ ys) (length ys) ≡ slice_get (x ∷ y ∷ ys) (length (x ∷ y ∷ ys) - 1)
further x y ys = let e : length (x ∷ y ∷ ys) - 1 ≡ suc (length ys) = omega arith in sym (ap (slice_get (x ∷ y ∷ ys)) e)

back : (y : ℕ) (ys : List ℕ) → length ys ≡ length (y ∷ ys) - 1
back y ys = omega arith

pub open_at : (xs : List ℕ) (b : ℕ) → slice_get xs (length xs - 1) ≡ Some b → is_open xs ≡ not (b == 10)
open_at [] b e = absurd (let bad : None ≡ Some b = e in (cc))
open_at (x ∷ []) b e = let same : x ≡ b = cc in ap (λ y. not (y == 10)) same
open_at (x ∷ y ∷ ys) b e = open_at (y ∷ ys) b (sym (ap (slice_get (y ∷ ys)) (back y ys)) ∙ further x y ys ∙ e)

pub ruleset opens = (joined-lines, length-lines)
