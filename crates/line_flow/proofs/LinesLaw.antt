-- The lines of bytes in parts.
use Rattle.std.proofs.Common.{◌≡◌, ℕ, zero, suc, ◌+◌, ◌<◌, Bool, true, false, cond, List, [], ◌∷◌, ◌++◌, length, take, drop, refl, sym, ap, ◌∙◌}
use Rattle.std.proofs.Common.{arith, append-nil, nat_lt}
use Rattle.std.specs.Prelude.{◌==◌, not, count_by}
use Rattle.std.proofs.Math.Seq.{take-append_seam}
use Rattle.std.proofs.lemmas.List.{take-append-drop, drop_all}
use Rattle.std.proofs.lemmas.Bool.Decides.{nat_tests}
use Rattle.std.proofs.lemmas.Bool.{true≢false}
use Rattle.std.proofs.lemmas.List.Sums.{sum_by-append}
use Rattle.line_kit.proofs.OpenLaw.{length-lines, joined-lines}
use Rattle.line_kit.specs.Lines.{is_feed, lines, with_byte, joined, is_open}
use Rattle.line_flow.specs.Told.{ended_lines}

some_line : (x : ℕ) (b : Bool) (ms : List (List ℕ)) → (l : List ℕ) × (ls : List (List ℕ)) × (cond b ([] ∷ ms) (with_byte x ms) ≡ l ∷ ls)
some_line x true ms = ([], ms, refl)
some_line x false [] = (x ∷ [], [], refl)
some_line x false (m ∷ ms) = (x ∷ m, ms, refl)

with_byte-append : (x : ℕ) (ls ms : List (List ℕ)) (l : List ℕ) (more : List (List ℕ)) → ls ≡ l ∷ more → with_byte x (ls ++ ms) ≡ with_byte x ls ++ ms
with_byte-append x ls ms l more e = rw e refl

true_from_not : (b : Bool) → not b ≡ false → b ≡ true
true_from_not true e = refl
true_from_not false e = absurd (true≢false e)

append-by : (x y : ℕ) (ys b : List ℕ) (t : Bool) → lines ((y ∷ ys) ++ b) ≡ lines (y ∷ ys) ++ lines b
    → cond t ([] ∷ lines ((y ∷ ys) ++ b)) (with_byte x (lines ((y ∷ ys) ++ b))) ≡ cond t ([] ∷ lines (y ∷ ys)) (with_byte x (lines (y ∷ ys)))
    ++ lines b
append-by x y ys b true e = ap (λ (ls : List (List ℕ)). [] ∷ ls) e
append-by x y ys b false e =
    let s = some_line y (y == 10) (lines ys) in
    ap (with_byte x) e ∙ with_byte-append x (lines (y ∷ ys)) (lines b) s.0 s.1 s.2

-- behind a line feed lines begin anew
pub lines-append : (a b : List ℕ) → is_open a ≡ false → lines (a ++ b) ≡ lines a ++ lines b
lines-append [] b h = refl
lines-append (x ∷ []) b h = rw (true_from_not (x == 10) h) refl
lines-append (x ∷ y ∷ ys) b h = append-by x y ys b (x == 10) (lines-append (y ∷ ys) b h)

open-append : (a : List ℕ) (y : ℕ) (ys : List ℕ) → is_open (a ++ y ∷ ys) ≡ is_open (y ∷ ys)
open-append [] y ys = refl
open-append (x ∷ []) y ys = refl
open-append (x ∷ z ∷ zs) y ys = open-append (z ∷ zs) y ys

pub closed-append : (a b : List ℕ) → is_open a ≡ false → is_open b ≡ false → is_open (a ++ b) ≡ false
closed-append a [] h k = ap is_open (append-nil a) ∙ h
closed-append a (y ∷ ys) h k = open-append a y ys ∙ k

-- with a line feed behind what is open the lines are the same
whole_by : (xs : List ℕ) (b : Bool) → is_open xs ≡ b → is_open (cond b (xs ++ 10 ∷ []) xs) ≡ false
whole_by xs true e = open-append xs 10 []
whole_by xs false e = e

pub joined-closed : (xs : List ℕ) → is_open (joined (lines xs)) ≡ false
joined-closed xs = ap is_open (joined-lines xs) ∙ whole_by xs (is_open xs) refl

feed_more : (x : ℕ) (b : Bool) (ls ms : List (List ℕ)) (l : List ℕ) (more : List (List ℕ)) → ls ≡ l ∷ more → ms ≡ ls
    → cond b ([] ∷ ms) (with_byte x ms) ≡ cond b ([] ∷ ls) (with_byte x ls)
feed_more x b ls ms l more e f = ap (λ us. cond b ([] ∷ us) (with_byte x us)) f

feed_one : (x : ℕ) (b : Bool) → b ≡ false → cond b ([] ∷ [] ∷ []) (with_byte x ([] ∷ [])) ≡ cond b ([] ∷ []) ((x ∷ []) ∷ [])
feed_one x true e = absurd (true≢false e)
feed_one x false e = refl

open_not : (b : Bool) → not b ≡ true → b ≡ false
open_not true e = absurd (true≢false (sym e))
open_not false e = refl

lines-feed : (xs : List ℕ) → is_open xs ≡ true → lines (xs ++ 10 ∷ []) ≡ lines xs
lines-feed [] h = absurd (true≢false (sym h))
lines-feed (x ∷ []) h = feed_one x (x == 10) (open_not (x == 10) h)
lines-feed (x ∷ y ∷ ys) h = ap (λ us. cond (x == 10) ([] ∷ us) (with_byte x us)) (lines-feed (y ∷ ys) h)

lines_whole_by : (xs : List ℕ) (b : Bool) → is_open xs ≡ b → lines (cond b (xs ++ 10 ∷ []) xs) ≡ lines xs
lines_whole_by xs true e = lines-feed xs e
lines_whole_by xs false e = refl

pub lines-joined : (xs : List ℕ) → lines (joined (lines xs)) ≡ lines xs
lines-joined xs = ap lines (joined-lines xs) ∙ lines_whole_by xs (is_open xs) refl

-- the lines that a line feed ends are those before the last line feed
pub ended-append : (a b : List ℕ) → is_open a ≡ false → count_by is_feed b ≡ 0 → ended_lines (a ++ b) ≡ lines a
ended-append a b h none =
    let feeds : count_by is_feed (a ++ b) ≡ length (lines a) + 0 =
    sum_by-append (λ y. cond (is_feed y) 1 0) a b ∙ omega (arith, none, length-lines a ∙ ap (λ t. count_by is_feed a + cond t 1 0) h) in
    let same : length (lines a) + 0 ≡ length (lines a) = omega arith in
    ap (λ n. take n (lines (a ++ b))) (feeds ∙ same) ∙ ap (take (length (lines a))) (lines-append a b h) ∙ take-append_seam (lines a) (lines b)

-- the lines of the first so many bytes, and those of the others
split_by : (n : ℕ) (xs : List ℕ) → ((n < length xs → is_open (take n xs) ≡ false)) → (b : Bool) → nat_lt n (length xs) ≡ b
    → lines (take n xs ++ drop n xs) ≡ lines (take n xs) ++ lines (drop n xs)
split_by n xs h true e = lines-append (take n xs) (drop n xs) (h (grind (arith, nat_tests)))
split_by n xs h false e =
    let none : drop n xs ≡ [] = drop_all n xs (grind (arith, nat_tests)) in
    ap (λ ys. lines (take n xs ++ ys)) none ∙ ap lines (append-nil (take n xs))
    ∙ sym (ap (λ ys. lines (take n xs) ++ lines ys) none ∙ append-nil (lines (take n xs)))

pub lines-split : (n : ℕ) (xs : List ℕ) → (n < length xs → is_open (take n xs) ≡ false) → lines xs ≡ lines (take n xs) ++ lines (drop n xs)
lines-split n xs h = ap lines (sym (take-append-drop n xs)) ∙ split_by n xs h (nat_lt n (length xs)) refl

pub first_cut : (n : ℕ) (xs l : List ℕ) → lines (take n xs) ≡ l ∷ [] → (n < length xs → is_open (take n xs) ≡ false) → lines xs ≡ l
    ∷ lines (drop n xs)
first_cut n xs l e h = lines-split n xs h ∙ ap (λ (ls : List (List ℕ)). ls ++ lines (drop n xs)) e

pub closed-drop : (n : ℕ) (xs : List ℕ) → is_open xs ≡ false → is_open (drop n xs) ≡ false
closed-drop zero xs h = h
closed-drop (suc n) [] h = h
closed-drop (suc n) (x ∷ []) h = closed-drop n [] refl
closed-drop (suc n) (x ∷ y ∷ ys) h = closed-drop n (y ∷ ys) h
