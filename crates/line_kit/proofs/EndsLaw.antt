-- Where the first lines of some bytes end: behind as many line feeds.
use Rattle.std.proofs.Common.{◌≡◌, ◌≢◌, ℕ, zero, suc, ◌+◌, ◌<◌, ◌≤◌, Bool, true, false, cond, List, [], ◌∷◌, ◌++◌, length, take, drop, slice_index}
use Rattle.std.proofs.Common.{refl, sym, ap, ◌∙◌, arith, append-nil, append_assoc, length-drop, take-append-drop, take-add}
use Rattle.std.specs.Prelude.{◌==◌, not, count_by}
use Rattle.std.proofs.lemmas.List.{take_all, drop_all, take-append-le, drop-append-le, take_more}
use Rattle.std.proofs.lemmas.List.Sums.{sum_by-append, count_by_more_yes}
use Rattle.std.proofs.lemmas.Bool.{true≢false, ne_eqb, eq-eqb}
use Rattle.line_kit.specs.Lines.{is_feed, lines, with_byte, joined, is_open}
use Rattle.line_kit.proofs.OpenLaw.{lines_some, count_by-cons, joined-lines, length-lines}

with_byte-append : (x : ℕ) (ls ms : List (List ℕ)) (l : List ℕ) (more : List (List ℕ)) → ls ≡ l ∷ more → with_byte x (ls ++ ms) ≡ with_byte x ls ++ ms
with_byte-append x ls ms l more e = rw e refl

true_from_not : (b : Bool) → not b ≡ false → b ≡ true
true_from_not true e = refl
true_from_not false e = absurd (true≢false e)

append_by : (x y : ℕ) (ys b : List ℕ) (t : Bool) → lines ((y ∷ ys) ++ b) ≡ lines (y ∷ ys) ++ lines b
    → cond t ([] ∷ lines ((y ∷ ys) ++ b)) (with_byte x (lines ((y ∷ ys) ++ b))) ≡ cond t ([] ∷ lines (y ∷ ys)) (with_byte x (lines (y ∷ ys)))
    ++ lines b
append_by x y ys b true e = ap (λ (ls : List (List ℕ)). [] ∷ ls) e
append_by x y ys b false e = let s = lines_some y ys in ap (with_byte x) e ∙ with_byte-append x (lines (y ∷ ys)) (lines b) s.0 s.1 s.2

-- behind a line feed lines begin anew
lines-append : (a b : List ℕ) → is_open a ≡ false → lines (a ++ b) ≡ lines a ++ lines b
lines-append [] b h = refl
lines-append (x ∷ []) b h = rw (true_from_not (x == 10) h) refl
lines-append (x ∷ y ∷ ys) b h = append_by x y ys b (x == 10) (lines-append (y ∷ ys) b h)

closed-feed : (a : List ℕ) → is_open (a ++ 10 ∷ []) ≡ false
closed-feed [] = refl
closed-feed (x ∷ []) = refl
closed-feed (x ∷ y ∷ ys) = closed-feed (y ∷ ys)

pub closed-drop : (n : ℕ) (xs : List ℕ) → is_open xs ≡ false → is_open (drop n xs) ≡ false
closed-drop zero xs h = h
closed-drop (suc n) [] h = h
closed-drop (suc n) (x ∷ []) h = closed-drop n [] refl
closed-drop (suc n) (x ∷ y ∷ ys) h = closed-drop n (y ∷ ys) h

-- the bytes of closed bytes' lines are these bytes
bytes_are : (xs : List ℕ) → is_open xs ≡ false → joined (lines xs) ≡ xs
bytes_are xs closed = joined-lines xs ∙ ap (λ b. cond b (xs ++ 10 ∷ []) xs) closed

seam_by : (ls : List (List ℕ)) (bs : List ℕ) (n : ℕ) → length ls ≤ n → (0 < length bs → length ls ≡ n)
    → (take n (ls ++ lines bs) ≡ ls) × (drop n (ls ++ lines bs) ≡ lines bs)
seam_by ls [] n most all = (ap (take n) (append-nil ls) ∙ take_all n ls most, ap (drop n) (append-nil ls) ∙ drop_all n ls most)
seam_by ls (b ∷ bs) n most all =
    let same : length ls ≡ n = all (omega arith) in (
      take-append-le n ls (lines (b ∷ bs)) (omega (arith, same)) ∙ take_all n ls most,
      drop-append-le n ls (lines (b ∷ bs)) (omega (arith, same)) ∙ ap (λ (ms : List (List ℕ)). ms ++ lines (b ∷ bs)) (drop_all n ls most),
    )

-- the first n lines end behind as many line feeds, or at the end where there are fewer
pub ends_at : (xs : List ℕ) (r n : ℕ) → is_open (take r xs) ≡ false → count_by is_feed (take r xs) ≤ n
    → (r < length xs → count_by is_feed (take r xs) ≡ n) → (take r xs ≡ joined (take n (lines xs))) × (lines (drop r xs) ≡ drop n (lines xs))
ends_at xs r n closed most all =
    let front = take r xs in
    let whole : lines xs ≡ lines front ++ lines (drop r xs) = ap lines (sym (take-append-drop r xs)) ∙ lines-append front (drop r xs) closed in
    let many : length (lines front) ≡ count_by is_feed front + 0 = length-lines front ∙ ap (λ t. count_by is_feed front + cond t 1 0) closed in
    let seam = seam_by (lines front) (drop r xs) n (omega (arith, many, most)) (λ h. omega (arith, many, all (omega (arith, h, length-drop r xs)))) in
    (sym (ap (λ (ls : List (List ℕ)). joined (take n ls)) whole ∙ ap joined seam.0 ∙ bytes_are front closed), sym (ap (drop n) whole ∙ seam.1))

-- ---- line feeds up to a place

pub count_both : (xs behind : List ℕ) (a i : ℕ) → behind ≡ drop a xs
    → count_by is_feed (take (a + i) xs) ≡ count_by is_feed (take a xs) + count_by is_feed (take i behind)
count_both xs behind a i e =
    ap (count_by is_feed) (take-add a i xs) ∙ sum_by-append (λ x. cond (is_feed x) 1 0) (take a xs) (take i (drop a xs))
    ∙ ap (λ (bs : List ℕ). count_by is_feed (take a xs) + count_by is_feed (take i bs)) (sym e)

pub no_feeds : (xs : List ℕ) (i : ℕ) → i ≤ length xs → ((k : ℕ) → k < i → slice_index xs k ≢ 10) → count_by is_feed (take i xs) ≡ 0
no_feeds xs zero h clean = refl
no_feeds [] (suc i) h clean = refl
no_feeds (x ∷ xs) (suc i) h clean =
    let other : cond {A = ℕ} (is_feed x) 1 0 ≡ 0 = ap (λ t. cond {A = ℕ} t 1 0) (ne_eqb x 10 (clean 0 (omega arith))) in
    let more = no_feeds xs i (omega arith) (λ k l. clean (suc k) (omega arith)) in
    omega (arith, count_by-cons x (take i xs), other, more)

pub one_feed : (xs : List ℕ) (i : ℕ) → i < length xs → ((k : ℕ) → k < i → slice_index xs k ≢ 10) → slice_index xs i ≡ 10
    → count_by is_feed (take (i + 1) xs) ≡ 1
one_feed xs i h clean here =
    count_by_more_yes is_feed xs i 0 h (eq-eqb _ 10 here) ∙ ap (λ n. n + 1) (no_feeds xs i (omega arith) clean)

-- up to a line feed bytes are closed
pub closed_at : (xs behind : List ℕ) (a i : ℕ) → behind ≡ drop a xs → i < length behind → slice_index behind i ≡ 10
    → is_open (take (a + (i + 1)) xs) ≡ false
closed_at xs behind a i e h here =
    let last : take (i + 1) behind ≡ take i behind ++ 10 ∷ [] = take_more behind i 0 h ∙ ap (λ (x : ℕ). take i behind ++ x ∷ []) here in
    let front : take (a + (i + 1)) xs ≡ (take a xs ++ take i behind) ++ 10 ∷ [] =
    take-add a (i + 1) xs ∙ ap (λ (bs : List ℕ). take a xs ++ bs) (ap (take (i + 1)) (sym e) ∙ last)
    ∙ sym (append_assoc (take a xs) (take i behind) (10 ∷ [])) in
    ap is_open front ∙ closed-feed (take a xs ++ take i behind)
