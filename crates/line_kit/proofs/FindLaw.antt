-- Lines with a text, by a search of all bytes: before the line around the first place of the text no line
-- has it, and that line has it.
use Rattle.std.proofs.Common.{◌≡◌, ◌≢◌, ℕ, zero, suc, ◌+◌, ◌<◌, ◌≤◌, Bool, true, false, ◌&&◌, ◌||◌, cond, List, [], ◌∷◌, ◌++◌, length, take, drop}
use Rattle.std.proofs.Common.{slice_index, refl, sym, ap, ap₂, ◌∙◌, arith, length-take, length-drop}
use Rattle.std.specs.Prelude.{◌==◌, nat_eq}
use Rattle.std.specs.List.{list_any}
use Rattle.std.proofs.lemmas.Bool.{true≢false, eqb-true, eq-eqb, ne_eqb}
use Rattle.std.proofs.lemmas.List.Elements.{filter-append}
use Rattle.std.proofs.lemmas.Slice.Eq.{bytes_eq-Decides}
use Rattle.memchr.specs.Find.{OccursAt}
use Rattle.memchr.proofs.lemmas.MatchLemmas.{OccursAt-from_part}
use Rattle.line_kit.proofs.Truth.{and_both, or_none, or_right, or_left, not_true}
use Rattle.line_kit.specs.Lines.{lines, all_lines, with_byte, begins, contains, with_text, is_feed}

-- ---- a text that stands first

abbrev pub first_in : List ℕ → List ℕ → Bool
first_in [] ys = true
first_in (m ∷ n) [] = false
first_in (m ∷ n) (y ∷ ys) = nat_eq y m && first_in n ys

pub begins-first_in : (ys n : List ℕ) → begins ys n ≡ first_in n ys
begins-first_in ys [] = refl
begins-first_in [] (m ∷ n) = refl
begins-first_in (y ∷ ys) (m ∷ n) = ap (λ b. nat_eq y m && b) (begins-first_in ys n)

-- what stands first in a part stands first in the whole
first_in-take : (n ys : List ℕ) (s : ℕ) → first_in n (take s ys) ≡ true → first_in n ys ≡ true
first_in-take [] ys s e = refl
first_in-take (m ∷ n) [] zero e = absurd (true≢false (sym e))
first_in-take (m ∷ n) [] (suc s) e = absurd (true≢false (sym e))
first_in-take (m ∷ n) (y ∷ ys) zero e = absurd (true≢false (sym e))
first_in-take (m ∷ n) (y ∷ ys) (suc s) e = let both = and_both (nat_eq y m) (first_in n (take s ys)) e in rw both.0 (first_in-take n ys s both.1)

first_in-nothing : (n ys : List ℕ) → first_in n ys ≡ false → first_in n [] ≡ false
first_in-nothing [] ys e = absurd (true≢false e)
first_in-nothing (m ∷ n) ys e = refl

contains-nothing : (n : List ℕ) → first_in n [] ≡ false → contains [] n ≡ false
contains-nothing n e = begins-first_in [] n ∙ e

-- ---- the first line

abbrev pub first_of : List ℕ → List ℕ
first_of [] = []
first_of (x ∷ xs) = cond (x == 10) [] (x ∷ first_of xs)

abbrev others : List (List ℕ) → List (List ℕ)
others [] = []
others (l ∷ ls) = ls

head_by : (x y : ℕ) (ys : List ℕ) (b : Bool) → with_byte y (lines ys) ≡ (y ∷ first_of ys) ∷ others (lines ys)
    → with_byte x (cond b ([] ∷ lines ys) (with_byte y (lines ys))) ≡ (x ∷ cond b [] (y ∷ first_of ys))
    ∷ others (cond b ([] ∷ lines ys) (with_byte y (lines ys)))
head_by x y ys true h = refl
head_by x y ys false h = ap (with_byte x) h ∙ ap (λ (ls : List (List ℕ)). (x ∷ y ∷ first_of ys) ∷ ls) (sym (ap others h))

with_byte-lines : (x : ℕ) (xs : List ℕ) → with_byte x (lines xs) ≡ (x ∷ first_of xs) ∷ others (lines xs)
with_byte-lines x [] = refl
with_byte-lines x (y ∷ ys) = head_by x y ys (y == 10) (with_byte-lines y ys)

lines_by : (x : ℕ) (xs : List ℕ) (b : Bool) → cond b ([] ∷ lines xs) (with_byte x (lines xs)) ≡ cond b [] (x ∷ first_of xs)
    ∷ cond b (lines xs) (others (lines xs))
lines_by x xs true = refl
lines_by x xs false = with_byte-lines x xs

same_first : (l m : List ℕ) (ls ms : List (List ℕ)) → l ∷ ls ≡ m ∷ ms → l ≡ m
same_first l m ls ms e = cc

pub first_line_of : (xs l : List ℕ) (ls : List (List ℕ)) → lines xs ≡ l ∷ ls → l ≡ first_of xs
first_line_of [] l ls e = absurd cc
first_line_of (x ∷ xs) l ls e = same_first l (first_of (x ∷ xs)) ls (cond (x == 10) (lines xs) (others (lines xs))) (sym e ∙ lines_by x xs (x == 10))

-- ---- no line has a text that the bytes don't have

first_of_by : (m y : ℕ) (n ys : List ℕ) (b : Bool) → first_in (m ∷ n) (cond b [] (y ∷ first_of ys)) ≡ true
    → (first_in n (first_of ys) ≡ true → first_in n ys ≡ true)
    → nat_eq y m && first_in n ys ≡ true
first_of_by m y n ys true e h = absurd (true≢false (sym e))
first_of_by m y n ys false e h = let both = and_both (nat_eq y m) (first_in n (first_of ys)) e in rw both.0 (h both.1)

first_in-first_of : (n ys : List ℕ) → first_in n (first_of ys) ≡ true → first_in n ys ≡ true
first_in-first_of [] ys e = refl
first_in-first_of (m ∷ n) [] e = e
first_in-first_of (m ∷ n) (y ∷ ys) e = first_of_by m y n ys (y == 10) e (first_in-first_of n ys)

not_longer : (x : ℕ) (n xs : List ℕ) → first_in n (x ∷ xs) ≡ false → first_in n (x ∷ first_of xs) ≡ false
not_longer x [] xs e = e
not_longer x (m ∷ n) xs e =
    not_true (nat_eq x m && first_in n (first_of xs)) (λ t.
    let both = and_both (nat_eq x m) (first_in n (first_of xs)) t in
    let whole : nat_eq x m && first_in n xs ≡ true = rw both.0 (first_in-first_of n xs both.1) in
    true≢false (sym whole ∙ e))

first_none_by : (x : ℕ) (xs n : List ℕ) (b : Bool) → first_in n (x ∷ xs) ≡ false → contains (first_of xs) n ≡ false
    → contains (cond b [] (x ∷ first_of xs)) n ≡ false
first_none_by x xs n true e h = contains-nothing n (first_in-nothing n (x ∷ xs) e)
first_none_by x xs n false e h = ap₂ (λ p q. p || q) (begins-first_in (x ∷ first_of xs) n ∙ not_longer x n xs e) h

first_none : (xs n : List ℕ) → contains xs n ≡ false → contains (first_of xs) n ≡ false
first_none [] n e = e
first_none (x ∷ xs) n e =
    let parts = or_none (begins (x ∷ xs) n) (contains xs n) e in
    first_none_by x xs n (x == 10) (sym (begins-first_in (x ∷ xs) n) ∙ parts.0) (first_none xs n parts.1)

drop_first : (n l : List ℕ) (ls : List (List ℕ)) → contains l n ≡ false → with_text n (l ∷ ls) ≡ with_text n ls
drop_first n l ls e = rw e refl

pub keep_first : (n l : List ℕ) (ls : List (List ℕ)) → contains l n ≡ true → with_text n (l ∷ ls) ≡ l ∷ with_text n ls
keep_first n l ls e = rw e refl

others_by : (l : List ℕ) (b : Bool) (kept : List (List ℕ)) → cond b (l ∷ kept) kept ≡ [] → kept ≡ []
others_by l true kept e = absurd cc
others_by l false kept e = e

others_none : (n : List ℕ) (ls : List (List ℕ)) → with_text n ls ≡ [] → with_text n (others ls) ≡ []
others_none n [] e = refl
others_none n (l ∷ ls) e = others_by l (contains l n) (with_text n ls) e

none_by : (x : ℕ) (xs n : List ℕ) (b : Bool) → contains (cond b [] (x ∷ first_of xs)) n ≡ false → with_text n (lines xs) ≡ []
    → with_text n (cond b [] (x ∷ first_of xs) ∷ cond b (lines xs) (others (lines xs))) ≡ []
none_by x xs n true e h = drop_first n [] (lines xs) e ∙ h
none_by x xs n false e h = drop_first n (x ∷ first_of xs) (others (lines xs)) e ∙ others_none n (lines xs) h

pub none_with : (xs n : List ℕ) → contains xs n ≡ false → with_text n (lines xs) ≡ []
none_with [] n e = refl
none_with (x ∷ xs) n e =
    let parts = or_none (begins (x ∷ xs) n) (contains xs n) e in
    ap (with_text n) (lines_by x xs (x == 10)) ∙ none_by x xs n (x == 10) (first_none (x ∷ xs) n e) (none_with xs n parts.1)

-- ---- lines cut behind a line feed

with_byte-append : (x : ℕ) (a b : List (List ℕ)) (l : List ℕ) (ls : List (List ℕ)) → a ≡ l ∷ ls → with_byte x (a ++ b) ≡ with_byte x a ++ b
with_byte-append x a b l ls e = rw e refl

cut_by : (x z : ℕ) (zs : List ℕ) (b : List (List ℕ)) (t : Bool)
    → cond t ([] ∷ (lines (z ∷ zs) ++ b)) (with_byte x (lines (z ∷ zs) ++ b)) ≡ cond t ([] ∷ lines (z ∷ zs)) (with_byte x (lines (z ∷ zs))) ++ b
cut_by x z zs b true = refl
cut_by x z zs b false =
    with_byte-append x (lines (z ∷ zs)) b (first_of (z ∷ zs)) (cond (z == 10) (lines zs) (others (lines zs))) (lines_by z zs (z == 10))

lines_behind : (xs : List ℕ) (p : ℕ) → p < length xs → slice_index xs p ≡ 10 → lines xs ≡ lines (take (suc p) xs) ++ lines (drop (suc p) xs)
lines_behind [] p h e = absurd (omega arith)
lines_behind (x ∷ xs) zero h e = rw (eq-eqb x 10 e) refl
lines_behind (x ∷ []) (suc p) h e = absurd (omega arith)
lines_behind (x ∷ z ∷ zs) (suc p) h e =
    ap (λ (ls : List (List ℕ)). cond (x == 10) ([] ∷ ls) (with_byte x ls)) (lines_behind (z ∷ zs) p (omega arith) e)
    ∙ cut_by x z (take p zs) (lines (drop (suc p) (z ∷ zs))) (x == 10)

-- ---- before the first place of a text

no_place : (xs n : List ℕ) (s : ℕ) → first_in n [] ≡ false → ((k : ℕ) → k < s → first_in n (drop k xs) ≡ false) → contains (take s xs) n ≡ false
no_place xs n zero e h = contains-nothing n e
no_place [] n (suc s) e h = contains-nothing n e
no_place (x ∷ xs) n (suc s) e h =
    let first : first_in n (x ∷ take s xs) ≡ false =
    not_true (first_in n (x ∷ take s xs)) (λ t. true≢false (sym (first_in-take n (x ∷ xs) (suc s) t) ∙ h 0 (omega arith))) in
    ap₂ (λ p q. p || q) (begins-first_in (x ∷ take s xs) n ∙ first) (no_place xs n s e (λ k l. h (suc k) (omega arith)))

abbrev pub NotBefore : List ℕ → List ℕ → ℕ → Type 0
NotBefore xs n at = (k : ℕ) → k < at → OccursAt xs n k → ⊥

place_of_first : (xs n : List ℕ) (k : ℕ) → k ≤ length xs → first_in n (drop k xs) ≡ true → OccursAt xs n k
place_of_first xs n k h t =
    let part : take (length n) (drop k xs) ≡ n = (bytes_eq-Decides (take (length n) (drop k xs)) n).0 (begins-first_in (drop k xs) n ∙ t) in
    OccursAt-from_part xs n k (omega (arith, h, length-take (length n) (drop k xs), length-drop k xs, ap length part)) part

some_text : (xs n : List ℕ) (at : ℕ) → 0 < at → NotBefore xs n at → first_in n [] ≡ false
some_text xs [] at h none = absurd (none 0 h (record { fits = omega arith; reads = λ j l. absurd (omega arith) }))
some_text xs (m ∷ n) at h none = refl

none_before : (xs n : List ℕ) (at p : ℕ) → at ≤ length xs → suc p ≤ at → NotBefore xs n at → with_text n (lines (take (suc p) xs)) ≡ []
none_before xs n at p inside h none =
    none_with (take (suc p) xs) n
    (no_place xs n (suc p) (some_text xs n at (omega arith) none)
    (λ k l. not_true (first_in n (drop k xs)) (λ t. none k (omega arith) (place_of_first xs n k (omega arith) t))))

-- ---- the line with the first place

first_in-line : (n ys : List ℕ) → list_any is_feed n ≡ false → first_in n ys ≡ true → first_in n (first_of ys) ≡ true
first_in-line [] ys e t = refl
first_in-line (m ∷ n) [] e t = t
first_in-line (m ∷ n) (y ∷ ys) e t =
    let none = or_none (is_feed m) (list_any is_feed n) e in
    let both = and_both (nat_eq y m) (first_in n ys) t in
    let byte : (y == 10) ≡ false = ap is_feed (eqb-true y m both.0) ∙ none.0 in
    rw (byte, both.0) (first_in-line n ys none.1 both.1)

contains-first : (l n : List ℕ) → first_in n l ≡ true → contains l n ≡ true
contains-first [] n t = begins-first_in [] n ∙ t
contains-first (x ∷ l) n t = or_left (begins (x ∷ l) n) (contains l n) (begins-first_in (x ∷ l) n ∙ t)

pub line_has : (ys n : List ℕ) (i : ℕ) → list_any is_feed n ≡ false → i ≤ length ys → ((k : ℕ) → k < i → slice_index ys k ≢ 10)
    → first_in n (drop i ys) ≡ true → contains (first_of ys) n ≡ true
line_has ys n zero e h clean t = contains-first (first_of ys) n (first_in-line n ys e t)
line_has [] n (suc i) e h clean t = absurd (omega arith)
line_has (y ∷ ys) n (suc i) e h clean t =
    let byte : (y == 10) ≡ false = ne_eqb y 10 (clean 0 (omega arith)) in
    rw byte (or_right (begins (y ∷ first_of ys) n) (contains (first_of ys) n)
    (line_has ys n i e (omega arith) (λ k l. clean (suc k) (omega arith)) t))

-- lines before a line feed in front of the first place count for nothing
pub skipped : (xs n : List ℕ) (at s : ℕ) → at ≤ length xs → s ≤ at → NotBefore xs n at → ((p : ℕ) → s ≡ p + 1 → slice_index xs p ≡ 10)
    → with_text n (lines xs) ≡ with_text n (lines (drop s xs))
skipped xs n at zero inside h none feed = refl
skipped xs n at (suc p) inside h none feed =
    ap (with_text n) (lines_behind xs p (omega arith) (feed p (omega arith)))
    ∙ filter-append (λ line. contains line n) (lines (take (suc p) xs)) (lines (drop (suc p) xs))
    ∙ ap (λ (ls : List (List ℕ)). ls ++ with_text n (lines (drop (suc p) xs))) (none_before xs n at p inside h none)

-- ---- a text with a line feed

feed_by : (m y : ℕ) (n ys : List ℕ) (b : Bool) → (y == 10) ≡ b → is_feed m || list_any is_feed n ≡ true
    → (list_any is_feed n ≡ true → first_in n (first_of ys) ≡ false)
    → first_in (m ∷ n) (cond b [] (y ∷ first_of ys)) ≡ false
feed_by m y n ys true t e h = refl
feed_by m y n ys false t e h =
    not_true (nat_eq y m && first_in n (first_of ys)) (λ both.
    let parts = and_both (nat_eq y m) (first_in n (first_of ys)) both in
    let byte : is_feed m ≡ false = sym (ap is_feed (eqb-true y m parts.0)) ∙ t in
    true≢false (sym parts.1 ∙ h (rw byte at e)))

first_in-feed : (n ys : List ℕ) → list_any is_feed n ≡ true → first_in n (first_of ys) ≡ false
first_in-feed [] ys e = absurd (true≢false (sym e))
first_in-feed (m ∷ n) [] e = refl
first_in-feed (m ∷ n) (y ∷ ys) e = feed_by m y n ys (y == 10) refl e (first_in-feed n ys)

contains_by : (y : ℕ) (n ys : List ℕ) (b : Bool) → first_in n (cond b [] (y ∷ first_of ys)) ≡ false → contains (first_of ys) n ≡ false
    → contains (cond b [] (y ∷ first_of ys)) n ≡ false
contains_by y n ys true e h = contains-nothing n e
contains_by y n ys false e h = ap₂ (λ p q. p || q) (begins-first_in (y ∷ first_of ys) n ∙ e) h

contains-feed : (ys n : List ℕ) → list_any is_feed n ≡ true → contains (first_of ys) n ≡ false
contains-feed [] n e = contains-nothing n (first_in-feed n [] e)
contains-feed (y ∷ ys) n e = contains_by y n ys (y == 10) (first_in-feed n (y ∷ ys) e) (contains-feed ys n e)

none_with_feed : (xs n : List ℕ) → list_any is_feed n ≡ true → with_text n (lines xs) ≡ []
none_with_feed [] n e = refl
none_with_feed (x ∷ xs) n e = ap (with_text n) (lines_by x xs (x == 10))
    ∙ none_by x xs n (x == 10) (contains-feed (x ∷ xs) n e) (none_with_feed xs n e)

pub none_at_all : (inputs : List (List ℕ)) (n : List ℕ) → list_any is_feed n ≡ true → with_text n (all_lines inputs) ≡ []
none_at_all [] n e = refl
none_at_all (xs ∷ inputs) n e =
    filter-append (λ line. contains line n) (lines xs) (all_lines inputs)
    ∙ ap₂ (λ (a b : List (List ℕ)). a ++ b) (none_with_feed xs n e) (none_at_all inputs n e)
