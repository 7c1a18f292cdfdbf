-- Two lists of lines, compared line by line.
use Rattle.std.proofs.Common.{◌≡◌, ℕ, zero, suc, ◌<◌, ◌≤◌, Bool, true, false, List, [], ◌∷◌, ◌++◌, length, drop, ◌&&◌, nat_eq, cond, refl, sym, ap}
use Rattle.std.proofs.Common.{ap₂, ◌∙◌, arith, append_assoc, append-nil, length-drop}
use Rattle.std.specs.Prelude.{◌==◌}
use Rattle.std.specs.Str.{bytes_eq}
use Rattle.std.proofs.lemmas.Bool.{true≢false, eqb-true, eq-eqb}
use Rattle.std.proofs.lemmas.List.{drop_all, drop-append-le}
use Rattle.std.proofs.lemmas.Slice.Eq.{bytes_eq-Decides}
use Rattle.std.specs.Bool.{MatchBool}
use Rattle.line_kit.specs.Lines.{same_lines, lines, with_byte, joined, is_open}
use Rattle.line_flow.proofs.LinesLaw.{lines-append, lines-joined, closed-append, closed-drop, joined-closed}
use Rattle.line_flow.specs.Kept.{Differ, at_input}

self : (l : List ℕ) → bytes_eq l l ≡ true
self l = (bytes_eq-Decides l l).1 refl

both : (a b : Bool) → a ≡ true → (a && b) ≡ b
both true b e = refl
both false b e = absurd (true≢false (sym e))

pub same_self : (ls : List (List ℕ)) → same_lines ls ls ≡ true
same_self [] = refl
same_self (l ∷ ls) = both (bytes_eq l l) (same_lines ls ls) (self l) ∙ same_self ls

-- what begins alike is decided by what follows
same_rest : (ls ms ns : List (List ℕ)) → same_lines (ls ++ ms) (ls ++ ns) ≡ same_lines ms ns
same_rest [] ms ns = refl
same_rest (l ∷ ls) ms ns = both (bytes_eq l l) (same_lines (ls ++ ms) (ls ++ ns)) (self l) ∙ same_rest ls ms ns

pub same_shorter : (ls : List (List ℕ)) (m : List ℕ) (ms : List (List ℕ)) → same_lines (ls ++ m ∷ ms) ls ≡ false
same_shorter ls m ms = ap (same_lines (ls ++ m ∷ ms)) (sym (append-nil ls)) ∙ same_rest ls (m ∷ ms) []

-- one that differs goes on differing
pub differ_more : (first second : List (List ℕ)) (l : List ℕ) → Differ first second → Differ first (second ++ l ∷ [])
differ_more first second l h more = ap (same_lines first) (append_assoc second (l ∷ []) more) ∙ h (l ∷ more)

-- the second has a line more
pub differ_longer : (first second : List (List ℕ)) (l : List ℕ) → first ≡ second → Differ first (second ++ l ∷ [])
differ_longer first second l e more =
    ap₂ same_lines (e ∙ sym (append-nil second)) (append_assoc second (l ∷ []) more) ∙ same_rest second [] (l ∷ more)

-- the next lines differ
pub differ_next : (first second : List (List ℕ)) (own l : List ℕ) (rest : List (List ℕ)) → first ≡ second ++ own ∷ rest → bytes_eq own l ≡ false
    → Differ first (second ++ l ∷ [])
differ_next first second own l rest e unlike more =
    ap₂ same_lines e (append_assoc second (l ∷ []) more) ∙ same_rest second (own ∷ rest) (l ∷ more) ∙ ap (λ b. b && same_lines rest more) unlike

pub equal_next : (first second : List (List ℕ)) (own l : List ℕ) (rest : List (List ℕ)) → first ≡ second ++ own ∷ rest → bytes_eq own l ≡ true
    → first ≡ (second ++ l ∷ []) ++ rest
equal_next first second own l rest e alike =
    e ∙ ap (λ (m : List ℕ). second ++ m ∷ rest) ((bytes_eq-Decides own l).0 alike) ∙ sym (append_assoc second (l ∷ []) rest)

some_line : (x : ℕ) (b : Bool) (ms : List (List ℕ)) → (l : List ℕ) × (ls : List (List ℕ)) × (cond b ([] ∷ ms) (with_byte x ms) ≡ l ∷ ls)
some_line x true ms = ([], ms, refl)
some_line x false [] = (x ∷ [], [], refl)
some_line x false (m ∷ ms) = (x ∷ m, ms, refl)

some_left : (xs : List ℕ) (first second : List (List ℕ)) → 0 < length xs → first ≡ second ++ lines xs → same_lines first second ≡ false
some_left [] first second h e = absurd (omega arith)
some_left (x ∷ xs) first second h e =
    let s = some_line x (x == 10) (lines xs) in
    ap (λ (ls : List (List ℕ)). same_lines ls second) (e ∙ ap (λ (ls : List (List ℕ)). second ++ ls) s.2) ∙ same_shorter second s.0 s.1

left_by : (at : ℕ) (xs : List ℕ) (first second : List (List ℕ)) (b : Bool) → nat_eq at (length xs) ≡ b → at ≤ length xs → first ≡ second
    ++ lines (drop at xs) → b ≡ same_lines first second
left_by at xs first second true t h e =
    let none : drop at xs ≡ [] = drop_all at xs (omega (arith, eqb-true at (length xs) t)) in
    sym (ap (λ (ls : List (List ℕ)). same_lines ls second) (e ∙ ap (λ (ys : List ℕ). second ++ lines ys) none ∙ append-nil second) ∙ same_self second)
left_by at xs first second false t h e =
    let less : (at ≡ length xs → ⊥) = λ same. true≢false (sym (eq-eqb at (length xs) same) ∙ t) in
    sym (some_left (drop at xs) first second (omega (arith, length-drop at xs, less, h)) e)

-- both have the same lines where nothing is left to compare with
pub rest_decides : (at : ℕ) (xs : List ℕ) (first second : List (List ℕ)) → at ≤ length xs → first ≡ second ++ lines (drop at xs)
    → nat_eq at (length xs) ≡ same_lines first second
rest_decides at xs first second h e = left_by at xs first second (nat_eq at (length xs)) refl h e

-- ---- more of the first input

not_all_differ : (first second : List (List ℕ)) → second ≡ [] → Differ first second → ⊥
not_all_differ first second e d =
    true≢false (sym (same_self first) ∙ sym (ap (λ (s : List (List ℕ)). same_lines first (s ++ first)) e) ∙ d first)

more_by : (b : Bool) (at : ℕ) (xs ys block : List ℕ) (first second : List (List ℕ)) → second ≡ [] → ys ≡ xs ++ joined (lines block) → is_open xs
    ≡ false → at ≤ length xs
    → MatchBool b (Differ first second) (first ≡ second ++ lines (drop at xs))
    → MatchBool b (Differ (first ++ lines block) second) (first ++ lines block ≡ second ++ lines (drop at ys))
more_by true at xs ys block first second none put shut h d = absurd (not_all_differ first second none d)
more_by false at xs ys block first second none put shut h e =
    ap (λ (ls : List (List ℕ)). ls ++ lines block) e ∙ append_assoc second (lines (drop at xs)) (lines block)
    ∙ ap (λ (ls : List (List ℕ)). second ++ ls)
    (
    ap (λ (ls : List (List ℕ)). lines (drop at xs) ++ ls) (sym (lines-joined block))
    ∙ sym (lines-append (drop at xs) (joined (lines block)) (closed-drop at xs shut))
    ∙ ap lines (sym (drop-append-le at xs (joined (lines block)) h)) ∙ ap (λ (zs : List ℕ). lines (drop at zs)) (sym put)
    )

pub first_more : (b : Bool) (at : ℕ) (xs ys block : List ℕ) (first second : List (List ℕ)) → second ≡ [] → ys ≡ xs ++ joined (lines block)
    → lines xs ≡ first → is_open xs ≡ false → at ≤ length xs
    → MatchBool b (Differ first second) (first ≡ second ++ lines (drop at xs))
    → (lines ys ≡ first ++ lines block) × (is_open ys ≡ false)
    × MatchBool b (Differ (first ++ lines block) second) (first ++ lines block ≡ second ++ lines (drop at ys))
first_more b at xs ys block first second none put kept shut h c = (
  ap lines put ∙ lines-append xs (joined (lines block)) shut ∙ ap₂ (λ (x y : List (List ℕ)). x ++ y) kept (lines-joined block),
  ap is_open put ∙ closed-append xs (joined (lines block)) shut (joined-closed block),
  more_by b at xs ys block first second none put shut h c,
)

pub at_none : (i k : ℕ) (ls : List (List ℕ)) → (i ≡ k → ⊥) → at_input i k ls ≡ []
at_none zero zero ls h = absurd (h refl)
at_none zero (suc k) ls h = refl
at_none (suc i) zero ls h = refl
at_none (suc i) (suc k) ls h = at_none i k ls (λ e. h (ap suc e))
