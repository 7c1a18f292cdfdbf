-- Inputs that grow by pieces, and their lines.
use Rattle.std.proofs.lemmas.List.{take_more, take-append-drop}
use Rattle.std.proofs.lemmas.Grind.{flat_map-append}
use Rattle.std.proofs.Common.{◌≡◌, ℕ, zero, suc, ◌+◌, ◌-◌, ◌<◌, false, List, [], ◌∷◌, ◌++◌, length, take, drop, get_or, length-take, refl, sym, ap}
use Rattle.std.proofs.Common.{ap₂, ◌∙◌, arith, append_assoc, append-nil}
use Rattle.std.specs.Prelude.{count_by, replicate}
use Rattle.line_kit.specs.Lines.{is_feed, lines, all_lines, is_open}
use Rattle.line_kit.specs.Gives.{input}
use Rattle.line_flow.specs.Told.{grow, settled_lines, ended_lines}
use Rattle.line_flow.specs.Kept.{seen_of, seen_more, at_input}
use Rattle.line_flow.specs.Stands.{AllEmpty, EndsAt}
use Rattle.line_flow.proofs.LinesLaw.{lines-append, closed-append, ended-append}

-- a piece in two parts
pub grow-grow : (i : ℕ) (a b : List ℕ) (xs : List (List ℕ)) → grow i b (grow i a xs) ≡ grow i (a ++ b) xs
grow-grow i a b [] = refl
grow-grow zero a b (x ∷ xs) = ap (λ (y : List ℕ). y ∷ xs) (append_assoc x a b)
grow-grow (suc i) a b (x ∷ xs) = ap (λ (ys : List (List ℕ)). x ∷ ys) (grow-grow i a b xs)

pub grow-append : (i : ℕ) (p : List ℕ) (xs ys : List (List ℕ)) → i < length xs → grow i p (xs ++ ys) ≡ grow i p xs ++ ys
grow-append i p [] ys h = absurd (omega arith)
grow-append zero p (x ∷ xs) ys h = refl
grow-append (suc i) p (x ∷ xs) ys h = ap (λ (zs : List (List ℕ)). x ∷ zs) (grow-append i p xs ys (omega arith))

pub length-grow : (i : ℕ) (p : List ℕ) (xs : List (List ℕ)) → length (grow i p xs) ≡ length xs
length-grow i p [] = refl
length-grow zero p (x ∷ xs) = refl
length-grow (suc i) p (x ∷ xs) = ap suc (length-grow i p xs)

pub grow-nothing : (i : ℕ) (xs : List (List ℕ)) → grow i [] xs ≡ xs
grow-nothing i [] = refl
grow-nothing zero (x ∷ xs) = ap (λ (y : List ℕ). y ∷ xs) (append-nil x)
grow-nothing (suc i) (x ∷ xs) = ap (λ (ys : List (List ℕ)). x ∷ ys) (grow-nothing i xs)

-- ---- their lines

no_lines : (xs : List (List ℕ)) → AllEmpty xs → all_lines xs ≡ []
no_lines [] h = refl
no_lines (x ∷ xs) h = ap₂ (λ (a : List ℕ) (b : List (List ℕ)). lines a ++ b) h.0 (no_lines xs h.1)

pub all-grow : (i : ℕ) (b : List ℕ) (xs : List (List ℕ)) → EndsAt i xs → all_lines (grow i b xs) ≡ all_lines xs ++ lines b
all-grow i b [] h = absurd h
all-grow zero b (x ∷ xs) h =
    ap₂ (λ (a c : List (List ℕ)). a ++ c) (lines-append x b h.0) (no_lines xs h.1) ∙ append-nil (lines x ++ lines b)
    ∙ sym (ap (λ (c : List (List ℕ)). (lines x ++ c) ++ lines b) (no_lines xs h.1) ∙ ap (λ (c : List (List ℕ)). c ++ lines b) (append-nil (lines x)))
all-grow (suc i) b (x ∷ xs) h = ap (λ (c : List (List ℕ)). lines x ++ c) (all-grow i b xs h) ∙ sym (append_assoc (lines x) (all_lines xs) (lines b))

input-grow : (i k : ℕ) (b : List ℕ) (xs : List (List ℕ)) → EndsAt i xs → lines (input (grow i b xs) k) ≡ lines (input xs k) ++ at_input i k (lines b)
input-grow i k b [] h = absurd h
input-grow zero zero b (x ∷ xs) h = lines-append x b h.0
input-grow zero (suc k) b (x ∷ xs) h = sym (append-nil (lines (input xs k)))
input-grow (suc i) zero b (x ∷ xs) h = sym (append-nil (lines x))
input-grow (suc i) (suc k) b (x ∷ xs) h = input-grow i k b xs h

pub seen-grow : (i : ℕ) (b : List ℕ) (xs : List (List ℕ)) → EndsAt i xs → seen_of (grow i b xs) ≡ seen_more (seen_of xs) i (lines b)
seen-grow i b xs h = λ j. record { all = all-grow i b xs h j; first = input-grow i 0 b xs h j; second = input-grow i 1 b xs h j }

second_by : (x y : List ℕ) (ys : List (List ℕ)) → y ≡ [] → lines (input (x ∷ y ∷ ys) 1) ≡ []
second_by x y ys e = ap lines e

-- while the first input is fed the second has no lines
pub no-second : (i : ℕ) (xs : List (List ℕ)) → EndsAt i xs → i ≡ 0 → lines (input xs 1) ≡ []
no-second i [] h e = absurd h
no-second zero (x ∷ []) h e = refl
no-second zero (x ∷ y ∷ ys) h e = ap lines h.1.0
no-second (suc i) (x ∷ xs) h e = absurd (omega (arith, e))

-- ---- where they end

pub ends-grow : (i : ℕ) (b : List ℕ) (xs : List (List ℕ)) → EndsAt i xs → is_open b ≡ false → EndsAt i (grow i b xs)
ends-grow i b [] h c = h
ends-grow zero b (x ∷ xs) h c = (closed-append x b h.0 c, h.1)
ends-grow (suc i) b (x ∷ xs) h c = ends-grow i b xs h c

ends_later : (j : ℕ) (xs : List (List ℕ)) → j < length xs → AllEmpty xs → EndsAt j xs
ends_later j [] l h = absurd (omega arith)
ends_later zero (x ∷ xs) l h = (ap is_open h.0, h.1)
ends_later (suc j) (x ∷ xs) l h = ends_later j xs (omega arith) h.1

pub ends-next : (i j : ℕ) (b : List ℕ) (xs : List (List ℕ)) → EndsAt i xs → i < j → j < length xs → EndsAt j (grow i b xs)
ends-next i j b [] h l m = absurd h
ends-next zero zero b (x ∷ xs) h l m = absurd (omega arith)
ends-next zero (suc j) b (x ∷ xs) h l m = ends_later j xs (omega arith) h.1
ends-next (suc i) zero b (x ∷ xs) h l m = absurd (omega arith)
ends-next (suc i) (suc j) b (x ∷ xs) h l m = ends-next i j b xs h (omega arith) (omega arith)

pub ends-start : (n : ℕ) → EndsAt 0 (replicate n [] ++ [] ∷ [])
ends-start zero = (refl, tt)
ends-start (suc n) = (refl, empties n)
  where
    empties : (m : ℕ) → AllEmpty (replicate m [] ++ [] ∷ [])
    empties zero = (refl, tt)
    empties (suc m) = (refl, empties m)

-- ---- settled lines

-- an input more that is empty has none
pub settled-more : (i : ℕ) (xs : List (List ℕ)) → settled_lines i (xs ++ [] ∷ []) ≡ settled_lines i xs
settled-more zero [] = refl
settled-more (suc zero) [] = refl
settled-more (suc (suc i)) [] = refl
settled-more zero (x ∷ xs) = refl
settled-more (suc i) (x ∷ xs) =
    append_assoc (lines x) (all_lines (take i (xs ++ [] ∷ []))) (ended_lines (input (xs ++ [] ∷ []) i))
    ∙ ap (λ (ls : List (List ℕ)). lines x ++ ls) (settled-more i xs)
    ∙ sym (append_assoc (lines x) (all_lines (take i xs)) (ended_lines (input xs i)))

-- the lines before a rest without a line feed are the settled ones
pub settled-grow : (i : ℕ) (r : List ℕ) (xs : List (List ℕ)) → EndsAt i xs → count_by is_feed r ≡ 0 → settled_lines i (grow i r xs) ≡ all_lines xs
settled-grow i r [] h none = absurd h
settled-grow zero r (x ∷ xs) h none =
    ended-append x r h.0 none ∙ sym (ap (λ (c : List (List ℕ)). lines x ++ c) (no_lines xs h.1) ∙ append-nil (lines x))
settled-grow (suc i) r (x ∷ xs) h none =
    append_assoc (lines x) (all_lines (take i (grow i r xs))) (ended_lines (input (grow i r xs) i))
    ∙ ap (λ (ls : List (List ℕ)). lines x ++ ls) (settled-grow i r xs h none)

pub all-more : (xs : List (List ℕ)) → all_lines (xs ++ [] ∷ []) ≡ all_lines xs
all-more [] = refl
all-more (x ∷ xs) = ap (λ (c : List (List ℕ)). lines x ++ c) (all-more xs)

input-more : (xs : List (List ℕ)) (i : ℕ) → lines (input (xs ++ [] ∷ []) i) ≡ lines (input xs i)
input-more [] zero = refl
input-more [] (suc i) = refl
input-more (x ∷ xs) zero = refl
input-more (x ∷ xs) (suc i) = input-more xs i

pub seen-more : (xs : List (List ℕ)) → seen_of (xs ++ [] ∷ []) ≡ seen_of xs
seen-more xs = λ j. record { all = all-more xs j; first = input-more xs 0 j; second = input-more xs 1 j }

-- ---- inputs that come one after the other

grow_past : (p : List ℕ) (xs ys : List (List ℕ)) → grow (length xs) p (xs ++ ys) ≡ xs ++ grow 0 p ys
grow_past p [] ys = refl
grow_past p (x ∷ xs) ys = ap (λ (zs : List (List ℕ)). x ∷ zs) (grow_past p xs ys)

pub grow_next : (xs : List (List ℕ)) (k n : ℕ) (p d : List ℕ) → n ≡ length xs → k < n → p ≡ get_or xs k d
    → grow k p (take k xs ++ replicate (n - k) []) ≡ take (k + 1) xs ++ replicate (n - (k + 1)) []
grow_next xs k n p d count below item =
    let first : length (take k xs) ≡ k = omega (arith, length-take k xs, count, below) in
    let rest : n - k ≡ suc (n - (k + 1)) = omega (arith, below) in
    let put : grow (length (take k xs)) p (take k xs ++ replicate (suc (n - (k + 1))) []) ≡ take k xs ++ p ∷ replicate (n - (k + 1)) [] =
    grow_past p (take k xs) (replicate (suc (n - (k + 1))) []) in
    ap (λ (i : ℕ). grow i p (take k xs ++ replicate (n - k) [])) (sym first)
    ∙ ap (λ (m : ℕ). grow (length (take k xs)) p (take k xs ++ replicate m [])) rest
    ∙ put ∙ ap (λ (q : List ℕ). take k xs ++ q ∷ replicate (n - (k + 1)) []) item
    ∙ sym (append_assoc (take k xs) (get_or xs k d ∷ []) (replicate (n - (k + 1)) []))
    ∙ ap (λ (ys : List (List ℕ)). ys ++ replicate (n - (k + 1)) []) (sym (take_more xs k d (omega (arith, count, below))))

nothing_said : (n : ℕ) → all_lines (replicate n []) ≡ []
nothing_said zero = refl
nothing_said (suc n) = nothing_said n

-- the lines of the first inputs, behind which others are still empty, and those of the others
pub all-parts : (m k : ℕ) (xs : List (List ℕ)) → all_lines xs ≡ all_lines (take k xs ++ replicate m []) ++ all_lines (drop k xs)
all-parts m k xs =
    let none : all_lines (take k xs ++ replicate m []) ≡ all_lines (take k xs) =
    flat_map-append lines (take k xs) (replicate m []) ∙ ap (λ (ls : List (List ℕ)). all_lines (take k xs) ++ ls) (nothing_said m)
    ∙ append-nil (all_lines (take k xs)) in
    ap all_lines (sym (take-append-drop k xs)) ∙ flat_map-append lines (take k xs) (drop k xs)
    ∙ ap (λ (ls : List (List ℕ)). ls ++ all_lines (drop k xs)) (sym none)
