-- Stacks as lists from their ends.
use Rattle.std.proofs.Common.{◌≡◌, ℕ, List, [], ◌∷◌, ◌++◌, length, reverse, refl, ap, ◌∙◌, arith}
use Rattle.std.proofs.lemmas.List.{reverse-append, length-append}

pub reverse_end : (xs : List ℕ) (x : ℕ) → reverse (xs ++ x ∷ []) ≡ x ∷ reverse xs
reverse_end xs x = reverse-append xs (x ∷ [])

pub reverse_length : (xs : List ℕ) → length (reverse xs) ≡ length xs
reverse_length [] = refl
reverse_length (x ∷ xs) = ap length (reverse-append (x ∷ []) xs) ∙ length-append (reverse xs) (x ∷ [])
    ∙ (let h : length (reverse xs) ≡ length xs = reverse_length xs in omega (arith, h))

pub ruleset stacks = (reverse_end, reverse_length)
