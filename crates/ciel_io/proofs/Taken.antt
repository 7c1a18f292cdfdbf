-- Bytes of a piece that were read one behind the other.
use Rattle.std.proofs.Common.{◌≡◌, ◌+◌, ◌<◌, ◌≤◌, ℕ, List, ◌++◌, length, take, drop, Option, Some, None, IfSome, ap, ◌∙◌, sym, subst}
use Rattle.std.proofs.Common.{arith, length-append, length-take, take-take}
use Rattle.std.specs.Io.{StartsWith}
use Rattle.std.specs.Io.KnownBytes.{Consumes}
use Rattle.std.proofs.Math.Seq.{take-add}
use Rattle.std.proofs.lemmas.List.{append_assoc, take-append-le, take_all}

-- what a reader lost in two steps, together
pub further : (a b c : Option (List ℕ)) (p q : List ℕ) → Consumes a b p → Consumes b c q → Consumes a c (p ++ q)
further None b c p q one two = tt
further (Some xs) None c p q one two = absurd one
further (Some xs) (Some ys) None p q one two = absurd two
further (Some xs) (Some ys) (Some zs) p q one two = one ∙ ap (λ (l : List ℕ). p ++ l) two ∙ sym (append_assoc p q zs)

-- the first bytes of a piece, and then the next
pub first_two : (a b c : Option (List ℕ)) (piece : List ℕ) (at n : ℕ) → Consumes a b (take at piece) → Consumes b c (take n (drop at piece))
    → Consumes a c (take (at + n) piece)
first_two a b c piece at n one two =
    subst (λ (l : List ℕ). Consumes a c l) (sym (take-add at n piece)) (further a b c (take at piece) (take n (drop at piece)) one two)

-- a piece doesn't begin with all that a reader has
abbrev pub NotAll : Option (List ℕ) → List ℕ → Type 0
NotAll known piece = IfSome known (λ left. StartsWith piece left → ⊥)

-- nothing begins with more bytes than it has
pub too_many : (a b : Option (List ℕ)) (piece given : List ℕ) → Consumes a b given → length piece < length given → NotAll a piece
too_many None b piece given one more = tt
too_many (Some xs) None piece given one more = absurd one
too_many (Some xs) (Some ys) piece given one more = λ starts.
    let long : length xs ≡ length given + length ys = ap length one ∙ length-append given ys in
    let short : length (take (length xs) piece) ≡ length xs = ap length starts in
    omega (arith, long, short, more, length-take (length xs) piece)

-- and what begins with all that a reader has begins with the first of them
pub first_differ : (a b : Option (List ℕ)) (piece given : List ℕ) → Consumes a b given → (take (length given) piece ≡ given → ⊥)
    → NotAll a piece
first_differ None b piece given one differ = tt
first_differ (Some xs) None piece given one differ = absurd one
first_differ (Some xs) (Some ys) piece given one differ = λ starts.
    let long : length xs ≡ length given + length ys = ap length one ∙ length-append given ys in
    let within : length given ≤ length xs = omega (arith, long) in
    differ (sym (take-take (length given) (length xs) piece within) ∙ ap (take (length given)) (starts ∙ one)
    ∙ take-append-le (length given) given ys (omega arith) ∙ take_all (length given) given (omega arith))
