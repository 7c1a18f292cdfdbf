-- Halves written one after the other.
use Rattle.std.proofs.Common.{◌≡◌, ℕ, ℤ, pos, List, [], ◌∷◌, map, Option, Some, None, refl, ap, ◌∙◌, int_div}
use Rattle.std.specs.Fmt.{signed_decimal}
use Rattle.std.specs.Option.{option_map}
use Rattle.line_kit.specs.Lines.{joined, ended}
use Rattle.line_kit.specs.Gives.{read_each}
use Rattle.line_kit.specs.Written.{capped, extended}
use Rattle.line_kit.proofs.WrittenLaw.{extended-start, extended-extended}

abbrev pub half_lines : List ℤ → List (List ℕ)
half_lines = map (λ z. signed_decimal (int_div z (pos 2)))

-- the output with the halves of what is read behind it
abbrev pub with_halves : Option (List ℕ) → Option (List ℤ) → Option (Option (List ℕ))
with_halves output read = option_map (λ zs. extended output (joined (half_lines zs))) read

pub halves_start : (read : Option (List ℤ)) → with_halves (Some []) read ≡ option_map (λ zs. capped (joined (half_lines zs))) read
halves_start None = refl
halves_start (Some zs) = ap Some (extended-start (joined (half_lines zs)))

pub halves_more : (before after : Option (List ℕ)) (z : ℤ) (read : Option (List ℤ)) → after
    ≡ extended before (ended (signed_decimal (int_div z (pos 2))))
    → with_halves after read ≡ with_halves before (option_map (λ more. z ∷ more) read)
halves_more before after z None e = refl
halves_more before after z (Some zs) e =
    ap Some (ap (λ o. extended o (joined (half_lines zs))) e
    ∙ extended-extended before (ended (signed_decimal (int_div z (pos 2)))) (joined (half_lines zs)))

pub read_first : {A : Type 0} (read : List ℕ → Option A) (l : List ℕ) (ls : List (List ℕ)) (a : A) → read l ≡ Some a → read_each read (l ∷ ls)
    ≡ option_map (λ more. a ∷ more) (read_each read ls)
read_first read l ls a e = rw e refl
