-- Halves written one after the other.
use Rattle.std.proofs.Common.{◌≡◌, ◌<◌, ℕ, ℤ, pos, int_div, Bool, true, false, cond, nat_lt, List, [], ◌∷◌, ◌++◌, length, Ok, Err, refl, sym, ap, ◌∙◌}
use Rattle.std.proofs.Common.{arith, append-nil}
use Rattle.std.specs.Fmt.{signed_decimal}
use Rattle.std.proofs.lemmas.List.{map-append}
use Rattle.std.proofs.lemmas.Bool.Decides.{nat_tests}
use Rattle.sky_base.specs.declared.fault.FaultKind.TheVariants.{TooLarge}
use Rattle.line_kit.specs.Lines.{joined, ended}
use Rattle.line_kit.specs.Gives.{one, unless_large}
use Rattle.line_kit.proofs.WrittenLaw.{joined-append}
use Rattle.line_flow.specs.Kept.{half_lines}

pub half_more : (zs : List ℤ) (z h : ℤ) → h ≡ int_div z (pos 2) → joined (half_lines zs) ++ ended (signed_decimal h)
    ≡ joined (half_lines (zs ++ z ∷ []))
half_more zs z h e =
    ap (λ (y : ℤ). joined (half_lines zs) ++ ended (signed_decimal y)) e
    ∙ ap (λ (xs : List ℕ). joined (half_lines zs) ++ xs) (sym (append-nil (ended (signed_decimal (int_div z (pos 2))))))
    ∙ sym (ap joined (map-append (λ y. signed_decimal (int_div y (pos 2))) zs (z ∷ [])) ∙ joined-append (half_lines zs) (half_lines (z ∷ [])))

large_by : (b : Bool) (bytes : List ℕ) → nat_lt 67108864 (length bytes) ≡ b → unless_large (bytes ∷ []) ≡ cond b (Err TooLarge) (Ok (bytes ∷ []))
large_by true bytes e = rw e refl
large_by false bytes e = rw e refl

-- one output that is too large, and one that isn't
pub one_over : (ls : List (List ℕ)) → 67108864 < length (joined ls) → one ls ≡ Err TooLarge
one_over ls h = large_by true (joined ls) (grind (arith, nat_tests))

pub one_within : (ls : List (List ℕ)) → length (joined ls) < 67108865 → one ls ≡ Ok (joined ls ∷ [])
one_within ls h = large_by false (joined ls) (grind (arith, nat_tests))
