-- Numbers by their bytes, and bytes put one behind the other.
use Rattle.std.proofs.Common.{◌≡◌, ◌/◌, ◌%◌, ◌^◌, ◌-◌, ◌+◌, ℕ, zero, suc, ℤ, pos, negsuc, List, [], ◌∷◌, ◌++◌, drop, refl, ap, ap₂, sym, ◌∙◌}
use Rattle.std.proofs.Common.{append_assoc, take, length, get_or, ◌<◌}
use Rattle.std.proofs.lemmas.Int.{of_z-to_z}
use Rattle.std.proofs.lemmas.Nat.{be_bytes_8}
use Rattle.std.proofs.lemmas.List.{take-append-drop}
use Rattle.std.proofs.Math.Nat.{div-one}
use Rattle.std.specs.Int.{w32, w64, byte_at, bytes_high_first, to_be_bytes, cast_unsigned, cast_signed, from_be_bytes}
use Rattle.sky_base.specs.Name.{big_endian, bytes_of_int}

byte_at-is : (k n : ℕ) → byte_at k n ≡ n / 256 ^ k % 256
byte_at-is zero n = ap (λ m. m % 256) (sym (div-one n))
byte_at-is (suc k) n = refl

pub high_first-is : (k n : ℕ) → bytes_high_first k n ≡ big_endian k n
high_first-is zero n = refl
high_first-is (suc k) n = ap₂ (λ b bs. b ∷ bs) (byte_at-is k n) (high_first-is k n)

pub be_bytes_32 : (n : ℕ) → to_be_bytes w32 n ≡ big_endian 4 n
be_bytes_32 n = high_first-is 4 n

pub be_bytes_low : (n : ℕ) → drop 4 (to_be_bytes w64 n) ≡ big_endian 4 n
be_bytes_low n = high_first-is 4 n

pub be_bytes_int : (z : ℤ) → to_be_bytes w64 (cast_unsigned w64 z) ≡ bytes_of_int z
be_bytes_int (pos n) = high_first-is 8 n
be_bytes_int (negsuc n) = high_first-is 8 (2 ^ 64 - suc n)

pub ruleset numbers = (be_bytes_32, be_bytes_low, be_bytes_int)

pub append_one : (x : ℕ) (s t : List ℕ) → s ++ x ∷ [] ++ t ≡ s ++ x ∷ t
append_one x s t = append_assoc s (x ∷ []) t

pub ruleset appends = (append_assoc, append_one)

pub taken : (bs s : List ℕ) (n : ℕ) → bs ≡ take n s → s ≡ bs ++ drop n s
taken bs s n e = sym (take-append-drop n s) ∙ ap (λ t. t ++ drop n s) (sym e)

pub ruleset takes = (taken, taken)

pub int_read : (bs : List ℕ) (n : ℕ) → length bs ≡ 8 → ((i : ℕ) → get_or bs i 0 < 256) → n < 2 ^ 64 → n ≡ from_be_bytes w64 bs
    → bytes_of_int (cast_signed w64 n) ≡ bs
int_read bs n len small fits e =
    sym (be_bytes_int (cast_signed w64 n)) ∙ ap (to_be_bytes w64) (of_z-to_z w64 n fits) ∙ be_bytes_8 bs n len small e

pub signed_twice : (n : ℕ) → n < 2 ^ 64 → cast_signed w64 (cast_unsigned w64 (cast_signed w64 n)) ≡ cast_signed w64 n
signed_twice n fits = ap (cast_signed w64) (of_z-to_z w64 n fits)
