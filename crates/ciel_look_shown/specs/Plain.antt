-- Text that is safe to show, whatever it is of.
use Rattle.std.specs.Prelude.{◌≤◌, ◌<◌, ◌+◌, ◌/◌, ◌%◌, ℕ, List, [], ◌∷◌, Bool, ◌&&◌, cond, flat_map, nat_le, nat_lt}
use Rattle.std.specs.List.{All}

-- a printable ASCII character, or a space
abbrev pub IsPrintable : ℕ → Type 0
IsPrintable b = (32 ≤ b) × (b < 127)

abbrev pub IsPlain : List ℕ → Type 0
IsPlain text = All IsPrintable text

-- ---- bytes, shown

abbrev pub is_printable : ℕ → Bool
is_printable b = nat_le 32 b && nat_lt b 127

abbrev pub digit : ℕ → ℕ
digit d = cond (nat_lt d 10) (48 + d) (87 + d)

-- a printable byte is itself, any other `\x` and its two digits
abbrev pub shown_byte : ℕ → List ℕ
shown_byte b = cond (is_printable b) (b ∷ []) (92 ∷ 120 ∷ digit (b / 16 % 16) ∷ digit (b % 16) ∷ [])

abbrev pub shown : List ℕ → List ℕ
shown bytes = flat_map shown_byte bytes
