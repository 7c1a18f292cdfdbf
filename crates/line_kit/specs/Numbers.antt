-- Numbers in lines.
use Rattle.std.specs.Prelude.{ℕ, ◌-◌, ◌^◌, ◌==◌, ◌&&◌, Bool, not, nat_le, ℤ, pos, neg_ℤ, List, [], ◌∷◌, ◌++◌, length, Option, Some, None, decimal}
use Rattle.std.specs.Prelude.{if◌then◌else◌}
use Rattle.std.specs.Char.{is_ascii_digit}
use Rattle.std.specs.List.{list_all, list_any, before_first, after_first}
use Rattle.std.specs.Option.{option_map}
use Rattle.std.specs.Str.Parse.{digits_value}

-- one or more decimal digits
abbrev pub is_digits : List ℕ → Bool
is_digits bytes = not (length bytes == 0) && list_all is_ascii_digit bytes

-- the number that the bytes write, where they are digits and it is at most `most`
abbrev pub number_up_to : ℕ → List ℕ → Option ℕ
number_up_to most bytes = if is_digits bytes && nat_le (digits_value 10 bytes) most then Some (digits_value 10 bytes) else None

-- the number of 64 signed bits that the bytes write, with an optional `-`
abbrev pub signed_number : List ℕ → Option ℤ
signed_number [] = None
signed_number (x ∷ xs) =
    if x == 45 then option_map (λ n. neg_ℤ (pos n)) (number_up_to (2 ^ 63) xs)
    else option_map pos (number_up_to (2 ^ 63 - 1) (x ∷ xs))

abbrev pub is_space : ℕ → Bool
is_space b = b == 32

-- a number of 63 bits before the first space, and the rest behind it: the rest, and the number
abbrev pub counted : List ℕ → Option (List ℕ × ℕ)
counted line =
    if list_any is_space line then option_map (λ n. (after_first is_space line, n)) (number_up_to (2 ^ 63 - 1) (before_first is_space line))
    else None

-- such a line: the number, a space, the rest
abbrev pub count_line : ℕ → List ℕ → List ℕ
count_line n rest = decimal n ++ 32 ∷ rest
