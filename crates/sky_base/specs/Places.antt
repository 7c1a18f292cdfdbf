-- Where the names of a list stand, by a few of their bytes.
use Rattle.std.specs.Prelude.{◌≡◌, ◌<◌, ◌≤◌, ◌+◌, ◌-◌, ℕ, zero, suc, List, [], ◌∷◌, length, cond, nat_eq, get_or}
use Rattle.std.specs.Prelude.{bit_and, bit_xor, ◌/◌, ◌^◌}
use Rattle.std.specs.Int.{w32, from_le_bytes}
use Rattle.sky_base.specs.declared.found.Places.{Places}

-- a number's upper bits upon its lower ones
abbrev pub folded : ℕ → ℕ
folded key = bit_xor key (key / 2 ^ 16)

-- the slot of a name in a table of this size: four of its bytes, from this one on
unfoldable pub slot_of : (turn size : ℕ) → List ℕ → ℕ
slot_of turn size n =
    bit_and (folded (from_le_bytes w32 (get_or n turn 0 ∷ get_or n (turn + 1) 0 ∷ get_or n (turn + 2) 0 ∷ get_or n (turn + 3) 0 ∷ []))) (size - 1)

-- one more than the last place before `end` whose name is of this slot; 0 where there is none
abbrev pub last_in : (List ℕ → ℕ) → List (List ℕ) → ℕ → ℕ → ℕ
last_in slot ns s zero = 0
last_in slot ns s (suc e) = cond (nat_eq (slot (get_or ns e [])) s) (suc e) (last_in slot ns s e)

-- the table has exactly the names of the list, each at its place: from the last place of each slot, by the one before it, all
-- names of the slot are come to
pub record IsPlaced (turn : ℕ) (latest earlier : List ℕ) (ns : List (List ℕ)) : Type 0 where
  pub within : turn ≤ 16
  pub room : length ns ≤ length latest
  pub even : length earlier ≡ length ns
  pub of_slot : (s : ℕ) → s < length latest → get_or latest s 0 ≡ last_in (slot_of turn (length latest)) ns s (length ns)
  pub of_place : (i : ℕ) → i < length ns
      → get_or earlier i 0 ≡ last_in (slot_of turn (length latest)) ns (slot_of turn (length latest) (get_or ns i [])) i

abbrev pub HasSame : Places → List (List ℕ) → Type 0
HasSame p ns = IsPlaced p.turn p.latest.items p.earlier.items ns
