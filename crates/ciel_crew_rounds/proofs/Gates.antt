-- The gates of all seats, one by one.
use Rattle.std.proofs.Common.{◌≡◌, List, ◌∷◌, ◌++◌, Option, ap, sym, ◌∙◌, append_assoc}
use Rattle.std.specs.Prelude.{option_to_list}
use Rattle.ciel_crew_rounds.specs.Seats.{gate_in, gates_in}
use Rattle.ciel_crew_rounds.specs.declared.seat.Seat.{Seat}

-- the first gate is put behind the others, and what is gathered stays
pub first_gate : {K N G R : Type 0} (gates after all : List G) (s : Seat K N G R) (rest : List (Seat K N G R)) (kept : Option G) → gates
    ++ gates_in (s ∷ rest) ≡ all → kept ≡ gate_in s → after ≡ gates ++ option_to_list kept → after ++ gates_in rest ≡ all
first_gate gates after all s rest kept e is now = ap (λ (l : List _). l ++ gates_in rest) now
    ∙ (append_assoc gates (option_to_list kept) (gates_in rest)
    ∙ (ap (λ (k : Option _). gates ++ (option_to_list k ++ gates_in rest)) is ∙ e))
