-- What a name holds, and the list of its bytes.
use Rattle.std.specs.Prelude.{◌≡◌, ℕ, List, length, nat_eq, Bool, true, false}
use Rattle.std.proofs.Common.{ap}
use Rattle.sky_base.specs.declared.name.Held.{Held}

abbrev pub held_bytes : Held → List ℕ
held_bytes (Held.Short b) = b
held_bytes (Held.Long b) = b

abbrev pub HeldFits : Held → Type 0
HeldFits (Held.Short b) = length b ≡ 20
HeldFits (Held.Long b) = length b ≡ 32

abbrev pub held_if : Bool → List ℕ → Held
held_if true b = Held.Short b
held_if false b = Held.Long b

-- what a list of bytes is the bytes of
abbrev pub held_back : List ℕ → Held
held_back b = held_if (nat_eq (length b) 20) b

pub back_ok : (h : Held) → HeldFits h → held_back (held_bytes h) ≡ h
back_ok (Held.Short b) e = ap (λ n. held_if (nat_eq n 20) b) e
back_ok (Held.Long b) e = ap (λ n. held_if (nat_eq n 20) b) e
