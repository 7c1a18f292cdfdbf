-- The bytes of what stands of a task.
use Rattle.std.specs.Prelude.{ℕ, List, ◌∷◌, ◌++◌, length, flat_map}
use Rattle.sky_base.specs.Val.{Pairs, pair_count}
use Rattle.sky_base.specs.Name.{big_endian, bytes, bytes_of_text, pairs_bytes}
use Rattle.sky_base.specs.Read.{Todo, Frame, Run}
use Rattle.sky_state.specs.Stand.{Stand}

-- how many there are, and then each
abbrev pub counted : {A : Type 0} → (A → List ℕ) → List A → List ℕ
counted f xs = big_endian 4 (length xs) ++ flat_map f xs

abbrev pub todo_bytes : Todo → List ℕ
todo_bytes t = big_endian 4 t.node ++ big_endian 4 t.step

abbrev pub vars_bytes : Pairs (List ℕ) → List ℕ
vars_bytes ps = big_endian 4 (pair_count ps) ++ pairs_bytes ps

-- the function's name, the variables, the stack, and the forms under way
abbrev pub frame_bytes : Frame (List ℕ) → List ℕ
frame_bytes f =
    bytes_of_text f.fun ++ (vars_bytes f.vars ++ (counted bytes f.stack ++ counted todo_bytes f.todo))

abbrev pub run_bytes : Run (List ℕ) → List ℕ
run_bytes r = big_endian 4 r.count ++ (big_endian 4 r.waits ++ counted frame_bytes r.frames)

-- `K`, the number of this form, and which kind of state it is; then the state
abbrev pub frozen_bytes : Stand (List ℕ) → List ℕ
frozen_bytes (Stand.run r) = 75 ∷ 1 ∷ 0 ∷ run_bytes r
frozen_bytes (Stand.show_at v w) = 75 ∷ 1 ∷ 1 ∷ (big_endian 4 w ++ bytes v)
