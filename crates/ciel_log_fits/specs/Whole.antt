-- Executors' outputs, each with the one that comes next in its task.
use Rattle.std.specs.Prelude.{◌≡◌, ◌<◌, ℕ, suc, List, [], ◌∷◌, Bool, true, false, ◌||◌, cond, nat_lt}
use Rattle.sky_base.specs.Name.{canon}
use Rattle.sky_base.specs.Names.{is_among}
use Rattle.sky_base.specs.Val.{Desc, call, input, known, out, same_text}

-- among so many, the index that comes next; behind the last one the first
abbrev pub next_index : ℕ → ℕ → ℕ
next_index n i = cond (nat_lt (suc i) n) (suc i) 0

-- bytes are these, if they are an output's, or are among others
abbrev pub with_output : List ℕ → Desc (List ℕ) → Bool → Bool
with_output x (call f c vs) more = more
with_output x (out e a n i) more = same_text x (canon (out e a n i)) || more
with_output x (input k) more = more
with_output x (known b) more = more

-- bytes are the canonical ones of an executor's output in the list
abbrev pub is_output_in : List ℕ → List (Desc (List ℕ)) → Bool
is_output_in x [] = false
is_output_in x (d ∷ ds) = with_output x d (is_output_in x ds)

-- its index is one of its task, and the next one is among these canonical bytes
abbrev pub NextStands : List (List ℕ) → Desc (List ℕ) → Type 0
NextStands set (call f c vs) = Unit {0}
NextStands set (out e a n i) = (i < n) × (is_among (canon (out e a n (next_index n i))) set ≡ true)
NextStands set (input k) = Unit {0}
NextStands set (known b) = Unit {0}
