-- What names a task, and a digest that clashes.
use Rattle.std.specs.Prelude.{ℕ, ◌-◌, List, ◌++◌, take, replicate}
use Rattle.sha1.specs.Sha1.{sha1}
use Rattle.sky_base.specs.Val.{Desc, call, out, input, known}

-- the description whose name is its task's: of an executor's outputs the first, else the description itself
abbrev pub first_output : Desc (List ℕ) → Desc (List ℕ)
first_output (call f c vs) = call f c vs
first_output (out x v n i) = out x v n 0
first_output (input k) = input k
first_output (known n) = known n

-- the first so many bytes of SHA-1, then zeros
abbrev pub weak : ℕ → List ℕ → List ℕ
weak kept bytes = take kept (sha1 bytes) ++ replicate (20 - kept) 0
