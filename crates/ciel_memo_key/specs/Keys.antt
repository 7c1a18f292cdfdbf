-- The bytes of the key of an entry: the executor, its arguments, the number of its outputs, and its inputs.
use Rattle.std.specs.Prelude.{ℕ, List, ◌++◌}
use Rattle.sky_base.specs.Name.{big_endian, bytes, bytes_of_text}
use Rattle.sky_base.specs.Val.{Val}
use Rattle.sky_frozen_bytes.specs.Bytes.{counted}

-- bytes behind their number, as those of a text
abbrev pub block : List ℕ → List ℕ
block b = bytes_of_text b

abbrev pub key_of : List ℕ → Val (List ℕ) → List (List ℕ) → ℕ → List ℕ
key_of executor args inputs outputs = bytes_of_text executor ++ (bytes args ++ (big_endian 4 outputs ++ counted block inputs))
