-- What bytes are as data.
use Rattle.std.specs.Prelude.{ℕ, List}
use Rattle.sky_base.specs.Op.{Answer}
use Rattle.ciel_json.specs.Read.{reads}

abbrev pub data_of : List ℕ → Answer (List ℕ)
data_of bytes = reads {N = List ℕ} bytes
