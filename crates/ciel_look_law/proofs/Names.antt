-- The names of a run have 20 bytes or 32.
use Rattle.std.proofs.Common.{◌≡◌, ℕ, List, length, inl, inr, refl}
use Rattle.sha1.specs.Sha1.{digest_bytes, sha1}
use Rattle.sha2.specs.Sha256.{sha256}
use Rattle.sha2.proofs.Facts256.{length-sha256}
use Rattle.ciel_look_law.specs.Laws.{NamesFit}

mark_length : (m : List ℕ) → length (sha1 m) ≡ 20
unfolding sha1 digest_bytes
mark_length m = refl

pub short_names_fit : NamesFit sha1
short_names_fit m = inl (mark_length m)

pub long_names_fit : NamesFit sha256
long_names_fit m = inr (length-sha256 m)
