-- By which digest a run names descriptions.
use Rattle.std.specs.Prelude.{ℕ, List, Bool, true, false}
use Rattle.sha1.specs.Sha1.{sha1}
use Rattle.sha2.specs.Sha256.{sha256}
use Rattle.sky_base.specs.Name.{canon}
use Rattle.sky_base.specs.Val.{Desc}

-- names have 20 bytes, or 32
abbrev pub digest_of : Bool → List ℕ → List ℕ
digest_of true = sha1
digest_of false = sha256

-- the name of a description
abbrev pub name_of : Bool → Desc (List ℕ) → List ℕ
name_of short d = digest_of short (canon d)
