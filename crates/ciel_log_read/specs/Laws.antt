-- What the bytes of a record tell.
use Rattle.std.specs.Prelude.{◌≡◌}
use Rattle.ciel_log_read.specs.Recorded.{IsRecord, Recorded, record_bytes}

-- two records with the same bytes are one
abbrev pub OneRecord : Type 0
OneRecord = (r s : Recorded) → IsRecord r → IsRecord s → record_bytes r ≡ record_bytes s → r ≡ s
