-- What was written is the number of the names, and those before the index.
use Rattle.std.proofs.Common.{◌≡◌, ◌++◌, map, take}
use Rattle.std.specs.List.{flat_map}
use Rattle.sky_base.specs.Name.{name_bytes}
use Rattle.ciel_log_records.proofs.report.put_copied.Given as goal

abbrev pub invariant-loop-held : goal.invariant-loop-held
invariant-loop-held l = l.out ≡ l.initial.out ++ flat_map name_bytes (map (λ h. h.name) (take l.held-index l.copied))
