-- What was written is the number of the losses, and those before the index.
use Rattle.std.proofs.Common.{◌≡◌, ◌++◌, take}
use Rattle.std.specs.List.{flat_map}
use Rattle.ciel_log_records.specs.Records.{loss_bytes}
use Rattle.ciel_log_records.proofs.header.put_losses.Given as goal

abbrev pub invariant-loop-after : goal.invariant-loop-after
invariant-loop-after l = l.out ≡ l.initial.out ++ flat_map loss_bytes (take l.after-index l.losses)
