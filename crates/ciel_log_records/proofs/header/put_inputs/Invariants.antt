-- What was written is the number of the inputs, and those before the index.
use Rattle.std.proofs.Common.{◌≡◌, ◌++◌, take}
use Rattle.std.specs.List.{flat_map}
use Rattle.ciel_log_records.specs.Records.{input_bytes}
use Rattle.ciel_log_records.proofs.header.put_inputs.Given as goal

abbrev pub invariant-loop-key : goal.invariant-loop-key
invariant-loop-key l = l.out ≡ l.initial.out ++ flat_map input_bytes (take l.key-index l.inputs)
