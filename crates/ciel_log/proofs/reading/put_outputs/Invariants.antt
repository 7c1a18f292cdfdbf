-- What was written is the first byte, the number of the outputs, and the objects of those before the index; the eye has seen nothing more.
use Rattle.std.proofs.Common.{◌≡◌, ◌++◌, map, take}
use Rattle.std.specs.List.{flat_map}
use Rattle.sky_base_law.specs.Tasks.{Each}
use Rattle.ciel_name.specs.Object.{object_bytes}
use Rattle.ciel_name_law.specs.Told.{ObjectTold}
use Rattle.ciel_log_records.specs.Records.{block}
use Rattle.ciel_log.specs.Reading.{object_of}
use Rattle.ciel_log.proofs.reading.put_outputs.Given as goal

abbrev pub invariant-loop-output : goal.invariant-loop-output
invariant-loop-output l = record {
  out : l.out ≡ l.initial.out ++ flat_map (λ o. block (object_bytes o)) (map object_of (take l.output-index l.outputs));
  told : Each ObjectTold (map object_of (take l.output-index l.outputs));
  eye : l.eye ≡ l.initial.eye;
}
