-- What was written is the number of the descriptions, and those before the index.
use Rattle.std.proofs.Common.{◌≡◌, ◌++◌, map, take}
use Rattle.std.specs.List.{flat_map}
use Rattle.sky_base.specs.Name.{canon}
use Rattle.sky_base.specs.ObjectView.{desc_view}
use Rattle.ciel_log_records.specs.Records.{block}
use Rattle.ciel_log_records.proofs.report.put_spawned.Given as goal

abbrev pub invariant-loop-named : goal.invariant-loop-named
invariant-loop-named l =
    l.out ≡ l.initial.out ++ flat_map (λ d. block (canon d)) (map (λ n. desc_view n.desc) (take l.named-index l.spawned))
