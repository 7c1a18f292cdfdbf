use Rattle.std.proofs.Common.{◌≡◌, ◌≤◌, drop}
use Rattle.ciel_json.specs.Read.{deep_from, nests_too_deep}
use Rattle.ciel_json.proofs.read.nests_too_deep.Given as goal

abbrev pub invariant-loop-byte : goal.invariant-loop-byte
invariant-loop-byte l = record {
  same : nests_too_deep l.bytes ≡ deep_from l.within l.opened (drop l.byte-index l.bytes);
  few : l.opened ≤ 100;
}
