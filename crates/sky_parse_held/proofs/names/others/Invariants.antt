use Rattle.std.proofs.Common.{◌≡◌, drop}
use Rattle.sky_parse_grammar.specs.Lifted.{uses_from, uses_of}
use Rattle.sky_parse_held.proofs.names.others.Given as goal

abbrev pub invariant-loop-name : goal.invariant-loop-name
invariant-loop-name l = uses_from l.own l.used (drop l.name-index l.names) ≡ uses_of l.own l.names
