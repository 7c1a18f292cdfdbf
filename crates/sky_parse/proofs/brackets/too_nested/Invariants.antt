use Rattle.std.proofs.Common.{◌≡◌, ◌≤◌, drop}
use Rattle.sky_parse_grammar.specs.Nesting.{too_nested}
use Rattle.sky_parse.proofs.brackets.too_nested.Given as goal

abbrev pub invariant-loop-t : goal.invariant-loop-t
invariant-loop-t l = record {
  bounded : l.depth ≤ 64;
  same : too_nested l.depth (drop l.t-index l.ts) ≡ too_nested 0 l.ts;
}
