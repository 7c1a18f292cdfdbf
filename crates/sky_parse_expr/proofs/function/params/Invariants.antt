use Rattle.std.proofs.Common.{◌≡◌, ◌∷◌, List, ◌<◌, length}
use Rattle.sky_parse_grammar.specs.Machine.{Item, run, kinds}
use Rattle.sky_parse_grammar.specs.Grammar.{Spelled, spell_params}
use Rattle.sky_parse_held.specs.Params.{params_view}
use Rattle.sky_parse_expr.proofs.function.params.Given as goal

abbrev pub invariant-loop-after : goal.invariant-loop-after
invariant-loop-after l = record {
  read : (k : List Item) → run (Item.params ∷ k) (kinds l.ts) ≡ run (Item.other_params ∷ k) (kinds l.rest);
  spelled : Spelled (spell_params (params_view l.items.items)) l.ts l.rest;
  some : 0 < length l.items.items;
  less : length l.rest < length l.ts;
}

abbrev pub decreases-loop-after : goal.decreases-loop-after
decreases-loop-after l = length l.rest
