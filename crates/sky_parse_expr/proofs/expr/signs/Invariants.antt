use Rattle.std.proofs.Common.{◌≡◌, ◌∷◌, List, ◌≤◌, length}
use Rattle.sky_base.specs.TreeView.{signs_view}
use Rattle.sky_parse_grammar.specs.declared.level.Level.{Level}
use Rattle.sky_parse_grammar.specs.Machine.{Item, run, kinds}
use Rattle.sky_parse_grammar.specs.Grammar.{Spelled, spell_signs}
use Rattle.sky_parse_expr.proofs.expr.signs.Given as goal

abbrev pub invariant-loop-op : goal.invariant-loop-op
invariant-loop-op l = record {
  read : (k : List Item) → run (Item.level Level.Prefix ∷ k) (kinds l.ts) ≡ run (Item.level Level.Prefix ∷ k) (kinds l.rest);
  spelled : Spelled (spell_signs (signs_view l.items.items)) l.ts l.rest;
  less : length l.rest ≤ length l.ts;
}

abbrev pub decreases-loop-op : goal.decreases-loop-op
decreases-loop-op l = length l.rest
