use Rattle.std.proofs.Common.{◌≡◌, ◌∷◌, List, length}
use Rattle.sky_parse_grammar.specs.Machine.{Item, run, kinds}
use Rattle.sky_parse.specs.Scripts.{SoFar}
use Rattle.sky_parse.proofs.script.tops.Given as goal

abbrev pub invariant-loop-rest : goal.invariant-loop-rest
invariant-loop-rest l = record {
  read : (k : List Item) → run (Item.tops ∷ k) (kinds l.ts) ≡ run (Item.tops ∷ k) (kinds l.rest);
  tree : SoFar l.read l.ts l.rest;
}

abbrev pub decreases-loop-rest : goal.decreases-loop-rest
decreases-loop-rest l = length l.rest
