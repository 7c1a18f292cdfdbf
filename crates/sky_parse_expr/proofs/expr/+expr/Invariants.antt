use Rattle.std.proofs.Common.{◌≡◌, ◌∷◌, ◌++◌, ◌<◌, ◌≤◌, List, length, ◌+◌, ◌-◌, ◌*◌}
use Rattle.sky_base.specs.declared.tree.Expr.{Expr}
use Rattle.sky_base.specs.declared.tree.Link.{Link}
use Rattle.sky_base.specs.declared.tree.Join.{Join}
use Rattle.sky_base.specs.declared.tree.Step.{Step}
use Rattle.sky_base.specs.TreeView.{exps_view, links_view, ands_view, steps_view}
use Rattle.sky_text.specs.declared.token.Token.{Token}
use Rattle.sky_parse_grammar.specs.Levels.{rank, junction}
use Rattle.sky_parse_grammar.specs.Machine.{Item, run, kinds}
use Rattle.sky_parse_held.specs.Held.{Held}
use Rattle.sky_parse_expr.specs.Reads.{Onto, ReadsLinks, ReadsAnds, ReadsSteps, ReadsMore, ReadsParts}
use Rattle.sky_parse_expr.proofs.expr.+expr.Given as goal

-- Sixteen for each token that is left; between two calls that take none, a smaller number.
abbrev pub decreases-parts : goal.decreases-parts
decreases-parts g l = 16 * length l.ts.now + 9

abbrev pub decreases-at_level : goal.decreases-at_level
decreases-at_level g l = 16 * length l.ts.now + 8

abbrev pub decreases-operand : goal.decreases-operand
decreases-operand g l = 16 * length l.ts.now + 7

abbrev pub decreases-primary : goal.decreases-primary
decreases-primary g l = 16 * length l.ts.now + 5

abbrev pub decreases-onward : goal.decreases-onward
decreases-onward g l = 16 * length l.ts.now + (10 - rank l.level)

abbrev pub decreases-tail : goal.decreases-tail
decreases-tail g l = 16 * length l.ts.now + 4

abbrev pub decreases-links : goal.decreases-links
decreases-links g l = 16 * length l.ts.now + 3

abbrev pub decreases-joins : goal.decreases-joins
decreases-joins g l = 16 * length l.ts.now + 3

abbrev pub decreases-steps : goal.decreases-steps
decreases-steps g l = 16 * length l.ts.now + 3

abbrev pub invariant-links-loop-op : goal.invariant-links-loop-op
invariant-links-loop-op g l = record {
  read : (k : List Item) → run (Item.tail l.level ∷ k) (kinds l.ts) ≡ run (Item.tail l.level ∷ k) (kinds l.rest);
  tree : Onto {X = Link} (λ ys. ReadsLinks (rank l.level) (links_view ys)) l.items.items l.initial.made l.made l.ts l.rest;
  less : length l.rest ≤ length l.ts;
}

abbrev pub decreases-links-loop-op : goal.decreases-links-loop-op
decreases-links-loop-op g l = length l.rest

abbrev pub invariant-joins-loop-sign : goal.invariant-joins-loop-sign
invariant-joins-loop-sign g l = record {
  read : (k : List Item) → run (Item.tail l.level ∷ k) (kinds l.ts) ≡ run (Item.tail l.level ∷ k) (kinds l.rest);
  tree : Onto {X = Join} (λ ys. ReadsAnds (junction l.level) (ands_view ys)) l.items.items l.initial.made l.made l.ts l.rest;
  less : length l.rest ≤ length l.ts;
}

abbrev pub decreases-joins-loop-sign : goal.decreases-joins-loop-sign
decreases-joins-loop-sign g l = length l.rest

abbrev pub invariant-steps-loop-kind : goal.invariant-steps-loop-kind
invariant-steps-loop-kind g l = record {
  read : (k : List Item) → run (Item.steps ∷ k) (kinds l.ts) ≡ run (Item.steps ∷ k) (kinds l.rest);
  tree : (h : Held) (from : List Token) → Onto {X = Step} (λ ys. ReadsSteps (steps_view ys)) l.initial.items.items h l.initial.made from l.ts
      → Onto {X = Step} (λ ys. ReadsSteps (steps_view ys)) l.items.items h l.made from l.rest;
  less : length l.rest ≤ length l.ts;
}

abbrev pub decreases-steps-loop-kind : goal.decreases-steps-loop-kind
decreases-steps-loop-kind g l = length l.rest

abbrev pub invariant-parts-loop-after : goal.invariant-parts-loop-after
invariant-parts-loop-after g l = record {
  read : (k : List Item) → run (Item.parts l.shape ∷ k) (kinds l.ts) ≡ run (Item.others l.shape (length l.items.items) ∷ k) (kinds l.rest);
  tree : (ys : List Expr) (c : Held) (end : List Token) → ReadsMore l.shape (length l.items.items) (exps_view ys) l.made c l.rest end
      → ReadsParts l.shape (exps_view (l.items.items ++ ys)) l.fn.made c l.ts end;
  less : length l.rest < length l.ts;
}

abbrev pub decreases-parts-loop-after : goal.decreases-parts-loop-after
decreases-parts-loop-after g l = length l.rest
