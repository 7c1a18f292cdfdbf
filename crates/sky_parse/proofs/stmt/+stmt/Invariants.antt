use Rattle.std.proofs.Common.{◌≡◌, List, ◌<◌, ◌≤◌, ◌∷◌, length, ◌+◌, ◌*◌}
use Rattle.sky_base.specs.TreeView.{at}
use Rattle.sky_base.specs.StmtView.{stms_view}
use Rattle.sky_base.specs.declared.stmt.Stmt.{Stmt}
use Rattle.sky_text.specs.declared.token.Sign.{Sign}
use Rattle.sky_parse_grammar.specs.Machine.{Item, test_then, run, kinds}
use Rattle.sky_parse_expr.specs.Reads.{Onto}
use Rattle.sky_parse.specs.Statements.{ReadsStms}
use Rattle.sky_parse.proofs.StmLaw.{ChoiceSo}
use Rattle.sky_parse.proofs.stmt.+stmt.Given as goal

abbrev pub decreases-stmt : goal.decreases-stmt
decreases-stmt g l = 4 * length l.ts.now

abbrev pub decreases-choice : goal.decreases-choice
decreases-choice g l = 4 * length l.ts.now + 3

abbrev pub decreases-arm : goal.decreases-arm
decreases-arm g l = 4 * length l.ts.now + 2

abbrev pub decreases-while_loop : goal.decreases-while_loop
decreases-while_loop g l = 4 * length l.ts.now + 2

abbrev pub decreases-do_loop : goal.decreases-do_loop
decreases-do_loop g l = 4 * length l.ts.now + 2

abbrev pub decreases-for_loop : goal.decreases-for_loop
decreases-for_loop g l = 4 * length l.ts.now + 2

abbrev pub decreases-block : goal.decreases-block
decreases-block g l = 4 * length l.ts.now + 1

abbrev pub decreases-stmts : goal.decreases-stmts
decreases-stmts g l = 4 * length l.ts.now + 1

abbrev pub invariant-stmts-loop-alloc : goal.invariant-stmts-loop-alloc
invariant-stmts-loop-alloc g l = record {
  read : (k : List Item) → run (Item.stmts ∷ Item.sign Sign.CloseCurly ∷ k) (kinds l.ts)
      ≡ run (Item.stmts ∷ Item.sign Sign.CloseCurly ∷ k) (kinds l.rest);
  tree : Onto {X = Stmt} (λ ys. ReadsStms (stms_view ys)) l.items.items l.initial.made l.made l.ts l.rest;
  less : length l.rest ≤ length l.ts;
}

abbrev pub decreases-stmts-loop-alloc : goal.decreases-stmts-loop-alloc
decreases-stmts-loop-alloc g l = length l.rest

abbrev pub invariant-choice-loop-after : goal.invariant-choice-loop-after
invariant-choice-loop-after g l = record {
  read : (k : List Item) → run (test_then (Item.block ∷ Item.arms ∷ k)) (kinds l.ts) ≡ run (Item.arms ∷ k) (kinds l.rest);
  tree : ChoiceSo (at l.line l.col) l.items.items l.fn.made l.made l.ts l.rest;
  less : length l.rest < length l.ts;
}

abbrev pub decreases-choice-loop-after : goal.decreases-choice-loop-after
decreases-choice-loop-after g l = length l.rest
