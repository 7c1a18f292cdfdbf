use Rattle.std.proofs.Common.{◌≡◌, ◌∷◌, ◌++◌, [], List, length, sym, ap, subst, refl, ◌∙◌, arith}
use Rattle.sky_base.specs.TreeView.{at, exp_view}
use Rattle.sky_base.specs.Tree as tree
use Rattle.sky_base.specs.Tree.{Else}
use Rattle.sky_base.specs.StmtView.{stms_view}
use Rattle.sky_base.specs.declared.stmt.Stmt.{Stmt}
use Rattle.sky_base.specs.declared.stmt.Arm.{Arm}
use Rattle.sky_text.specs.declared.token.Sign.{Sign}
use Rattle.sky_text.specs.declared.token.Word.{Word}
use Rattle.sky_text.specs.declared.token.Token.{Token}
use Rattle.sky_parse_grammar.specs.declared.level.Level.{Level}
use Rattle.sky_parse_grammar.specs.Grammar.{place}
use Rattle.sky_parse_grammar.specs.Machine.{Item, test_then, run, kinds}
use Rattle.sky_parse_held.specs.Held.{Held}
use Rattle.sky_parse_expr.specs.Reads.{Onto}
use Rattle.sky_parse.specs.Statements.{ReadsEnded, ReadsStm, ReadsStms}
use Rattle.sky_parse_expr.proofs.Moves.{exit}
use Rattle.sky_parse.proofs.StmtMoves.{block_is, stmts_goes, stmts_end, arms_go, after_else_if, after_else_block, stmt_else}
use Rattle.sky_parse_expr.proofs.ReadsLaw.{word_front, word_placed, onto_none, onto_one, onto_end}
use Rattle.sky_parse.proofs.StmLaw.{read_just, read_while, read_do, read_for, read_no_stms, read_stms, read_block, read_arm, read_no_else, read_else}
use Rattle.sky_parse.proofs.StmLaw.{choice_begun, choice_next, choice_done}
use Rattle.sky_parse.proofs.stmt.+stmt.Goals as goal

abbrev StmsV : List Stmt → Held → Held → List Token → List Token → Type 0
StmsV ys = ReadsStms (stms_view ys)

pub while_loop-returns-clause-tree : goal.while_loop-returns-clause-tree
while_loop-returns-clause-tree g t c = λ w fit. read_while (at c.args.line c.args.col) w fit c.in_ok-test.ensures.tree c.in_ok-block.ensures.tree

pub for_loop-returns-clause-tree : goal.for_loop-returns-clause-tree
for_loop-returns-clause-tree g t c = λ w fit. read_for (at c.args.line c.args.col) c.in_ok-name.name w fit c.in_ok-name.ensures.tree
    c.in_ok-block.ensures.tree

pub do_loop-returns-clause-tree : goal.do_loop-returns-clause-tree
do_loop-returns-clause-tree g t c = λ w fit. read_do (at c.args.line c.args.col) w fit c.in_ok-block.ensures.tree c.in_ok-rest.ensures.spelled
    c.in_ok-test.ensures.tree c.in_ok-rest-2.ensures.spelled

pub arm-returns-clause-tree : goal.arm-returns-clause-tree
arm-returns-clause-tree g t c = read_arm c.in_ok-test.ensures.tree c.in_ok-block.ensures.tree

pub stmts-loop-alloc-init : goal.stmts-loop-alloc-init
stmts-loop-alloc-init g t c = record {
  read = λ k. refl;
  tree = subst (λ (xs : List Stmt). Onto StmsV xs c.args.made.now c.args.made.now c.args.ts.now c.args.ts.now) (sym c.new-items.ensures.items)
      (onto_none StmsV c.args.made.now c.args.ts.now);
  less = omega arith;
}

pub stmts-loop-alloc-preserved : goal.stmts-loop-alloc-preserved
stmts-loop-alloc-preserved g t c =
    let l = c.loop-alloc in
    let item = c.in_ok-item.item in
    let next = c.in_ok-item.after.now in
    let all : c.push_reserved.new.self.items ≡ l.items.items ++ item ∷ [] = c.push_reserved.ensures.items
    ∙ ap (λ (xs : List Stmt). xs ++ item ∷ []) c.reserve.ensures.items in
    record {
      read = λ k. l.invariant.read k ∙ stmts_goes k l.rest.now (sym c.stands.ensures ∙ c.loop-alloc-test.true)
          ∙ c.in_ok-item.ensures.read (Item.stmts ∷ Item.sign Sign.CloseCurly ∷ k);
      tree = subst (λ (xs : List Stmt). Onto StmsV xs c.args.made.now c.stmt.new.made c.args.ts.now next) (sym all)
          (onto_one StmsV l.items.items c.args.made.now l.made c.stmt.new.made c.args.ts.now l.rest.now next item l.invariant.tree
          (λ ys d end h. read_stms c.in_ok-item.ensures.tree h));
      less = omega (arith, l.invariant.less, c.in_ok-item.ensures.less);
    }

pub stmts-returns-in_err-item-clause-read : goal.stmts-returns-in_err-item-clause-read
stmts-returns-in_err-item-clause-read g t c =
    exit c.from_residual.result c.in_err-item.field-0.0 (λ x k. run (Item.sign Sign.CloseCurly ∷ k) (kinds x.1.now))
    (λ k. run (Item.stmts ∷ Item.sign Sign.CloseCurly ∷ k) (kinds c.args.ts.now)) (λ k. run (Item.stmt ∷ k) (kinds c.loop-alloc.rest.now))
    (λ k. Item.stmts ∷ Item.sign Sign.CloseCurly ∷ k) c.from_residual.ensures.1
    (λ k. c.loop-alloc.invariant.read k ∙ stmts_goes k c.loop-alloc.rest.now (sym c.stands.ensures ∙ c.loop-alloc-test.true))
    c.in_err-item.ensures.read

pub stmts-returns-clause-read : goal.stmts-returns-clause-read
stmts-returns-clause-read g t c = λ k. c.loop-alloc.invariant.read k
    ∙ stmts_end k c.loop-alloc.rest.now (sym c.stands.ensures ∙ c.loop-alloc-test.false)

pub stmts-returns-clause-tree : goal.stmts-returns-clause-tree
stmts-returns-clause-tree g t c =
    let l = c.loop-alloc in
    subst (λ ss. ReadsStms ss c.args.made.now l.made c.args.ts.now l.rest.now) (sym c.of.ensures)
    (onto_end StmsV l.items.items c.args.made.now l.made c.args.ts.now l.rest.now l.invariant.tree (read_no_stms l.made l.rest.now))

pub block-returns-clause-tree : goal.block-returns-clause-tree
block-returns-clause-tree g t c = read_block c.in_ok-rest.ensures.spelled c.in_ok-block.ensures.tree c.in_ok-rest-2.ensures.spelled

pub block-returns-in_err-rest-clause-read : goal.block-returns-in_err-rest-clause-read
block-returns-in_err-rest-clause-read g t c =
    exit c.from_residual.result c.in_err-rest.field-0.0 (λ x k. run k (kinds x.1.now)) (λ k. run (Item.block ∷ k) (kinds c.args.ts.now))
    (λ k. run (Item.sign Sign.OpenCurly ∷ k) (kinds c.args.ts.now))
    (λ k. Item.stmts ∷ Item.sign Sign.CloseCurly ∷ k) c.from_residual.ensures.1 (λ k. block_is k c.args.ts.now) c.in_err-rest.ensures.read

pub block-returns-in_err-block-clause-read : goal.block-returns-in_err-block-clause-read
block-returns-in_err-block-clause-read g t c =
    exit c.from_residual-in_err-block.result c.in_err-block.field-0.0 (λ x k. run k (kinds x.1.now))
    (λ k. run (Item.block ∷ k) (kinds c.args.ts.now)) (λ k. run (Item.stmts ∷ Item.sign Sign.CloseCurly ∷ k) (kinds c.in_ok-rest.rest.now))
    (λ k. k) c.from_residual-in_err-block.ensures.1
    (λ k. block_is k c.args.ts.now ∙ c.in_ok-rest.ensures.read (Item.stmts ∷ Item.sign Sign.CloseCurly ∷ k)) c.in_err-block.ensures.read

pub block-returns-in_err-rest-2-clause-read : goal.block-returns-in_err-rest-2-clause-read
block-returns-in_err-rest-2-clause-read g t c =
    exit c.from_residual-in_err-rest-2.result c.in_err-rest-2.field-0.0 (λ x k. run k (kinds x.1.now))
    (λ k. run (Item.block ∷ k) (kinds c.args.ts.now)) (λ k. run (Item.sign Sign.CloseCurly ∷ k) (kinds c.in_ok-block.rest.now))
    (λ k. k) c.from_residual-in_err-rest-2.ensures.1
    (λ k. block_is k c.args.ts.now ∙ c.in_ok-rest.ensures.read (Item.stmts ∷ Item.sign Sign.CloseCurly ∷ k) ∙ c.in_ok-block.ensures.read k)
    c.in_err-rest-2.ensures.read

pub block-returns-clause-read : goal.block-returns-clause-read
block-returns-clause-read g t c = λ k. block_is k c.args.ts.now ∙ c.in_ok-rest.ensures.read (Item.stmts ∷ Item.sign Sign.CloseCurly ∷ k)
    ∙ c.in_ok-block.ensures.read k ∙ c.in_ok-rest-2.ensures.read k

pub choice-loop-after-init : goal.choice-loop-after-init
choice-loop-after-init g t c =
    let first = c.in_ok-first.first in
    let items : c.push_reserved.new.self.items ≡ first ∷ [] = c.push_reserved.ensures.items
    ∙ ap (λ (xs : List Arm). xs ++ first ∷ []) (c.reserve.ensures.items ∙ c.new-items.ensures.items) in
    let p = c.in_ok-first.ensures.place in
    record {
      read = λ k. c.in_ok-first.ensures.read (Item.arms ∷ k);
      tree = choice_begun c.args.line c.args.col c.push_reserved.new.self.items first c.args.made.now c.arm.new.made c.args.ts.now
          c.in_ok-first.rest.now items p.0 p.1 c.in_ok-first.ensures.tree;
      less = c.in_ok-first.ensures.less;
    }

pub choice-loop-after-preserved : goal.choice-loop-after-preserved
choice-loop-after-preserved g t c =
    let l = c.loop-after in
    let a = c.in-Some.ensures.some in
    let b = c.in-Some-eat_word.ensures.some in
    let p = c.in_ok-item.ensures.place in
    let item = c.in_ok-item.item in
    let sign = c.in-Some-eat_word.sign.now in
    let all : c.push_reserved-in-Some.new.self.items ≡ l.items.items ++ item ∷ [] = c.push_reserved-in-Some.ensures.items
    ∙ ap (λ (xs : List Arm). xs ++ item ∷ []) c.reserve-in-Some.ensures.items in
    record {
      read = λ k. l.invariant.read k ∙ arms_go k l.rest.now c.in-Some.after.now c.in-Some.field-0-0.now a.0 a.1
          ∙ after_else_if k c.in-Some.after.now c.in-Some-eat_word.after.now sign b.0 b.1 ∙ c.in_ok-item.ensures.read (Item.arms ∷ k);
      tree = choice_next (at c.args.line c.args.col) l.items.items c.push_reserved-in-Some.new.self.items item sign c.args.made.now l.made
          c.arm-in-Some.new.made c.args.ts.now l.rest.now c.in-Some.after.now c.in-Some-eat_word.after.now c.in_ok-item.after.now all p.0 p.1
          (word_front Word.Else l.rest.now c.in-Some.after.now c.in-Some.field-0-0.now a.0 a.1)
          (word_placed Word.If c.in-Some.after.now c.in-Some-eat_word.after.now sign b.0 b.1) c.in_ok-item.ensures.tree l.invariant.tree;
      less = omega (arith, l.invariant.less, ap length a.0, ap length b.0, c.in_ok-item.ensures.less);
    }

pub choice-returns-clause-tree : goal.choice-returns-clause-tree
choice-returns-clause-tree g t c = λ w fit.
    let l = c.loop-after in
    let p = at c.args.line c.args.col in
    subst (λ arms. ReadsStm (tree.Stm.cases p arms Else.no_else) c.args.made.now l.made (w ∷ c.args.ts.now) l.rest.now) (sym c.of-arms-2.ensures)
    (choice_done p l.items.items Else.no_else c.args.made.now l.made l.made c.args.ts.now l.rest.now l.rest.now (read_no_else l.made l.rest.now)
    l.invariant.tree w fit)

pub choice-returns-in_default-eat_word-2-clause-tree : goal.choice-returns-in_default-eat_word-2-clause-tree
choice-returns-in_default-eat_word-2-clause-tree g t c = λ w fit.
    let l = c.loop-after in
    let p = at c.args.line c.args.col in
    let some = c.in-Some.ensures.some in
    let last = Else.otherwise c.in_ok-block.block in
    let end = c.in_ok-block.behind.now in
    subst (λ arms. ReadsStm (tree.Stm.cases p arms last) c.args.made.now c.block.new.made (w ∷ c.args.ts.now) end) (sym c.of-arms.ensures)
    (choice_done p l.items.items last c.args.made.now l.made c.block.new.made c.args.ts.now l.rest.now end
    (read_else (word_front Word.Else l.rest.now c.in-Some.after.now c.in-Some.field-0-0.now some.0 some.1) c.in_ok-block.ensures.tree)
    l.invariant.tree w fit)

pub choice-returns-in_err-block-clause-read : goal.choice-returns-in_err-block-clause-read
choice-returns-in_err-block-clause-read g t c =
    let some = c.in-Some.ensures.some in
    exit c.from_residual-in_err-block.result c.in_err-block.field-0.0 (λ x k. run k (kinds x.1.now))
    (λ k. run (test_then (Item.block ∷ Item.arms ∷ k)) (kinds c.args.ts.now)) (λ k. run (Item.block ∷ k) (kinds c.in-Some.after.now))
    (λ k. k) c.from_residual-in_err-block.ensures.1
    (λ k. c.loop-after.invariant.read k ∙ arms_go k c.loop-after.rest.now c.in-Some.after.now c.in-Some.field-0-0.now some.0 some.1
    ∙ after_else_block k c.in-Some.after.now c.in_default-eat_word-2.ensures.none) c.in_err-block.ensures.read

pub stmt-returns-in_err-inner-clause-read : goal.stmt-returns-in_err-inner-clause-read
stmt-returns-in_err-inner-clause-read g t c =
    exit c.from_residual.result c.in_err-inner.field-0.0 (λ x k. run k (kinds x.1.now)) (λ k. run (Item.stmt ∷ k) (kinds c.args.ts.now))
    (λ k. run (Item.level Level.Either ∷ Item.sign Sign.Semicolon ∷ k) (kinds c.args.ts.now))
    (λ k. k) c.from_residual.ensures.1
    (λ k. stmt_else k c.args.ts.now c.in-Some.rest.now c.in-Some.first.now c.in-Some.ensures.cases.0 (λ x e. c.in_default-kind.not-Name x e)
    (sym c.is_word.ensures ∙ c.if-is_word.false) (sym c.is_word-2.ensures ∙ c.if-is_word-2.false)
    (sym c.is_word-3.ensures ∙ c.if-is_word-3.false) (sym c.is_word-4.ensures ∙ c.if-is_word-4.false)
    (sym c.is_word-5.ensures ∙ c.if-is_word-5.false)) c.in_err-inner.ensures.read

pub stmt-returns-clause-tree : goal.stmt-returns-clause-tree
stmt-returns-clause-tree g t c =
    let made = c.ended.new.made in
    let end = c.in_ok-inner.rest.now in
    let first = c.in-Some.first.now in
    let e = exp_view c.in_ok-inner.inner in
    let stands = c.in-Some.ensures.cases.0 in
    subst (λ (us : List Token). ReadsStm (tree.Stm.just (place first) e) c.args.made.now made us end) (sym stands)
    (read_just (place first) first refl (subst (λ (us : List Token). ReadsEnded e c.args.made.now made us end) stands c.in_ok-inner.ensures.tree))
