use Rattle.std.proofs.Common.{◌≡◌, ◌∷◌, ◌++◌, List, [], length, length-append, ℕ, suc, true, false, sym, ap, subst, ◌∙◌, arith}
use Rattle.sky_base.specs.declared.tree.Expr.{Expr}
use Rattle.sky_base.specs.declared.tree.Link.{Link}
use Rattle.sky_base.specs.declared.tree.Join.{Join}
use Rattle.sky_base.specs.declared.tree.Step.{Step}
use Rattle.sky_base.specs.TreeView.{at, arith_view, order_view, exps_view, links_view, ands_view, steps_view, signs_view}
use Rattle.sky_base.specs.Tree as tree
use Rattle.sky_text.specs.declared.token.Sign.{Sign}
use Rattle.sky_text.specs.declared.token.Token.{Token}
use Rattle.sky_parse_grammar.specs.Signs.{is, at_sign}
use Rattle.sky_parse_grammar.specs.Levels.{rank, junction, join_sign, at_oper}
use Rattle.sky_parse_grammar.specs.declared.level.Level.{Level}
use Rattle.sky_parse_grammar.specs.declared.parts.Shape.{Shape}
use Rattle.sky_parse_grammar.specs.Machine.{Item, tails, run, kinds}
use Rattle.sky_parse_grammar.specs.Parts.{separator, ready, step_shape, step_sign, head_shape}
use Rattle.sky_parse_grammar.specs.Grammar as g
use Rattle.sky_parse_grammar.specs.Grammar.{place, oper_sign, order_sign, Spelled}
use Rattle.sky_parse_grammar.proofs.Operands.{level_is}
use Rattle.sky_parse_expr.specs.Runs.{at_next}
use Rattle.sky_parse_expr.specs.Begun.{Begun}
use Rattle.sky_parse_held.specs.Held.{Held}
use Rattle.sky_parse_expr.specs.Reads.{Onto, ReadsExp, ReadsLinks, ReadsAnds, ReadsSteps, ReadsParts}
use Rattle.sky_parse_expr.proofs.ReadsLaw.{sign_front, sign_placed, onto_none, onto_one, onto_end}
use Rattle.sky_parse_expr.proofs.ExpLaw.{as_is, lower, read_chained, read_link, read_no_links, read_compared, read_joined, read_and, read_no_ands}
use Rattle.sky_parse_expr.proofs.ExpLaw.{read_prefixed, read_stepped, read_no_steps, read_formed, read_step, parts_begun, parts_next, parts_done}
use Rattle.sky_parse_expr.proofs.LevelsLaw.{join_is, junction_rank, sum_high, truth_low}
use Rattle.sky_parse_expr.proofs.Moves.{exit, passed, link_goes, join_goes, join_ends, compare_goes, step_goes, steps_end, tail_ends, prefix_tail}
use Rattle.sky_parse_expr.proofs.Moves.{tails_on, tails_end, stepped_is}
use Rattle.sky_parse_expr.proofs.expr.+expr.Goals as goal

-- what is read of lists of links, of joins and of steps
abbrev LinksV : Level → List Link → Held → Held → List Token → List Token → Type 0
LinksV l ys = ReadsLinks (rank l) (links_view ys)

abbrev AndsV : Level → List Join → Held → Held → List Token → List Token → Type 0
AndsV l ys = ReadsAnds (junction l) (ands_view ys)

abbrev StepsV : List Step → Held → Held → List Token → List Token → Type 0
StepsV ys = ReadsSteps (steps_view ys)

pub links-loop-op-preserved : goal.links-loop-op-preserved
links-loop-op-preserved f t c =
    let l = c.loop-op in
    let some = c.in-Some.ensures.some in
    let sign = c.in-Some.sign.now in
    let o = arith_view c.in-Some.op in
    let x : Link = record { op = c.in-Some.op; line = sign.line; col = sign.col; operand = c.in_ok-operand.operand } in
    let all : c.push_reserved.new.self.items ≡ l.items.items ++ x ∷ [] = c.push_reserved.ensures.items
    ∙ ap (λ (xs : List Link). xs ++ x ∷ []) c.reserve.ensures.items in
    let next = c.in_ok-operand.after.now in
    record {
      read = λ k. l.invariant.read k ∙ link_goes c.args.level c.args.inner c.in-Some.op k l.rest.now c.in-Some.after.now sign c.requires.tighter
          c.requires.arithmetic.0 c.requires.arithmetic.1 some.0 some.1 some.2 ∙ c.in_ok-operand.ensures.read (Item.tail c.args.level ∷ k);
      tree = subst (λ (xs : List Link). Onto (LinksV c.args.level) xs c.args.made.now c.at_level.new.made c.args.ts.now next) (sym all)
          (onto_one (LinksV c.args.level) l.items.items c.args.made.now l.made c.at_level.new.made c.args.ts.now l.rest.now next x
          l.invariant.tree (λ ys d end h. read_link (rank c.args.level) o (place sign) some.2
          (sign_placed (oper_sign o) l.rest.now c.in-Some.after.now sign some.0 some.1)
          (lower (omega (arith, c.requires.tighter)) c.in_ok-operand.ensures.tree) h));
      less = omega (arith, l.invariant.less, ap length some.0, c.in_ok-operand.ensures.less);
    }

pub links-returns-in_err-operand-clause-read : goal.links-returns-in_err-operand-clause-read
links-returns-in_err-operand-clause-read f t c =
    let l = c.loop-op in
    let some = c.in-Some.ensures.some in
    let sign = c.in-Some.sign.now in
    let after = c.in-Some.after.now in
    exit c.from_residual.result c.in_err-operand.field-0.0 (λ x k. run k (kinds x.1.now))
    (λ k. run (Item.tail c.args.level ∷ k) (kinds c.args.ts.now)) (λ k. run (Item.level c.args.inner ∷ k) (kinds after))
    (λ k. Item.tail c.args.level ∷ k) c.from_residual.ensures.1
    (λ k. l.invariant.read k ∙ link_goes c.args.level c.args.inner c.in-Some.op k l.rest.now after sign c.requires.tighter
    c.requires.arithmetic.0 c.requires.arithmetic.1 some.0 some.1 some.2) c.in_err-operand.ensures.read

pub links-returns-clause-read : goal.links-returns-clause-read
links-returns-clause-read f t c = λ k. c.loop-op.invariant.read k ∙ tail_ends c.args.level k c.loop-op.rest.now c.in_default.ensures.none

pub links-returns-clause-tree : goal.links-returns-clause-tree
links-returns-clause-tree f t c = onto_end (LinksV c.args.level) c.loop-op.items.items c.args.made.now c.loop-op.made c.args.ts.now
    c.loop-op.rest.now c.loop-op.invariant.tree (read_no_links (rank c.args.level) c.loop-op.made c.loop-op.rest.now)

pub joins-loop-sign-preserved : goal.joins-loop-sign-preserved
joins-loop-sign-preserved f t c =
    let l = c.loop-sign in
    let some = c.in-Some.ensures.some in
    let sign = c.in-Some.sign.now in
    let j = junction c.args.level in
    let joint : is (join_sign c.args.level) sign.kind ≡ true = subst (λ (s : Sign). is s sign.kind ≡ true) c.join_sign.ensures some.1 in
    let joins : is (g.junction_sign j) sign.kind ≡ true = subst (λ (s : Sign). is s sign.kind ≡ true) (join_is c.args.level) joint in
    let x : Join = record { line = sign.line; col = sign.col; operand = c.in_ok-operand.operand } in
    let all : c.push_reserved.new.self.items ≡ l.items.items ++ x ∷ [] = c.push_reserved.ensures.items
    ∙ ap (λ (xs : List Join). xs ++ x ∷ []) c.reserve.ensures.items in
    let next = c.in_ok-operand.after.now in
    record {
      read = λ k. l.invariant.read k ∙ join_goes c.args.level c.args.inner k l.rest.now c.in-Some.after.now sign c.requires.tighter
          c.requires.of_truth some.0 joint ∙ c.in_ok-operand.ensures.read (Item.tail c.args.level ∷ k);
      tree = subst (λ (xs : List Join). Onto (AndsV c.args.level) xs c.args.made.now c.at_level.new.made c.args.ts.now next) (sym all)
          (onto_one (AndsV c.args.level) l.items.items c.args.made.now l.made c.at_level.new.made c.args.ts.now l.rest.now next x
          l.invariant.tree (λ ys d end h. read_and j (place sign)
          (sign_placed (g.junction_sign j) l.rest.now c.in-Some.after.now sign some.0 joins)
          (lower (omega (arith, c.requires.tighter, junction_rank c.args.level c.requires.of_truth)) c.in_ok-operand.ensures.tree) h));
      less = omega (arith, l.invariant.less, ap length some.0, c.in_ok-operand.ensures.less);
    }

pub joins-returns-in_err-operand-clause-read : goal.joins-returns-in_err-operand-clause-read
joins-returns-in_err-operand-clause-read f t c =
    let l = c.loop-sign in
    let some = c.in-Some.ensures.some in
    let sign = c.in-Some.sign.now in
    let after = c.in-Some.after.now in
    let joint : is (join_sign c.args.level) sign.kind ≡ true = subst (λ (s : Sign). is s sign.kind ≡ true) c.join_sign.ensures some.1 in
    exit c.from_residual.result c.in_err-operand.field-0.0 (λ x k. run k (kinds x.1.now))
    (λ k. run (Item.tail c.args.level ∷ k) (kinds c.args.ts.now)) (λ k. run (Item.level c.args.inner ∷ k) (kinds after))
    (λ k. Item.tail c.args.level ∷ k) c.from_residual.ensures.1
    (λ k. l.invariant.read k ∙ join_goes c.args.level c.args.inner k l.rest.now after sign c.requires.tighter c.requires.of_truth some.0 joint)
    c.in_err-operand.ensures.read

pub joins-returns-clause-read : goal.joins-returns-clause-read
joins-returns-clause-read f t c =
    let rest = c.loop-sign.rest.now in
    let none = subst (λ (s : Sign). at_sign s rest ≡ false) c.join_sign.ensures c.in_default.ensures.none in
    λ k. c.loop-sign.invariant.read k ∙ join_ends c.args.level k rest c.requires.of_truth none

pub joins-returns-clause-tree : goal.joins-returns-clause-tree
joins-returns-clause-tree f t c = onto_end (AndsV c.args.level) c.loop-sign.items.items c.args.made.now c.loop-sign.made c.args.ts.now
    c.loop-sign.rest.now c.loop-sign.invariant.tree (read_no_ands (junction c.args.level) c.loop-sign.made c.loop-sign.rest.now)

pub steps-loop-kind-preserved : goal.steps-loop-kind-preserved
steps-loop-kind-preserved f t c =
    let l = c.loop-kind in
    let some = c.in-Some.ensures.some in
    let sign = c.in-Some.sign.now in
    let kind = c.in-Some.kind in
    let x = c.step_of.result in
    let found = c.in_ok-found.found.items in
    let next = c.in_ok-found.after.now in
    let all : c.push_reserved.new.self.items ≡ l.items.items ++ x ∷ [] = c.push_reserved.ensures.items
    ∙ ap (λ (xs : List Step). xs ++ x ∷ []) c.reserve.ensures.items in
    let parts : ReadsParts (step_shape kind) (exps_view found) l.made c.parts.new.made c.in-Some.after.now next =
    subst (λ (sh : Shape). ReadsParts sh (exps_view found) l.made c.parts.new.made c.in-Some.after.now next) c.shape.ensures
    c.in_ok-found.ensures.tree in
    record {
      read = λ k. l.invariant.read k ∙ step_goes kind k l.rest.now c.in-Some.after.now sign some.0 some.1
          ∙ ap (λ (sh : Shape). run (Item.parts sh ∷ Item.steps ∷ k) (kinds c.in-Some.after.now)) (sym c.shape.ensures)
          ∙ c.in_ok-found.ensures.read (Item.steps ∷ k);
      tree = λ h from o. subst (λ (xs : List Step). Onto StepsV xs h c.parts.new.made from next) (sym all)
          (onto_one StepsV l.items.items h l.made c.parts.new.made from l.rest.now next x (l.invariant.tree h from o)
          (λ ys d end r. subst (λ ss. ReadsSteps ss l.made d l.rest.now end) (sym (c.step_of.ensures (steps_view ys)))
          (read_step kind (place sign) (sign_placed (step_sign kind) l.rest.now c.in-Some.after.now sign some.0 some.1) parts r)));
      less = omega (arith, l.invariant.less, ap length some.0, c.in_ok-found.ensures.less);
    }

pub steps-returns-in_err-found-clause-read : goal.steps-returns-in_err-found-clause-read
steps-returns-in_err-found-clause-read f t c =
    let l = c.loop-kind in
    let some = c.in-Some.ensures.some in
    let after = c.in-Some.after.now in
    exit c.from_residual.result c.in_err-found.field-0.0 (λ x k. run k (kinds x.1.now))
    (λ k. run (Item.steps ∷ k) (kinds c.args.ts.now)) (λ k. run (Item.parts c.shape.result ∷ k) (kinds after))
    (λ k. Item.steps ∷ k) c.from_residual.ensures.1
    (λ k. l.invariant.read k ∙ step_goes c.in-Some.kind k l.rest.now after c.in-Some.sign.now some.0 some.1
    ∙ ap (λ (sh : Shape). run (Item.parts sh ∷ Item.steps ∷ k) (kinds after)) (sym c.shape.ensures)) c.in_err-found.ensures.read

pub steps-returns-clause-read : goal.steps-returns-clause-read
steps-returns-clause-read f t c =
    let none = c.in_default.ensures.none in
    λ k. c.loop-kind.invariant.read k ∙ steps_end k c.loop-kind.rest.now none.0 none.1

pub parts-loop-after-init : goal.parts-loop-after-init
parts-loop-after-init f t c =
    let first = c.in_ok-first.first in
    let items : c.push_reserved.new.self.items ≡ first ∷ [] = c.push_reserved.ensures.items
    ∙ ap (λ (xs : List Expr). xs ++ first ∷ []) (c.reserve.ensures.items ∙ c.new-items.ensures.items) in
    record {
      read = λ k. c.in_default.ensures.read k ∙ c.in_ok-first.ensures.read (Item.others c.args.shape 1 ∷ k)
          ∙ ap (λ (xs : List Expr). run (Item.others c.args.shape (length xs) ∷ k) (kinds c.in_ok-first.rest.now)) (sym items);
      tree = parts_begun c.args.shape c.push_reserved.new.self.items first c.args.made.now c.at_level.new.made c.args.ts.now
          c.in_ok-first.rest.now items c.in_ok-first.ensures.tree;
      less = omega (arith, c.in_ok-first.ensures.less);
    }

pub parts-loop-after-preserved : goal.parts-loop-after-preserved
parts-loop-after-preserved f t c =
    let l = c.loop-after in
    let some = c.in-Some-again.ensures.some in
    let e = c.in_ok-item.item in
    let n : c.len.result ≡ length l.items.items = omega (arith, c.len.ensures, l.items.ok.0) in
    let sign = c.in-Some-again.field-0-0.now in
    let sep : is (separator c.args.shape (length l.items.items)) sign.kind ≡ true =
    subst (λ (m : ℕ). is (separator c.args.shape m) sign.kind ≡ true) n some.1 in
    let all : c.push_reserved-in-Some-again.new.self.items ≡ l.items.items ++ e ∷ [] = c.push_reserved-in-Some-again.ensures.items
    ∙ ap (λ (xs : List Expr). xs ++ e ∷ []) c.reserve-in-Some-again.ensures.items in
    let next : length c.push_reserved-in-Some-again.new.self.items ≡ suc c.len.result = ap length all
    ∙ omega (arith, n, length-append l.items.items (e ∷ [])) in
    record {
      read = λ k. l.invariant.read k ∙ ap (λ (m : ℕ). run (Item.others c.args.shape m ∷ k) (kinds l.rest.now)) (sym n)
          ∙ c.in-Some-again.ensures.read k ∙ c.in_ok-item.ensures.read (Item.others c.args.shape (suc c.len.result) ∷ k)
          ∙ ap (λ (m : ℕ). run (Item.others c.args.shape m ∷ k) (kinds c.in_ok-item.after.now)) (sym next);
      tree = parts_next c.args.shape l.items.items c.push_reserved-in-Some-again.new.self.items e c.args.made.now l.made
          c.at_level-in-Some-again.new.made c.args.ts.now l.rest.now c.in-Some-again.after.now c.in_ok-item.after.now all
          (sign_front (separator c.args.shape (length l.items.items)) l.rest.now c.in-Some-again.after.now sign some.0 sep)
          c.in_ok-item.ensures.tree l.invariant.tree;
      less = omega (arith, l.invariant.less, ap length some.0, c.in_ok-item.ensures.less);
    }

pub parts-returns-in_err-item-clause-read : goal.parts-returns-in_err-item-clause-read
parts-returns-in_err-item-clause-read f t c =
    let l = c.loop-after in
    let n : c.len.result ≡ length l.items.items = omega (arith, c.len.ensures, l.items.ok.0) in
    exit c.from_residual-in_err-item.result c.in_err-item.field-0.0 (λ x k. run k (kinds x.1.now))
    (λ k. run (Item.parts c.args.shape ∷ k) (kinds c.args.ts.now)) (λ k. run (Item.level Level.Either ∷ k) (kinds c.in-Some-again.after.now))
    (λ k. Item.others c.args.shape (suc c.len.result) ∷ k) c.from_residual-in_err-item.ensures.1
    (λ k. l.invariant.read k ∙ ap (λ (m : ℕ). run (Item.others c.args.shape m ∷ k) (kinds l.rest.now)) (sym n)
    ∙ c.in-Some-again.ensures.read k) c.in_err-item.ensures.read

pub parts-returns-in_err-rest-clause-read : goal.parts-returns-in_err-rest-clause-read
parts-returns-in_err-rest-clause-read f t c =
    let l = c.loop-after in
    let n : c.len-2.result ≡ length l.items.items = omega (arith, c.len-2.ensures, l.items.ok.0) in
    let none : at_next c.args.shape c.len-2.result l.rest.now ≡ false =
    subst (λ (m : ℕ). at_next c.args.shape m l.rest.now ≡ false) (omega (arith, n, c.len.ensures, l.items.ok.0))
    c.in_default-again.ensures.none in
    exit c.from_residual-in_err-rest.result c.in_err-rest.field-0.0 (λ x k. run k (kinds x.1.now))
    (λ k. run (Item.parts c.args.shape ∷ k) (kinds c.args.ts.now))
    (λ k. run (Item.others c.args.shape c.len-2.result ∷ k) (kinds l.rest.now))
    (λ k. k) c.from_residual-in_err-rest.ensures.1
    (λ k. l.invariant.read k ∙ ap (λ (m : ℕ). run (Item.others c.args.shape m ∷ k) (kinds l.rest.now)) (sym n))
    (c.in_err-rest.ensures.read none)

pub parts-returns-clause-read : goal.parts-returns-clause-read
parts-returns-clause-read f t c = λ k.
    let l = c.loop-after in
    let n : c.len-2.result ≡ length l.items.items = omega (arith, c.len-2.ensures, l.items.ok.0) in
    let none : at_next c.args.shape c.len-2.result l.rest.now ≡ false =
    subst (λ (m : ℕ). at_next c.args.shape m l.rest.now ≡ false) (omega (arith, n, c.len.ensures, l.items.ok.0))
    c.in_default-again.ensures.none in
    l.invariant.read k ∙ ap (λ (m : ℕ). run (Item.others c.args.shape m ∷ k) (kinds l.rest.now)) (sym n) ∙ c.in_ok-rest.ensures.read none k

pub parts-returns-clause-tree : goal.parts-returns-clause-tree
parts-returns-clause-tree f t c =
    let l = c.loop-after in
    let n : c.len-2.result ≡ length l.items.items = omega (arith, c.len-2.ensures, l.items.ok.0) in
    parts_done c.args.shape l.items.items c.args.made.now l.made c.args.ts.now l.rest.now c.in_ok-rest.rest.now
    (subst (λ (m : ℕ). ready c.args.shape m ≡ true) n c.in_ok-rest.ensures.ready) c.in_ok-rest.ensures.spelled l.invariant.tree

pub parts-returns-clause-less : goal.parts-returns-clause-less
parts-returns-clause-less f t c = omega (arith, c.loop-after.invariant.less, c.in_ok-rest.ensures.less)

pub at_level-returns-in_err-first-clause-read : goal.at_level-returns-in_err-first-clause-read
at_level-returns-in_err-first-clause-read f t c =
    exit c.from_residual.result c.in_err-first.field-0.0 (λ x k. run k (kinds x.1.now))
    (λ k. run (Item.level c.args.level ∷ k) (kinds c.args.ts.now)) (λ k. run (Item.level Level.Prefix ∷ k) (kinds c.args.ts.now))
    (λ k. tails c.args.level k)
    c.from_residual.ensures.1 (λ k. level_is c.args.level k (kinds c.args.ts.now)) c.in_err-first.ensures.read

pub at_level-returns-clause-read : goal.at_level-returns-clause-read
at_level-returns-clause-read f t c = passed c.onward.result (λ x k. run k (kinds x.1.now))
    (λ k. run (Item.level c.args.level ∷ k) (kinds c.args.ts.now)) (λ k. run (tails c.args.level k) (kinds c.in_ok-first.rest.now))
    (λ k. level_is c.args.level k (kinds c.args.ts.now) ∙ c.in_ok-first.ensures.read (tails c.args.level k)) c.onward.ensures.read

pub onward-returns-in_default-clause-read : goal.onward-returns-in_default-clause-read
onward-returns-in_default-clause-read f t c = λ k. ap (λ (i : List Item). run i (kinds c.args.ts.now))
    (tails_end c.args.level k (sym c.in_default.ensures))

pub onward-returns-in_err-first-clause-read : goal.onward-returns-in_err-first-clause-read
onward-returns-in_err-first-clause-read f t c =
    exit c.from_residual.result c.in_err-first.field-0.0 (λ x k. run k (kinds x.1.now)) (λ k. run (tails c.args.level k) (kinds c.args.ts.now))
    (λ k. run (tails c.in-Some.inner k) (kinds c.args.ts.now)) (λ k. Item.tail c.args.level ∷ k)
    c.from_residual.ensures.1 (λ k. ap (λ (i : List Item). run i (kinds c.args.ts.now))
    (tails_on c.args.level c.in-Some.inner k (sym c.in-Some.ensures))) c.in_err-first.ensures.read

pub onward-returns-clause-read : goal.onward-returns-clause-read
onward-returns-clause-read f t c = passed c.tail.result (λ x k. run k (kinds x.1.now)) (λ k. run (tails c.args.level k) (kinds c.args.ts.now))
    (λ k. run (Item.tail c.args.level ∷ k) (kinds c.in_ok-first.rest.now))
    (λ k. ap (λ (i : List Item). run i (kinds c.args.ts.now)) (tails_on c.args.level c.in-Some.inner k (sym c.in-Some.ensures))
    ∙ c.in_ok-first.ensures.read (Item.tail c.args.level ∷ k)) c.tail.ensures.read

pub operand-returns-in_err-first-clause-read : goal.operand-returns-in_err-first-clause-read
operand-returns-in_err-first-clause-read f t c =
    let rest = c.in_ok-signs.rest.now in
    exit c.from_residual-in_err-first.result c.in_err-first.field-0.0 (λ x k. run k (kinds x.1.now))
    (λ k. run (Item.level Level.Prefix ∷ k) (kinds c.args.ts.now)) (λ k. run (Item.primary ∷ k) (kinds rest)) (λ k. Item.steps ∷ k)
    c.from_residual-in_err-first.ensures.1 (λ k. c.in_ok-signs.ensures.read k ∙ stepped_is k rest) c.in_err-first.ensures.read

pub operand-returns-in_err-steps-clause-read : goal.operand-returns-in_err-steps-clause-read
operand-returns-in_err-steps-clause-read f t c =
    let rest = c.in_ok-signs.rest.now in
    exit c.from_residual-in_err-steps.result c.in_err-steps.field-0.0 (λ x k. run k (kinds x.1.now))
    (λ k. run (Item.level Level.Prefix ∷ k) (kinds c.args.ts.now)) (λ k. run (Item.steps ∷ k) (kinds c.in_ok-first.rest.now)) (λ k. k)
    c.from_residual-in_err-steps.ensures.1 (λ k. c.in_ok-signs.ensures.read k ∙ stepped_is k rest ∙ c.in_ok-first.ensures.read (Item.steps ∷ k))
    c.in_err-steps.ensures.read

pub operand-returns-in-Ok-prefix-clause-read : goal.operand-returns-in-Ok-prefix-clause-read
operand-returns-in-Ok-prefix-clause-read f t c = λ k. c.in_ok-signs.ensures.read k ∙ stepped_is k c.in_ok-signs.rest.now
    ∙ c.in_ok-first.ensures.read (Item.steps ∷ k) ∙ c.in_ok-steps.ensures.read k

pub operand-returns-in-Ok-prefix-clause-tree : goal.operand-returns-in-Ok-prefix-clause-tree
operand-returns-in-Ok-prefix-clause-tree f t c =
    let mid = c.primary.new.made in
    let first = c.in_ok-first.rest.now in
    let none : Onto StepsV c.new.result.items mid mid first first =
    subst (λ (xs : List Step). Onto StepsV xs mid mid first first) (sym c.new.ensures.items) (onto_none StepsV mid first) in
    let all = c.in_ok-steps.ensures.tree mid first none in
    let steps = onto_end StepsV c.in_ok-steps.steps.items mid c.steps.new.made first c.in_ok-steps.rest.now all
    (read_no_steps c.steps.new.made c.in_ok-steps.rest.now) in
    as_is c.in-Ok-prefix.ensures (read_prefixed (signs_view c.in_ok-signs.signs.items) c.in_ok-signs.ensures.spelled
    (as_is c.in-Ok.ensures (read_stepped c.in_ok-first.ensures.tree steps)))

pub primary-returns-in-Ok-clause-tree : goal.primary-returns-in-Ok-clause-tree
primary-returns-in-Ok-clause-tree f t c =
    let head = c.in-Open.head in
    let made = c.start.new.made in
    let rest = c.in_ok-opening.rest.now in
    let items = exps_view c.in_ok-items-in-Open.items.items in
    let end = c.in_ok-items-in-Open.rest.now in
    let begun = subst (λ o. Begun o c.args.made.now made c.args.ts.now rest) c.in-Open.is c.in_ok-opening.ensures.tree in
    let parts : ReadsParts (head_shape head) items c.args.made.now c.parts.new.made rest end =
    subst (λ (h : Held). ReadsParts (head_shape head) items h c.parts.new.made rest end) begun.0
    (subst (λ (sh : Shape). ReadsParts sh items made c.parts.new.made rest end) c.shape.ensures c.in_ok-items-in-Open.ensures.tree) in
    as_is c.in-Ok.ensures (read_formed head (at c.in-Open.line c.in-Open.col) begun.1 parts)

pub primary-returns-in_ok-name-in-Function-clause-tree : goal.primary-returns-in_ok-name-in-Function-clause-tree
primary-returns-in_ok-name-in-Function-clause-tree f t c =
    let made = c.start.new.made in
    let rest = c.in_ok-opening.rest.now in
    let begun = subst (λ o. Begun o c.args.made.now made c.args.ts.now rest) c.in-Function.is c.in_ok-opening.ensures.tree in
    let e = tree.Exp.func c.in_ok-name-in-Function.name (at c.in-Function.line c.in-Function.col) in
    let tok = begun.1.0 in
    let end = c.in_ok-name-in-Function.rest.now in
    subst (λ (us : List Token). ReadsExp 7 e c.args.made.now c.function.new.made us end) (sym begun.1.1)
    (subst (λ (h : Held). ReadsExp 7 e h c.function.new.made (tok ∷ rest) end) begun.0 (c.in_ok-name-in-Function.ensures.tree tok begun.1.2))

pub tail-returns-in-Ok-clause-tree : goal.tail-returns-in-Ok-clause-tree
tail-returns-in-Ok-clause-tree f t c = λ h from x.
    as_is c.in-Ok.ensures (read_chained (rank c.args.level) (sum_high c.args.level c.in-Sum.is) (lower (omega (arith, c.requires.tighter)) x)
    c.in_ok-links-in-Sum.ensures.tree)

pub tail-returns-in-Ok-logic-clause-tree : goal.tail-returns-in-Ok-logic-clause-tree
tail-returns-in-Ok-logic-clause-tree f t c = λ h from x.
    let level = junction_rank c.args.level (truth_low c.args.level c.in-Either.is) in
    as_is c.in-Ok-logic.ensures (lower (omega (arith, level))
    (read_joined (junction c.args.level) (lower (omega (arith, level, c.requires.tighter)) x) c.in_ok-joins-in-Either.ensures.tree))

pub tail-returns-in-Prefix-clause-read : goal.tail-returns-in-Prefix-clause-read
tail-returns-in-Prefix-clause-read f t c = λ k. prefix_tail c.args.level k c.args.ts.now c.in-Prefix.is

pub tail-returns-in_default-clause-read : goal.tail-returns-in_default-clause-read
tail-returns-in_default-clause-read f t c =
    let none = subst (λ (l : Level). at_oper l c.args.ts.now ≡ false) (sym c.in-Comparison.is) c.in_default.ensures.none in
    λ k. tail_ends c.args.level k c.args.ts.now none

pub tail-returns-in-Ok-compare-clause-read : goal.tail-returns-in-Ok-compare-clause-read
tail-returns-in-Ok-compare-clause-read f t c =
    let three : rank c.args.inner ≡ 3 = omega (arith, c.requires.tighter, ap rank c.in-Comparison.is) in
    let some = c.in-Some.ensures.some in
    λ k. ap (λ (l : Level). run (Item.tail l ∷ k) (kinds c.args.ts.now)) c.in-Comparison.is
    ∙ compare_goes c.args.inner c.in-Some.how k c.args.ts.now c.in-Some.rest.now c.in-Some.sign.now three some.0 some.1
    ∙ c.in_ok-right-in-Comparison.ensures.read k

pub tail-returns-in-Ok-compare-clause-tree : goal.tail-returns-in-Ok-compare-clause-tree
tail-returns-in-Ok-compare-clause-tree f t c = λ h from x.
    let two : rank c.args.level ≡ 2 = ap rank c.in-Comparison.is in
    let some = c.in-Some.ensures.some in
    let sign = c.in-Some.sign.now in
    let o = order_view c.in-Some.how in
    as_is c.in-Ok-compare.ensures (lower (omega (arith, two))
    (read_compared o (place sign) (lower (omega (arith, two, c.requires.tighter)) x)
    (sign_placed (order_sign o) c.args.ts.now c.in-Some.rest.now sign some.0 some.1)
    (lower (omega (arith, two, c.requires.tighter)) c.in_ok-right-in-Comparison.ensures.tree)))
