use Rattle.std.proofs.Common.{List, ap, ◌≡◌, refl, ◌∙◌, ◌∷◌, [], ◌++◌}
use Rattle.sky_base.specs.declared.stmt.Stmt.{Stmt}
use Rattle.sky_base.specs.declared.script.FunDef.{FunDef}
use Rattle.sky_text.specs.declared.token.Sign.{Sign}
use Rattle.sky_parse_grammar.specs.Machine.{Item, run, kinds}
use Rattle.sky_parse.specs.declared.script.Read.{Read}
use Rattle.sky_parse_expr.proofs.Moves.{exit}
use Rattle.sky_parse.proofs.StmtMoves.{top_fun, top_stmt}
use Rattle.sky_parse.proofs.ScriptLaw.{so_fun, so_stmt}
use Rattle.sky_parse.proofs.script.top.Goals as goal

pub returns-in-Some-clause-tree : goal.returns-in-Some-clause-tree
returns-in-Some-clause-tree c = λ start so.
    let r = c.args.read.now in
    let d = c.in_ok-fun.fun in
    let s : Read = record {
      funs = c.push_reserved.new.self;
      main = c.reserve-2.new.self;
      known = c.named_function.new.known;
      made =
          c.named_function.new.made;
    } in
    let funs : c.push_reserved.new.self.items ≡ r.funs.items ++ d ∷ [] = c.push_reserved.ensures.items
    ∙ ap (λ (xs : List FunDef). xs ++ d ∷ []) c.reserve.ensures.items in
    let word = c.in-Some.ensures.some in
    so_fun r s d start c.args.ts.now c.in-Some.after.now c.in_ok-fun.rest.now funs c.reserve-2.ensures.items c.in_ok-fun.ensures.known
    c.in_ok-fun.ensures.tree (word.0, word.1, word.2) so

pub returns-clause-tree : goal.returns-clause-tree
returns-clause-tree c = λ start so.
    let r = c.args.read.now in
    let x = c.in_ok-item.item in
    let s : Read = record { funs = c.reserve.new.self; main = c.push_reserved-2.new.self; known = r.known; made = c.top_stmt.new.made } in
    let main : c.push_reserved-2.new.self.items ≡ r.main.items ++ x ∷ [] = c.push_reserved-2.ensures.items
    ∙ ap (λ (xs : List Stmt). xs ++ x ∷ []) c.reserve-2.ensures.items in
    so_stmt r s x start c.args.ts.now c.in_ok-item.rest.now c.reserve.ensures.items main refl c.in_ok-item.ensures.tree so

pub returns-in_err-item-clause-read : goal.returns-in_err-item-clause-read
returns-in_err-item-clause-read c = exit c.from_residual-in_err-item.result c.in_err-item.field-0.0 (λ x k. run (Item.tops ∷ k) (kinds x.now))
    (λ k. run (Item.tops ∷ k) (kinds c.args.ts.now)) (λ k. run (Item.stmt ∷ k) (kinds c.args.ts.now))
    (λ k. Item.tops ∷ k) c.from_residual-in_err-item.ensures.1 (λ k. top_stmt k c.args.ts.now c.requires c.in_default-begin_named.ensures.none)
    c.in_err-item.ensures.read

pub returns-in_err-fun-clause-read : goal.returns-in_err-fun-clause-read
returns-in_err-fun-clause-read c =
    let word = c.in-Some.ensures.some in
    exit c.from_residual.result c.in_err-fun.field-0.0 (λ x k. run (Item.tops ∷ k) (kinds x.now))
    (λ k. run (Item.tops ∷ k) (kinds c.args.ts.now))
    (λ k. run (Item.name ∷ Item.sign Sign.OpenRound ∷ Item.params ∷ Item.block ∷ k) (kinds c.in-Some.after.now))
    (λ k. Item.tops ∷ k) c.from_residual.ensures.1 (λ k. top_fun k c.args.ts.now c.in-Some.after.now word.0 word.1 word.2 word.3)
    c.in_err-fun.ensures.read
