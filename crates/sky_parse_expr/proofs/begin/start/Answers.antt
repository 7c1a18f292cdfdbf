use Rattle.std.proofs.Common.{◌∷◌, sym, ap, ◌∙◌, rules, w64}
use Rattle.std.proofs.lemmas.Int.{to_z-of_z}
use Rattle.sky_text.specs.declared.token.TokenKind.{TokenKind}
use Rattle.sky_base.specs.Tree.{Lit}
use Rattle.sky_parse_grammar.specs.Machine.{Item, run, kinds}
use Rattle.sky_parse_expr.specs.Runs.{behind}
use Rattle.sky_parse_expr.proofs.Moves.{on_kind, passed}
use Rattle.sky_parse_expr.proofs.ExpLaw.{leaf_literal, leaf_name}
use Rattle.sky_parse_expr.proofs.begin.start.Goals as goal

pub returns-in-Ok-clause-tree : goal.returns-in-Ok-clause-tree
returns-in-Ok-clause-tree c = leaf_name c.in-Ok.name c.in-Name.name c.args.made.now c.seen.new.self c.args.ts.now c.in-Some.rest.now
    c.in-Some.first.now c.in-Some.ensures.cases.0 c.in-Name.is c.in-Ok.ensures.0 c.in-Ok.ensures.1

pub returns-in-Number-clause-tree : goal.returns-in-Number-clause-tree
returns-in-Number-clause-tree c =
    let same = to_z-of_z w64 c.in-Number.value (search rules) in
    rw same (leaf_literal (Lit.num c.in-Number.value) c.args.made.now c.args.ts.now c.in-Some.rest.now c.in-Some.first.now
    c.in-Some.ensures.cases.0 c.in-Number.is)

pub returns-in-Ok-share-clause-tree : goal.returns-in-Ok-share-clause-tree
returns-in-Ok-share-clause-tree c = leaf_literal (Lit.text c.in-Ok-share.text) c.args.made.now c.args.ts.now c.in-Some.rest.now
    c.in-Some.first.now c.in-Some.ensures.cases.0 (c.in-Text.is ∙ ap TokenKind.Text (sym c.in-Ok-share.ensures))

pub returns-in-Ok-clause-read : goal.returns-in-Ok-clause-read
returns-in-Ok-clause-read c = λ k. on_kind (Item.primary ∷ k) c.args.ts.now c.in-Some.rest.now c.in-Some.first.now _ c.in-Some.ensures.cases.0
    c.in-Name.is

pub returns-in-Number-clause-read : goal.returns-in-Number-clause-read
returns-in-Number-clause-read c = λ k. on_kind (Item.primary ∷ k) c.args.ts.now c.in-Some.rest.now c.in-Some.first.now _ c.in-Some.ensures.cases.0
    c.in-Number.is

pub returns-in-Ok-share-clause-read : goal.returns-in-Ok-share-clause-read
returns-in-Ok-share-clause-read c = λ k. on_kind (Item.primary ∷ k) c.args.ts.now c.in-Some.rest.now c.in-Some.first.now _ c.in-Some.ensures.cases.0
    c.in-Text.is

pub returns-in-Word-clause-read : goal.returns-in-Word-clause-read
returns-in-Word-clause-read c =
    let rest = c.in-Some.rest.now in
    passed c.begin_word.result (λ x k. run (behind x.0 k) (kinds x.1.now)) (λ k. run (Item.primary ∷ k) (kinds c.args.ts.now))
    (λ k. run (Item.primary ∷ k) (TokenKind.Word c.in-Word.word ∷ kinds rest))
    (λ k. on_kind (Item.primary ∷ k) c.args.ts.now rest c.in-Some.first.now _ c.in-Some.ensures.cases.0 c.in-Word.is) c.begin_word.ensures.read

pub returns-in-Sign-clause-read : goal.returns-in-Sign-clause-read
returns-in-Sign-clause-read c =
    let rest = c.in-Some.rest.now in
    passed c.begin_sign.result (λ x k. run (behind x.0 k) (kinds x.1.now)) (λ k. run (Item.primary ∷ k) (kinds c.args.ts.now))
    (λ k. run (Item.primary ∷ k) (TokenKind.Sign c.in-Sign.sign ∷ kinds rest))
    (λ k. on_kind (Item.primary ∷ k) c.args.ts.now rest c.in-Some.first.now _ c.in-Some.ensures.cases.0 c.in-Sign.is) c.begin_sign.ensures.read
