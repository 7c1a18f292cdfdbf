use Rattle.std.proofs.Common.{List, ◌∙◌, sym, refl, subst}
use Rattle.sky_text.specs.declared.token.Token.{Token}
use Rattle.sky_parse.specs.Scripts.{SoFar}
use Rattle.sky_parse_expr.proofs.Builds.{emptied}
use Rattle.sky_parse.proofs.StmtMoves.{tops_end}
use Rattle.sky_parse.proofs.ScriptLaw.{so_none, so_all}
use Rattle.sky_parse.proofs.script.tops.Goals as goal

pub loop-rest-init : goal.loop-rest-init
loop-rest-init c = record {
  read = λ k. refl;
  tree = so_none _ c.args.ts.now c.new.ensures.items c.new-2.ensures.items c.new-3.ensures c.new-4.ensures;
}

pub loop-rest-preserved : goal.loop-rest-preserved
loop-rest-preserved c = record {
  read = λ k. c.loop-rest.invariant.read k ∙ c.in_ok-rest.ensures.read k;
  tree = c.in_ok-rest.ensures.tree c.args.ts.now c.loop-rest.invariant.tree;
}

pub returns-clause-read : goal.returns-clause-read
returns-clause-read c = λ k. c.loop-rest.invariant.read k ∙ tops_end k c.loop-rest.rest.now (sym c.is_empty.ensures ∙ c.loop-rest-test.false)

pub returns-clause-tree : goal.returns-clause-tree
returns-clause-tree c = so_all c.loop-rest.read c.args.ts.now
    (subst (λ (rest : List Token). SoFar c.loop-rest.read c.args.ts.now rest)
    (emptied c.loop-rest.rest.now (sym c.is_empty.ensures ∙ c.loop-rest-test.false)) c.loop-rest.invariant.tree)
