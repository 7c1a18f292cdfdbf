use Rattle.std.proofs.Common.{◌∷◌, List, arith}
use Rattle.sky_base.specs.declared.tree.Step.{Step}
use Rattle.sky_base.specs.TreeView.{at, steps_view}
use Rattle.sky_text.specs.declared.token.Token.{Token}
use Rattle.sky_parse_grammar.specs.Grammar.{name_at}
use Rattle.sky_parse_held.specs.Held.{Held}
use Rattle.sky_parse_expr.specs.Reads.{ReadsSteps}
use Rattle.sky_parse_expr.proofs.ReadsLaw.{at_front, onto_end}
use Rattle.sky_parse_expr.proofs.ExpLaw.{as_is, lower, read_name, read_stepped, read_no_steps}
use Rattle.sky_parse.proofs.StmLaw.{read_ended, read_just}
use Rattle.sky_parse.proofs.stmt.just.Goals as goal

abbrev StepsV : List Step → Held → Held → List Token → List Token → Type 0
StepsV ys = ReadsSteps (steps_view ys)

pub returns-clause-tree : goal.returns-clause-tree
returns-clause-tree g c = λ h a t from n fit o.
    let p = at c.args.line c.args.col in
    let made = c.steps.new.made in
    let mid = c.in_ok-steps.rest.now in
    let steps = onto_end StepsV c.in_ok-steps.steps.items a made from mid (c.in_ok-steps.ensures.tree a from o) (read_no_steps made mid) in
    let name = read_name c.args.name p h a (t ∷ from) from n (at_front (name_at c.args.name p) t from fit) in
    let first = as_is c.in-Ok.ensures (read_stepped name steps) in
    read_just p t fit.1 (read_ended (c.in_ok-inner.ensures.tree h (t ∷ from) (lower (omega arith) first)) c.in_ok-rest.ensures.spelled)
