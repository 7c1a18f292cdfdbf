use Rattle.std.proofs.Common.{◌<◌, ◌+◌, sym, ap, ◌∙◌, subst, arith}
use Rattle.sky_base.specs.Tree.{Exp}
use Rattle.sky_base.specs.TreeView.{at}
use Rattle.sky_base.specs.Eval.{eval_parts}
use Rattle.sky_base_law.specs.Opened.{exp_node, HasExps}
use Rattle.sky_base_law.specs.Nodes.{node_at}
use Rattle.sky_base_scope.specs.Plain.{items}
use Rattle.sky_machine_code.specs.Shapes.{form_view, rest_view}
use Rattle.sky_machine_entries.specs.Config.{body_in, rest_in}
use Rattle.sky_machine_entries.specs.Entries.{forms}
use Rattle.sky_machine_parts.specs.Made.{whole}
use Rattle.sky_machine_parts.proofs.parts.begin_parts.Goals as goal

pub more_parts-requires-clause-step : goal.more_parts-requires-clause-step
more_parts-requires-clause-step g c = c.inside-next.ensures.positive

pub more_parts-requires-clause-has : goal.more_parts-requires-clause-has
more_parts-requires-clause-has g c =
    let is = c.inside-next.ensures.here (exp_node (Exp.parts (form_view c.args.form) (at c.args.line c.args.col) (rest_view c.args.parts)))
    c.requires.has.0 in
    subst (HasExps (λ i. node_at c.args.ground.now.code.now i) (rest_view c.args.parts)) (sym is) c.requires.has.1

pub more_parts-requires-clause-kept : goal.more_parts-requires-clause-kept
more_parts-requires-clause-kept g c = rw c.new-values.ensures tt

pub returns-clause-same : goal.returns-clause-same
returns-clause-same g c = λ w h.
    let is = c.inside-next.ensures.here (exp_node (Exp.parts (form_view c.args.form) (at c.args.line c.args.col) (rest_view c.args.parts)))
    c.requires.has.0 in
    let old = c.args.entries.now.items in
    c.in_ok-control.ensures.same w h
    ∙ ap (λ m. whole (g.N.Namer.digest c.args.ground.now.namer.now) c.args.made.now.items
    (rest_in w old (eval_parts w (body_in w (forms old)) (rest_view c.args.parts) c.args.node 1 m (form_view c.args.form)
    (at c.args.line c.args.col) (items c.new-values.result) c.args.state.now))) is
    ∙ ap (λ us. whole (g.N.Namer.digest c.args.ground.now.namer.now) c.args.made.now.items
    (rest_in w old (eval_parts w (body_in w (forms old)) (rest_view c.args.parts) c.args.node 1 (c.args.node + 1) (form_view c.args.form)
    (at c.args.line c.args.col) (items us) c.args.state.now))) c.new-values.ensures

pub returns-clause-falls : goal.returns-clause-falls
returns-clause-falls g c =
    let is = c.inside-next.ensures.here (exp_node (Exp.parts (form_view c.args.form) (at c.args.line c.args.col) (rest_view c.args.parts)))
    c.requires.has.0 in
    let later : c.args.node < c.inside-next.result = omega (arith, is) in
    c.in_ok-control.ensures.goes_in later
