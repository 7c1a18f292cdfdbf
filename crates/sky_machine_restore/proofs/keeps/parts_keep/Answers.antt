use Rattle.std.proofs.Common.{◌≤◌, sym, subst, arith}
use Rattle.sky_base.specs.Tree.{Exp}
use Rattle.sky_base.specs.TreeView.{at, exp_view}
use Rattle.sky_base_law.specs.Nodes.{node_at}
use Rattle.sky_base_law.specs.Opened.{exp_node, HasExps}
use Rattle.sky_machine_code.specs.Shapes.{form_view, rest_view}
use Rattle.sky_machine_restore.proofs.KeptCounts.{part_keeps, all_keep}
use Rattle.sky_machine_restore.proofs.keeps.parts_keep.Goals as goal

pub skip_parts-place-requires : goal.skip_parts-place-requires
skip_parts-place-requires c =
    let here = c.inside.ensures.here (exp_node (Exp.parts (form_view c.args.form) (at c.args.line c.args.col) (rest_view c.args.parts)))
    c.requires.0 in
    subst (HasExps (λ i. node_at c.args.code.now i) (rest_view c.args.parts)) (sym here) c.requires.1

pub returns-in-Some : goal.returns-in-Some
returns-in-Some c =
    let p = at c.args.line c.args.col in
    let here = c.inside.ensures.here (exp_node (Exp.parts (form_view c.args.form) p (rest_view c.args.parts))) c.requires.0 in
    let place = c.skip_parts-place.result in
    let some : 1 ≤ c.args.step = omega (arith, c.if-step-eq0.false) in
    λ s. part_keeps (form_view c.args.form) p (rest_view c.args.parts) c.args.number c.inside.result place.next (rest_view place.rest)
    c.args.step (exp_view c.in-Some.field-0.part.now) (rest_view c.in-Some.field-0.rest) here c.skip_parts-place.ensures.place
    c.in-Some.ensures some s

pub returns-in-None : goal.returns-in-None
returns-in-None c =
    let p = at c.args.line c.args.col in
    let here = c.inside.ensures.here (exp_node (Exp.parts (form_view c.args.form) p (rest_view c.args.parts))) c.requires.0 in
    let place = c.skip_parts-place.result in
    let some : 1 ≤ c.args.step = omega (arith, c.if-step-eq0.false) in
    λ s. all_keep (form_view c.args.form) p (rest_view c.args.parts) c.args.number c.inside.result place.next (rest_view place.rest) c.args.step
    here c.skip_parts-place.ensures.place c.in-None.ensures some s
