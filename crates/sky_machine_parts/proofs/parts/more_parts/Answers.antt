use Rattle.std.proofs.Common.{ap, ◌∙◌}
use Rattle.sky_base.specs.TreeView.{at, exp_view}
use Rattle.sky_base.specs.Eval.{eval, body_at}
use Rattle.sky_base_law.specs.Nodes.{node_at}
use Rattle.sky_base_scope.specs.Plain.{items}
use Rattle.sky_machine_code.specs.Shapes.{form_view, rest_view}
use Rattle.sky_machine_entries.specs.Config.{room, rest_in}
use Rattle.sky_machine_entries.specs.Entries.{forms}
use Rattle.sky_machine_parts.specs.Made.{whole}
use Rattle.sky_machine_parts.proofs.Pieces.{part_begun, part_has, part_ready}
use Rattle.sky_machine_parts.proofs.parts.more_parts.Goals as goal

pub after_exp-after-requires : goal.after_exp-after-requires
after_exp-after-requires g c =
    part_has (λ i. node_at c.args.ground.now.code.now i) c.args.part.next _ _ _ c.in-Some.ensures c.requires.has

pub returns-in_ok-push-in-Some-clause-same : goal.returns-in_ok-push-in-Some-clause-same
returns-in_ok-push-in-Some-clause-same g c = λ w h.
    let p = c.args.part in
    let f = c.in-Some.first in
    let old = c.args.entries.now.items in
    let now = room w (forms old) in
    let inside = room w (forms c.push.new.entries.items) in
    ap (whole (g.N.Namer.digest c.args.ground.now.namer.now) c.args.made.now.items)
    (c.in_ok-push-in-Some.ensures.rest w (eval w (body_at w inside) (exp_view f.part.now) p.next c.args.state.now)
    ∙ ap (rest_in w old) (part_begun w now inside (c.in_ok-push-in-Some.ensures.room w) p.node p.step p.next c.after_exp-after.result
    (form_view p.form) (at p.line p.col) (items p.values) (exp_view f.part.now) (rest_view f.rest) (rest_view p.rest) c.args.state.now
    c.after_exp-after.ensures c.in-Some.ensures))

pub returns-in_ok-push-in-Some-clause-ready : goal.returns-in_ok-push-in-Some-clause-ready
returns-in_ok-push-in-Some-clause-ready g c =
    let p = c.args.part in
    c.in_ok-push-in-Some.ensures.ready c.args.ground.now.code.now c.requires.ready
    (part_ready (λ i. node_at c.args.ground.now.code.now i) p.step p.next c.after_exp-after.result _ _ _ p.values c.in-Some.ensures
    c.requires.has c.after_exp-after.ensures c.requires.step c.requires.kept)

pub returns-in_ok-push-in-Some-clause-goes : goal.returns-in_ok-push-in-Some-clause-goes
returns-in_ok-push-in-Some-clause-goes g c =
    part_has (λ i. node_at c.args.ground.now.code.now i) c.args.part.next _ _ _ c.in-Some.ensures c.requires.has
