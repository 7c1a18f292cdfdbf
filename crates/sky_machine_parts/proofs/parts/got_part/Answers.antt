use Rattle.std.proofs.Common.{◌+◌, sym, ap, ◌∙◌, subst}
use Rattle.sky_base.specs.View.{view}
use Rattle.sky_base.specs.TreeView.{at}
use Rattle.sky_base.specs.Eval.{eval_parts}
use Rattle.sky_base_scope.specs.Plain.{items}
use Rattle.sky_base_scope.specs.RunView.{KeptVals}
use Rattle.sky_machine_code.specs.Shapes.{form_view, rest_view}
use Rattle.sky_machine_entries.specs.Config.{body_in, rest_in}
use Rattle.sky_machine_entries.specs.Entries.{forms}
use Rattle.sky_machine_parts.specs.Made.{whole}
use Rattle.sky_machine_parts.proofs.Items.{items_push, items_vals, kept_push}
use Rattle.sky_machine_parts.proofs.parts.got_part.Goals as goal

pub more_parts-requires-clause-kept : goal.more_parts-requires-clause-kept
more_parts-requires-clause-kept g c =
    let p = c.args.part in
    subst KeptVals (sym c.in_ok-push.ensures.ok)
    (kept_push p.values (view c.args.v) (subst KeptVals (items_vals p.values) c.requires.entry.2) c.requires.kept)

pub returns-clause-same : goal.returns-clause-same
returns-clause-same g c = λ w h.
    let p = c.args.part in
    let old = c.args.entries.now.items in
    let body = body_in w (forms old) in
    c.in_ok-control.ensures.same w h
    ∙ ap (λ us. whole (g.N.Namer.digest c.args.ground.now.namer.now) c.args.made.now.items
    (rest_in w old (eval_parts w body (rest_view p.rest) p.node (p.step + 1) p.next (form_view p.form) (at p.line p.col) us
    c.args.state.now))) (ap items c.in_ok-push.ensures.ok ∙ items_push p.values (view c.args.v))
