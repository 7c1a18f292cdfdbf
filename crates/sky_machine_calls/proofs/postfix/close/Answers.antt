use Rattle.std.proofs.Common.{◌+◌, ap, ◌∙◌}
use Rattle.sky_base.specs.View.{view}
use Rattle.sky_base.specs.TreeView.{steps_view}
use Rattle.sky_base.specs.Res.{with_vars}
use Rattle.sky_base.specs.Eval.{eval_steps}
use Rattle.sky_base_scope.specs.Plain.{Vars}
use Rattle.sky_machine_entries.specs.Config.{body_in, rest_in}
use Rattle.sky_machine_entries.specs.Entries.{forms}
use Rattle.sky_machine_calls.proofs.postfix.close.Goals as goal

pub returns-clause-same : goal.returns-clause-same
returns-clause-same c = λ w h.
    let k = c.args.call in
    let old = c.args.entries.now.items in
    c.in_ok-control.ensures.same w h
    ∙ ap (λ st. rest_in w old (eval_steps w (body_in w (forms old)) (steps_view k.rest.now) k.node (k.step + 1) k.next (view c.args.v) st))
    (c.resume.ensures ∙ ap (λ (s : Vars). with_vars s.vars c.replace-inner.result) c.replace-inner.ensures.after
    ∙ ap (with_vars k.caller.vars) c.replace-inner.ensures.value)
