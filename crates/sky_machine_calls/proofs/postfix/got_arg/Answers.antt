use Rattle.std.proofs.Common.{◌+◌, sym, ap, ◌∙◌, subst}
use Rattle.sky_base.specs.View.{view}
use Rattle.sky_base.specs.TreeView.{at, exps_view, steps_view}
use Rattle.sky_base.specs.Eval.{eval_args}
use Rattle.sky_base_scope.specs.Plain.{items}
use Rattle.sky_base_scope.specs.RunView.{KeptVals}
use Rattle.sky_machine_entries.specs.Config.{body_in, rest_in}
use Rattle.sky_machine_entries.specs.Entries.{forms}
use Rattle.sky_machine_calls.specs.Places.{called_from}
use Rattle.sky_machine_calls.proofs.Begun.{items_push, items_vals, kept_push}
use Rattle.sky_machine_calls.proofs.postfix.got_arg.Goals as goal

pub next_arg-requires-clause-values : goal.next_arg-requires-clause-values
next_arg-requires-clause-values c =
    let a = c.args.arg in
    subst KeptVals (sym c.in_ok-push.ensures.ok)
    (kept_push a.args (view c.args.v) (subst KeptVals (items_vals a.args) c.requires.entry.3) c.requires.kept)

pub returns-clause-same : goal.returns-clause-same
returns-clause-same c = λ w h.
    let a = c.args.arg in
    let old = c.args.entries.now.items in
    let ss = steps_view a.rest.now in
    let p = at a.line a.col in
    let body = body_in w (forms old) in
    c.in_ok-control.ensures.same w h
    ∙ ap (λ us. rest_in w old (eval_args w body (exps_view a.more.now) a.node (a.step + 1) a.next p (view a.fun) us ss
    (called_from w body p a.node ss) c.args.state.now)) (ap items c.in_ok-push.ensures.ok ∙ items_push a.args (view c.args.v))
