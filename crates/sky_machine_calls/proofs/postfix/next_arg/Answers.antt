use Rattle.std.proofs.Common.{ap, ◌∙◌}
use Rattle.sky_base.specs.View.{view}
use Rattle.sky_base.specs.TreeView.{at, exp_view, exps_view, steps_view}
use Rattle.sky_base.specs.Eval.{eval, body_at}
use Rattle.sky_base_law.specs.Nodes.{node_at}
use Rattle.sky_base_scope.specs.Plain.{items}
use Rattle.sky_machine_entries.specs.Config.{room, rest_in}
use Rattle.sky_machine_entries.specs.Entries.{forms}
use Rattle.sky_machine_calls.proofs.Begun.{arg_begun, arg_has, arg_ready}
use Rattle.sky_machine_calls.proofs.postfix.next_arg.Goals as goal

pub after_exp-after-requires : goal.after_exp-after-requires
after_exp-after-requires c =
    arg_has (λ i. node_at c.args.code.now i) c.args.arg.next _ _ _ (ap exps_view c.in-Some.ensures.cases.0) c.requires.args

pub returns-in_ok-push-in-Some-clause-same : goal.returns-in_ok-push-in-Some-clause-same
returns-in_ok-push-in-Some-clause-same c = λ w h.
    let a = c.args.arg in
    let e = exp_view c.in-Some.first.now in
    let old = c.args.entries.now.items in
    let now = room w (forms old) in
    let inside = room w (forms c.push.new.entries.items) in
    c.in_ok-push-in-Some.ensures.rest w (eval w (body_at w inside) e a.next c.args.state.now)
    ∙ ap (rest_in w old) (arg_begun w now inside (c.in_ok-push-in-Some.ensures.room w) a.node a.step a.next c.after_exp-after.result
    (at a.line a.col) (view a.fun) (items a.args) e (exps_view c.in-Some.more.now) (exps_view a.more.now) (steps_view a.rest.now)
    c.args.state.now c.after_exp-after.ensures (ap exps_view c.in-Some.ensures.cases.0))

pub returns-in_ok-push-in-Some-clause-ready : goal.returns-in_ok-push-in-Some-clause-ready
returns-in_ok-push-in-Some-clause-ready c =
    let a = c.args.arg in
    c.in_ok-push-in-Some.ensures.ready c.args.code.now c.requires.ready
    (arg_ready (λ i. node_at c.args.code.now i) a.step a.next c.after_exp-after.result (view a.fun) a.args _ _ _ (steps_view a.rest.now)
    (ap exps_view c.in-Some.ensures.cases.0) c.after_exp-after.ensures c.requires.args c.requires.steps c.requires.fun c.requires.values
    c.requires.fits)

pub returns-in_ok-push-in-Some-clause-goes : goal.returns-in_ok-push-in-Some-clause-goes
returns-in_ok-push-in-Some-clause-goes c =
    arg_has (λ i. node_at c.args.code.now i) c.args.arg.next _ _ _ (ap exps_view c.in-Some.ensures.cases.0) c.requires.args
