use Rattle.std.proofs.Common.{◌+◌, sym, ap, ◌∙◌, subst}
use Rattle.sky_base.specs.Tree.{Exps, exps_nodes}
use Rattle.sky_base.specs.View.{view}
use Rattle.sky_base.specs.TreeView.{at, exp_view, exps_view, steps_view, step_view}
use Rattle.sky_base.specs.Eval.{eval, body_at}
use Rattle.sky_base_law.specs.Opened.{HasExps, HasSteps}
use Rattle.sky_base_law.specs.Nodes.{node_at}
use Rattle.sky_machine_entries.specs.Config.{room, rest_in}
use Rattle.sky_machine_entries.specs.Entries.{forms}
use Rattle.sky_machine_calls.specs.Places.{ArgsFit}
use Rattle.sky_machine_calls.proofs.Begun.{index_begun, index_has, index_ready, call_begun, call_has}
use Rattle.sky_machine_calls.proofs.postfix.next_step.Goals as goal

pub after_exp-after-requires : goal.after_exp-after-requires
after_exp-after-requires c =
    let is = ap steps_view c.in-Some.ensures.cases.0 ∙ ap (λ s. step_view s (steps_view c.in-Some.rest.now)) c.in-Index.is in
    index_has (λ i. node_at c.args.code.now i) c.args.postfix.next _ _ _ _ is c.requires.steps

pub returns-in_ok-push-in-Index-clause-same : goal.returns-in_ok-push-in-Index-clause-same
returns-in_ok-push-in-Index-clause-same c = λ w h.
    let p = c.args.postfix in
    let is = ap steps_view c.in-Some.ensures.cases.0 ∙ ap (λ s. step_view s (steps_view c.in-Some.rest.now)) c.in-Index.is in
    let old = c.args.entries.now.items in
    let now = room w (forms old) in
    let inside = room w (forms c.push.new.entries.items) in
    c.in_ok-push-in-Index.ensures.rest w (eval w (body_at w inside) (exp_view c.in-Index.at) p.next c.args.state.now)
    ∙ ap (rest_in w old) (index_begun w now inside (c.in_ok-push-in-Index.ensures.room w) p.node p.step p.next c.after_exp-after.result
    (at c.in-Index.line c.in-Index.col) (view c.args.v) (exp_view c.in-Index.at) (steps_view c.in-Some.rest.now) (steps_view p.rest.now)
    c.args.state.now c.after_exp-after.ensures is)

pub returns-in_ok-push-in-Index-clause-ready : goal.returns-in_ok-push-in-Index-clause-ready
returns-in_ok-push-in-Index-clause-ready c =
    let p = c.args.postfix in
    let is = ap steps_view c.in-Some.ensures.cases.0 ∙ ap (λ s. step_view s (steps_view c.in-Some.rest.now)) c.in-Index.is in
    c.in_ok-push-in-Index.ensures.ready c.args.code.now c.requires.ready
    (index_ready (λ i. node_at c.args.code.now i) p.step p.next c.after_exp-after.result (at c.in-Index.line c.in-Index.col) (view c.args.v)
    (exp_view c.in-Index.at) (steps_view c.in-Some.rest.now) (steps_view p.rest.now) is c.requires.steps c.after_exp-after.ensures
    c.requires.kept c.requires.fits)

pub returns-in_ok-push-in-Index-clause-goes : goal.returns-in_ok-push-in-Index-clause-goes
returns-in_ok-push-in-Index-clause-goes c =
    let is = ap steps_view c.in-Some.ensures.cases.0 ∙ ap (λ s. step_view s (steps_view c.in-Some.rest.now)) c.in-Index.is in
    index_has (λ i. node_at c.args.code.now i) c.args.postfix.next _ _ _ _ is c.requires.steps

pub next_arg-requires-clause-args : goal.next_arg-requires-clause-args
next_arg-requires-clause-args c =
    let p = c.args.postfix in
    let is = ap steps_view c.in-Some.ensures.cases.0 ∙ ap (λ s. step_view s (steps_view c.in-Some.rest.now)) c.in-Call.is in
    subst (λ (es : Exps). HasExps (λ i. node_at c.args.code.now i) es p.next) (sym c.as_slice.ensures)
    (call_has (λ i. node_at c.args.code.now i) p.step p.next _ _ _ _ is c.requires.steps c.requires.fits).0

pub next_arg-requires-clause-steps : goal.next_arg-requires-clause-steps
next_arg-requires-clause-steps c =
    let p = c.args.postfix in
    let is = ap steps_view c.in-Some.ensures.cases.0 ∙ ap (λ s. step_view s (steps_view c.in-Some.rest.now)) c.in-Call.is in
    subst (λ (es : Exps). HasSteps (λ i. node_at c.args.code.now i) (steps_view c.in-Some.rest.now) (p.next + exps_nodes es))
    (sym c.as_slice.ensures) (call_has (λ i. node_at c.args.code.now i) p.step p.next _ _ _ _ is c.requires.steps c.requires.fits).1

pub next_arg-requires-clause-fits : goal.next_arg-requires-clause-fits
next_arg-requires-clause-fits c =
    let p = c.args.postfix in
    let is = ap steps_view c.in-Some.ensures.cases.0 ∙ ap (λ s. step_view s (steps_view c.in-Some.rest.now)) c.in-Call.is in
    subst (λ (es : Exps). ArgsFit p.step es (steps_view c.in-Some.rest.now)) (sym c.as_slice.ensures)
    (call_has (λ i. node_at c.args.code.now i) p.step p.next _ _ _ _ is c.requires.steps c.requires.fits).2

pub returns-in_ok-control-in-Call-clause-same : goal.returns-in_ok-control-in-Call-clause-same
returns-in_ok-control-in-Call-clause-same c = λ w h.
    let p = c.args.postfix in
    let is = ap steps_view c.in-Some.ensures.cases.0 ∙ ap (λ s. step_view s (steps_view c.in-Some.rest.now)) c.in-Call.is in
    let old = c.args.entries.now.items in
    c.in_ok-control-in-Call.ensures.same w h ∙ ap (rest_in w old)
    (call_begun w (room w (forms old)) p.node p.step p.next _ (view c.args.v) c.new.result _ (exps_view c.as_slice.result.now)
    (steps_view c.in-Some.rest.now) (steps_view p.rest.now) c.args.state.now c.as_slice.ensures c.new.ensures is)
