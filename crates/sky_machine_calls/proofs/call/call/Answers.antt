use Rattle.std.proofs.Common.{sym, ap, ◌∙◌, subst}
use Rattle.sky_base.specs.Res.{others}
use Rattle.sky_base.specs.TreeView.{at, exps_view, steps_view}
use Rattle.sky_base.specs.View.{view}
use Rattle.sky_base.specs.Eval.{Body, bind, eval_block, body_at}
use Rattle.sky_base_law.specs.Nodes.{node_at}
use Rattle.sky_base_scope.specs.Plain.{Vars}
use Rattle.sky_base_scope.specs.RunView.{KeptPairs}
use Rattle.sky_machine_entries.specs.Config.{room, rest_in, config}
use Rattle.sky_machine_entries.specs.Entries.{forms}
use Rattle.sky_machine_calls.proofs.Begun.{entering, opens, call_is, too_deep, no_body, enters, starts_so, open_ready}
use Rattle.sky_machine_calls.proofs.Rooms.{room_is}
use Rattle.sky_base_law.proofs.BodiesLaw.{body_stands}
use Rattle.sky_machine_calls.proofs.call.call.Goals as goal

pub returns-then-not-visit-clause-same : goal.returns-then-not-visit-clause-same
returns-then-not-visit-clause-same c = λ w h.
    let a = c.args.call in
    let old = c.args.entries.now.items in
    let d = room w (forms old) in
    let p = at a.line a.col in
    let ss = steps_view a.rest.now in
    ap (λ x. config w old x c.visit.new.state) c.fail.ensures
    ∙ ap (rest_in w old) (sym (c.visit.ensures.failed c.if-not-visit.true (opens w d a.node a.step a.next p (view a.fun) a.args ss))
    ∙ call_is w d a.node a.step a.next p (view a.fun) a.args (exps_view a.more.now) ss c.args.state.now c.requires.done)

pub returns-in-Err-clause-same : goal.returns-in-Err-clause-same
returns-in-Err-clause-same c = λ w h.
    let a = c.args.call in
    let old = c.args.entries.now.items in
    let d = room w (forms old) in
    let p = at a.line a.col in
    let ss = steps_view a.rest.now in
    let st = c.visit.new.state in
    ap (λ x. config w old x st) c.fail-in-Err.ensures
    ∙ ap (rest_in w old) (sym (c.in-Err.ensures.err w p st (entering w d a.node a.step a.next p a.args ss st) h)
    ∙ sym (c.visit.ensures.more c.if-not-visit.false (opens w d a.node a.step a.next p (view a.fun) a.args ss))
    ∙ call_is w d a.node a.step a.next p (view a.fun) a.args (exps_view a.more.now) ss c.args.state.now c.requires.done)

pub returns-then-left-eq0-clause-same : goal.returns-then-left-eq0-clause-same
returns-then-left-eq0-clause-same c = λ w h.
    let a = c.args.call in
    let old = c.args.entries.now.items in
    let d = room w (forms old) in
    let p = at a.line a.col in
    let ss = steps_view a.rest.now in
    let st = c.visit.new.state in
    let g = c.in-Ok.callee in
    let none = room_is w (forms old) others c.args.left.now c.requires.room ∙ c.if-left-eq0.true in
    ap (λ x. config w old x st) c.fail-then-left-eq0.ensures
    ∙ ap (rest_in w old) (too_deep w d a.node a.step a.next p g.name.now g.caught.now a.args ss st none
    ∙ sym (c.in-Ok.ensures.ok w p st (entering w d a.node a.step a.next p a.args ss st) h)
    ∙ sym (c.visit.ensures.more c.if-not-visit.false (opens w d a.node a.step a.next p (view a.fun) a.args ss))
    ∙ call_is w d a.node a.step a.next p (view a.fun) a.args (exps_view a.more.now) ss c.args.state.now c.requires.done)

pub returns-in_default-clause-same : goal.returns-in_default-clause-same
returns-in_default-clause-same c = λ w h.
    let a = c.args.call in
    let old = c.args.entries.now.items in
    let d = room w (forms old) in
    let p = at a.line a.col in
    let ss = steps_view a.rest.now in
    let st = c.visit.new.state in
    let g = c.in-Ok.callee in
    let some = room_is w (forms old) others c.args.left.now c.requires.room in
    ap (λ x. config w old x st) c.fail-in_default.ensures
    ∙ ap (rest_in w old) (no_body w d a.node a.step a.next p g.name.now g.caught.now a.args ss st c.args.code.now c.args.left.now some
    c.if-left-eq0.false h c.in_default.ensures ∙ sym (c.in-Ok.ensures.ok w p st (entering w d a.node a.step a.next p a.args ss st) h)
    ∙ sym (c.visit.ensures.more c.if-not-visit.false (opens w d a.node a.step a.next p (view a.fun) a.args ss))
    ∙ call_is w d a.node a.step a.next p (view a.fun) a.args (exps_view a.more.now) ss c.args.state.now c.requires.done)

pub open_block-requires-clause-ready : goal.open_block-requires-clause-ready
open_block-requires-clause-ready c =
    let a = c.args.call in
    c.in_ok-push-in-Ok.ensures.ready c.args.code.now c.requires.ready
    (open_ready (λ i. node_at c.args.code.now i) a.step a.next (exps_view a.more.now) (steps_view a.rest.now) _ c.requires.done
    c.requires.steps c.requires.fits (subst (λ (s : Vars). KeptPairs s.vars) c.caller.view_is c.caller.invariant))

pub open_block-requires-clause-has : goal.open_block-requires-clause-has
open_block-requires-clause-has c =
    body_stands c.args.code.now c.in-Ok.callee.name.now _ c.in-Some.ensures

pub returns-clause-same : goal.returns-clause-same
returns-clause-same c = λ w h.
    let a = c.args.call in
    let old = c.args.entries.now.items in
    let mid = c.push.new.entries.items in
    let d = room w (forms old) in
    let p = at a.line a.col in
    let ss = steps_view a.rest.now in
    let st = c.visit.new.state in
    let g = c.in-Ok.callee in
    let inner = c.bind.new.self in
    let b : Body = record { params = c.in-Some.body.params.now; block = c.in-Some.body.block.now; node = c.in-Some.body.node } in
    let i = room w (forms mid) in
    ap (config w c.open_block.new.entries.items c.in_ok-control-in-Ok.control) c.replace-caller.ensures.after
    ∙ c.in_ok-control-in-Ok.ensures.same w inner ∙ c.in_ok-push-in-Ok.ensures.rest w (eval_block w (body_at w i) b.block b.node inner)
    ∙ ap (rest_in w old) (enters w d a.node a.step a.next p g.name.now g.caught.now a.args ss st c.args.code.now c.args.left.now i b inner
    c.replace-caller.result c.in_ok-fun-in-Ok.fun (room_is w (forms old) others c.args.left.now c.requires.room) c.if-left-eq0.false
    c.in_ok-fun-in-Ok.ensures c.replace-caller.ensures.value (c.in_ok-push-in-Ok.ensures.room w) h c.in-Some.ensures
    (starts_so (bind b.params a.args g.caught.now) st c.new-inner.result inner c.count.result c.in_ok-bind-in-Ok.ensures.ok c.new-inner.ensures
    c.count.ensures) ∙ sym (c.in-Ok.ensures.ok w p st (entering w d a.node a.step a.next p a.args ss st) h)
    ∙ sym (c.visit.ensures.more c.if-not-visit.false (opens w d a.node a.step a.next p (view a.fun) a.args ss))
    ∙ call_is w d a.node a.step a.next p (view a.fun) a.args (exps_view a.more.now) ss c.args.state.now c.requires.done)
