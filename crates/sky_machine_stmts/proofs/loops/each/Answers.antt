use Rattle.std.proofs.Common.{◌+◌, refl, sym, ap, ◌∙◌, arith}
use Rattle.sky_base.specs.View.{view}
use Rattle.sky_base.specs.TreeView.{at}
use Rattle.sky_base.specs.Eval.{each, left, set_var, eval_block, body_at}
use Rattle.sky_base_scope.proofs.Vars.{kept_at, kept_parts, left_here, left_past}
use Rattle.sky_machine_entries.specs.Config.{room, body_in, rest_in, config}
use Rattle.sky_machine_entries.specs.Entries.{forms}
use Rattle.sky_machine_stmts.proofs.Blocks.{each_begun, place_small}
use Rattle.sky_machine_stmts.proofs.loops.each.Goals as goal

pub returns-in-None-clause-same : goal.returns-in-None-clause-same
returns-in-None-clause-same c = λ w.
    let t = c.args.turn in
    let old = c.args.entries.now.items in
    ap (rest_in w old) (ap (λ us. each us t.node t.block t.taken (at t.line t.col) t.name.now t.list t.body.now
    (eval_block w (body_in w (forms old)) t.body.now t.block) c.args.state.now) (sym (left_past t.list t.taken c.in-None.ensures)))

pub returns-then-not-visit-clause-same : goal.returns-then-not-visit-clause-same
returns-then-not-visit-clause-same c = λ w.
    let t = c.args.turn in
    let old = c.args.entries.now.items in
    ap (λ x. config w old x c.visit.new.state) c.fail.ensures
    ∙ ap (rest_in w old) (sym (c.visit.ensures.failed c.if-not-visit.true _)
    ∙ ap (λ us. each us t.node t.block t.taken (at t.line t.col) t.name.now t.list t.body.now
    (eval_block w (body_in w (forms old)) t.body.now t.block) c.args.state.now)
    (sym (left_here t.list t.taken (view c.in-Some.v.now) c.in-Some.ensures)))

pub set-requires : goal.set-requires
set-requires c =
    rw c.in_ok-v-in-Some.ensures (kept_at c.args.turn.list c.args.turn.taken (view c.in-Some.v.now) c.in-Some.ensures
    (kept_parts c.args.turn.list c.requires.entry.1))

pub overflow_add-turn : goal.overflow_add-turn
overflow_add-turn c =
    omega (arith, place_small c.args.turn.list c.args.turn.taken (view c.in-Some.v.now) c.in-Some.ensures, c.requires.entry.1.large)

pub returns-clause-same : goal.returns-clause-same
returns-clause-same c = λ w.
    let t = c.args.turn in
    let p = at t.line t.col in
    let v = view c.in-Some.v.now in
    let st = c.set.new.self in
    let old = c.args.entries.now.items in
    let now = room w (forms old) in
    let inside = room w (forms c.push.new.entries.items) in
    let set = c.in_ok-set.ensures.ok ∙ ap (λ u. set_var t.name.now (view u) c.visit.new.state) c.in_ok-v-in-Some.ensures in
    c.in_ok-control.ensures.same w st ∙ c.in_ok-push.ensures.rest w (eval_block w (body_at w inside) t.body.now t.block st)
    ∙ ap (rest_in w old) (each_begun w now inside (c.in_ok-push.ensures.room w) t.node t.block t.taken (t.taken + 1) p t.name.now t.list
    (left t.taken t.list) v t.body.now c.args.state.now c.visit.new.state st refl (left_here t.list t.taken v c.in-Some.ensures)
    (c.visit.ensures.more c.if-not-visit.false) set)
