use Rattle.std.proofs.Common.{◌≡◌, ◌+◌, ◌∙◌, ap, arith, sym, rules, ◌<◌, ◌-◌, suc, true, false}
use Rattle.sky_base.specs.View.{view}
use Rattle.sky_base.specs.TreeView.{at, exp_view}
use Rattle.sky_base_forms.specs.GroundView.{ground_of}
use Rattle.sky_base_scope.specs.Plain.{on_got, body_at, Out, visit, answer, exp, stms, turns, decide, on_goes, repeats}
use Rattle.sky_plain_expr.proofs.Flow.{turns_start, turns_next, turns_over, most_turns, decide_on, decide_off, flows_err, flows_returned, flows_goes}
use Rattle.sky_plain_expr.proofs.Flow.{repeats_start, repeats_next, repeats_over}
use Rattle.sky_base.specs.Res.{visits}
use Rattle.sky_base.specs.Op as op
use Rattle.sky_base.specs.StmtView.{else_view}
use Rattle.sky_base_scope.specs.Plain.{arms, other, each_of}
use Rattle.sky_plain_expr.proofs.Flow.{flows_on, visited_goes}
use Rattle.sky_plain_body.proofs.stmt.+stms.Goals as goal

pub while_loop-loop-turn-init : goal.while_loop-loop-turn-init
while_loop-loop-turn-init g t c =
    let run = ground_of c.args.ground.now in
    let body = body_at run c.args.bodies in
    turns_start (suc visits) (at c.args.line c.args.col) (exp run body (exp_view c.args.test.now)) (stms run body c.args.body.now)
    c.args.rows.now c.args.state.now

pub while_loop-returns-in_err-v-clause-answer : goal.while_loop-returns-in_err-v-clause-answer
while_loop-returns-in_err-v-clause-answer g t c =
    let l = c.loop-turn in
    let run = ground_of c.args.ground.now in
    let body = body_at run c.args.bodies in
    let p = at c.args.line c.args.col in
    let test = exp run body (exp_view c.args.test.now) in
    let blk = stms run body c.args.body.now in
    let h : l._turn < suc visits = omega (arith, most_turns, c.loop-turn-test.true) in
    flows_err c.from_residual.result c.in_err-v.field-0.0 c.expr.new.rows c.expr.new.state
    (turns (suc visits) p test blk c.args.rows.now c.args.state.now) c.from_residual.ensures.1
    (λ ne. l.invariant ∙ turns_next (suc visits) l._turn p test blk l.rows l.state h
    ∙ ap (λ o. on_got o (λ v more s. decide v p more (on_goes (blk more s) (λ last t. turns (suc visits - (l._turn + 1)) p test blk last t))
    (Out.goes more s))) (c.in_err-v.ensures.answer ne))

pub while_loop-returns-in_err-decide-clause-answer : goal.while_loop-returns-in_err-decide-clause-answer
while_loop-returns-in_err-decide-clause-answer g t c =
    let l = c.loop-turn in
    let run = ground_of c.args.ground.now in
    let body = body_at run c.args.bodies in
    let p = at c.args.line c.args.col in
    let test = exp run body (exp_view c.args.test.now) in
    let blk = stms run body c.args.body.now in
    let h : l._turn < suc visits = omega (arith, most_turns, c.loop-turn-test.true) in
    flows_err c.from_residual-in_err-decide.result c.in_err-decide.field-0.0 c.expr.new.rows c.expr.new.state
    (turns (suc visits) p test blk c.args.rows.now c.args.state.now) c.from_residual-in_err-decide.ensures.1
    (λ ne. l.invariant ∙ turns_next (suc visits) l._turn p test blk l.rows l.state h
    ∙ ap (λ o. on_got o (λ v more s. decide v p more (on_goes (blk more s) (λ last t. turns (suc visits - (l._turn + 1)) p test blk last t))
    (Out.goes more s))) c.in_ok-v.ensures.answer
    ∙ c.in_err-decide.ensures.decides c.expr.new.rows
    (on_goes (blk c.expr.new.rows c.expr.new.state) (λ last t. turns (suc visits - (l._turn + 1)) p test blk last t))
    (Out.goes c.expr.new.rows c.expr.new.state))

pub while_loop-returns-then-not-branch-clause-answer : goal.while_loop-returns-then-not-branch-clause-answer
while_loop-returns-then-not-branch-clause-answer g t c =
    let l = c.loop-turn in
    let run = ground_of c.args.ground.now in
    let body = body_at run c.args.bodies in
    let p = at c.args.line c.args.col in
    let test = exp run body (exp_view c.args.test.now) in
    let blk = stms run body c.args.body.now in
    let h : l._turn < suc visits = omega (arith, most_turns, c.loop-turn-test.true) in
    let off : c.in_ok-decide.field-0 ≡ false = search rules in
    l.invariant ∙ turns_next (suc visits) l._turn p test blk l.rows l.state h
    ∙ ap (λ o. on_got o (λ v more s. decide v p more (on_goes (blk more s) (λ last t. turns (suc visits - (l._turn + 1)) p test blk last t))
    (Out.goes more s))) c.in_ok-v.ensures.answer
    ∙ decide_off c.in_ok-decide.field-0 (view c.in_ok-v.v) p c.expr.new.rows
    (on_goes (blk c.expr.new.rows c.expr.new.state) (λ last t. turns (suc visits - (l._turn + 1)) p test blk last t))
    (Out.goes c.expr.new.rows c.expr.new.state) c.in_ok-decide.ensures.decides off

pub while_loop-returns-in_err-v-2-clause-answer : goal.while_loop-returns-in_err-v-2-clause-answer
while_loop-returns-in_err-v-2-clause-answer g t c =
    let l = c.loop-turn in
    let run = ground_of c.args.ground.now in
    let body = body_at run c.args.bodies in
    let p = at c.args.line c.args.col in
    let test = exp run body (exp_view c.args.test.now) in
    let blk = stms run body c.args.body.now in
    let h : l._turn < suc visits = omega (arith, most_turns, c.loop-turn-test.true) in
    let on : c.in_ok-decide.field-0 ≡ true = search rules in
    flows_err c.from_residual-in_err-v-2.result c.in_err-v-2.field-0.0 c.block.new.rows c.block.new.state
    (turns (suc visits) p test blk c.args.rows.now c.args.state.now) c.from_residual-in_err-v-2.ensures.1
    (λ ne. l.invariant ∙ turns_next (suc visits) l._turn p test blk l.rows l.state h
    ∙ ap (λ o. on_got o (λ v more s. decide v p more (on_goes (blk more s) (λ last t. turns (suc visits - (l._turn + 1)) p test blk last t))
    (Out.goes more s))) c.in_ok-v.ensures.answer
    ∙ decide_on c.in_ok-decide.field-0 (view c.in_ok-v.v) p c.expr.new.rows
    (on_goes (blk c.expr.new.rows c.expr.new.state) (λ last t. turns (suc visits - (l._turn + 1)) p test blk last t))
    (Out.goes c.expr.new.rows c.expr.new.state) c.in_ok-decide.ensures.decides on
    ∙ ap (λ o. on_goes o (λ last t. turns (suc visits - (l._turn + 1)) p test blk last t)) (c.in_err-v-2.ensures.answer ne))

pub while_loop-returns-in-Returned-clause-answer : goal.while_loop-returns-in-Returned-clause-answer
while_loop-returns-in-Returned-clause-answer g t c =
    let l = c.loop-turn in
    let run = ground_of c.args.ground.now in
    let body = body_at run c.args.bodies in
    let p = at c.args.line c.args.col in
    let test = exp run body (exp_view c.args.test.now) in
    let blk = stms run body c.args.body.now in
    let h : l._turn < suc visits = omega (arith, most_turns, c.loop-turn-test.true) in
    let on : c.in_ok-decide.field-0 ≡ true = search rules in
    l.invariant ∙ turns_next (suc visits) l._turn p test blk l.rows l.state h
    ∙ ap (λ o. on_got o (λ v more s. decide v p more (on_goes (blk more s) (λ last t. turns (suc visits - (l._turn + 1)) p test blk last t))
    (Out.goes more s))) c.in_ok-v.ensures.answer
    ∙ decide_on c.in_ok-decide.field-0 (view c.in_ok-v.v) p c.expr.new.rows
    (on_goes (blk c.expr.new.rows c.expr.new.state) (λ last t. turns (suc visits - (l._turn + 1)) p test blk last t))
    (Out.goes c.expr.new.rows c.expr.new.state) c.in_ok-decide.ensures.decides on
    ∙ ap (λ o. on_goes o (λ last t. turns (suc visits - (l._turn + 1)) p test blk last t))
    (flows_returned c.in_ok-v-2.field-0 c.in-Returned.v c.block.new.rows c.block.new.state (blk c.expr.new.rows c.expr.new.state)
    c.in-Returned.is c.in_ok-v-2.ensures.answer)

pub while_loop-loop-turn-preserved : goal.while_loop-loop-turn-preserved
while_loop-loop-turn-preserved g t c =
    let l = c.loop-turn in
    let run = ground_of c.args.ground.now in
    let body = body_at run c.args.bodies in
    let p = at c.args.line c.args.col in
    let test = exp run body (exp_view c.args.test.now) in
    let blk = stms run body c.args.body.now in
    let h : l._turn < suc visits = omega (arith, most_turns, c.loop-turn-test.true) in
    let on : c.in_ok-decide.field-0 ≡ true = search rules in
    l.invariant ∙ turns_next (suc visits) l._turn p test blk l.rows l.state h
    ∙ ap (λ o. on_got o (λ v more s. decide v p more (on_goes (blk more s) (λ last t. turns (suc visits - (l._turn + 1)) p test blk last t))
    (Out.goes more s))) c.in_ok-v.ensures.answer
    ∙ decide_on c.in_ok-decide.field-0 (view c.in_ok-v.v) p c.expr.new.rows
    (on_goes (blk c.expr.new.rows c.expr.new.state) (λ last t. turns (suc visits - (l._turn + 1)) p test blk last t))
    (Out.goes c.expr.new.rows c.expr.new.state) c.in_ok-decide.ensures.decides on
    ∙ ap (λ o. on_goes o (λ last t. turns (suc visits - (l._turn + 1)) p test blk last t))
    (flows_goes c.in_ok-v-2.field-0 c.block.new.rows c.block.new.state (blk c.expr.new.rows c.expr.new.state) c.in_default.not-Returned
    c.in_ok-v-2.ensures.answer)

pub while_loop-returns-clause-answer : goal.while_loop-returns-clause-answer
while_loop-returns-clause-answer g t c = λ ne.
    let l = c.loop-turn in
    let run = ground_of c.args.ground.now in
    let body = body_at run c.args.bodies in
    let p = at c.args.line c.args.col in
    rw c.fault.ensures (l.invariant ∙ turns_over (suc visits) l._turn p (exp run body (exp_view c.args.test.now)) (stms run body c.args.body.now)
    l.rows l.state (omega (arith, most_turns, c.loop-turn-test.false)))

pub do_loop-loop-turn-init : goal.do_loop-loop-turn-init
do_loop-loop-turn-init g t c =
    let run = ground_of c.args.ground.now in
    let body = body_at run c.args.bodies in
    repeats_start (suc visits) (at c.args.line c.args.col) (stms run body c.args.body.now) (exp run body (exp_view c.args.test.now))
    c.args.rows.now c.args.state.now

pub do_loop-returns-in_err-v-clause-answer : goal.do_loop-returns-in_err-v-clause-answer
do_loop-returns-in_err-v-clause-answer g t c =
    let l = c.loop-turn in
    let run = ground_of c.args.ground.now in
    let body = body_at run c.args.bodies in
    let p = at c.args.line c.args.col in
    let test = exp run body (exp_view c.args.test.now) in
    let blk = stms run body c.args.body.now in
    let h : l._turn < suc visits = omega (arith, most_turns, c.loop-turn-test.true) in
    flows_err c.from_residual.result c.in_err-v.field-0.0 c.block.new.rows c.block.new.state
    (repeats (suc visits) p blk test c.args.rows.now c.args.state.now) c.from_residual.ensures.1
    (λ ne. l.invariant ∙ repeats_next (suc visits) l._turn p blk test l.rows l.state h
    ∙ ap (λ o. on_goes o (λ more s. on_got (test more s)
    (λ v last t. decide v p last (repeats (suc visits - (l._turn + 1)) p blk test last t) (Out.goes last t))))
    (c.in_err-v.ensures.answer ne))

pub do_loop-returns-in-Returned-clause-answer : goal.do_loop-returns-in-Returned-clause-answer
do_loop-returns-in-Returned-clause-answer g t c =
    let l = c.loop-turn in
    let run = ground_of c.args.ground.now in
    let body = body_at run c.args.bodies in
    let p = at c.args.line c.args.col in
    let test = exp run body (exp_view c.args.test.now) in
    let blk = stms run body c.args.body.now in
    let h : l._turn < suc visits = omega (arith, most_turns, c.loop-turn-test.true) in
    l.invariant ∙ repeats_next (suc visits) l._turn p blk test l.rows l.state h
    ∙ ap (λ o. on_goes o (λ more s. on_got (test more s)
    (λ v last t. decide v p last (repeats (suc visits - (l._turn + 1)) p blk test last t) (Out.goes last t))))
    (flows_returned c.in_ok-v.field-0 c.in-Returned.v c.block.new.rows c.block.new.state (blk l.rows l.state) c.in-Returned.is
    c.in_ok-v.ensures.answer)

pub do_loop-returns-in_err-v-2-clause-answer : goal.do_loop-returns-in_err-v-2-clause-answer
do_loop-returns-in_err-v-2-clause-answer g t c =
    let l = c.loop-turn in
    let run = ground_of c.args.ground.now in
    let body = body_at run c.args.bodies in
    let p = at c.args.line c.args.col in
    let test = exp run body (exp_view c.args.test.now) in
    let blk = stms run body c.args.body.now in
    let h : l._turn < suc visits = omega (arith, most_turns, c.loop-turn-test.true) in
    flows_err c.from_residual-in_err-v-2.result c.in_err-v-2.field-0.0 c.expr.new.rows c.expr.new.state
    (repeats (suc visits) p blk test c.args.rows.now c.args.state.now) c.from_residual-in_err-v-2.ensures.1
    (λ ne. l.invariant ∙ repeats_next (suc visits) l._turn p blk test l.rows l.state h
    ∙ ap (λ o. on_goes o (λ more s. on_got (test more s)
    (λ v last t. decide v p last (repeats (suc visits - (l._turn + 1)) p blk test last t) (Out.goes last t))))
    (flows_goes c.in_ok-v.field-0 c.block.new.rows c.block.new.state (blk l.rows l.state) c.in_default.not-Returned c.in_ok-v.ensures.answer)
    ∙ ap (λ o. on_got o (λ v last t. decide v p last (repeats (suc visits - (l._turn + 1)) p blk test last t) (Out.goes last t)))
    (c.in_err-v-2.ensures.answer ne))

pub do_loop-returns-in_err-decide-clause-answer : goal.do_loop-returns-in_err-decide-clause-answer
do_loop-returns-in_err-decide-clause-answer g t c =
    let l = c.loop-turn in
    let run = ground_of c.args.ground.now in
    let body = body_at run c.args.bodies in
    let p = at c.args.line c.args.col in
    let test = exp run body (exp_view c.args.test.now) in
    let blk = stms run body c.args.body.now in
    let h : l._turn < suc visits = omega (arith, most_turns, c.loop-turn-test.true) in
    flows_err c.from_residual-in_err-decide.result c.in_err-decide.field-0.0 c.expr.new.rows c.expr.new.state
    (repeats (suc visits) p blk test c.args.rows.now c.args.state.now) c.from_residual-in_err-decide.ensures.1
    (λ ne. l.invariant ∙ repeats_next (suc visits) l._turn p blk test l.rows l.state h
    ∙ ap (λ o. on_goes o (λ more s. on_got (test more s)
    (λ v last t. decide v p last (repeats (suc visits - (l._turn + 1)) p blk test last t) (Out.goes last t))))
    (flows_goes c.in_ok-v.field-0 c.block.new.rows c.block.new.state (blk l.rows l.state) c.in_default.not-Returned c.in_ok-v.ensures.answer)
    ∙ ap (λ o. on_got o (λ v last t. decide v p last (repeats (suc visits - (l._turn + 1)) p blk test last t) (Out.goes last t)))
    c.in_ok-v-2.ensures.answer ∙ c.in_err-decide.ensures.decides c.expr.new.rows
    (repeats (suc visits - (l._turn + 1)) p blk test c.expr.new.rows c.expr.new.state) (Out.goes c.expr.new.rows c.expr.new.state))

pub do_loop-returns-then-not-branch-clause-answer : goal.do_loop-returns-then-not-branch-clause-answer
do_loop-returns-then-not-branch-clause-answer g t c =
    let l = c.loop-turn in
    let run = ground_of c.args.ground.now in
    let body = body_at run c.args.bodies in
    let p = at c.args.line c.args.col in
    let test = exp run body (exp_view c.args.test.now) in
    let blk = stms run body c.args.body.now in
    let h : l._turn < suc visits = omega (arith, most_turns, c.loop-turn-test.true) in
    let no : c.in_ok-decide.field-0 ≡ false = search rules in
    l.invariant ∙ repeats_next (suc visits) l._turn p blk test l.rows l.state h
    ∙ ap (λ o. on_goes o (λ more s. on_got (test more s)
    (λ v last t. decide v p last (repeats (suc visits - (l._turn + 1)) p blk test last t) (Out.goes last t))))
    (flows_goes c.in_ok-v.field-0 c.block.new.rows c.block.new.state (blk l.rows l.state) c.in_default.not-Returned c.in_ok-v.ensures.answer)
    ∙ ap (λ o. on_got o (λ v last t. decide v p last (repeats (suc visits - (l._turn + 1)) p blk test last t) (Out.goes last t)))
    c.in_ok-v-2.ensures.answer ∙ decide_off c.in_ok-decide.field-0 (view c.in_ok-v-2.v) p c.expr.new.rows
    (repeats (suc visits - (l._turn + 1)) p blk test c.expr.new.rows c.expr.new.state) (Out.goes c.expr.new.rows c.expr.new.state)
    c.in_ok-decide.ensures.decides no

pub do_loop-loop-turn-preserved : goal.do_loop-loop-turn-preserved
do_loop-loop-turn-preserved g t c =
    let l = c.loop-turn in
    let run = ground_of c.args.ground.now in
    let body = body_at run c.args.bodies in
    let p = at c.args.line c.args.col in
    let test = exp run body (exp_view c.args.test.now) in
    let blk = stms run body c.args.body.now in
    let h : l._turn < suc visits = omega (arith, most_turns, c.loop-turn-test.true) in
    let yes : c.in_ok-decide.field-0 ≡ true = search rules in
    l.invariant ∙ repeats_next (suc visits) l._turn p blk test l.rows l.state h
    ∙ ap (λ o. on_goes o (λ more s. on_got (test more s)
    (λ v last t. decide v p last (repeats (suc visits - (l._turn + 1)) p blk test last t) (Out.goes last t))))
    (flows_goes c.in_ok-v.field-0 c.block.new.rows c.block.new.state (blk l.rows l.state) c.in_default.not-Returned c.in_ok-v.ensures.answer)
    ∙ ap (λ o. on_got o (λ v last t. decide v p last (repeats (suc visits - (l._turn + 1)) p blk test last t) (Out.goes last t)))
    c.in_ok-v-2.ensures.answer ∙ decide_on c.in_ok-decide.field-0 (view c.in_ok-v-2.v) p c.expr.new.rows
    (repeats (suc visits - (l._turn + 1)) p blk test c.expr.new.rows c.expr.new.state) (Out.goes c.expr.new.rows c.expr.new.state)
    c.in_ok-decide.ensures.decides yes

pub do_loop-returns-clause-answer : goal.do_loop-returns-clause-answer
do_loop-returns-clause-answer g t c = λ ne.
    let l = c.loop-turn in
    let run = ground_of c.args.ground.now in
    let body = body_at run c.args.bodies in
    let p = at c.args.line c.args.col in
    rw c.fault.ensures (l.invariant ∙ repeats_over (suc visits) l._turn p (stms run body c.args.body.now)
    (exp run body (exp_view c.args.test.now)) l.rows l.state (omega (arith, most_turns, c.loop-turn-test.false)))

pub stmt-returns-in_ok-visit-in-If-clause-answer : goal.stmt-returns-in_ok-visit-in-If-clause-answer
stmt-returns-in_ok-visit-in-If-clause-answer g t c =
    let run = ground_of c.args.ground.now in
    let body = body_at run c.args.bodies in
    let rows = c.args.rows.now in
    let st = c.args.state.now in
    let a = c.in-If in
    let p = at a.line a.col in
    let els = else_view a.otherwise in
    rw a.is (visited_goes c.arms.result c.arms.new.rows c.arms.new.state p rows st c.visit.new.self
    (λ s. arms run body a.of (λ more z. other run body els more z) rows s) c.in_ok-visit-in-If.ensures.ok
    (flows_on c.arms.result c.arms.new.rows c.arms.new.state _ _
    (ap (λ ys. arms run body ys (λ more z. other run body els more z) rows c.visit.new.self) (sym c.as_slice.ensures))
    c.arms.ensures.answer))

pub stmt-returns-in_ok-visit-in-While-clause-answer : goal.stmt-returns-in_ok-visit-in-While-clause-answer
stmt-returns-in_ok-visit-in-While-clause-answer g t c =
    let run = ground_of c.args.ground.now in
    let body = body_at run c.args.bodies in
    let rows = c.args.rows.now in
    let st = c.args.state.now in
    let a = c.in-While in
    let p = at a.line a.col in
    rw a.is (visited_goes c.while_loop.result c.while_loop.new.rows c.while_loop.new.state p rows st c.visit-in-While.new.self
    (λ s. turns (suc visits) p (exp run body (exp_view a.test)) (stms run body a.body) rows s) c.in_ok-visit-in-While.ensures.ok
    c.while_loop.ensures.answer)

pub stmt-returns-in_ok-visit-in-Do-clause-answer : goal.stmt-returns-in_ok-visit-in-Do-clause-answer
stmt-returns-in_ok-visit-in-Do-clause-answer g t c =
    let run = ground_of c.args.ground.now in
    let body = body_at run c.args.bodies in
    let rows = c.args.rows.now in
    let st = c.args.state.now in
    let a = c.in-Do in
    let p = at a.line a.col in
    rw a.is (visited_goes c.do_loop.result c.do_loop.new.rows c.do_loop.new.state p rows st c.visit-in-Do.new.self
    (λ s. repeats (suc visits) p (stms run body a.body) (exp run body (exp_view a.test)) rows s) c.in_ok-visit-in-Do.ensures.ok
    c.do_loop.ensures.answer)

pub stmt-returns-in_ok-v-in-For-clause-answer : goal.stmt-returns-in_ok-v-in-For-clause-answer
stmt-returns-in_ok-v-in-For-clause-answer g t c =
    let run = ground_of c.args.ground.now in
    let body = body_at run c.args.bodies in
    let rows = c.args.rows.now in
    let st = c.args.state.now in
    let a = c.in-For in
    let p = at a.line a.col in
    let e = exp run body (exp_view a.list) in
    let b = stms run body a.body in
    rw a.is (visited_goes c.for_loop.result c.for_loop.new.rows c.for_loop.new.state p rows st c.visit-in-For.new.self
    (λ s. on_got (e rows s) (λ v more t. each_of v p a.name b more t)) c.in_ok-visit-in-For.ensures.ok
    (flows_on c.for_loop.result c.for_loop.new.rows c.for_loop.new.state _ _
    (ap (λ o. on_got o (λ v more t. each_of v p a.name b more t)) c.in_ok-v-in-For.ensures.answer) c.for_loop.ensures.answer))
