use Rattle.std.proofs.Common.{nat_lt, ◌+◌, ◌∙◌, drop, ap, arith, sym, ◌-◌}
use Rattle.sky_base.specs.Val.{add_val}
use Rattle.sky_base.specs.View.{view}
use Rattle.sky_base.specs.TreeView.{order_view, exps_view, links_view, at, arith_view, steps_view}
use Rattle.sky_base_forms.specs.GroundView.{ground_of}
use Rattle.sky_base_scope.specs.Plain.{values, on_got, body_at, links, Out, visit, answer, steps, on_listed, visited, opened, exp}
use Rattle.sky_plain_expr.proofs.Weights.{exps_at, kept_add, links_at}
use Rattle.sky_plain_expr.proofs.Flow.{links_first, comes_on, steps_first, steps_at, comes_err, comes_got, parts_are, one_is, two_are, chain_is, name_given}
use Rattle.sky_plain_expr.proofs.Flow.{func_given}
use Rattle.sky_base.specs.Eval.{find_fun, oper}
use Rattle.sky_base.specs.Res.{visits}
use Rattle.sky_base.specs.Tree.{Form, Oper}
use Rattle.sky_base.specs.Op as op
use Rattle.sky_plain_expr.proofs.expr.+exp.Goals as goal

pub values-loop-e-preserved : goal.values-loop-e-preserved
values-loop-e-preserved g t c =
    let l = c.loop-e in
    let run = ground_of c.args.ground.now in
    let body = body_at run c.args.bodies in
    let es = c.as_slice-e-items.result.now in
    rw c.in_ok-push.ensures.ok (record {
      kept = kept_add l.vs (view c.in_ok-v.v) l.invariant.kept c.in_ok-v.ensures.kept;
      same = l.invariant.same ∙ ap (λ xs. values run body xs l.vs l.rows l.state)
          (exps_at es l.e-index c.e-item.result (omega arith) c.e-item.is)
          ∙ ap (λ o. on_got o (λ v more s. values run body (exps_view (drop (l.e-index + 1) es)) (add_val l.vs v) more s))
          c.in_ok-v.ensures.answer;
    })

pub links-loop-link-preserved : goal.links-loop-link-preserved
links-loop-link-preserved g t c =
    let l = c.loop-link in
    let run = ground_of c.args.ground.now in
    let body = body_at run c.args.bodies in
    let ks = links_view (drop (l.link-index + 1) c.args.rest.now) in
    record {
      kept = c.in_ok-v.ensures.kept;
      same = l.invariant.same ∙ ap (λ xs. links run body xs (view l.v) l.rows l.state)
          (links_at c.args.rest.now l.link-index c.link-item.result (omega arith) c.link-item.is)
          ∙ links_first run body c.link-item.result ks (view l.v) l.rows l.state
          ∙ ap (λ o. on_got o (λ y more t. links run body ks y more t)) c.in_ok-v.ensures.answer;
    }

pub linked-returns-clause-answer : goal.linked-returns-clause-answer
linked-returns-clause-answer g t c =
    let k = c.args.link.now in
    let v = view c.args.v.now in
    let p = at k.line k.col in
    comes_on c.give.result c.expr.new.rows c.give.new.state _ _
    (ap (λ o. on_got o (λ x more s. visit p more s (λ t. answer (oper (arith_view k.op) v x) p more (λ y. Out.got y more t))))
    c.in_ok-right.ensures.answer) (c.give.ensures.answer (oper (arith_view k.op) v (view c.in_ok-right.right)) c.apply.ensures.answer
    c.expr.new.rows)

pub steps-loop-step-preserved : goal.steps-loop-step-preserved
steps-loop-step-preserved g t c =
    let l = c.loop-step in
    let run = ground_of c.args.ground.now in
    let body = body_at run c.args.bodies in
    let ks = steps_view (drop (l.step-index + 1) c.args.rest.now) in
    record {
      kept = c.in_ok-v.ensures.kept;
      same = l.invariant.same ∙ ap (λ xs. steps run body xs (view l.v) l.rows l.state)
          (steps_at c.args.rest.now l.step-index c.step-item.result (omega arith) c.step-item.is)
          ∙ steps_first run body c.step-item.result ks (view l.v) l.rows l.state
          ∙ ap (λ o. on_got o (λ y more t. steps run body ks y more t)) c.in_ok-v.ensures.answer;
    }

pub steps-returns-in_err-v-clause-answer : goal.steps-returns-in_err-v-clause-answer
steps-returns-in_err-v-clause-answer g t c =
    let l = c.loop-step in
    let run = ground_of c.args.ground.now in
    let body = body_at run c.args.bodies in
    let ks = steps_view (drop (l.step-index + 1) c.args.rest.now) in
    comes_err c.from_residual.result c.in_err-v.field-0.0 c.stepped.new.rows c.stepped.new.state
    (steps run body (steps_view c.args.rest.now) (view c.args.first) c.args.rows.now c.args.state.now) c.from_residual.ensures.1
    (λ ne. l.invariant.same ∙ ap (λ xs. steps run body xs (view l.v) l.rows l.state)
    (steps_at c.args.rest.now l.step-index c.step-item.result (omega arith) c.step-item.is)
    ∙ steps_first run body c.step-item.result ks (view l.v) l.rows l.state
    ∙ ap (λ o. on_got o (λ y more t. steps run body ks y more t)) (c.in_err-v.ensures.answer ne))

pub stepped-returns-in_ok-i-in-Index-clause-answer : goal.stepped-returns-in_ok-i-in-Index-clause-answer
stepped-returns-in_ok-i-in-Index-clause-answer g t c =
    let v = view c.args.v.now in
    let p = at c.in-Index.line c.in-Index.col in
    rw c.in-Index.is (comes_on c.give.result c.expr.new.rows c.give.new.state _ _
    (ap (λ o. on_got o (λ x more s. visit p more s (λ t. answer (op.index v x) p more (λ y. Out.got y more t))))
    c.in_ok-i-in-Index.ensures.answer) (c.give.ensures.answer (op.index v (view c.in_ok-i-in-Index.i)) c.index.ensures.answer
    c.expr.new.rows))

pub stepped-returns-in_ok-visit-in-Call-clause-answer : goal.stepped-returns-in_ok-visit-in-Call-clause-answer
stepped-returns-in_ok-visit-in-Call-clause-answer g t c =
    let run = ground_of c.args.ground.now in
    let body = body_at run c.args.bodies in
    let v = view c.args.v.now in
    let p = at c.in-Call.line c.in-Call.col in
    let vs = c.in_ok-args-in-Call.args in
    let rows = c.values.new.rows in
    let st = c.values.new.state in
    rw c.in-Call.is (comes_on c.call.result c.call.new.rows c.call.new.state _
    (on_got (opened run body v vs p rows c.visit.new.self) (λ y last u. Out.got y last u))
    (ap (λ o. on_listed o (λ xs more s. visit p more s (λ t. on_got (opened run body v xs p more t) (λ y last u. Out.got y last u))))
    c.in_ok-args-in-Call.ensures.answer
    ∙ ap (λ b. visited b p rows st (λ t. on_got (opened run body v vs p rows t) (λ y last u. Out.got y last u)))
    c.in_ok-visit-in-Call.ensures.ok.0 ∙ ap (λ t. on_got (opened run body v vs p rows t) (λ y last u. Out.got y last u))
    (sym c.in_ok-visit-in-Call.ensures.ok.1)) (comes_got c.call.result c.call.new.rows c.call.new.state
    (opened run body v vs p rows c.visit.new.self) c.call.ensures.answer))

pub list_of-returns-clause-answer : goal.list_of-returns-clause-answer
list_of-returns-clause-answer g t c =
    let run = ground_of c.args.ground.now in
    let body = body_at run c.args.bodies in
    let p = at c.args.line c.args.col in
    let rows = c.args.rows.now in
    let st = c.args.state.now in
    comes_on c.list_given.result c.values.new.rows c.list_given.new.state _ _
    (parts_are run body Form.list c.args.items.now p rows st c.in_ok-vs.vs c.values.new.rows c.values.new.state c.in_ok-vs.ensures.answer)
    (c.list_given.ensures.answer c.values.new.rows)

pub len_of-returns-clause-answer : goal.len_of-returns-clause-answer
len_of-returns-clause-answer g t c =
    let run = ground_of c.args.ground.now in
    let body = body_at run c.args.bodies in
    let p = at c.args.line c.args.col in
    let rows = c.args.rows.now in
    let st = c.args.state.now in
    let h = ap (λ e. exp run body e rows st) (sym c.get.ensures) ∙ c.in_ok-v.ensures.answer in
    comes_on c.len_given.result c.expr.new.rows c.len_given.new.state _ _
    (one_is run body Form.len c.args.of.now p rows st (view c.in_ok-v.v) c.expr.new.rows c.expr.new.state h)
    (c.len_given.ensures.answer c.expr.new.rows)

pub keys_of-returns-clause-answer : goal.keys_of-returns-clause-answer
keys_of-returns-clause-answer g t c =
    let run = ground_of c.args.ground.now in
    let body = body_at run c.args.bodies in
    let p = at c.args.line c.args.col in
    let rows = c.args.rows.now in
    let st = c.args.state.now in
    let h = ap (λ e. exp run body e rows st) (sym c.get.ensures) ∙ c.in_ok-v.ensures.answer in
    comes_on c.keys_given.result c.expr.new.rows c.keys_given.new.state _ _
    (one_is run body Form.keys c.args.of.now p rows st (view c.in_ok-v.v) c.expr.new.rows c.expr.new.state h)
    (c.keys_given.ensures.answer c.expr.new.rows)

pub has_of-returns-clause-answer : goal.has_of-returns-clause-answer
has_of-returns-clause-answer g t c =
    let run = ground_of c.args.ground.now in
    let body = body_at run c.args.bodies in
    let p = at c.args.line c.args.col in
    let rows = c.args.rows.now in
    let st = c.args.state.now in
    let h = ap (λ e. exp run body e rows st) (sym c.get.ensures) ∙ c.in_ok-d.ensures.answer in
    let k = ap (λ e. exp run body e c.expr.new.rows c.expr.new.state) (sym c.get-2.ensures) ∙ c.in_ok-k.ensures.answer in
    comes_on c.has_given.result c.expr-2.new.rows c.has_given.new.state _ _
    (two_are run body Form.has c.args.dict.now c.args.key.now p rows st (view c.in_ok-d.d) c.expr.new.rows c.expr.new.state
    (view c.in_ok-k.k) c.expr-2.new.rows c.expr-2.new.state h k) (c.has_given.ensures.answer c.expr-2.new.rows)

pub range_of-returns-clause-answer : goal.range_of-returns-clause-answer
range_of-returns-clause-answer g t c =
    let run = ground_of c.args.ground.now in
    let body = body_at run c.args.bodies in
    let p = at c.args.line c.args.col in
    let rows = c.args.rows.now in
    let st = c.args.state.now in
    let h = ap (λ e. exp run body e rows st) (sym c.get.ensures) ∙ c.in_ok-a.ensures.answer in
    let k = ap (λ e. exp run body e c.expr.new.rows c.expr.new.state) (sym c.get-2.ensures) ∙ c.in_ok-b.ensures.answer in
    comes_on c.range_given.result c.expr-2.new.rows c.range_given.new.state _ _
    (two_are run body Form.range c.args.from.now c.args.to.now p rows st (view c.in_ok-a.a) c.expr.new.rows c.expr.new.state
    (view c.in_ok-b.b) c.expr-2.new.rows c.expr-2.new.state h k) (c.range_given.ensures.answer c.expr-2.new.rows)

pub compare-returns-clause-answer : goal.compare-returns-clause-answer
compare-returns-clause-answer g t c =
    let run = ground_of c.args.ground.now in
    let body = body_at run c.args.bodies in
    let p = at c.args.line c.args.col in
    let rows = c.args.rows.now in
    let st = c.args.state.now in
    let h = ap (λ e. exp run body e rows st) (sym c.get.ensures) ∙ c.in_ok-a.ensures.answer in
    let k = ap (λ e. exp run body e c.expr.new.rows c.expr.new.state) (sym c.get-2.ensures) ∙ c.in_ok-b.ensures.answer in
    comes_on c.compared_given.result c.expr-2.new.rows c.compared_given.new.state _ _
    (chain_is run body (Oper.compare (order_view c.args.how)) c.args.left.now c.args.right.now p rows st (view c.in_ok-a.a) c.expr.new.rows
    c.expr.new.state (view c.in_ok-b.b) c.expr-2.new.rows c.expr-2.new.state h k) (c.compared_given.ensures.answer c.expr-2.new.rows)

pub expr-returns-in-Literal-clause-answer : goal.expr-returns-in-Literal-clause-answer
expr-returns-in-Literal-clause-answer g t c = rw c.in-Literal.is (c.literal_given.ensures.answer c.args.rows.now)

pub expr-returns-in-Name-clause-answer : goal.expr-returns-in-Name-clause-answer
expr-returns-in-Name-clause-answer g t c =
    let rows = c.args.rows.now in
    let st = c.args.state.now in
    rw c.in-Name.is (comes_on c.named.result rows c.named.new.state _ _
    (name_given (nat_lt st.count visits) c.in-Name.name c.args.ground.now.script.now.funs (at c.in-Name.line c.in-Name.col) rows st)
    (c.named.ensures.answer rows))

pub expr-returns-in-Function-clause-answer : goal.expr-returns-in-Function-clause-answer
expr-returns-in-Function-clause-answer g t c =
    let rows = c.args.rows.now in
    let st = c.args.state.now in
    rw c.in-Function.is (comes_on c.function.result rows c.function.new.state _ _
    (func_given (nat_lt st.count visits) c.in-Function.name (find_fun c.in-Function.name c.args.ground.now.script.now.funs)
    (at c.in-Function.line c.in-Function.col) rows st) (c.function.ensures.answer rows))

pub expr-returns-in-SpawnExec-clause-answer : goal.expr-returns-in-SpawnExec-clause-answer
expr-returns-in-SpawnExec-clause-answer g t c = rw c.in-SpawnExec.is c.spawn_exec_of.ensures.answer

pub expr-returns-in-Exec-clause-answer : goal.expr-returns-in-Exec-clause-answer
expr-returns-in-Exec-clause-answer g t c = rw c.in-Exec.is c.exec_of.ensures.answer
