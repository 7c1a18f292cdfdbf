use Rattle.std.proofs.Common.{◌<◌, ◌+◌, ◌^◌, ℕ, sym, ap, ◌∙◌, subst, arith}
use Rattle.sky_base.specs.Tree.{Exp, nodes}
use Rattle.sky_base.specs.TreeView.{exp_view, steps_view}
use Rattle.sky_base.specs.Res.{postfix_first, then_do}
use Rattle.sky_base.specs.Eval.{eval, after, body_at}
use Rattle.sky_base_law.specs.Opened.{exp_node, HasSteps}
use Rattle.sky_base_law.specs.Nodes.{node_at}
use Rattle.sky_machine_entries.specs.Config.{room, rest_in}
use Rattle.sky_machine_entries.specs.Entries.{forms}
use Rattle.sky_machine_entries.specs.Ready.{steps_left}
use Rattle.sky_machine_calls.proofs.Begun.{first_begun, first_at, first_has, steps_few}
use Rattle.sky_machine_calls.proofs.postfix.begin_postfix.Goals as goal

pub after_exp-next-requires : goal.after_exp-next-requires
after_exp-next-requires c =
    first_has (λ i. node_at c.args.code.now i) c.args.first.now (exp_view c.get-e.result.now) c.args.node c.inside-part.result c.get-e.ensures
    c.inside-part.ensures.some c.requires.has.1

pub returns-clause-same : goal.returns-clause-same
returns-clause-same c = λ w st.
    let n = c.args.node in
    let e = c.args.first.now in
    let e' = exp_view c.get-e.result.now in
    let en = λ (m : ℕ). postfix_first n m (steps_view c.args.rest.now) in
    let old = c.args.entries.now.items in
    let now = room w (forms old) in
    let inside = room w (forms c.push.new.entries.items) in
    let is = first_at (λ i. node_at c.args.code.now i) e n c.inside-part.result c.inside-part.ensures.some c.requires.has.1 in
    let next = c.after_exp-next.ensures ∙ ap (λ m. m + nodes e') is ∙ ap (λ x. n + 1 + nodes x) c.get-e.ensures in
    c.in_ok-push.ensures.rest w (eval w (body_at w inside) e' c.inside-part.result st)
    ∙ ap (rest_in w old) (first_begun w now inside e e' (n + 1) c.inside-part.result st (en c.after_exp-next.result)
    (after w (body_at w now) (en c.after_exp-next.result)) (c.in_ok-push.ensures.room w) c.get-e.ensures is
    ∙ ap (λ m. then_do (eval w (body_at w now) e (n + 1) st) (en m) (after w (body_at w now) (en m))) next)

pub returns-clause-ready : goal.returns-clause-ready
returns-clause-ready c =
    let n = c.args.node in
    let e = c.args.first.now in
    let e' = exp_view c.get-e.result.now in
    let ss = steps_view c.args.rest.now in
    let is = first_at (λ i. node_at c.args.code.now i) e n c.inside-part.result c.inside-part.ensures.some c.requires.has.1 in
    let next = c.after_exp-next.ensures ∙ ap (λ m. m + nodes e') is ∙ ap (λ x. n + 1 + nodes x) c.get-e.ensures in
    let end = c.after-end.ensures (exp_node (Exp.postfix e ss)) c.requires.has.0 in
    let few : 2 + steps_left ss < 2 ^ 128 = omega
    (arith, end, c.after-end.type_inv, c.how_many-steps.type_inv, c.how_many-steps.ensures, steps_few c.args.rest.now) in
    c.in_ok-push.ensures.ready c.args.code.now c.requires.ready
    (subst (HasSteps (λ i. node_at c.args.code.now i) ss) (sym next) c.requires.has.2, few)

pub returns-clause-goes : goal.returns-clause-goes
returns-clause-goes c =
    first_has (λ i. node_at c.args.code.now i) c.args.first.now (exp_view c.get-e.result.now) c.args.node c.inside-part.result c.get-e.ensures
    c.inside-part.ensures.some c.requires.has.1
