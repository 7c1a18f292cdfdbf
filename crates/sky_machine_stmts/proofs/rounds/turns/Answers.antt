use Rattle.std.proofs.Common.{sym, ap, ◌∙◌}
use Rattle.sky_base.specs.TreeView.{at, exp_view}
use Rattle.sky_base.specs.StmtView.{stms_view}
use Rattle.sky_base.specs.Res.{while_body, then_do}
use Rattle.sky_base.specs.Eval.{eval_stms, after, body_at}
use Rattle.sky_machine_entries.specs.Config.{room, rest_in}
use Rattle.sky_machine_entries.specs.Entries.{forms}
use Rattle.sky_machine_stmts.proofs.rounds.turns.Goals as goal

pub returns-in-Ended-clause-same : goal.returns-in-Ended-clause-same
returns-in-Ended-clause-same c = λ w h.
    let old = c.args.entries.now.items in
    ap (rest_in w old) (sym (rw c.in-Ended.is at (c.in_ok-stop-in-Some.ensures.same w (room w (forms old)) h)))

pub returns-in_ok-control-in-Stands-clause-same : goal.returns-in_ok-control-in-Stands-clause-same
returns-in_ok-control-in-Stands-clause-same c = λ w h.
    let o = c.args.of in
    let f = c.in-Stands.block in
    let xs = stms_view f.rest.now in
    let st = c.turns_ahead.new.state in
    let old = c.args.entries.now.items in
    let now = room w (forms old) in
    let inside = room w (forms c.push.new.entries.items) in
    let en = while_body o.node o.block (at o.line o.col) (exp_view o.test.now) o.body.now in
    c.in_ok-control-in-Stands.ensures.same w st
    ∙ c.in_ok-push-in-Stands.ensures.rest w (eval_stms w (body_at w inside) xs f.node f.step f.next st)
    ∙ ap (rest_in w old) (ap (λ j. then_do (eval_stms w (body_at w j) xs f.node f.step f.next st) en (after w (body_at w now) en))
    (c.in_ok-push-in-Stands.ensures.room w) ∙ sym (rw c.in-Stands.is at (c.in_ok-stop-in-Some.ensures.same w now h)))
