use Rattle.std.proofs.Common.{sym, ap, ◌∙◌, subst}
use Rattle.sky_base.specs.TreeView.{exp_view}
use Rattle.sky_base_law.specs.Nodes.{node_at}
use Rattle.sky_base_law.specs.Opened.{HasExps, next_part}
use Rattle.sky_machine_code.specs.Shapes.{rest_view}
use Rattle.sky_machine_open.proofs.Walks.{times_all}
use Rattle.sky_machine_open.proofs.Places.{part_step, part_stop, parts_left}
use Rattle.sky_machine_open.proofs.parts.skip_parts.Goals as goal
use Rattle.sky_machine_open.proofs.parts.skip_parts.Goals.{else-loop-passed-test, then-loop-passed-test+in_default}

pub loop-passed-preserved : goal.loop-passed-preserved
loop-passed-preserved c =
    let l = c.loop-passed in
    let o = c.in-Some.part in
    let e = exp_view o.part.now in
    record {
      place = part_step l._passed l.next c.after_exp-next.result (c.args.first, rest_view c.args.parts) e (rest_view l.rest) (rest_view o.rest)
          l.invariant.place c.in-Some.ensures c.after_exp-next.ensures;
      has = parts_left (λ i. node_at c.args.code.now i) l.next c.after_exp-next.result e (rest_view l.rest) (rest_view o.rest) c.in-Some.ensures
          c.after_exp-next.ensures l.invariant.has;
    }

pub returns-clause-place : goal.returns-clause-place
returns-clause-place c =
    let l = c.loop-passed in
    elim c.loop-passed-test.branch [
      | else-loop-passed-test w ↦ times_all next_part (c.args.first, rest_view c.args.parts)
          (l.next, rest_view l.rest) l._passed c.args.count l.invariant.place w.loop-passed-test.false l.auto._passed-end
          ∙ ap (λ r. (l.next, rest_view r)) (sym w.rest-is)
      | then-loop-passed-test+in_default w ↦ part_stop l._passed c.args.count l.next
          (c.args.first, rest_view c.args.parts) (rest_view l.rest) l.invariant.place w.in_default.ensures l.auto._passed-end
          ∙ ap (λ r. (l.next, rest_view r)) (sym w.rest-is)
    ]

pub returns-clause-has : goal.returns-clause-has
returns-clause-has c =
    let l = c.loop-passed in
    elim c.loop-passed-test.branch [
      | else-loop-passed-test w ↦ subst (λ r. HasExps (λ i. node_at c.args.code.now i) (rest_view r) l.next)
          (sym w.rest-is) l.invariant.has
      | then-loop-passed-test+in_default w ↦
          subst (λ r. HasExps (λ i. node_at c.args.code.now i) (rest_view r) l.next) (sym w.rest-is) tt
    ]
