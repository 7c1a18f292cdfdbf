use Rattle.std.proofs.Common.{◌+◌, sym, ap, ◌∙◌, arith}
use Rattle.sky_base.specs.View.{view}
use Rattle.sky_base.specs.TreeView.{at, exp_view}
use Rattle.sky_base.specs.Eval.{eval_links}
use Rattle.sky_base_law.specs.Nodes.{node_at}
use Rattle.sky_machine_code.specs.Shapes.{op_view, operands_view}
use Rattle.sky_machine_exprs.proofs.Chains.{link_has, link_ready}
use Rattle.sky_machine_exprs.proofs.ahead.links_ahead.Goals as goal

pub after_exp-next-requires : goal.after_exp-next-requires
after_exp-next-requires c =
    link_has (λ i. node_at c.args.code.now i) c.links.next _ _ _ _ _ c.in-Some.ensures c.links.invariant.links

pub links-preserved : goal.links-preserved
links-preserved c =
    let l = c.links in
    let n = c.args.chain.node in
    let o = c.in-Some.operand in
    let ls = operands_view o.rest in
    let done = c.in_ok-linked-in-Some.ensures in
    let next = c.after_exp-next.ensures in
    let left = link_ready (λ i. node_at c.args.code.now i) l.step l.next c.after_exp-next.result (op_view o.op) (at o.line o.col) (view l.value)
    (exp_view o.operand.now) ls (operands_view l.rest) c.in-Some.ensures l.invariant.links next l.invariant.step l.invariant.kept in
    record {
      step = omega (arith, left.0);
      links = left.1;
      kept = rw c.in-Made.is at done.ready;
      within = done.within;
      more = omega (arith, l.invariant.more, done.more);
      same = λ w body h. l.invariant.same w body h ∙ ap (λ xs. eval_links w body xs n l.step l.next (view l.value) l.state) c.in-Some.ensures
          ∙ (rw c.in-Made.is at (done.same w body ls n l.step l.next h))
          ∙ ap (λ m. eval_links w body ls n (l.step + 1) m (view c.in-Made.made) c.link.new.state) (sym next);
    }
