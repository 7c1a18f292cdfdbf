use Rattle.std.proofs.Common.{ℕ, sym, ap, subst, arith}
use Rattle.sky_base.specs.Tree.{exps_nodes}
use Rattle.sky_base.specs.TreeView.{exps_view}
use Rattle.sky_base_law.specs.Nodes.{node_at}
use Rattle.sky_base_law.specs.Opened.{HasExps}
use Rattle.sky_machine_numbers.proofs.find_exp.after_args.Goals as goal

pub loop-arg-preserved : goal.loop-arg-preserved
loop-arg-preserved c =
    let l = c.loop-arg in
    let at = λ (i : ℕ). node_at c.args.code.now i in
    let more = exps_view c.in-Some.more.now in
    let is = ap exps_view c.in-Some.ensures.cases.0 in
    let has = subst (λ es. HasExps at es l.node) is l.invariant.has in
    let after = c.after_exp-node.ensures in
    record {
      has = subst (HasExps at more) (sym after) has.1;
      end = omega (arith, l.invariant.end, ap exps_nodes is, after);
    }
