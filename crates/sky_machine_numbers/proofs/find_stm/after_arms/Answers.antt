use Rattle.std.proofs.Common.{ℕ, sym, ap, subst, arith}
use Rattle.sky_base.specs.Tree.{arms_nodes}
use Rattle.sky_base.specs.StmtView.{arms_view}
use Rattle.sky_base_law.specs.Nodes.{node_at}
use Rattle.sky_base_law.specs.Opened.{HasArms}
use Rattle.sky_machine_numbers.proofs.find_stm.after_arms.Goals as goal

pub loop-arm-preserved : goal.loop-arm-preserved
loop-arm-preserved c =
    let l = c.loop-arm in
    let at = λ (i : ℕ). node_at c.args.code.now i in
    let more = arms_view c.in-Some.more.now in
    let is = ap arms_view c.in-Some.ensures.cases.0 in
    let has = subst (λ arms. HasArms at arms l.node) is l.invariant.has in
    let after = c.after_arm-node.ensures in
    record {
      has = subst (HasArms at more) (sym after) has.3;
      end = omega (arith, l.invariant.end, ap arms_nodes is, after);
    }
