use Rattle.std.proofs.Common.{◌≡◌, ◌+◌, ℕ, suc, List, length, sym, subst, ap, ◌∙◌, arith}
use Rattle.sky_base.specs.View.{view}
use Rattle.sky_base_law.proofs.Lists.{length_push}
use Rattle.ciel_task_order.specs.declared.report.Made.{Made}
use Rattle.sky_base_exec.specs.Perform.{listed}
use Rattle.ciel_task_exec.specs.Outputs.{OutputsFrom}
use Rattle.ciel_task_exec.proofs.GivenObjects.{outputs_push}
use Rattle.ciel_task_exec.proofs.publish.publish.Goals as goal

pub loop-index-preserved : goal.loop-index-preserved
loop-index-preserved g c =
    let digest = g.N.Namer.digest c.args.namer.now in
    let i = c.loop-index.index in
    let before = c.loop-index.published.items in
    let now : suc i ≡ i + 1 = omega arith in
    let at : 0 + length before ≡ i = omega (arith, c.loop-index.invariant.many) in
    record {
      many = ap length c.in-Ok.ensures.items ∙ length_push before c.in_ok-one.one i c.loop-index.invariant.many ∙ now;
      so = subst (OutputsFrom digest c.args.shelves.now c.args.worker c.args.executor.now (view c.args.args.now) c.args.outputs
          (listed c.args.made.now) 0) (sym {A = List Made} c.in-Ok.ensures.items)
          (outputs_push digest c.args.shelves.now c.args.worker c.args.executor.now (view c.args.args.now) c.args.outputs
          (listed c.args.made.now) 0 i before c.in_ok-one.one c.loop-index.invariant.so at c.in_ok-one.ensures);
    }
