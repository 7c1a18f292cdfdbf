-- One order more.
use Rattle.std.proofs.Common.{◌+◌, ap, arith, sym, ◌∙◌}
use Rattle.ciel_look_tasks.specs.SceneView.{order_view}
use Rattle.ciel_look_tasks.specs.declared.scene.Run.{Run}
use Rattle.ciel_look_text.specs.Text.{is_again}
use Rattle.ciel_look_text.proofs.Sums.{count_end, count_seen, count_start, count_step}
use Rattle.ciel_look_text.proofs.sum.again_of.Goals as goal

pub loop-run-init : goal.loop-run-init
loop-run-init c = record { count = count_start (λ (r : Run). r.again) c.args.runs.now; few = omega arith }

pub loop-run-preserved : goal.loop-run-preserved
loop-run-preserved c =
    let l = c.loop-run in
    record {
      count = count_step (λ (r : Run). r.again) c.args.runs.now l.again _ l.run-index c.run-item.result (omega arith) c.run-item.is l.invariant.count
          (ap (λ n. l.again + n) c.one_if-again.ensures.value);
      few = omega (arith, l.invariant.few, c.one_if-again.ensures.most);
    }

pub returns : goal.returns
returns c =
    let l = c.loop-run in
    count_end (λ (r : Run). r.again) c.args.runs.now l.again l.run-index (omega arith) l.invariant.count
    ∙ sym (count_seen is_again order_view c.args.runs.now)
