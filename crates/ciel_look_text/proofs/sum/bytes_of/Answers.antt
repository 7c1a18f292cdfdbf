-- One order more.
use Rattle.std.proofs.Common.{◌≤◌, ◌+◌, ap, arith, sym, ◌∙◌}
use Rattle.ciel_look_tasks.specs.SceneView.{order_view}
use Rattle.ciel_look_tasks.specs.declared.scene.Run.{Run}
use Rattle.ciel_look_text.specs.Text.{capped, made_of}
use Rattle.ciel_look_text.proofs.Sums.{sum_end, sum_next, sum_seen, sum_start}
use Rattle.ciel_look_text.proofs.sum.bytes_of.Goals as goal

pub loop-run-init : goal.loop-run-init
loop-run-init c = record { left = sum_start (λ (r : Run). made_of (order_view r)) c.args.runs.now; small = omega arith }

pub loop-run-preserved : goal.loop-run-preserved
loop-run-preserved c =
    let l = c.loop-run in
    record {
      left = sum_next (λ (r : Run). made_of (order_view r)) c.args.runs.now l.bytes _ l.run-index c.run-item.result (omega arith) c.run-item.is
          l.invariant.left (c.saturating_add-bytes.ensures ∙ ap (λ n. capped (l.bytes + n)) c.made_of.ensures);
      small = omega (arith, c.saturating_add-bytes.ensures);
    }

pub returns : goal.returns
returns c =
    let l = c.loop-run in
    sum_end (λ (r : Run). made_of (order_view r)) c.args.runs.now l.bytes l.run-index (omega arith) l.invariant.small l.invariant.left
    ∙ ap capped (sym (sum_seen made_of order_view c.args.runs.now))
