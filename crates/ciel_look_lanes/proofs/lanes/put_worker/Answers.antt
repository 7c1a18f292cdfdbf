-- Piece by piece.
use Rattle.std.proofs.Common.{◌++◌, ap, codes, decimal, ◌∙◌}
use Rattle.ciel_look_shown.specs.Plain.{shown}
use Rattle.ciel_look_lanes.proofs.Bars.{put_two}
use Rattle.ciel_look_lanes.proofs.lanes.put_worker.Goals as goal

pub returns : goal.returns
returns c =
    record {
      put = put_two c.args.tip.now _ _ (codes " at worker ") (decimal c.args.worker)
          (c.in_ok-put.ensures.put ∙ ap (λ b. c.args.tip.now ++ shown b) c.as_bytes.ensures.value) c.in_ok-put_number.ensures.put;
    }
