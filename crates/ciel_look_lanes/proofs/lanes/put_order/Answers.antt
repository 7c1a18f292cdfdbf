-- Piece by piece.
use Rattle.std.proofs.Common.{◌++◌, codes, cond, decimal}
use Rattle.ciel_look_tasks.specs.SceneView.{end_view}
use Rattle.ciel_look_lanes.specs.Bars.{close_words, from_words}
use Rattle.ciel_look_lanes.proofs.Bars.{put_five}
use Rattle.ciel_look_lanes.proofs.lanes.put_order.Goals as goal

pub returns : goal.returns
returns c =
    let r = c.args.run.now in
    record {
      put = put_five c.args.tip.now _ _ _ _ _ (cond r.again (codes ", again start ") (codes ", start ")) (decimal r.number)
          (codes " at worker " ++ decimal r.worker) (from_words r.from) (close_words (end_view r.end)) c.in_ok-put_again.ensures.put
          c.in_ok-put_number.ensures.put c.in_ok-put_worker.ensures.put c.in_ok-put_from.ensures.put c.in_ok-put_close.ensures.put;
    }
