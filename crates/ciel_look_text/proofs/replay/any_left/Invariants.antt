-- Those that were looked at are lost.
use Rattle.std.specs.List.{list_any}
use Rattle.ciel_look_text.specs.Now.{is_left}
use Rattle.ciel_look_text.proofs.Going.{Same}
use Rattle.ciel_look_text.proofs.replay.any_left.Given as goal

abbrev pub invariant-loop-worker : goal.invariant-loop-worker
invariant-loop-worker l =
    Same (list_any (is_left l.gone)) l.workers l.worker-index
