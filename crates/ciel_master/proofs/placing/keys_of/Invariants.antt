use Rattle.std.proofs.Common.{◌≡◌, ◌++◌, drop, map}
use Rattle.ciel_master_board.specs.Reports.{made_keys}
use Rattle.ciel_task_order.specs.Views.{output_view}
use Rattle.ciel_master.proofs.placing.keys_of.Given as goal

abbrev pub invariant-loop-i : goal.invariant-loop-i
invariant-loop-i l = l.keys.items ++ made_keys (map output_view (drop l.i l.made)) ≡ made_keys (map output_view l.made)
