use Rattle.std.proofs.Common.{◌≡◌, ◌++◌, length}
use Rattle.sky_base.specs.ScriptView.{funs_view}
use Rattle.sky_base_law.specs.Nodes.{pre_funs}
use Rattle.sky_machine_code.specs.Numbers.{starts_from}
use Rattle.sky_machine_numbers.proofs.FilledLemmas.{Left}
use Rattle.sky_machine_numbers.proofs.code.number_funs.Given as goal

abbrev pub invariant-loop-fun : goal.invariant-loop-fun
invariant-loop-fun l = record {
  left : Left l.fn.ends.items l.ends.items (pre_funs (funs_view l.funs)) (pre_funs (funs_view l.rest));
  starts : l.starts.items ++ starts_from (funs_view l.rest) (length l.ends.items) ≡ l.fn.starts.items
      ++ starts_from (funs_view l.funs) (length l.fn.ends.items);
}

abbrev pub decreases-loop-fun : goal.decreases-loop-fun
decreases-loop-fun l = length l.rest
