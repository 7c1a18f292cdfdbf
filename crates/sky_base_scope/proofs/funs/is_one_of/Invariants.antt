use Rattle.std.proofs.Common.{◌≡◌, drop}
use Rattle.sky_base.specs.Eval.{is_one_of}
use Rattle.sky_base_scope.proofs.funs.is_one_of.Given as goal

abbrev pub invariant-loop-other : goal.invariant-loop-other
invariant-loop-other l = is_one_of l.text l.texts ≡ is_one_of l.text (drop l.other-index l.texts)
