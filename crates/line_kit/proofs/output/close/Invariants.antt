use Rattle.std.proofs.Common.{◌≡◌, length}
use Rattle.std.specs.Vec.Iter.{into_iter_items, into_iter_len}
use Rattle.line_kit.specs.Written.{closed}
use Rattle.line_kit.proofs.WrittenLaw.{behind}
use Rattle.line_kit.proofs.output.close.Given as goal

abbrev pub invariant-loop-output : goal.invariant-loop-output
invariant-loop-output l = record {
  rest : closed l.fn.outputs.items ≡ behind l.all.items (closed (into_iter_items l.output-iterator));
  count : into_iter_len l.output-iterator ≡ length (into_iter_items l.output-iterator);
}
