-- A put that fails writes the first half of the piece.
use Rattle.std.proofs.Common.{rules, ◌/◌, length}
use Rattle.ciel_io.proofs.mem_sink.MemSinkSink.put.Goals as goal

pub returns-then-has_call-clause-part : goal.returns-then-has_call-clause-part
returns-then-has_call-clause-part c = (length c.args.piece.now / 2, search rules)
