-- A short entry has few outputs.
use Rattle.std.proofs.Common.{arith}
use Rattle.ciel_memo_file.specs.Entries.{entry_view}
use Rattle.ciel_memo_file.proofs.Added.{made_few}
use Rattle.ciel_memo_file.proofs.fresh.is_held.Goals as goal

pub overflow_cast-outputs : goal.overflow_cast-outputs
overflow_cast-outputs c = omega (arith, c.len-outputs.ensures, made_few (entry_view c.args.entry.now) c.requires)
