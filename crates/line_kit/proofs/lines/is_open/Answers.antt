use Rattle.std.proofs.Common.{sym}
use Rattle.line_kit.proofs.OpenLaw.{open_at}
use Rattle.line_kit.proofs.lines.is_open.Goals as goal

pub returns-in-Some : goal.returns-in-Some
returns-in-Some c = sym (open_at c.args.bytes.now c.in-Some.byte.now (sym c.in-Some.ensures.value))
