-- The bytes of a name are ASCII, so they are text.
use Rattle.std.proofs.lemmas.Str.{IsUtf8-from_ascii}
use Rattle.sky_text.proofs.Leaves.{name_ascii}
use Rattle.sky_text.proofs.scan.name.Goals as goal

pub unreachable-requires : goal.unreachable-requires
unreachable-requires c = c.in_default.ensures.cases.0 (IsUtf8-from_ascii c.args.bytes.now (name_ascii c.args.bytes.now c.requires))
