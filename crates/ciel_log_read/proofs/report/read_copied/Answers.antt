-- Where one name less stands in front than the count says, no such names do.
use Rattle.std.proofs.Common.{arith}
use Rattle.sky_base.specs.Name.{name_bytes}
use Rattle.sky_frozen_bytes.proofs.Codes.{list_none, no_items}
use Rattle.ciel_log_read.specs.Recorded.{IsNamed}
use Rattle.ciel_log_read.proofs.Pieces.{names_free}
use Rattle.ciel_log_read.proofs.report.read_copied.Goals as goal

pub returns-in_default-read_name-clause-refused : goal.returns-in_default-read_name-clause-refused
returns-in_default-read_name-clause-refused c =
    let l = c.loop-one in
    no_items name_bytes IsNamed c.args.reader.now c.in-Some.count c.number.new.self c.in-Some.ensures (omega arith)
    (list_none name_bytes IsNamed names_free l._one c.in-Some.count c.number.new.self l.copied.items l.reader l.invariant (omega arith)
    c.in_default-read_name.ensures)
