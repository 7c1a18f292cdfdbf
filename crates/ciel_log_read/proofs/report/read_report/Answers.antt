-- Where one of its parts is lacking behind those that were read, no report stands there.
use Rattle.std.proofs.Common.{map}
use Rattle.sky_base.specs.ObjectView.{desc_view}
use Rattle.ciel_name.proofs.DecodeSteps.{refuses_more}
use Rattle.ciel_log_read.proofs.Records.{report_copied, report_end, report_spawned}
use Rattle.ciel_log_read.proofs.report.read_report.Goals as goal

pub returns-in-Err-clause-refused : goal.returns-in-Err-clause-refused
returns-in-Err-clause-refused c =
    refuses_more c.in-Err.refusal (report_spawned c.args.reader.now c.in-Some.number c.read_long.new.reader c.in-Some.ensures)
    c.in-Err.ensures.refused

pub returns-in-Err-read_copied-clause-refused : goal.returns-in-Err-read_copied-clause-refused
returns-in-Err-read_copied-clause-refused c =
    refuses_more c.in-Err-read_copied.refusal (report_copied c.args.reader.now c.in-Some.number c.read_long.new.reader
    (map desc_view c.in-Ok.spawned.items) c.read_spawned.new.reader c.in-Some.ensures c.in-Ok.ensures.spawned) c.in-Err-read_copied.ensures.refused

pub returns-in-Err-read_end-clause-refused : goal.returns-in-Err-read_end-clause-refused
returns-in-Err-read_end-clause-refused c =
    refuses_more c.in-Err-read_end.refusal (report_end c.args.reader.now c.in-Some.number c.read_long.new.reader
    (map desc_view c.in-Ok.spawned.items) c.read_spawned.new.reader c.in-Ok-read_copied.copied.items c.read_copied.new.reader c.in-Some.ensures
    c.in-Ok.ensures.spawned c.in-Ok-read_copied.ensures.copied) c.in-Err-read_end.ensures.refused
