-- What a record of the code stands for.
use Rattle.std.specs.Prelude.{map}
use Rattle.sky_base.specs.ObjectView.{desc_view, object_view}
use Rattle.ciel_log_records.specs.Records.{HowEnded, answered, failed, made, missing, saved}
use Rattle.ciel_log_read.specs.Recorded.{Recorded, dropped, reported, started}
use Rattle.ciel_log_read.specs.declared.record.LoggedEnd.{LoggedEnd}
use Rattle.ciel_log_read.specs.declared.record.LoggedReport.{LoggedReport}
use Rattle.ciel_log_read.specs.declared.record.Record.{Record}

abbrev pub end_view : LoggedEnd → HowEnded
end_view (LoggedEnd.Made objects) = made (map object_view objects.items)
end_view (LoggedEnd.Saved j stack) = saved j stack
end_view (LoggedEnd.Answer bytes) = answered bytes
end_view (LoggedEnd.Fault fault) = failed fault
end_view (LoggedEnd.Missing name loss) = missing name loss

abbrev pub report_view : LoggedReport → Recorded
report_view r = reported r.number (map desc_view r.spawned.items) r.copied.items (end_view r.end)

abbrev pub record_view : Record → Recorded
record_view (Record.Start number worker from task) = started number worker from task
record_view (Record.Report report) = report_view report
record_view (Record.Dropped number) = dropped number
