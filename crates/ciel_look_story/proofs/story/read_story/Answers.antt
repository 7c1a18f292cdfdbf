-- Where no header stands, the file is no log.
use Rattle.std.proofs.Common.{sym, subst}
use Rattle.ciel_log_read.specs.File.{RecordAt}
use Rattle.ciel_look_story.proofs.Refusals.{no_header_there, nothing_there}
use Rattle.ciel_look_story.proofs.story.read_story.Goals as goal

pub returns-in_default-clause-refused : goal.returns-in_default-clause-refused
returns-in_default-clause-refused c = nothing_there c.args.log.now c.in_default.ensures

pub returns-in-Err-NotValue-clause-refused : goal.returns-in-Err-NotValue-clause-refused
returns-in-Err-NotValue-clause-refused c =
    no_header_there c.args.log.now c.in-Some.bytes.now c.in-Some.first c.in-Some.ensures
    (rw c.in-Err-NotValue.field-0-is at c.in-Err-NotValue.ensures.refused)

pub tell_records-requires-clause-header : goal.tell_records-requires-clause-header
tell_records-requires-clause-header c =
    subst (λ b. RecordAt c.args.log.now 0 b c.in-Some.first) (sym c.in-Ok.ensures.header) c.in-Some.ensures
