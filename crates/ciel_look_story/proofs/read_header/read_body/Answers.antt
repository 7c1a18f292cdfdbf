-- Where one of its parts is lacking behind those that were read, no header stands there.
use Rattle.std.proofs.Common.{arith}
use Rattle.ciel_name.proofs.DecodeSteps.{refuses_more}
use Rattle.sky_frozen_bytes.proofs.Codes.{four_short}
use Rattle.ciel_look_told.specs.View.{marks_view}
use Rattle.ciel_look_story.proofs.Heads.{head_losses, head_marks, head_read, head_seed, head_workers}
use Rattle.ciel_look_story.proofs.read_header.read_body.Goals as goal

pub returns-in_default-clause-refused : goal.returns-in_default-clause-refused
returns-in_default-clause-refused c = head_workers c.args.reader.now (four_short c.args.reader.now c.in_default.ensures)

pub returns-in_default-read_long-clause-refused : goal.returns-in_default-read_long-clause-refused
returns-in_default-read_long-clause-refused c =
    head_seed c.args.reader.now c.in-Some.workers c.number.new.self (c.in-Some.ensures, omega arith) c.in_default-read_long.ensures

pub returns-in-Err-clause-refused : goal.returns-in-Err-clause-refused
returns-in-Err-clause-refused c =
    refuses_more c.in-Err.refusal (head_losses c.args.reader.now c.in-Some.workers c.number.new.self (c.in-Some.ensures, omega arith)
    c.in-Some-read_long.seed c.read_long.new.reader c.in-Some-read_long.ensures) c.in-Err.ensures.refused

pub returns-in-Err-read_marks-clause-refused : goal.returns-in-Err-read_marks-clause-refused
returns-in-Err-read_marks-clause-refused c =
    refuses_more c.in-Err-read_marks.refusal (head_marks c.args.reader.now c.in-Some.workers c.number.new.self (c.in-Some.ensures, omega arith)
    c.in-Some-read_long.seed c.read_long.new.reader c.in-Some-read_long.ensures c.in-Ok.losses.items c.read_losses.new.reader
    c.in-Ok.ensures.losses) c.in-Err-read_marks.ensures.refused

pub returns-clause-header : goal.returns-clause-header
returns-clause-header c =
    head_read c.args.reader.now c.in-Some.workers c.number.new.self (c.in-Some.ensures, omega arith) c.in-Some-read_long.seed
    c.read_long.new.reader c.in-Some-read_long.ensures c.in-Ok.losses.items c.read_losses.new.reader (marks_view c.in-Ok-read_marks.job)
    c.read_marks.new.reader c.in-Ok.ensures.losses c.in-Ok-read_marks.ensures.marks
