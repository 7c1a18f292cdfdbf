-- Where one of its parts is lacking behind those that were read, nothing of the job is told there.
use Rattle.std.proofs.Common.{map}
use Rattle.ciel_name.proofs.DecodeSteps.{refuses_more}
use Rattle.ciel_look_told.specs.View.{input_view}
use Rattle.ciel_look_story.proofs.Heads.{job_inputs, job_namer, job_read, job_script}
use Rattle.ciel_look_story.proofs.read_header.read_marks.Goals as goal

pub returns-in_default-clause-refused : goal.returns-in_default-clause-refused
returns-in_default-clause-refused c = job_namer c.args.reader.now c.in_default.ensures

pub returns-in_default-read_mark-clause-refused : goal.returns-in_default-read_mark-clause-refused
returns-in_default-read_mark-clause-refused c =
    job_script c.args.reader.now c.in-Some.short c.read_namer.new.reader c.in-Some.ensures c.in_default-read_mark.ensures

pub returns-in-Err-clause-refused : goal.returns-in-Err-clause-refused
returns-in-Err-clause-refused c =
    refuses_more c.in-Err.refusal (job_inputs c.args.reader.now c.in-Some.short c.read_namer.new.reader c.in-Some-read_mark.script
    c.read_mark.new.reader c.in-Some.ensures c.in-Some-read_mark.ensures) c.in-Err.ensures.refused

pub returns-clause-marks : goal.returns-clause-marks
returns-clause-marks c =
    job_read c.args.reader.now c.in-Some.short c.read_namer.new.reader c.in-Some-read_mark.script c.read_mark.new.reader
    (map input_view c.in-Ok.inputs.items) c.read_inputs.new.reader c.in-Some.ensures c.in-Some-read_mark.ensures c.in-Ok.ensures.inputs
