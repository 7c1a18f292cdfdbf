-- Where no arguments, no number of outputs or no index stands behind the name, no output does.
use Rattle.sky_base.specs.View.{view}
use Rattle.ciel_name.proofs.DecodeSteps.{refuses_more}
use Rattle.ciel_name.proofs.DescSteps.{output_args, output_count, output_index}
use Rattle.ciel_name.proofs.read_object.read_output.Goals as goal

pub returns-in-Err-read_value-clause-refused : goal.returns-in-Err-read_value-clause-refused
returns-in-Err-read_value-clause-refused c =
    refuses_more c.in-Err-read_value.refusal (output_args c.args.reader.now c.in-Ok.executor c.read_text.new.reader c.in-Ok.ensures.text)
    c.in-Err-read_value.ensures.refused

pub returns-in_default-clause-refused : goal.returns-in_default-clause-refused
returns-in_default-clause-refused c =
    output_count c.args.reader.now c.in-Ok.executor c.read_text.new.reader (view c.in-Ok-read_value.args) c.read_value.new.reader
    c.in-Ok.ensures.text c.in-Ok-read_value.ensures.value c.in_default.ensures

pub returns-in_default-number-clause-refused : goal.returns-in_default-number-clause-refused
returns-in_default-number-clause-refused c =
    output_index c.args.reader.now c.in-Ok.executor c.read_text.new.reader (view c.in-Ok-read_value.args) c.read_value.new.reader
    c.in-Some.outputs c.number.new.self c.in-Ok.ensures.text c.in-Ok-read_value.ensures.value c.in-Some.ensures c.in_default-number.ensures
