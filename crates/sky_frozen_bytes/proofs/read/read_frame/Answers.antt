use Rattle.ciel_name.proofs.DecodeSteps.{refuses_more}
use Rattle.sky_frozen_bytes.proofs.Parts.{no_variables, no_lists}
use Rattle.sky_frozen_bytes.proofs.read.read_frame.Goals as goal

pub returns-in-Err-read_vars-clause-refused : goal.returns-in-Err-read_vars-clause-refused
returns-in-Err-read_vars-clause-refused c =
    refuses_more c.in-Err-read_vars.refusal (no_variables c.args.reader.now c.in-Ok.fun c.read_text.new.reader c.in-Ok.ensures.text)
    c.in-Err-read_vars.ensures.refused

pub returns-in-Err-read_lists-clause-refused : goal.returns-in-Err-read_lists-clause-refused
returns-in-Err-read_lists-clause-refused c =
    refuses_more c.in-Err-read_lists.refusal (no_lists c.args.reader.now c.in-Ok.fun c.read_text.new.reader c.in-Ok-read_vars.vars
    c.read_vars.new.reader c.in-Ok.ensures.text c.in-Ok-read_vars.ensures.read) c.in-Err-read_lists.ensures.refused
