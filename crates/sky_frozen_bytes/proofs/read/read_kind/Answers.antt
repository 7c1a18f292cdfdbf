use Rattle.ciel_name.proofs.DecodeSteps.{refuses_more}
use Rattle.sky_frozen_bytes.proofs.Parts.{no_kind_run, no_kind_show}
use Rattle.sky_frozen_bytes.proofs.read.read_kind.Goals as goal

pub returns-in-Err-clause-refused : goal.returns-in-Err-clause-refused
returns-in-Err-clause-refused c =
    refuses_more c.in-Err.refusal (no_kind_run c.args.kind c.args.reader.now c.in-0.is) c.in-Err.ensures.refused

pub returns-in-Err-read_show-clause-refused : goal.returns-in-Err-read_show-clause-refused
returns-in-Err-read_show-clause-refused c =
    refuses_more c.in-Err-read_show.refusal (no_kind_show c.args.kind c.args.reader.now c.in-1.is) c.in-Err-read_show.ensures.refused
