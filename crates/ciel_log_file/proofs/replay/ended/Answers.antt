use Rattle.ciel_log_file.proofs.replay.ended.Goals as goal

pub returns-in-Some-clause-some : goal.returns-in-Some-clause-some
returns-in-Some-clause-some c = (c.in-Some.field-0.0.now, c.in-Some.field-0.1, c.in-Some.ensures)
