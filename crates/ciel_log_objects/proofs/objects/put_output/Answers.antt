use Rattle.ciel_log_objects.proofs.objects.put_output.Goals as goal

pub returns-in-None-clause-refused : goal.returns-in-None-clause-refused
returns-in-None-clause-refused g c = rw c.in-None.is at c.in_ok-put.ensures.refused

pub returns-clause-passes : goal.returns-clause-passes
returns-clause-passes g c = rw c.in-Some.is at c.in_ok-put.ensures.passes

pub returns-clause-lies : goal.returns-clause-lies
returns-clause-lies g c = rw c.in-Some.is at c.in_ok-put.ensures.lies
