use Rattle.ciel_run_drive.proofs.Modest.{modest_answers}
use Rattle.ciel_run_drive.proofs.law.modest_runs_answer.Goals as goal

pub returns : goal.returns
returns c digest job gives orderly p m stays J end e = modest_answers digest job gives orderly p m stays J end e
