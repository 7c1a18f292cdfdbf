use Rattle.ciel_journal_job.proofs.AlikeLaw as alike
use Rattle.ciel_journal_job.proofs.real_job_is_the_meaning.Goals as goal

pub returns : goal.returns
returns c =
    record {
      waits = alike.waits_alike;
      outputs = alike.outputs_alike;
      ends = alike.ends_alike;
      never = alike.never_alike;
      answer = alike.answer_alike;
      objects = alike.objects_alike;
      states = alike.states_alike;
      made = alike.made_alike;
    }
