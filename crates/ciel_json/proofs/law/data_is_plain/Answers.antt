use Rattle.ciel_json.proofs.ReadLaw.{json_reads_plain, json_reads_sound}
use Rattle.ciel_json.proofs.law.data_is_plain.Goals as goal

pub returns-clause-sound : goal.returns-clause-sound
returns-clause-sound c sc gives = json_reads_sound sc gives

pub returns-clause-plain : goal.returns-clause-plain
returns-clause-plain c gives = json_reads_plain gives
