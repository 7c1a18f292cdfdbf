use Rattle.ciel_name_law.proofs.Lowered.{made_spelled, waited_spelled, needed_spelled}
use Rattle.ciel_name_law.proofs.law.runs_are_spelled.Goals as goal

pub returns-clause-made : goal.returns-clause-made
returns-clause-made c job kit of_bytes tag gives n t d need i = made_spelled tag gives job kit of_bytes n t d need i

pub returns-clause-waited : goal.returns-clause-waited
returns-clause-waited c job kit of_bytes tag gives t j ds need wait = waited_spelled tag gives job kit of_bytes t j ds need wait

pub returns-clause-needed : goal.returns-clause-needed
returns-clause-needed c job kit of_bytes tag gives d need = needed_spelled tag gives job kit of_bytes d need
