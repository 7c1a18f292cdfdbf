use Rattle.sky_machine.proofs.Saved.{all_can_save}
use Rattle.sky_machine.proofs.narrow_law.chained_forms_can_be_saved.Goals as goal

pub returns : goal.returns
returns c = record { forms = all_can_save }
