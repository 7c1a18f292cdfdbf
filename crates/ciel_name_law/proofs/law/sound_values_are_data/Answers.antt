use Rattle.ciel_name_law.proofs.Bare.{sound_data, sound_spelled}
use Rattle.ciel_name_law.proofs.law.sound_values_are_data.Goals as goal

pub returns : goal.returns
returns c = record { values = sound_data; descriptions = sound_spelled }
