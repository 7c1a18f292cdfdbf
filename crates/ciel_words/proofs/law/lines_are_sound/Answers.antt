use Rattle.ciel_words.proofs.SoundLaw as law
use Rattle.ciel_words.proofs.law.lines_are_sound.Goals as goal

pub returns : goal.returns
returns c = law.lines_are_sound
