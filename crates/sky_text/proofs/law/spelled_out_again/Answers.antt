-- The law is proved over the definitions alone.
use Rattle.sky_text.proofs.SpellingLaw as law
use Rattle.sky_text.proofs.law.spelled_out_again.Goals as goal

pub returns : goal.returns
returns c = law.spelled_out_again
