-- The law is proved over the definitions alone.
use Rattle.sky_text.proofs.PartsLaw as law
use Rattle.sky_text.proofs.law.gaps_and_tokens.Goals as goal

pub returns : goal.returns
returns c = law.gaps_and_tokens
