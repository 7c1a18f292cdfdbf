use Rattle.ciel_want.proofs.NamedWaits.{named_whole}
use Rattle.ciel_want.proofs.law.named_is_whole.Goals as goal

pub returns : goal.returns
returns g c = record { whole = λ main t named. named_whole main t named }
